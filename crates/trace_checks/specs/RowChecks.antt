-- Values of functions of traces, worked by hand.
use Rattle.std.specs.Prelude.{◌≡◌, ℕ, [], ◌∷◌}
use Rattle.traces.specs.Trace.{Read, Write, Turn, Took, Made, input_left}
use Rattle.trace_checks.specs.Chain.{small_code_clock}

-- two reads of an input of five bytes, of two and of one, leave two; a write takes none, nor do a turn or an answer
abbrev pub KeepsUnreadInput : Type 0
KeepsUnreadInput = input_left (10 ∷ 20 ∷ 30 ∷ 40 ∷ 50 ∷ []) (Turn 8 ∷ Took ∷ Made (Read 0 (10 ∷ 20 ∷ []) 2) ∷ Made (Write 1 (7 ∷ []) 1) ∷ Made (Read 0 (30 ∷ []) 1) ∷ []) ≡ 40 ∷ 50 ∷ []

-- code of two turns: a beginning of 1 and 1, for each turn 2 and 1, and at the end 2; to stand costs nothing
abbrev pub ChargesEachStep : Type 0
ChargesEachStep = (byte : ℕ) → (small_code_clock byte 2 0 ≡ 0) × (small_code_clock byte 2 1 ≡ 1) × (small_code_clock byte 2 2 ≡ 2) × (small_code_clock byte 2 3 ≡ 4) × (small_code_clock byte 2 4 ≡ 5) × (small_code_clock byte 2 6 ≡ 8) × (small_code_clock byte 2 7 ≡ 10) × (small_code_clock byte 2 8 ≡ 10)
