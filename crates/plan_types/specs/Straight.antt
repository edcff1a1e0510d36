-- Straight runs of instructions.
use Rattle.std.specs.Prelude.{ℕ, zero, suc, ◌+◌, Bool, true, false, List, [], ◌∷◌, Option, Some, None}
use Rattle.x86_types.specs.declared.instr.Instr.{Instr}
use Rattle.x86_types.specs.declared.instr.Instr.TheVariants.{Jmp, JmpTo, Ret}
use Rattle.x86_code.specs.Code.{Code}
use Rattle.plan_types.specs.declared.place.Place.{Place}

-- an instruction of that length at an address
abbrev pub place_with : ℕ → Instr → ℕ → Place
place_with at i len = record { at = at; instr = i; len = len }

-- whether a run ends behind an instruction: behind JMP of either form and behind RET, since no run goes on at the next address
-- (Intel SDM volume 2, "JMP", "RET"). Behind a CALL it goes on, since the procedure may return. (own)
abbrev pub ends_run : Instr → Bool
ends_run (Jmp by) = true
ends_run (JmpTo to) = true
ends_run (Ret drop) = true
ends_run _ = false

-- nothing where the run has ended, else what follows
abbrev pub unless_ended : Bool → (ℕ → List Place) → ℕ → List Place
unless_ended true rest next = []
unless_ended false rest next = rest next

abbrev pub straight_by : Option (Instr × ℕ) → ℕ → (ℕ → List Place) → List Place
straight_by None at rest = []
straight_by (Some p) at rest = place_with at p.0 p.1 ∷ unless_ended (ends_run p.0) rest (at + p.1)

-- The straight run from an address, at most n instructions of it: one instruction behind the other, up to JMP, RET, or a place where
-- no instruction stands. (own)
unfoldable pub straight_run : Code → ℕ → ℕ → List Place
straight_run code zero at = []
straight_run code (suc n) at = straight_by (code at) at (λ next. straight_run code n next)
