-- Worked rows of shifts and rotates of which a byte or the count is unspecified. (own)
use Rattle.std.specs.Prelude.{◌≡◌, ℕ, List, [], ◌∷◌, map, None}
use Rattle.x86_types.specs.declared.operation.ShiftOp.{ShiftOp}
use Rattle.x86_types.specs.declared.operation.ShiftOp.TheVariants.{Rol, Ror, Shl, Shr, Sar}
use Rattle.x86_values.specs.declared.byte.Byte.{Byte}
use Rattle.x86_values.specs.declared.byte.Byte.TheVariants.{Known, Unspecified}
use Rattle.x86_values.specs.declared.word.Word.{Word}
use Rattle.x86_values.specs.declared.answered.Answered.{Answered}
use Rattle.x86_values.specs.Words.{word_of}
use Rattle.x86_values.specs.Shifts.{shift}
use Rattle.x86_values.specs.WrittenOut.{bytes, unflagged}
use Rattle.x86_values.specs.ShiftRows.{on, off, old, gives, rotates}

abbrev pub each_kind : List ShiftOp
each_kind = Rol ∷ Ror ∷ Shl ∷ Shr ∷ Sar ∷ []

abbrev pub each : ℕ → Word → Byte → List Answered
each size x count = map (λ kind. shift kind size x count old) each_kind

abbrev pub nothing_of_one : Word
nothing_of_one = bytes Unspecified (Known 0) (Known 0) (Known 0)

abbrev pub nothing_of_two : Word
nothing_of_two = bytes Unspecified Unspecified (Known 0) (Known 0)

abbrev pub nothing_of_four : Word
nothing_of_four = bytes Unspecified Unspecified Unspecified Unspecified

-- a rotate forgets CF and OF alone, a shift all flags
abbrev pub rotate_forgets : Word → Answered
rotate_forgets w = record { value = w; flags = record old { cf = None; of = None } }

abbrev pub each_forgets : Word → List Answered
each_forgets w = rotate_forgets w ∷ rotate_forgets w ∷ unflagged w ∷ unflagged w ∷ unflagged w ∷ []

-- the count 0 keeps all of it
abbrev pub keeps : Word → Answered
keeps w = record { value = w; flags = old }

abbrev pub each_keeps : Word → List Answered
each_keeps w = keeps w ∷ keeps w ∷ keeps w ∷ keeps w ∷ keeps w ∷ []

pub record WorkedUnspecifiedShifts : Type 0 where
  -- one byte of the operand is unspecified: all bytes of the result are, by the width of the operand too
  pub byte_of_one : each 1 (bytes Unspecified (Known 1) (Known 2) (Known 3)) (Known 1) ≡ each_forgets nothing_of_one
  pub byte_of_two : each 2 (bytes (Known 0x81) Unspecified (Known 2) (Known 3)) (Known 1) ≡ each_forgets nothing_of_two
  pub byte_of_four : each 4 (bytes (Known 0x81) (Known 1) (Known 2) Unspecified) (Known 31) ≡ each_forgets nothing_of_four
  pub by_width : each 1 (bytes Unspecified (Known 1) (Known 2) (Known 3)) (Known 8) ≡ each_forgets nothing_of_one
  -- a byte above the operand isn't read
  pub byte_above : each 1 (bytes (Known 0x81) Unspecified Unspecified Unspecified) (Known 1) ≡ rotates 0x03 on on ∷ rotates 0xC0 on off ∷ gives 0x02 on off off off on ∷ gives 0x40 on off off off on ∷ gives 0xC0 on on off on off ∷ []
  -- of a byte that is none, above 255, the result is of the size too
  pub beyond_a_byte : map (λ answer. answer.value) (each 1 (bytes (Known 1023) (Known 0) (Known 0) (Known 0)) (Known 1)) ≡ map word_of (5 ∷ 127 ∷ 254 ∷ 255 ∷ 127 ∷ [])
  -- by 0, modulo 32, an unspecified byte stays beside the known ones, and so do the flags
  pub by_none : each 1 (bytes Unspecified (Known 1) (Known 2) (Known 3)) (Known 0) ≡ each_keeps nothing_of_one
  pub by_all : each 2 (bytes (Known 0x81) Unspecified (Known 2) (Known 3)) (Known 32) ≡ each_keeps (bytes (Known 0x81) Unspecified (Known 0) (Known 0))
  pub by_none_of_four : each 4 (bytes (Known 0x81) (Known 1) Unspecified (Known 3)) (Known 0) ≡ each_keeps (bytes (Known 0x81) (Known 1) Unspecified (Known 3))
  -- an unspecified count
  pub count_of_one : each 1 (word_of 0x81) Unspecified ≡ each_forgets nothing_of_one
  pub count_of_two : each 2 (word_of 0) Unspecified ≡ each_forgets nothing_of_two
  pub count_of_four : each 4 (word_of 0x12345678) Unspecified ≡ each_forgets nothing_of_four
