-- Worked rows of the lists that shift (Intel SDM volume 2, "SAL/SAR/SHL/SHR", "RCL/RCR/ROL/ROR", "SHLD", "SHRD").
use Rattle.std.specs.Prelude.{◌≡◌, ℕ, ◌==◌, true, false, cond, List, [], ◌∷◌, Option, Some, None, Result, Ok, Err}
use Rattle.traces.specs.Trace.{End}
use Rattle.x86_types.specs.declared.operation.ShiftOp.TheVariants.{Rol, Ror, Shl, Shr, Sar}
use Rattle.x86_types.specs.declared.width.Width.TheVariants.{One, Two, Four}
use Rattle.x86_values.specs.declared.byte.Byte.TheVariants.{Known, Unspecified}
use Rattle.x86_values.specs.declared.word.Word.{Word}
use Rattle.x86_values.specs.Words.{word_of}
use Rattle.x86_values.specs.Sizes.{no_word}
use Rattle.x86_values.specs.WrittenOut.{bytes}
use Rattle.flag_ir.specs.declared.operation.Op.{Op}
use Rattle.flag_ir.specs.Storage.{Storage}
use Rattle.flag_ir.specs.Operations.{performs}
use Rattle.lift_values.specs.Shifts.{shift_core}
use Rattle.lift_values.specs.DoubleShifts.{double_shift_core}

-- the result, and CF, PF, ZF, SF and OF
abbrev pub ResultAndFlags : Type 0
ResultAndFlags = Option (Word × List Word)

abbrev pub result_and_flags : Result Storage End → ResultAndFlags
result_and_flags (Ok v) = Some (v.temps 4, v.flags 0 ∷ v.flags 1 ∷ v.flags 2 ∷ v.flags 3 ∷ v.flags 4 ∷ [])
result_and_flags (Err e) = None

abbrev pub comes_to : ℕ → ℕ → ℕ → ℕ → ℕ → ℕ → ResultAndFlags
comes_to n cf pf zf sf of = Some (word_of n, word_of cf ∷ word_of pf ∷ word_of zf ∷ word_of sf ∷ word_of of ∷ [])

-- three operands in temporaries 1, 2 and 3, and flags that are 1 but PF
abbrev pub with_operands : Word → Word → Word → Storage → Storage
with_operands x y z u = record u {
  temps = λ k. cond (k == 1) x (cond (k == 2) y (cond (k == 3) z no_word));
  flags = λ k. cond (k == 1) (word_of 0) (word_of 1);
}

abbrev pub of_two : List Op → ℕ → ℕ → Storage → ResultAndFlags
of_two core x y u = result_and_flags (performs 0 core (with_operands (word_of x) (word_of y) no_word u))

abbrev pub of_three : List Op → ℕ → ℕ → ℕ → Storage → ResultAndFlags
of_three core x y z u = result_and_flags (performs 0 core (with_operands (word_of x) (word_of y) (word_of z) u))

-- OF is that of a count of 1 where the count is 1 modulo 32
pub record WorkedShiftCores : Type 0 where
  pub shl_33 : (u : Storage) → of_two (shift_core Shl Four) 0x80000000 33 u ≡ comes_to 0 1 1 1 0 1
  pub shl_byte : (u : Storage) → of_two (shift_core Shl One) 0x81 1 u ≡ comes_to 0x02 1 0 0 0 1
  pub shl_half : (u : Storage) → of_two (shift_core Shl Two) 0x4000 1 u ≡ comes_to 0x8000 0 1 0 1 1
  -- a count of 0 modulo 32 keeps
  pub keeps : (u : Storage) → of_two (shift_core Shl Four) 0x12345678 32 u ≡ comes_to 0x12345678 1 0 1 1 1
  pub keeps_byte : (u : Storage) → of_two (shift_core Ror One) 0x12 0xE0 u ≡ comes_to 0x12 1 0 1 1 1
  pub shr : (u : Storage) → of_two (shift_core Shr Four) 0x80000001 1 u ≡ comes_to 0x40000000 1 1 0 0 1
  -- ROR by 8 of a byte gives the byte; the highest bit is 1, as CF
  pub ror_all : (u : Storage) → of_two (shift_core Ror One) 0x93 8 u ≡ comes_to 0x93 1 0 1 1 1
  pub rol : (u : Storage) → of_two (shift_core Rol Two) 0x8001 1 u ≡ comes_to 0x0003 1 0 1 1 1
  pub rol_17 : (u : Storage) → of_two (shift_core Rol Two) 0x4000 17 u ≡ comes_to 0x8000 0 0 1 1 1
  -- a negative byte is all ones
  pub sar_31 : (u : Storage) → of_two (shift_core Sar One) 0x80 31 u ≡ comes_to 0xFF 1 1 0 1 0
  pub sar : (u : Storage) → of_two (shift_core Sar Two) 0x8001 1 u ≡ comes_to 0xC000 1 1 0 1 0
  -- double shifts by 1: the sign changes, or not
  pub shld : (u : Storage) → of_three (double_shift_core false) 0x40000000 0x80000000 1 u ≡ comes_to 0x80000001 0 0 0 1 1
  pub shrd : (u : Storage) → of_three (double_shift_core true) 0x00000003 0x00000001 1 u ≡ comes_to 0x80000001 1 0 0 1 1
  pub shrd_same : (u : Storage) → of_three (double_shift_core true) 0x00000002 0x00000002 33 u ≡ comes_to 0x00000001 0 0 0 0 0
  pub double_keeps : (u : Storage) → of_three (double_shift_core false) 0x40000000 0x80000000 64 u ≡ comes_to 0x40000000 1 0 1 1 1
  -- an unspecified byte stays where the count is 0 modulo 32, and no other byte is lost
  pub unspecified : (u : Storage) → result_and_flags (performs 0 (shift_core Sar Four) (with_operands (bytes (Known 1) Unspecified (Known 3) (Known 4)) (word_of 96) no_word u)) ≡ Some (bytes (Known 1) Unspecified (Known 3) (Known 4), word_of 1 ∷ word_of 0 ∷ word_of 1 ∷ word_of 1 ∷ word_of 1 ∷ [])
