-- Worked rows of the cores (Intel SDM volume 2, each instruction): what a list makes of operands and flags that are given. Each flag that an
-- instruction keeps is 1 before, and PF 0.
use Rattle.std.specs.Prelude.{◌≡◌, ℕ, false, true, List, [], ◌∷◌, Option, Some, None, Result, Ok, Err}
use Rattle.traces.specs.Trace.{End, DivideFault}
use Rattle.x86_types.specs.declared.operation.AluOp.TheVariants as alu
use Rattle.x86_types.specs.declared.operation.Cond.TheVariants as conditions
use Rattle.x86_types.specs.declared.width.Width.TheVariants.{One, Two, Four}
use Rattle.x86_values.specs.declared.byte.Byte.TheVariants.{Known, Unspecified}
use Rattle.x86_values.specs.declared.word.Word.{Word}
use Rattle.x86_values.specs.Words.{word_of}
use Rattle.x86_values.specs.Sizes.{no_word}
use Rattle.x86_values.specs.WrittenOut.{bytes}
use Rattle.flag_ir.specs.declared.operation.Op.{Op}
use Rattle.flag_ir.specs.Storage.{Storage}
use Rattle.flag_ir.specs.Operations.{performs}
use Rattle.lift_values.specs.Sums.{inc_core, dec_core, neg_core}
use Rattle.lift_values.specs.Logic.{alu_core, test_core, not_core}
use Rattle.lift_values.specs.Products.{mul_core, imul_core}
use Rattle.lift_values.specs.Divisions.{div_core}
use Rattle.lift_values.specs.Extensions.{extend_core, spread_core, swap_core}
use Rattle.lift_values.specs.Scans.{scan_core}
use Rattle.lift_values.specs.Conditions.{condition_ops, set_core, cmov_core}
use Rattle.lift_values.specs.ShiftCoreRows.{comes_to, with_operands, of_two}

-- two results, and CF and OF
abbrev pub two_results : Result Storage End → Option (List Word)
two_results (Ok v) = Some (v.temps 4 ∷ v.temps 5 ∷ v.flags 0 ∷ v.flags 4 ∷ [])
two_results (Err e) = None

abbrev pub both_of : List Op → ℕ → ℕ → Storage → Option (List Word)
both_of core x y u = two_results (performs 0 core (with_operands (word_of x) (word_of y) no_word u))

abbrev pub both_are : ℕ → ℕ → ℕ → Option (List Word)
both_are low high exceeds = Some (word_of low ∷ word_of high ∷ word_of exceeds ∷ word_of exceeds ∷ [])

-- a result of words that are given byte by byte
abbrev pub result_of : Result Storage End → Option Word
result_of (Ok v) = Some (v.temps 4)
result_of (Err e) = None

abbrev pub one_of : List Op → Word → Storage → Option Word
one_of core x u = result_of (performs 0 core (with_operands x no_word no_word u))

-- of three operands
abbrev pub quotient_of : Result Storage End → Option (List Word)
quotient_of (Ok v) = Some (v.temps 4 ∷ v.temps 5 ∷ [])
quotient_of (Err e) = None

abbrev pub divided_of : List Op → ℕ → ℕ → ℕ → Storage → Result Storage End
divided_of core high low by u = performs 0 core (with_operands (word_of high) (word_of low) (word_of by) u)

pub record WorkedSumCores : Type 0 where
  pub add : (u : Storage) → of_two (alu_core alu.Add Four) 0xFFFFFFFF 1 u ≡ comes_to 0 1 1 1 0 0
  pub add_overflows : (u : Storage) → of_two (alu_core alu.Add One) 0x7F 1 u ≡ comes_to 0x80 0 0 0 1 1
  -- CF is 1 before: 1 more is added, and carried where the sum is the first operand again
  pub adc : (u : Storage) → of_two (alu_core alu.Adc Two) 0x1234 0xFFFF u ≡ comes_to 0x1234 1 0 0 0 0
  pub sub : (u : Storage) → of_two (alu_core alu.Sub Two) 0 1 u ≡ comes_to 0xFFFF 1 1 0 1 0
  pub sbb : (u : Storage) → of_two (alu_core alu.Sbb One) 0x80 0x7F u ≡ comes_to 0 0 1 1 0 1
  pub sbb_borrows : (u : Storage) → of_two (alu_core alu.Sbb Four) 5 5 u ≡ comes_to 0xFFFFFFFF 1 1 0 1 0
  -- CF stays, as it was, 1
  pub inc : (u : Storage) → of_two (inc_core One) 0x7F 0 u ≡ comes_to 0x80 1 0 0 1 1
  pub inc_wraps : (u : Storage) → of_two (inc_core Four) 0xFFFFFFFF 0 u ≡ comes_to 0 1 1 1 0 0
  pub dec : (u : Storage) → of_two (dec_core Two) 0x8000 0 u ≡ comes_to 0x7FFF 1 1 0 0 1
  pub neg : (u : Storage) → of_two (neg_core One) 0x80 0 u ≡ comes_to 0x80 1 0 0 1 1
  pub neg_of_none : (u : Storage) → of_two (neg_core Four) 0 0 u ≡ comes_to 0 0 1 1 0 0
  pub and : (u : Storage) → of_two (alu_core alu.And Two) 0xF00F 0x8001 u ≡ comes_to 0x8001 0 0 0 1 0
  pub test : (u : Storage) → of_two (test_core One) 0x0F 0xF0 u ≡ comes_to 0 0 1 1 0 0
  -- no flag changes
  pub not : (u : Storage) → of_two (not_core Two) 0x00FF 0 u ≡ comes_to 0xFF00 1 0 1 1 1

pub record WorkedProductCores : Type 0 where
  pub mul : (u : Storage) → both_of (mul_core false Four) 0xFFFFFFFF 0xFFFFFFFF u ≡ both_are 0x00000001 0xFFFFFFFE 1
  pub mul_fits : (u : Storage) → both_of (mul_core false One) 0x0F 0x11 u ≡ both_are 0xFF 0x00 0
  -- as signed numbers, -1 times -1 and -128 times -128
  pub imul : (u : Storage) → both_of (mul_core true Four) 0xFFFFFFFF 0xFFFFFFFF u ≡ both_are 0x00000001 0x00000000 0
  pub imul_least : (u : Storage) → both_of (mul_core true One) 0x80 0x80 u ≡ both_are 0x00 0x40 1
  pub imul_negative : (u : Storage) → both_of (imul_core Two) 0xFFFF 0x0005 u ≡ both_are 0xFFFB 0xFFFF 0
  -- 256 = 2 * 128; a quotient of 256 is none of a byte
  pub div : (u : Storage) → quotient_of (divided_of (div_core false One) 0x01 0x01 0x02 u) ≡ Some (word_of 0x80 ∷ word_of 0x01 ∷ [])
  pub idiv : (u : Storage) → quotient_of (divided_of (div_core true Four) 0xFFFFFFFF 0xFFFFFFF9 2 u) ≡ Some (word_of 0xFFFFFFFD ∷ word_of 0xFFFFFFFF ∷ [])
  pub div_faults : (u : Storage) → divided_of (div_core false One) 0x02 0x00 0x02 u ≡ Err DivideFault
  pub div_by_none : (u : Storage) → divided_of (div_core true Two) 0 1 0 u ≡ Err DivideFault

pub record WorkedByteCores : Type 0 where
  -- a byte that is unspecified leaves the others known
  pub extend : (u : Storage) → one_of (extend_core Four Two) (bytes Unspecified (Known 0x80) (Known 0) (Known 0)) u ≡ Some (bytes Unspecified (Known 0x80) (Known 0xFF) (Known 0xFF))
  pub extend_unknown : (u : Storage) → one_of (extend_core Four Two) (bytes (Known 5) Unspecified (Known 0) (Known 0)) u ≡ Some (bytes (Known 5) Unspecified Unspecified Unspecified)
  pub extend_byte : (u : Storage) → one_of (extend_core Two One) (word_of 0x7F) u ≡ Some (word_of 0x007F)
  pub spread : (u : Storage) → one_of (spread_core Two) (bytes Unspecified (Known 0x80) (Known 0) (Known 0)) u ≡ Some (word_of 0xFFFF)
  pub spread_unknown : (u : Storage) → one_of (spread_core Two) (bytes (Known 5) Unspecified (Known 0) (Known 0)) u ≡ Some (bytes Unspecified Unspecified (Known 0) (Known 0))
  pub swap : (u : Storage) → one_of swap_core (bytes (Known 1) Unspecified (Known 3) (Known 4)) u ≡ Some (bytes (Known 4) (Known 3) Unspecified (Known 1))
  -- ZF alone is set by a scan
  pub lowest : (u : Storage) → of_two (scan_core false Four) 0x80028000 0 u ≡ comes_to 15 1 0 0 1 1
  pub highest : (u : Storage) → of_two (scan_core true Four) 0x00028000 0 u ≡ comes_to 17 1 0 0 1 1
  pub last : (u : Storage) → of_two (scan_core true Four) 0x80000000 0 u ≡ comes_to 31 1 0 0 1 1
  -- CF, ZF, SF and OF are 1, and PF is 0
  pub parity : (u : Storage) → of_two (condition_ops conditions.Np) 7 8 u ≡ comes_to 1 1 0 1 1 1
  pub greater : (u : Storage) → of_two (condition_ops conditions.G) 7 8 u ≡ comes_to 0 1 0 1 1 1
  pub set : (u : Storage) → of_two (set_core conditions.Ge) 7 8 u ≡ comes_to 1 1 0 1 1 1
  pub cmov : (u : Storage) → of_two (cmov_core conditions.Be Two) 7 8 u ≡ comes_to 8 1 0 1 1 1
  pub cmov_keeps : (u : Storage) → of_two (cmov_core conditions.P Two) 7 8 u ≡ comes_to 7 1 0 1 1 1
