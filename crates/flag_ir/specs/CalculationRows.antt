-- Worked calculations (Intel SDM volume 2, "ADD", "SUB", "AND", "OR", "XOR", "MUL", "IMUL", "SHL/SHR/SAR"), and comparisons.
use Rattle.std.specs.Prelude.{◌≡◌, ℕ}
use Rattle.x86_values.specs.declared.word.Word.{Word}
use Rattle.x86_values.specs.Words.{word_of}
use Rattle.x86_values.specs.Sizes.{no_word}
use Rattle.flag_ir.specs.declared.operation.Calc.{Calc}
use Rattle.flag_ir.specs.declared.operation.Calc.TheVariants as calc
use Rattle.flag_ir.specs.Calculations.{calculate}
use Rattle.flag_ir.specs.RowParts.{unknown_0, unknown_1, unknown_2, unknown_3}

-- of two numbers
abbrev pub of_numbers : Calc → ℕ → ℕ → Word
of_numbers c a b = calculate c (word_of a) (word_of b)

pub record SumRows : Type 0 where
  pub add : of_numbers calc.Add 5 3 ≡ word_of 8
  pub add_wraps : of_numbers calc.Add 0xFFFFFFFF 2 ≡ word_of 1
  pub add_unknown : calculate calc.Add (unknown_3 5) (word_of 0) ≡ no_word
  pub add_unknown_right : calculate calc.Add (word_of 0) (unknown_0 5) ≡ no_word
  pub sub : of_numbers calc.Sub 5 3 ≡ word_of 2
  pub sub_wraps : of_numbers calc.Sub 3 5 ≡ word_of 0xFFFFFFFE
  pub sub_unknown : calculate calc.Sub (unknown_1 5) (unknown_1 5) ≡ no_word

-- byte by byte; 0x0F & 0x12 is 0x02, 0xF0 & 0x34 is 0x30, and so on
pub record BitRows : Type 0 where
  pub and : of_numbers calc.And 0x0FF0F0F0 0x12345678 ≡ word_of 0x02305070
  pub or : of_numbers calc.Or 0x0FF0F0F0 0x12345678 ≡ word_of 0x1FF4F6F8
  pub xor : of_numbers calc.Xor 0x0FF0F0F0 0x12345678 ≡ word_of 0x1DC4A688
  -- an unspecified byte with 0 is 0, and with another is unspecified alone
  pub and_unknown : calculate calc.And (unknown_1 0x12345678) (word_of 0xFFFF00FF) ≡ word_of 0x12340078
  pub and_one_unknown : calculate calc.And (unknown_2 0x12345678) (word_of 0xFFFF00FF) ≡ unknown_2 0x12340078
  -- with 255 it is 255
  pub or_unknown : calculate calc.Or (word_of 0xFF000000) (unknown_3 0x12345678) ≡ word_of 0xFF345678
  pub or_one_unknown : calculate calc.Or (word_of 0xFE000000) (unknown_3 0x12345678) ≡ unknown_3 0x00345678
  pub xor_unknown : calculate calc.Xor (unknown_0 0x12345678) (unknown_0 0x12345678) ≡ unknown_0 0

-- 0x10001 * 0x10001 is 0x100020001; 0xFFFFFFFF is -1 with a sign
pub record ProductRows : Type 0 where
  pub mul : of_numbers calc.Mul 0x10001 0x10001 ≡ word_of 0x00020001
  pub mulhu : of_numbers calc.Mulhu 0x10001 0x10001 ≡ word_of 1
  pub mulhu_greatest : of_numbers calc.Mulhu 0xFFFFFFFF 0xFFFFFFFF ≡ word_of 0xFFFFFFFE
  pub mulhs_one_negative : of_numbers calc.Mulhs 0xFFFFFFFF 2 ≡ word_of 0xFFFFFFFF
  pub mulhs_other_negative : of_numbers calc.Mulhs 2 0xFFFFFFFF ≡ word_of 0xFFFFFFFF
  pub mulhs_both_negative : of_numbers calc.Mulhs 0xFFFFFFFF 0xFFFFFFFF ≡ word_of 0
  pub mulhs_least : of_numbers calc.Mulhs 0x80000000 0x80000000 ≡ word_of 0x40000000
  pub mul_unknown : calculate calc.Mul (unknown_3 0) (word_of 0) ≡ no_word
  pub mulhu_unknown : calculate calc.Mulhu (word_of 0) (unknown_2 0) ≡ no_word
  pub mulhs_unknown : calculate calc.Mulhs (unknown_1 0) (word_of 0) ≡ no_word

pub record ShiftRows : Type 0 where
  pub shl : of_numbers calc.Shl 3 4 ≡ word_of 0x30
  pub shl_out : of_numbers calc.Shl 3 31 ≡ word_of 0x80000000
  -- 32 is 0, and 33 is 1
  pub shl_none : of_numbers calc.Shl 3 32 ≡ word_of 3
  pub shl_again : of_numbers calc.Shl 3 33 ≡ word_of 6
  pub shr : of_numbers calc.Shr 0x80000010 4 ≡ word_of 0x08000001
  pub shr_again : of_numbers calc.Shr 0x80000010 36 ≡ word_of 0x08000001
  pub sar : of_numbers calc.Sar 0x80000010 4 ≡ word_of 0xF8000001
  pub sar_positive : of_numbers calc.Sar 0x40000000 30 ≡ word_of 1
  pub sar_again : of_numbers calc.Sar 0x80000010 63 ≡ word_of 0xFFFFFFFF
  -- the lowest byte alone counts, here 33 of 0xFFFFFF21
  pub low_byte : of_numbers calc.Shl 3 0xFFFFFF21 ≡ word_of 6
  pub low_byte_known : calculate calc.Shr (word_of 6) (record no_word { b0 = (word_of 1).b0 }) ≡ word_of 3
  pub count_unknown : calculate calc.Shl (word_of 0) (unknown_0 0) ≡ no_word
  pub unknown : calculate calc.Sar (unknown_3 0) (word_of 1) ≡ no_word
  -- a count of 0 keeps the word
  pub unknown_kept : calculate calc.Shl (unknown_2 5) (word_of 32) ≡ unknown_2 5

pub record ComparisonRows : Type 0 where
  pub equal : of_numbers calc.Eq 0x01000005 0x01000005 ≡ word_of 1
  pub unequal : of_numbers calc.Eq 0x01000005 5 ≡ word_of 0
  pub equal_unknown : calculate calc.Eq (unknown_0 5) (unknown_0 5) ≡ no_word
  pub below : of_numbers calc.Ltu 3 5 ≡ word_of 1
  pub below_itself : of_numbers calc.Ltu 5 5 ≡ word_of 0
  pub above : of_numbers calc.Ltu 0x80000000 1 ≡ word_of 0
  pub below_unknown : calculate calc.Ltu (word_of 3) (unknown_3 5) ≡ no_word
  -- -2^31 is less than 1, -2 than -1, and -1 than 0
  pub least : of_numbers calc.Lts 0x80000000 1 ≡ word_of 1
  pub greatest : of_numbers calc.Lts 0x7FFFFFFF 0x80000000 ≡ word_of 0
  pub both_negative : of_numbers calc.Lts 0xFFFFFFFE 0xFFFFFFFF ≡ word_of 1
  pub less_than_none : of_numbers calc.Lts 0xFFFFFFFF 0 ≡ word_of 1
  pub not_less : of_numbers calc.Lts 0 0xFFFFFFFF ≡ word_of 0
  pub less_itself : of_numbers calc.Lts 5 5 ≡ word_of 0
  pub less_unknown : calculate calc.Lts (unknown_2 3) (word_of 5) ≡ no_word
