-- Worked rows of double shifts (Intel SDM volume 2, "SHLD", "SHRD"). What an unspecified byte or count gives is own.
use Rattle.std.specs.Prelude.{◌≡◌, ℕ, Bool, true, false, List, [], ◌∷◌, map}
use Rattle.x86_values.specs.declared.byte.Byte.TheVariants.{Known, Unspecified}
use Rattle.x86_values.specs.declared.word.Word.{Word}
use Rattle.x86_values.specs.declared.answered.Answered.{Answered}
use Rattle.x86_values.specs.Words.{word_of}
use Rattle.x86_values.specs.DoubleShifts.{double_shift}
use Rattle.x86_values.specs.WrittenOut.{bytes, unflagged}
use Rattle.x86_values.specs.ShiftRows.{on, off, none, old, gives, stays, AreRight}
use Rattle.x86_values.specs.UnspecifiedShiftRows.{nothing_of_four, keeps}

abbrev pub shld : ℕ → ℕ → ℕ → Answered → Answered × Answered
shld operand filler count answer = (double_shift false (word_of operand) (word_of filler) (Known count) old, answer)

abbrev pub shrd : ℕ → ℕ → ℕ → Answered → Answered × Answered
shrd operand filler count answer = (double_shift true (word_of operand) (word_of filler) (Known count) old, answer)

-- CF is bit 32 - c of the operand, and OF for the count 1 whether the sign changes
abbrev pub shld_rows : List (Answered × Answered)
shld_rows =
    shld 0x12345678 0x9ABCDEF0 4 (gives 0x23456789 on off off off none)
    ∷ shld 0x12345678 0x9ABCDEF0 1 (gives 0x2468ACF1 off off off off off)
    ∷ shld 0x40000000 0x00000000 1 (gives 0x80000000 off on off on on)
    ∷ shld 0x80000000 0x00000000 1 (gives 0x00000000 on on on off on)
    ∷ shld 0xC0000000 0x7FFFFFFF 1 (gives 0x80000000 on on off on off)
    ∷ shld 0x00000001 0x80000000 1 (gives 0x00000003 off on off off off)
    ∷ shld 0xC0000000 0x40000000 2 (gives 0x00000001 on off off off none)
    ∷ shld 0x00000003 0xFFFFFFFE 31 (gives 0xFFFFFFFF on on off on none)
    ∷ shld 0x00000005 0x00000000 31 (gives 0x80000000 off on off on none)
    ∷ shld 0x80000000 0x00000000 0 (stays 0x80000000)
    ∷ shld 0x80000000 0xFFFFFFFF 32 (stays 0x80000000)
    ∷ shld 0x80000000 0x00000000 33 (gives 0x00000000 on on on off on)
    ∷ []

-- CF is bit c - 1 of the operand
abbrev pub shrd_rows : List (Answered × Answered)
shrd_rows =
    shrd 0x12345678 0x9ABCDEF5 4 (gives 0x51234567 on off off off none)
    ∷ shrd 0x00000001 0x00000001 1 (gives 0x80000000 on on off on on)
    ∷ shrd 0x80000000 0x00000000 1 (gives 0x40000000 off on off off on)
    ∷ shrd 0x80000002 0x00000001 1 (gives 0xC0000001 off off off on off)
    ∷ shrd 0x00000001 0x00000000 1 (gives 0x00000000 on on on off off)
    ∷ shrd 0xC0000000 0x00000003 31 (gives 0x00000007 on off off off none)
    ∷ shrd 0x80000000 0x00000000 31 (gives 0x00000001 off off off off none)
    ∷ shrd 0x00000001 0x00000001 0 (stays 0x00000001)
    ∷ shrd 0x00000001 0x00000001 32 (stays 0x00000001)
    ∷ shrd 0x00000001 0x00000001 33 (gives 0x80000000 on on off on on)
    ∷ []

abbrev pub both : (Bool → Answered) → List Answered
both f = map f (false ∷ true ∷ [])

abbrev pub both_forget : List Answered
both_forget = unflagged nothing_of_four ∷ unflagged nothing_of_four ∷ []

abbrev pub operand_in_part : Word
operand_in_part = bytes (Known 1) Unspecified (Known 3) (Known 4)

pub record WorkedDoubleShifts : Type 0 where
  pub shld : AreRight shld_rows
  pub shrd : AreRight shrd_rows
  -- a byte of the operand, of the filler, or the count is unspecified
  pub operand : both (λ right. double_shift right (bytes (Known 1) (Known 2) (Known 3) Unspecified) (word_of 5) (Known 1) old) ≡ both_forget
  pub filler : both (λ right. double_shift right (word_of 5) (bytes Unspecified (Known 2) (Known 3) (Known 4)) (Known 1) old) ≡ both_forget
  pub count : both (λ right. double_shift right (word_of 5) (word_of 6) Unspecified old) ≡ both_forget
  -- by 0, modulo 32, the operand stays, whatever is unspecified
  pub by_none : both (λ right. double_shift right operand_in_part (bytes (Known 1) (Known 2) Unspecified (Known 4)) (Known 32) old) ≡ keeps operand_in_part ∷ keeps operand_in_part ∷ []
