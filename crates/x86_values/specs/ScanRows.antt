-- Worked rows of bit scans.
use Rattle.std.specs.Prelude.{◌≡◌, ℕ, true, false}
use Rattle.x86_values.specs.declared.byte.Byte.TheVariants.{Known, Unspecified}
use Rattle.x86_values.specs.declared.word.Word.{Word}
use Rattle.x86_values.specs.declared.answered.Answered.{Answered}
use Rattle.x86_values.specs.Words.{word_of}
use Rattle.x86_values.specs.Scans.{scan}
use Rattle.x86_values.specs.WrittenOut.{bytes, flag, answer_with, unflagged, unknown_flags}

-- BSF and BSR of a number
abbrev pub bsf : ℕ → ℕ → Answered
bsf size n = scan false size (word_of n)

abbrev pub bsr : ℕ → ℕ → Answered
bsr size n = scan true size (word_of n)

-- a bit that is set, by its number; or none
abbrev pub found_bit : ℕ → Answered
found_bit k = answer_with k (record unknown_flags { zf = flag 0 })

abbrev pub no_bit : Word → Answered
no_bit w = record { value = w; flags = record unknown_flags { zf = flag 1 } }

pub record WorkedBsf : Type 0 where
  pub byte_lowest : bsf 1 0x01 ≡ found_bit 0
  pub byte_middle : bsf 1 0x28 ≡ found_bit 3
  pub byte_highest : bsf 1 0x80 ≡ found_bit 7
  pub byte_all : bsf 1 0xFF ≡ found_bit 0
  pub byte_none : bsf 1 0x00 ≡ no_bit (bytes Unspecified (Known 0) (Known 0) (Known 0))
  pub byte_none_above : bsf 1 0xFFFFFF00 ≡ no_bit (bytes Unspecified (Known 0) (Known 0) (Known 0))
  pub two_bytes_second : bsf 2 0x0100 ≡ found_bit 8
  pub two_bytes_highest : bsf 2 0x8000 ≡ found_bit 15
  pub two_bytes_none : bsf 2 0x0000 ≡ no_bit (bytes Unspecified Unspecified (Known 0) (Known 0))
  pub word_lowest : bsf 4 0xFFFFFFFF ≡ found_bit 0
  pub word_middle : bsf 4 0x00010000 ≡ found_bit 16
  pub word_high : bsf 4 0xA0000000 ≡ found_bit 29
  pub word_highest : bsf 4 0x80000000 ≡ found_bit 31
  pub word_none : bsf 4 0x00000000 ≡ no_bit (bytes Unspecified Unspecified Unspecified Unspecified)

pub record WorkedBsr : Type 0 where
  pub byte_lowest : bsr 1 0x01 ≡ found_bit 0
  pub byte_middle : bsr 1 0x28 ≡ found_bit 5
  pub byte_highest : bsr 1 0x80 ≡ found_bit 7
  pub byte_all : bsr 1 0xFF ≡ found_bit 7
  pub byte_none : bsr 1 0x00 ≡ no_bit (bytes Unspecified (Known 0) (Known 0) (Known 0))
  pub two_bytes_second : bsr 2 0x01FF ≡ found_bit 8
  pub two_bytes_highest : bsr 2 0x8000 ≡ found_bit 15
  pub two_bytes_above : bsr 2 0xFFFF0001 ≡ found_bit 0
  pub two_bytes_none : bsr 2 0x0000 ≡ no_bit (bytes Unspecified Unspecified (Known 0) (Known 0))
  pub word_lowest : bsr 4 0x00000001 ≡ found_bit 0
  pub word_middle : bsr 4 0x0001FFFF ≡ found_bit 16
  pub word_high : bsr 4 0x7FFFFFFF ≡ found_bit 30
  pub word_highest : bsr 4 0xFFFFFFFF ≡ found_bit 31
  pub word_none : bsr 4 0x00000000 ≡ no_bit (bytes Unspecified Unspecified Unspecified Unspecified)

-- where a byte of the size is unspecified, so are all bytes of the size and all flags, even where a bit that is known is set
pub record UnspecifiedScans : Type 0 where
  pub one_byte : scan false 1 (bytes Unspecified (Known 0) (Known 0) (Known 0)) ≡ unflagged (bytes Unspecified (Known 0) (Known 0) (Known 0))
  pub second_byte : scan false 2 (bytes (Known 1) Unspecified (Known 0) (Known 0)) ≡ unflagged (bytes Unspecified Unspecified (Known 0) (Known 0))
  pub lowest_byte : scan true 4 (bytes Unspecified (Known 0) (Known 0) (Known 0x80)) ≡ unflagged (bytes Unspecified Unspecified Unspecified Unspecified)
  -- what stands above the bytes of the size doesn't matter
  pub above_one : scan true 1 (bytes (Known 0x10) Unspecified Unspecified Unspecified) ≡ found_bit 4
  pub above_two : scan false 2 (bytes (Known 0) (Known 0x10) Unspecified (Known 0xFF)) ≡ found_bit 12
