-- Worked rows of sums and differences. The flags stand in the order CF, PF, ZF, SF, OF.
use Rattle.std.specs.Prelude.{◌≡◌, ℕ, None}
use Rattle.x86_values.specs.declared.byte.Byte.TheVariants.{Known, Unspecified}
use Rattle.x86_values.specs.declared.answered.Answered.{Answered}
use Rattle.x86_values.specs.Words.{word_of}
use Rattle.x86_values.specs.Sums.{add, sub}
use Rattle.x86_values.specs.WrittenOut.{bytes, flag, flags, answer_with, unflagged}

-- of two numbers and a carry, which is 0 or 1
abbrev pub sum_of : ℕ → ℕ → ℕ → ℕ → Answered
sum_of size a b carry = add size (word_of a) (word_of b) (flag carry)

abbrev pub difference_of : ℕ → ℕ → ℕ → ℕ → Answered
difference_of size a b borrow = sub size (word_of a) (word_of b) (flag borrow)

pub record WorkedByteSums : Type 0 where
  pub plain : sum_of 1 0x01 0x02 0 ≡ answer_with 0x03 (flags 0 1 0 0 0)
  pub with_carry : sum_of 1 0x01 0x02 1 ≡ answer_with 0x04 (flags 0 0 0 0 0)
  pub greatest : sum_of 1 0x7E 0x01 0 ≡ answer_with 0x7F (flags 0 0 0 0 0)
  pub overflows : sum_of 1 0x7F 0x01 0 ≡ answer_with 0x80 (flags 0 0 0 1 1)
  pub overflows_by_carry : sum_of 1 0x7F 0x00 1 ≡ answer_with 0x80 (flags 0 0 0 1 1)
  pub carries : sum_of 1 0xFF 0x01 0 ≡ answer_with 0x00 (flags 1 1 1 0 0)
  pub carries_by_carry : sum_of 1 0xFF 0x00 1 ≡ answer_with 0x00 (flags 1 1 1 0 0)
  pub greatest_uncarried : sum_of 1 0x80 0x7F 0 ≡ answer_with 0xFF (flags 0 1 0 1 0)
  pub least : sum_of 1 0x81 0xFF 0 ≡ answer_with 0x80 (flags 1 0 0 1 0)
  pub least_by_carry : sum_of 1 0x80 0xFF 1 ≡ answer_with 0x80 (flags 1 0 0 1 0)
  pub overflows_below : sum_of 1 0x80 0xFF 0 ≡ answer_with 0x7F (flags 1 0 0 0 1)
  pub twice_least : sum_of 1 0x80 0x80 0 ≡ answer_with 0x00 (flags 1 1 1 0 1)
  pub twice_greatest : sum_of 1 0xFF 0xFF 1 ≡ answer_with 0xFF (flags 1 1 0 1 0)

-- the parity is that of the lowest byte, the other flags are those of the whole size
pub record WorkedSums : Type 0 where
  pub two_bytes_plain : sum_of 2 0x00FF 0x0001 0 ≡ answer_with 0x0100 (flags 0 1 0 0 0)
  pub two_bytes_overflows : sum_of 2 0x7FFF 0x0001 0 ≡ answer_with 0x8000 (flags 0 1 0 1 1)
  pub two_bytes_carries : sum_of 2 0x1234 0xEDCB 1 ≡ answer_with 0x0000 (flags 1 1 1 0 0)
  pub two_bytes_uncarried : sum_of 2 0x1234 0xEDCB 0 ≡ answer_with 0xFFFF (flags 0 1 0 1 0)
  pub two_bytes_below : sum_of 2 0x8000 0xFFFF 0 ≡ answer_with 0x7FFF (flags 1 1 0 0 1)
  pub word_plain : sum_of 4 0x12345678 0x11111111 0 ≡ answer_with 0x23456789 (flags 0 0 0 0 0)
  pub word_overflows : sum_of 4 0x7FFFFFFF 0x00000001 0 ≡ answer_with 0x80000000 (flags 0 1 0 1 1)
  pub word_carries : sum_of 4 0xFFFFFFFF 0x00000001 0 ≡ answer_with 0x00000000 (flags 1 1 1 0 0)
  pub word_uncarried : sum_of 4 0xFFFFFFFE 0x00000000 1 ≡ answer_with 0xFFFFFFFF (flags 0 1 0 1 0)
  pub word_twice_least : sum_of 4 0x80000000 0x80000000 0 ≡ answer_with 0x00000000 (flags 1 1 1 0 1)
  pub word_twice_greatest : sum_of 4 0xFFFFFFFF 0xFFFFFFFF 1 ≡ answer_with 0xFFFFFFFF (flags 1 1 0 1 0)

pub record WorkedByteDifferences : Type 0 where
  pub plain : difference_of 1 0x05 0x03 0 ≡ answer_with 0x02 (flags 0 0 0 0 0)
  pub with_borrow : difference_of 1 0x05 0x03 1 ≡ answer_with 0x01 (flags 0 0 0 0 0)
  pub turned : difference_of 1 0x03 0x05 0 ≡ answer_with 0xFE (flags 1 0 0 1 0)
  pub equal : difference_of 1 0x05 0x05 0 ≡ answer_with 0x00 (flags 0 1 1 0 0)
  pub borrows_by_borrow : difference_of 1 0x05 0x05 1 ≡ answer_with 0xFF (flags 1 1 0 1 0)
  pub least : difference_of 1 0xFF 0x7F 0 ≡ answer_with 0x80 (flags 0 0 0 1 0)
  pub overflows_by_borrow : difference_of 1 0xFF 0x7F 1 ≡ answer_with 0x7F (flags 0 0 0 0 1)
  pub overflows_below : difference_of 1 0x80 0x01 0 ≡ answer_with 0x7F (flags 0 0 0 0 1)
  pub greatest : difference_of 1 0x7F 0xFF 1 ≡ answer_with 0x7F (flags 1 0 0 0 0)
  pub overflows_above : difference_of 1 0x7F 0xFF 0 ≡ answer_with 0x80 (flags 1 0 0 1 1)
  pub least_negated : difference_of 1 0x00 0x80 0 ≡ answer_with 0x80 (flags 1 0 0 1 1)
  pub whole_range : difference_of 1 0x00 0xFF 1 ≡ answer_with 0x00 (flags 1 1 1 0 0)
  pub furthest : difference_of 1 0x80 0x7F 1 ≡ answer_with 0x00 (flags 0 1 1 0 1)

pub record WorkedDifferences : Type 0 where
  pub two_bytes_plain : difference_of 2 0x0100 0x00FF 1 ≡ answer_with 0x0000 (flags 0 1 1 0 0)
  pub two_bytes_turned : difference_of 2 0x1234 0x2345 0 ≡ answer_with 0xEEEF (flags 1 0 0 1 0)
  pub two_bytes_negated : difference_of 2 0x0000 0x0001 0 ≡ answer_with 0xFFFF (flags 1 1 0 1 0)
  pub two_bytes_overflows : difference_of 2 0x8000 0x0001 0 ≡ answer_with 0x7FFF (flags 0 1 0 0 1)
  pub word_plain : difference_of 4 0x12345678 0x11111111 0 ≡ answer_with 0x01234567 (flags 0 0 0 0 0)
  pub word_negated : difference_of 4 0x00000000 0x00000001 0 ≡ answer_with 0xFFFFFFFF (flags 1 1 0 1 0)
  pub word_overflows : difference_of 4 0x80000000 0x00000001 0 ≡ answer_with 0x7FFFFFFF (flags 0 1 0 0 1)
  pub word_overflows_above : difference_of 4 0x7FFFFFFF 0x80000000 0 ≡ answer_with 0xFFFFFFFF (flags 1 1 0 1 1)
  pub word_whole_range : difference_of 4 0x00000000 0xFFFFFFFF 1 ≡ answer_with 0x00000000 (flags 1 1 1 0 0)

-- where a byte of the size or the carry is unspecified, so are all bytes of the size and all flags
pub record UnspecifiedSums : Type 0 where
  pub left_byte : add 1 (bytes Unspecified (Known 0) (Known 0) (Known 0)) (word_of 0) (flag 0) ≡ unflagged (bytes Unspecified (Known 0) (Known 0) (Known 0))
  pub right_byte : add 1 (word_of 0) (bytes Unspecified (Known 0) (Known 0) (Known 0)) (flag 0) ≡ unflagged (bytes Unspecified (Known 0) (Known 0) (Known 0))
  pub carry : add 1 (word_of 1) (word_of 2) None ≡ unflagged (bytes Unspecified (Known 0) (Known 0) (Known 0))
  pub second_byte : add 2 (bytes (Known 1) Unspecified (Known 0) (Known 0)) (word_of 0) (flag 0) ≡ unflagged (bytes Unspecified Unspecified (Known 0) (Known 0))
  pub highest_byte : add 4 (word_of 0) (bytes (Known 1) (Known 0) (Known 0) Unspecified) (flag 0) ≡ unflagged (bytes Unspecified Unspecified Unspecified Unspecified)
  -- what stands above the bytes of the size doesn't matter
  pub above_one : add 1 (bytes (Known 1) Unspecified Unspecified Unspecified) (word_of 0xFFFFFF02) (flag 0) ≡ answer_with 0x03 (flags 0 1 0 0 0)
  pub above_two : add 2 (word_of 0x12340001) (bytes (Known 2) (Known 0x80) Unspecified Unspecified) (flag 0) ≡ answer_with 0x8003 (flags 0 1 0 1 0)

pub record UnspecifiedDifferences : Type 0 where
  pub left_byte : sub 1 (bytes Unspecified (Known 0) (Known 0) (Known 0)) (word_of 0) (flag 0) ≡ unflagged (bytes Unspecified (Known 0) (Known 0) (Known 0))
  pub right_byte : sub 1 (word_of 0) (bytes Unspecified (Known 0) (Known 0) (Known 0)) (flag 0) ≡ unflagged (bytes Unspecified (Known 0) (Known 0) (Known 0))
  pub borrow : sub 2 (word_of 2) (word_of 1) None ≡ unflagged (bytes Unspecified Unspecified (Known 0) (Known 0))
  -- a difference of equal bytes that are unspecified is no 0
  pub from_itself : sub 4 (bytes (Known 1) (Known 2) Unspecified (Known 4)) (bytes (Known 1) (Known 2) Unspecified (Known 4)) (flag 0) ≡ unflagged (bytes Unspecified Unspecified Unspecified Unspecified)
  pub above_one : sub 1 (bytes (Known 3) Unspecified (Known 9) Unspecified) (word_of 0x12345605) (flag 0) ≡ answer_with 0xFE (flags 1 0 0 1 0)
  pub above_two : sub 2 (word_of 0xFFFF0003) (bytes (Known 5) (Known 0) Unspecified Unspecified) (flag 0) ≡ answer_with 0xFFFE (flags 1 0 0 1 0)
