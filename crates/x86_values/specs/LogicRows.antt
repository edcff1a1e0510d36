-- Worked rows of the bitwise operations. The flags stand in the order CF, PF, ZF, SF, OF.
use Rattle.std.specs.Prelude.{◌≡◌, ℕ, [], ◌∷◌, map}
use Rattle.x86_values.specs.declared.byte.Byte.TheVariants.{Known, Unspecified}
use Rattle.x86_values.specs.declared.logic.Bit.{Bit}
use Rattle.x86_values.specs.declared.logic.Bit.TheVariants.{And, Or, Xor}
use Rattle.x86_values.specs.declared.answered.Answered.{Answered}
use Rattle.x86_values.specs.Words.{word_of}
use Rattle.x86_values.specs.Logic.{and_byte, or_byte, xor_byte, bitwise}
use Rattle.x86_values.specs.WrittenOut.{bytes, flags, answer_with, unflagged}

abbrev pub bits_of : Bit → ℕ → ℕ → ℕ → Answered
bits_of kind size a b = bitwise kind size (word_of a) (word_of b)

-- bytes: AND with 0 gives 0 and OR with 255 gives 255, whatever stands on the other side; XOR has no such byte
pub record WorkedBytes : Type 0 where
  pub known : and_byte (Known 0xF0) (Known 0x3C) ∷ or_byte (Known 0xF0) (Known 0x3C) ∷ xor_byte (Known 0xF0) (Known 0x3C) ∷ [] ≡ map Known (0x30 ∷ 0xFC ∷ 0xCC ∷ [])
  pub all_ones : and_byte (Known 0xFF) (Known 0x3C) ∷ or_byte (Known 0xFF) (Known 0x3C) ∷ or_byte (Known 0x3C) (Known 0xFF) ∷ xor_byte (Known 0xFF) (Known 0x3C) ∷ [] ≡ map Known (0x3C ∷ 0xFF ∷ 0xFF ∷ 0xC3 ∷ [])
  pub no_ones : and_byte (Known 0) (Known 0x3C) ∷ or_byte (Known 0) (Known 0x3C) ∷ xor_byte (Known 0) (Known 0x3C) ∷ [] ≡ map Known (0 ∷ 0x3C ∷ 0x3C ∷ [])
  pub and_on_the_right : map (and_byte Unspecified) (Known 0 ∷ Known 1 ∷ Known 0xFF ∷ Unspecified ∷ []) ≡ Known 0 ∷ Unspecified ∷ Unspecified ∷ Unspecified ∷ []
  pub and_on_the_left : map (λ b. and_byte b Unspecified) (Known 0 ∷ Known 1 ∷ Known 0xFF ∷ []) ≡ Known 0 ∷ Unspecified ∷ Unspecified ∷ []
  pub or_on_the_right : map (or_byte Unspecified) (Known 0xFF ∷ Known 0xFE ∷ Known 0 ∷ Unspecified ∷ []) ≡ Known 0xFF ∷ Unspecified ∷ Unspecified ∷ Unspecified ∷ []
  pub or_on_the_left : map (λ b. or_byte b Unspecified) (Known 0xFF ∷ Known 0xFE ∷ Known 0 ∷ []) ≡ Known 0xFF ∷ Unspecified ∷ Unspecified ∷ []
  pub xor_on_the_right : map (xor_byte Unspecified) (Known 0 ∷ Known 0xFF ∷ Unspecified ∷ []) ≡ Unspecified ∷ Unspecified ∷ Unspecified ∷ []
  pub xor_on_the_left : map (λ b. xor_byte b Unspecified) (Known 0 ∷ Known 0xFF ∷ []) ≡ Unspecified ∷ Unspecified ∷ []

-- CF and OF are cleared; the others are those of the size's bytes of the result
pub record WorkedBitwise : Type 0 where
  pub and_one : bits_of And 1 0x12345678 0x0FF0F00F ≡ answer_with 0x08 (flags 0 0 0 0 0)
  pub and_two : bits_of And 2 0x12345678 0x0FF0F00F ≡ answer_with 0x5008 (flags 0 0 0 0 0)
  pub and_four : bits_of And 4 0x12345678 0x0FF0F00F ≡ answer_with 0x02305008 (flags 0 0 0 0 0)
  pub or_one : bits_of Or 1 0x12345678 0x0FF0F00F ≡ answer_with 0x7F (flags 0 0 0 0 0)
  pub or_two : bits_of Or 2 0x12345678 0x0FF0F00F ≡ answer_with 0xF67F (flags 0 0 0 1 0)
  pub or_four : bits_of Or 4 0x12345678 0x0FF0F00F ≡ answer_with 0x1FF4F67F (flags 0 0 0 0 0)
  pub xor_one : bits_of Xor 1 0x12345678 0x0FF0F00F ≡ answer_with 0x77 (flags 0 1 0 0 0)
  pub xor_two : bits_of Xor 2 0x12345678 0x0FF0F00F ≡ answer_with 0xA677 (flags 0 1 0 1 0)
  pub xor_four : bits_of Xor 4 0x12345678 0x0FF0F00F ≡ answer_with 0x1DC4A677 (flags 0 1 0 0 0)
  pub and_sign : bits_of And 1 0x80 0xC0 ≡ answer_with 0x80 (flags 0 0 0 1 0)
  pub and_disjoint : bits_of And 2 0x5555 0xAAAA ≡ answer_with 0x0000 (flags 0 1 1 0 0)
  pub or_ones : bits_of Or 2 0x5555 0xAAAA ≡ answer_with 0xFFFF (flags 0 1 0 1 0)
  pub xor_itself : bits_of Xor 4 0xDEADBEEF 0xDEADBEEF ≡ answer_with 0x00000000 (flags 0 1 1 0 0)
  pub xor_ones : bits_of Xor 4 0x12345678 0xFFFFFFFF ≡ answer_with 0xEDCBA987 (flags 0 1 0 1 0)

-- byte by byte; one unspecified byte of the size in the result leaves all flags unspecified, and one above it none
pub record UnspecifiedBitwise : Type 0 where
  pub and_keeps : bitwise And 4 (bytes Unspecified (Known 0x56) (Known 0x34) (Known 0x12)) (word_of 0xFFFFFFFF) ≡ unflagged (bytes Unspecified (Known 0x56) (Known 0x34) (Known 0x12))
  pub and_clears : bitwise And 4 (bytes Unspecified Unspecified Unspecified Unspecified) (word_of 0) ≡ answer_with 0 (flags 0 1 1 0 0)
  pub and_mask : bitwise And 4 (word_of 0xFFFF0000) (bytes Unspecified Unspecified (Known 0x34) (Known 0x82)) ≡ answer_with 0x82340000 (flags 0 1 0 1 0)
  pub and_highest : bitwise And 2 (bytes (Known 1) Unspecified (Known 0) (Known 0)) (word_of 0x0101) ≡ unflagged (bytes (Known 1) Unspecified (Known 0) (Known 0))
  pub or_sets : bitwise Or 4 (bytes Unspecified Unspecified Unspecified Unspecified) (word_of 0xFFFFFFFF) ≡ answer_with 0xFFFFFFFF (flags 0 1 0 1 0)
  pub or_keeps : bitwise Or 4 (word_of 0x00FF0003) (bytes (Known 1) (Known 0) Unspecified Unspecified) ≡ unflagged (bytes (Known 3) (Known 0) (Known 0xFF) Unspecified)
  pub xor_keeps : bitwise Xor 2 (bytes Unspecified (Known 0x0F) (Known 1) (Known 1)) (word_of 0xFFFF) ≡ unflagged (bytes Unspecified (Known 0xF0) (Known 0) (Known 0))
  -- an unspecified byte with itself is no 0
  pub xor_itself : bitwise Xor 1 (bytes Unspecified (Known 0) (Known 0) (Known 0)) (bytes Unspecified (Known 0) (Known 0) (Known 0)) ≡ unflagged (bytes Unspecified (Known 0) (Known 0) (Known 0))
  pub above_one : bitwise Xor 1 (bytes (Known 0x0F) Unspecified Unspecified Unspecified) (word_of 0x123456FF) ≡ answer_with 0xF0 (flags 0 1 0 1 0)
  pub above_two : bitwise Or 2 (bytes (Known 1) (Known 0x40) Unspecified Unspecified) (word_of 0x0000) ≡ answer_with 0x4001 (flags 0 0 0 0 0)
