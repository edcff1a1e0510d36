-- Worked rows of sizes, and of the flags by a result.
use Rattle.std.specs.Prelude.{◌≡◌, true, false, [], ◌∷◌, map, Some, None}
use Rattle.x86_values.specs.declared.byte.Byte.TheVariants.{Known, Unspecified}
use Rattle.x86_values.specs.Words.{word_of}
use Rattle.x86_values.specs.Sizes.{IsSize, cut, number, bits, full, half, is_negative}
use Rattle.x86_values.specs.Results.{has_even_parity, differ}
use Rattle.x86_values.specs.WrittenOut.{bytes}

pub record WorkedSizes : Type 0 where
  pub one : IsSize 1
  pub two : IsSize 2
  pub four : IsSize 4
  pub not_zero : IsSize 0 → ⊥
  pub not_three : IsSize 3 → ⊥
  pub not_five : IsSize 5 → ⊥
  pub not_eight : IsSize 8 → ⊥
  pub bits : map bits (1 ∷ 2 ∷ 4 ∷ []) ≡ 8 ∷ 16 ∷ 32 ∷ []
  pub full : map full (1 ∷ 2 ∷ 4 ∷ []) ≡ 0x100 ∷ 0x10000 ∷ 0x100000000 ∷ []
  pub half : map half (1 ∷ 2 ∷ 4 ∷ []) ≡ 0x80 ∷ 0x8000 ∷ 0x80000000 ∷ []
  -- the greatest number without a sign, the least and the greatest with one
  pub byte_sign : map (is_negative 1) (0 ∷ 0x7F ∷ 0x80 ∷ 0xFF ∷ []) ≡ false ∷ false ∷ true ∷ true ∷ []
  pub two_byte_sign : map (is_negative 2) (0x80 ∷ 0x7FFF ∷ 0x8000 ∷ 0xFFFF ∷ []) ≡ false ∷ false ∷ true ∷ true ∷ []
  pub word_sign : map (is_negative 4) (0x8000 ∷ 0x7FFFFFFF ∷ 0x80000000 ∷ 0xFFFFFFFF ∷ []) ≡ false ∷ false ∷ true ∷ true ∷ []

-- the lowest bytes stay as they are, known or not; above them are zeros
pub record WorkedCuts : Type 0 where
  pub known : map (λ size. cut size (word_of 0x12345678)) (1 ∷ 2 ∷ 3 ∷ 4 ∷ []) ≡ map word_of (0x78 ∷ 0x5678 ∷ 0x345678 ∷ 0x12345678 ∷ [])
  pub lowest_unspecified : cut 1 (bytes Unspecified (Known 2) (Known 3) (Known 4)) ≡ bytes Unspecified (Known 0) (Known 0) (Known 0)
  pub second_unspecified : cut 2 (bytes (Known 1) Unspecified Unspecified Unspecified) ≡ bytes (Known 1) Unspecified (Known 0) (Known 0)
  pub all_unspecified : cut 4 (bytes Unspecified Unspecified Unspecified Unspecified) ≡ bytes Unspecified Unspecified Unspecified Unspecified

-- a number is known where each byte of its size is, whatever stands above them
pub record WorkedNumbers : Type 0 where
  pub known : map (λ size. number size (word_of 0x12345678)) (1 ∷ 2 ∷ 4 ∷ []) ≡ Some 0x78 ∷ Some 0x5678 ∷ Some 0x12345678 ∷ []
  pub one_byte : map (λ size. number size (bytes (Known 7) Unspecified Unspecified Unspecified)) (1 ∷ 2 ∷ 4 ∷ []) ≡ Some 7 ∷ None ∷ None ∷ []
  pub two_bytes : map (λ size. number size (bytes (Known 7) (Known 1) (Known 0) Unspecified)) (1 ∷ 2 ∷ 4 ∷ []) ≡ Some 7 ∷ Some 0x107 ∷ None ∷ []
  pub third_unspecified : map (λ size. number size (bytes (Known 7) (Known 1) Unspecified (Known 0))) (1 ∷ 2 ∷ 4 ∷ []) ≡ Some 7 ∷ Some 0x107 ∷ None ∷ []
  pub lowest_unspecified : map (λ size. number size (bytes Unspecified (Known 0) (Known 0) (Known 0))) (1 ∷ 2 ∷ 4 ∷ []) ≡ None ∷ None ∷ None ∷ []

-- PF: each bit of the lowest byte counts, and none above it
pub record WorkedParities : Type 0 where
  pub one_bit : map has_even_parity (0x01 ∷ 0x02 ∷ 0x04 ∷ 0x08 ∷ 0x10 ∷ 0x20 ∷ 0x40 ∷ 0x80 ∷ []) ≡ false ∷ false ∷ false ∷ false ∷ false ∷ false ∷ false ∷ false ∷ []
  pub more_bits : map has_even_parity (0x00 ∷ 0x03 ∷ 0x07 ∷ 0x81 ∷ 0x7F ∷ 0xFE ∷ 0xFF ∷ []) ≡ true ∷ true ∷ false ∷ true ∷ false ∷ false ∷ true ∷ []
  pub above : map has_even_parity (0x100 ∷ 0x101 ∷ 0x8003 ∷ 0x80000000 ∷ []) ≡ true ∷ false ∷ true ∷ true ∷ []
  pub differ_from_true : map (differ true) (true ∷ false ∷ []) ≡ false ∷ true ∷ []
  pub differ_from_false : map (differ false) (true ∷ false ∷ []) ≡ true ∷ false ∷ []
