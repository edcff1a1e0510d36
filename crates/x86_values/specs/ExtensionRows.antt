-- Worked rows of the extensions.
use Rattle.std.specs.Prelude.{◌≡◌, [], ◌∷◌, map}
use Rattle.x86_values.specs.declared.byte.Byte.TheVariants.{Known, Unspecified}
use Rattle.x86_values.specs.Words.{word_of}
use Rattle.x86_values.specs.Extensions.{sign_extended, sign_word, bytes_swapped}
use Rattle.x86_values.specs.WrittenOut.{bytes}

-- the sign is the highest bit of the size's highest byte; what stood above it goes
pub record WorkedExtensions : Type 0 where
  pub one : map (λ n. sign_extended 1 (word_of n)) (0x00 ∷ 0x7F ∷ 0x80 ∷ 0xFF ∷ 0x1234567E ∷ 0x123456FE ∷ []) ≡ map word_of (0x00 ∷ 0x7F ∷ 0xFFFFFF80 ∷ 0xFFFFFFFF ∷ 0x7E ∷ 0xFFFFFFFE ∷ [])
  pub two : map (λ n. sign_extended 2 (word_of n)) (0x0080 ∷ 0x7FFF ∷ 0x8000 ∷ 0xFF7F ∷ 0x123456FE ∷ 0x1234F678 ∷ []) ≡ map word_of (0x0080 ∷ 0x7FFF ∷ 0xFFFF8000 ∷ 0xFFFFFF7F ∷ 0x56FE ∷ 0xFFFFF678 ∷ [])
  pub four : map (λ n. sign_extended 4 (word_of n)) (0x7F808080 ∷ 0x80000000 ∷ 0x00000080 ∷ []) ≡ map word_of (0x7F808080 ∷ 0x80000000 ∷ 0x00000080 ∷ [])

pub record UnspecifiedExtensions : Type 0 where
  pub sign_of_one : sign_extended 1 (bytes Unspecified (Known 0) (Known 0) (Known 0)) ≡ bytes Unspecified Unspecified Unspecified Unspecified
  pub sign_of_two : sign_extended 2 (bytes (Known 1) Unspecified (Known 0) (Known 0)) ≡ bytes (Known 1) Unspecified Unspecified Unspecified
  pub below_the_sign : sign_extended 2 (bytes Unspecified (Known 0x80) (Known 0) (Known 0)) ≡ bytes Unspecified (Known 0x80) (Known 0xFF) (Known 0xFF)
  pub above_one : sign_extended 1 (bytes (Known 0x80) Unspecified Unspecified Unspecified) ≡ word_of 0xFFFFFF80
  pub above_two : sign_extended 2 (bytes (Known 1) (Known 0x7F) Unspecified Unspecified) ≡ word_of 0x7F01
  pub four : sign_extended 4 (bytes (Known 1) Unspecified (Known 3) Unspecified) ≡ bytes (Known 1) Unspecified (Known 3) Unspecified

-- the sign alone, in the bytes of the size
pub record WorkedSigns : Type 0 where
  pub one : map (λ n. sign_word 1 (word_of n)) (0x7F ∷ 0x80 ∷ 0x12348001 ∷ []) ≡ map word_of (0 ∷ 0xFF ∷ 0 ∷ [])
  pub two : map (λ n. sign_word 2 (word_of n)) (0x0080 ∷ 0x7FFF ∷ 0x8000 ∷ 0x80007FFF ∷ 0x0000F001 ∷ []) ≡ map word_of (0 ∷ 0 ∷ 0xFFFF ∷ 0 ∷ 0xFFFF ∷ [])
  pub four : map (λ n. sign_word 4 (word_of n)) (0x00808080 ∷ 0x7FFFFFFF ∷ 0x80000000 ∷ 0xFFFFFFFF ∷ []) ≡ map word_of (0 ∷ 0 ∷ 0xFFFFFFFF ∷ 0xFFFFFFFF ∷ [])
  pub unspecified_one : sign_word 1 (bytes Unspecified (Known 0x80) (Known 0x80) (Known 0x80)) ≡ bytes Unspecified (Known 0) (Known 0) (Known 0)
  pub unspecified_two : sign_word 2 (bytes (Known 1) Unspecified (Known 3) (Known 4)) ≡ bytes Unspecified Unspecified (Known 0) (Known 0)
  pub unspecified_four : sign_word 4 (bytes (Known 1) (Known 2) (Known 3) Unspecified) ≡ bytes Unspecified Unspecified Unspecified Unspecified
  pub below_the_sign_of_two : sign_word 2 (bytes Unspecified (Known 0x80) (Known 0) Unspecified) ≡ word_of 0xFFFF
  pub below_the_sign_of_four : sign_word 4 (bytes Unspecified Unspecified Unspecified (Known 0x80)) ≡ word_of 0xFFFFFFFF

pub record WorkedSwaps : Type 0 where
  pub known : map (λ n. bytes_swapped (word_of n)) (0x12345678 ∷ 0x000000FF ∷ []) ≡ map word_of (0x78563412 ∷ 0xFF000000 ∷ [])
  pub lowest_unspecified : bytes_swapped (bytes Unspecified (Known 2) (Known 3) (Known 4)) ≡ bytes (Known 4) (Known 3) (Known 2) Unspecified
  pub second_unspecified : bytes_swapped (bytes (Known 1) Unspecified (Known 3) (Known 4)) ≡ bytes (Known 4) (Known 3) Unspecified (Known 1)
