-- The laws of words that are less specified than others.
use Rattle.std.specs.Prelude.{◌≡◌, ℕ, ◌<◌, Some}
use Rattle.x86_values.specs.declared.word.Word.{Word}
use Rattle.x86_values.specs.Words.{IsWord, known, known_byte}
use Rattle.x86_values.specs.declared.byte.Byte.{Byte}
use Rattle.x86_values.specs.Sizes.{IsSize, cut, no_word, number, full}
use Rattle.x86_values.specs.LessSpecified.{ByteLessSpecified, WordLessSpecified}

pub record LessSpecifiedLaws : Type 0 where
  -- a word of bytes is less specified than itself, and no other is
  pub itself : (x : Word) → IsWord x → WordLessSpecified x x
  pub of_bytes : (x y : Word) → WordLessSpecified x y → IsWord x
  -- it goes on from one to the next
  pub then : (x y z : Word) → WordLessSpecified x y → WordLessSpecified y z → WordLessSpecified x z
  -- its lowest bytes are less specified too
  pub lowest : (size : ℕ) (x y : Word) → WordLessSpecified x y → WordLessSpecified (cut size x) (cut size y)
  -- nothing known is less specified than all
  pub nothing : (size : ℕ) (y : Word) → WordLessSpecified (cut size no_word) (cut size y)
  -- a number that is known is the same on the right, and is one of the size
  pub same_number : (size n : ℕ) (x y : Word) → IsSize size → WordLessSpecified x y → number size x ≡ Some n → (number size y ≡ Some n) × (n < full size)
  pub same_word : (x y : Word) (n : ℕ) → WordLessSpecified x y → known x ≡ Some n → known y ≡ Some n
  pub same_byte : (x y : Byte) (n : ℕ) → ByteLessSpecified x y → known_byte x ≡ Some n → (known_byte y ≡ Some n) × (n < 256)
