-- The laws of words.
use Rattle.std.specs.Prelude.{◌≡◌, ℕ, ◌^◌, ◌<◌, List, All, Some}
use Rattle.x86_values.specs.declared.byte.Byte.{Byte}
use Rattle.x86_values.specs.declared.word.Word.{Word}
use Rattle.x86_values.specs.Words.{IsByte, IsWord, word_of, known, word_list, padded}

pub record WordLaws : Type 0 where
  -- the word of a number gives the number back
  pub known_word : (n : ℕ) → n < 2 ^ 32 → known (word_of n) ≡ Some n
  -- known bytes are below 256: those of a number's word, those of a word's list, and those of a list's word
  pub word_of_bytes : (n : ℕ) → IsWord (word_of n)
  pub list_of_bytes : (w : Word) → IsWord w → All IsByte (word_list w)
  pub padded_of_bytes : (bs : List Byte) → All IsByte bs → IsWord (padded bs)
  -- a word's own bytes give it back
  pub padded_list : (w : Word) → padded (word_list w) ≡ w
