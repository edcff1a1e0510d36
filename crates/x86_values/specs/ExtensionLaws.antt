-- Extensions are monotone in what is specified.
use Rattle.std.specs.Prelude.{ℕ}
use Rattle.x86_values.specs.declared.word.Word.{Word}
use Rattle.x86_values.specs.Extensions.{sign_extended, sign_word, bytes_swapped}
use Rattle.x86_values.specs.LessSpecified.{WordLessSpecified}

pub record ExtensionLaws : Type 0 where
  pub sign_extended_less : (size : ℕ) (x u : Word) → WordLessSpecified x u → WordLessSpecified (sign_extended size x) (sign_extended size u)
  pub sign_word_less : (size : ℕ) (x u : Word) → WordLessSpecified x u → WordLessSpecified (sign_word size x) (sign_word size u)
  pub bytes_swapped_less : (x u : Word) → WordLessSpecified x u → WordLessSpecified (bytes_swapped x) (bytes_swapped u)
