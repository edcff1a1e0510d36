-- Sums and differences are monotone in what is specified.
use Rattle.std.specs.Prelude.{ℕ, Bool, Option}
use Rattle.x86_values.specs.declared.word.Word.{Word}
use Rattle.x86_values.specs.Sizes.{IsSize}
use Rattle.x86_values.specs.Sums.{add, sub}
use Rattle.x86_values.specs.LessSpecified.{WordLessSpecified, FlagLessSpecified, AnsweredLessSpecified}

pub record SumLaws : Type 0 where
  pub add_less : (size : ℕ) (x y u v : Word) (c d : Option Bool) → IsSize size → WordLessSpecified x u → WordLessSpecified y v → FlagLessSpecified c d → AnsweredLessSpecified (add size x y c) (add size u v d)
  pub sub_less : (size : ℕ) (x y u v : Word) (c d : Option Bool) → IsSize size → WordLessSpecified x u → WordLessSpecified y v → FlagLessSpecified c d → AnsweredLessSpecified (sub size x y c) (sub size u v d)
