-- Bitwise operations are monotone in what is specified.
use Rattle.std.specs.Prelude.{ℕ}
use Rattle.x86_values.specs.declared.word.Word.{Word}
use Rattle.x86_values.specs.declared.logic.Bit.{Bit}
use Rattle.x86_values.specs.Sizes.{IsSize}
use Rattle.x86_values.specs.Logic.{bitwise}
use Rattle.x86_values.specs.LessSpecified.{WordLessSpecified, AnsweredLessSpecified}

pub record LogicLaws : Type 0 where
  pub bitwise_less : (kind : Bit) (size : ℕ) (x y u v : Word) → IsSize size → WordLessSpecified x u → WordLessSpecified y v → AnsweredLessSpecified (bitwise kind size x y) (bitwise kind size u v)
