-- Double shifts are monotone in what is specified, in the flags that they keep too.
use Rattle.std.specs.Prelude.{Bool}
use Rattle.x86_values.specs.declared.byte.Byte.{Byte}
use Rattle.x86_values.specs.declared.word.Word.{Word}
use Rattle.x86_values.specs.declared.word.Flags.{Flags}
use Rattle.x86_values.specs.DoubleShifts.{double_shift}
use Rattle.x86_values.specs.LessSpecified.{ByteLessSpecified, WordLessSpecified, FlagsLessSpecified, AnsweredLessSpecified}

pub record DoubleShiftLaws : Type 0 where
  pub double_shift_less : (right : Bool) (x y u v : Word) (m n : Byte) (f g : Flags) → WordLessSpecified x u → WordLessSpecified y v → ByteLessSpecified m n → FlagsLessSpecified f g → AnsweredLessSpecified (double_shift right x y m f) (double_shift right u v n g)
