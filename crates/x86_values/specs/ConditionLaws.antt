-- A condition that is known stays so where more is specified.
use Rattle.x86_types.specs.declared.operation.Cond.{Cond}
use Rattle.x86_values.specs.declared.word.Flags.{Flags}
use Rattle.x86_values.specs.Conditions.{condition}
use Rattle.x86_values.specs.LessSpecified.{FlagLessSpecified, FlagsLessSpecified}

pub record ConditionLaws : Type 0 where
  pub condition_less : (c : Cond) (f g : Flags) → FlagsLessSpecified f g → FlagLessSpecified (condition c f) (condition c g)
