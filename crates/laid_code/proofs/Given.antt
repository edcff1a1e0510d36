-- The laws that the proofs stand on.
use Rattle.x86_values.specs.WordLaws.{WordLaws}
use Rattle.x86_values.specs.LessSpecifiedLaws.{LessSpecifiedLaws}
use Rattle.traces.specs.RunLaws.{RunLaws}
use Rattle.memory.specs.MemoryLaws.{MemoryLaws}
use Rattle.memory.specs.LessSpecifiedLaws.{LessSpecifiedMemoryLaws}
use Rattle.memory.specs.CallLaws.{CallLaws}
use Rattle.x86_meaning.specs.Step.{State}
use Rattle.x86_meaning.specs.StepLaws.{StepLaws}
use Rattle.x86_meaning.specs.LessSpecified.{MonotoneLaws}
use Rattle.x86_meaning.specs.AccessLaws.{AccessLaws}
use Rattle.field_places.specs.FieldPlaceLaws.{FieldPlaceLaws}
use Rattle.named_code.specs.CodeRunLaws.{CodeRunLaws}
use Rattle.named_code.specs.TestedRunLaws.{TestedRunLaws}

pub record Given : Type 0 where
  pub words : WordLaws
  pub less_words : LessSpecifiedLaws
  pub memory : MemoryLaws
  pub less_memory : LessSpecifiedMemoryLaws
  pub calls : CallLaws
  pub steps : StepLaws
  pub monotone : MonotoneLaws
  pub access : AccessLaws
  pub field_places : FieldPlaceLaws
  pub code : CodeRunLaws
  pub tested : TestedRunLaws
  pub runs : RunLaws State
