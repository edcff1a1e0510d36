-- What a pass over units promises.
use Rattle.std.specs.Prelude.{ℕ, List}
use Rattle.outside.specs.Environment.{Environment, IsEnvironment}
use Rattle.traces.specs.Turns.{RefinesByTurns}
use Rattle.memory.specs.Memory.{Memory, HasBytes}
use Rattle.x86_meaning.specs.Run.{IsStart}
use Rattle.flag_ir.specs.Entering.{CodeUnit}
use Rattle.flag_ir.specs.UnitRun.{unit_run}
use Rattle.flag_ir.specs.Form.{IsInForm}
use Rattle.flag_ir.specs.Shape.{IsWellShaped}

-- from every start, over every memory and environment, the second unit does by turns what the first does
pub record Keeps (u v : CodeUnit) : Type 0 where
  pub refines : (m : Memory) (entry esp0 : ℕ) (stack : List ℕ) (left : Environment) → HasBytes m → IsStart esp0 stack → IsEnvironment left → RefinesByTurns (unit_run u m entry esp0 stack left) (unit_run v m entry esp0 stack left)

-- what a pass takes and gives
pub record IsSound (unit : CodeUnit) : Type 0 where
  pub form : IsInForm unit
  pub shape : IsWellShaped unit

-- a pass makes one unit of another
pub record Passes (u v : CodeUnit) : Type 0 where
  pub sound : IsSound v
  pub keeps : Keeps u v
