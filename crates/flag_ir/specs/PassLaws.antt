-- The laws of passes.
use Rattle.std.specs.Prelude.{ℕ, List}
use Rattle.outside.specs.Environment.{Environment}
use Rattle.traces.specs.Weight.{Paced}
use Rattle.memory.specs.Memory.{Memory}
use Rattle.flag_ir.specs.Entering.{CodeUnit}
use Rattle.flag_ir.specs.UnitRun.{unit_run}
use Rattle.flag_ir.specs.Shape.{IsWellShaped}
use Rattle.flag_ir.specs.Keeps.{Keeps, IsSound, Passes}

-- the turns of all its runs have one weight in operations and exits
pub record HasWeight (unit : CodeUnit) : Type 0 where
  pub weight : ℕ
  pub paced : (m : Memory) (entry esp0 : ℕ) (stack : List ℕ) (left : Environment) → Paced weight 0 (unit_run unit m entry esp0 stack left)

pub record PassLaws : Type 0 where
  -- what does by turns what a unit between does, does what the first unit does
  pub keeps_then : (u v w : CodeUnit) → Keeps u v → Keeps v w → Keeps u w
  pub passes_then : (u v w : CodeUnit) → Passes u v → Passes v w → Passes u w
  -- no turn of a well shaped unit goes on for ever, so it does by turns what it does; of another unit that isn't said
  pub shape_has_weight : (u : CodeUnit) → IsWellShaped u → HasWeight u
  pub weight_keeps : (u : CodeUnit) → HasWeight u → Keeps u u
  pub sound_passes : (u : CodeUnit) → IsSound u → Passes u u
