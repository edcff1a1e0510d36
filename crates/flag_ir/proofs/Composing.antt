-- One pass after another is a pass.
use Rattle.std.proofs.Common.{ℕ, List}
use Rattle.outside.specs.Environment.{Environment}
use Rattle.traces.specs.Trace.{Grows}
use Rattle.traces.specs.RunLaws.{RunLaws}
use Rattle.traces.specs.CompositionLaws.{CompositionLaws}
use Rattle.memory.specs.Memory.{Memory}
use Rattle.flag_ir.specs.Entering.{CodeUnit}
use Rattle.flag_ir.specs.UnitRun.{UnitState, next, first_state, unit_run}
use Rattle.flag_ir.specs.Keeps.{Keeps, Passes}

grows : RunLaws UnitState → (unit : CodeUnit) (m : Memory) (entry esp0 : ℕ) (stack : List ℕ) (left : Environment) → Grows (unit_run unit m entry esp0 stack left)
unfolding unit_run
grows runs unit m entry esp0 stack left = runs.run_grows (next unit) (first_state unit m entry esp0 stack left)

module _ (laws : CompositionLaws) (runs : RunLaws UnitState) (u v w : CodeUnit) where
  pub keeps_then : Keeps u v → Keeps v w → Keeps u w
  keeps_then h k = record {
    refines = λ m entry esp0 stack left bytes start outside. laws.refines_then (unit_run u m entry esp0 stack left) (unit_run v m entry esp0 stack left) (unit_run w m entry esp0 stack left) (grows runs v m entry esp0 stack left) (h.refines m entry esp0 stack left bytes start outside) (k.refines m entry esp0 stack left bytes start outside);
  }

  pub passes_then : Passes u v → Passes v w → Passes u w
  passes_then h k = record { sound = k.sound; keeps = keeps_then h.keeps k.keeps }
