-- What a run of a unit does over a host that tells. All of this is own.
use Rattle.std.specs.Prelude.{◌≡◌, ℕ, ◌≤◌, List, ◌++◌, Option, None, Result, Ok, Err}
use Rattle.std.specs.declared.alloc.AllocError.{AllocError}
use Rattle.outside.specs.declared.answer.Answer.{Answer}
use Rattle.outside.specs.Environment.{Environment}
use Rattle.traces.specs.Trace.{Label, End, Behaviour, seen}
use Rattle.traces.specs.Steps.{Reaches}
use Rattle.memory.specs.Memory.{Memory}
use Rattle.flag_ir.specs.Entering.{CodeUnit}
use Rattle.flag_ir.specs.UnitRun.{next}
use Rattle.sw_host.specs.Told.{Told}
use Rattle.system_calls.specs.Given.{environment, HasGiven}
use Rattle.unit_machine.specs.declared.end.UnitEnd.{UnitEnd}
use Rattle.unit_machine.specs.declared.step.Position.{Position}
use Rattle.unit_machine.specs.Standing.{end_of_unit}
use Rattle.unit_machine.specs.Moving.{state_in}

-- Within that many operations and exits exactly this is seen: the labels, whose events the host answered, and the end, if there is one. Further
-- answers would be left; of the input that is left which the labels' reads leave.
pub record HasShown (behaviour : Environment → Behaviour) (budget : ℕ) (end : Option End) (a b : Told) : Type 0 where
  pub answers : List Answer
  pub labels : List Label
  pub shown : (rest : List Answer) → behaviour (environment a (answers ++ rest)) budget ≡ seen labels end
  pub host : HasGiven answers 0 labels a b

-- memory was wanting after some of them; `more` calls of the host gave no answer
pub record HasWanted (behaviour : Environment → Behaviour) (budget : ℕ) (a b : Told) : Type 0 where
  pub steps : ℕ
  pub within : steps ≤ budget
  pub more : ℕ
  pub answers : List Answer
  pub labels : List Label
  pub shown : (rest : List Answer) → behaviour (environment a (answers ++ rest)) steps ≡ seen labels None
  pub host : HasGiven answers more labels a b

abbrev pub RunsTo : (Environment → Behaviour) → ℕ → Result UnitEnd AllocError → Told → Told → Type 0
RunsTo behaviour budget (Ok end) a b = HasShown behaviour budget (end_of_unit end) a b
RunsTo behaviour budget (Err _) a b = HasWanted behaviour budget a b

-- it went on by so many steps, none of which ended its run
pub record RanOn (unit : CodeUnit) (s : Position) (m : Memory) (steps : ℕ) (t : Position) (n : Memory) (a b : Told) : Type 0 where
  pub answers : List Answer
  pub labels : List Label
  pub reaches : (rest : List Answer) → Reaches (next unit) (state_in unit s m (environment a (answers ++ rest))) steps labels (state_in unit t n (environment b rest))
  pub host : HasGiven answers 0 labels a b
