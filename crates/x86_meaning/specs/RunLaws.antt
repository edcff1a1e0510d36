-- The laws of runs of programs.
use Rattle.std.specs.Prelude.{◌≡◌, ◌≢◌, ℕ, List, Some}
use Rattle.traces.specs.Trace.{Label, GuardKind, Guard, Grows, input_left}
use Rattle.traces.specs.Steps.{Reaches}
use Rattle.traces.specs.Weight.{Paced, Ticks}
use Rattle.traces.specs.Plain.{NeverStops}
use Rattle.x86_code.specs.Code.{Code}
use Rattle.x86_meaning.specs.Step.{State}
use Rattle.x86_meaning.specs.Run.{machine, run_from}

pub record ProgramLaws : Type 0 where
  -- more steps show the same and more, and an end stays
  pub grow : (code : Code) (s : State) → Grows (run_from code s)
  -- only a unit stops, and only a cut run has a guard event
  pub never_stop : (code : Code) (s : State) → NeverStops (run_from code s)
  pub no_guard : (code : Code) (s : State) (n : ℕ) (k : GuardKind) (a : ℕ) → (run_from code s n).end ≢ Some (Guard k a)
  -- what is left of the input where a run has come to is what the reads of its trace leave
  pub input_left : (code : Code) (s t : State) (n : ℕ) (ls : List Label) → Reaches (machine code) s n ls t → t.left.input ≡ input_left s.left.input ls
  -- each step begins exactly one turn, so each turn is one step
  pub tick : (code : Code) (s : State) → Ticks (run_from code s)
  pub paced : (code : Code) (s : State) → Paced 1 0 (run_from code s)
