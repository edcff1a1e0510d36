-- What a machine does that runs over a host that tells.
use Rattle.std.specs.Prelude.{◌≡◌, ℕ, ◌+◌, ◌≤◌, min, List, ◌++◌, Option, Some, None, Result, Ok, Err}
use Rattle.std.specs.declared.alloc.AllocError.{AllocError}
use Rattle.outside.specs.declared.answer.Answer.{Answer}
use Rattle.traces.specs.Trace.{Label, seen}
use Rattle.traces.specs.Steps.{Reaches}
use Rattle.mem_pages.specs.Ends.{end_of_run}
use Rattle.mem_pages.specs.declared.end.RunEnd.{RunEnd}
use Rattle.mem_pages.specs.declared.end.RunEnd.TheVariants as run
use Rattle.x86_meaning.specs.Run.{machine, run_from}
use Rattle.sw_host.specs.Told.{Told, last_count}
use Rattle.system_calls.specs.Given.{environment, HasGiven}
use Rattle.x86_machine.specs.declared.machine.Machine.{Machine}
use Rattle.x86_machine.specs.Standing.{code_in, state_in, steps_in, ended_in}

-- the count of steps after so many more; it stops at its greatest number
abbrev pub steps_after : ℕ → ℕ → ℕ
steps_after n steps = min (steps + n) last_count

-- It went on by so many steps, none of which ended its run; further answers would be left. `more` calls of the host gave no answer.
pub record GoesOn (steps more : ℕ) (m n : Machine) (a b : Told) : Type 0 where
  pub answers : List Answer
  pub labels : List Label
  pub reaches : (rest : List Answer) → Reaches (machine (code_in m)) (state_in m (environment a (answers ++ rest))) steps labels (state_in n (environment b rest))
  pub host : HasGiven answers more labels a b
  pub code : code_in n ≡ code_in m
  pub counted : steps_in n ≡ steps_after steps (steps_in m)
  pub ended : ended_in n ≡ None

-- its run has not ended within that many steps, all of which it made
pub record IsSpent (budget : ℕ) (m n : Machine) (a b : Told) : Type 0 where
  pub goes_on : GoesOn budget 0 m n a b
  pub run : (rest : List Answer) → (run_from (code_in m) (state_in m (environment a (goes_on.answers ++ rest))) budget).end ≡ None

-- its run has ended so within that many steps, `steps` in all; a step that ends the run counts
pub record HasEnded (budget : ℕ) (end : RunEnd) (m n : Machine) (a b : Told) : Type 0 where
  pub answers : List Answer
  pub labels : List Label
  pub run : (rest : List Answer) → run_from (code_in m) (state_in m (environment a (answers ++ rest))) budget ≡ seen labels (end_of_run end)
  pub host : HasGiven answers 0 labels a b
  pub steps : ℕ
  pub within : steps ≤ budget
  pub before_it : (k : ℕ) → k + 1 ≤ steps → (rest : List Answer) → (run_from (code_in m) (state_in m (environment a (answers ++ rest))) k).end ≡ None
  pub at_it : (rest : List Answer) → (run_from (code_in m) (state_in m (environment a (answers ++ rest))) steps).end ≡ end_of_run end
  pub counted : steps_in n ≡ steps_after steps (steps_in m)
  pub code : code_in n ≡ code_in m
  pub ended : ended_in n ≡ Some end

-- it had come to an end before: it makes no step and no call, and answers that end again
pub record StaysEnded (m n : Machine) (a b : Told) : Type 0 where
  pub machine : n ≡ m
  pub host : b ≡ a

-- of a machine whose run had not ended
abbrev pub Runs : ℕ → Result RunEnd AllocError → Machine → Machine → Told → Told → Type 0
Runs budget (Ok run.Spent) m n a b = IsSpent budget m n a b
Runs budget (Ok (run.Exited status)) m n a b = HasEnded budget (run.Exited status) m n a b
Runs budget (Ok run.MemoryFault) m n a b = HasEnded budget run.MemoryFault m n a b
Runs budget (Ok run.DivideFault) m n a b = HasEnded budget run.DivideFault m n a b
Runs budget (Ok run.Outside) m n a b = HasEnded budget run.Outside m n a b
Runs budget (Ok (run.OtherCall number)) m n a b = HasEnded budget (run.OtherCall number) m n a b
Runs budget (Ok run.Unspecified) m n a b = HasEnded budget run.Unspecified m n a b
Runs budget (Err _) m n a b = (steps : ℕ) × (more : ℕ) × (steps ≤ budget) × GoesOn steps more m n a b

-- what a call of `run` does
abbrev pub RunsFrom : Option RunEnd → ℕ → Result RunEnd AllocError → Machine → Machine → Told → Told → Type 0
RunsFrom None budget result m n a b = Runs budget result m n a b
RunsFrom (Some end) budget result m n a b = (result ≡ Ok end) × StaysEnded m n a b
