-- What making a system call does to pages and to a host that tells, by its answer.
use Rattle.std.specs.Prelude.{◌≡◌, ℕ, List, [], ◌++◌, Option, Some, None, Result, Ok, Err}
use Rattle.std.specs.declared.alloc.AllocError.{AllocError}
use Rattle.outside.specs.declared.answer.Answer.{Answer}
use Rattle.outside.specs.Environment.{Environment}
use Rattle.traces.specs.Trace.{Label, End}
use Rattle.memory.specs.Memory.{Memory, Stored, store_all}
use Rattle.memory.specs.SystemCall.{Request, Called, Ends, Gives}
use Rattle.mem_pages.specs.Ends.{end_of_run}
use Rattle.sw_host.specs.Told.{Told}
use Rattle.system_calls.specs.declared.request.CallRequest.{CallRequest}
use Rattle.system_calls.specs.declared.outcome.CallOutcome.{CallOutcome}
use Rattle.system_calls.specs.declared.outcome.CallOutcome.TheVariants as outcome
use Rattle.system_calls.specs.Given.{environment, HasGiven}

abbrev pub as_request : CallRequest → Request
as_request q = record { number = q.number; fd = q.fd; at = q.at; count = q.count }

-- the call ends the run, and nothing has changed
pub record EndsRun (call : Environment → Called) (end : End) (m n : Memory) (a b : Told) : Type 0 where
  pub ends : (answers : List Answer) → call (environment a answers) ≡ Ends end
  pub memory : n ≡ m
  pub host : b ≡ a

-- The call has a result. It took the answers that the host gave, none or one, and what it stores was stored; further answers would
-- be left.
pub record GivesResult (call : Environment → Called) (result : ℕ) (m n : Memory) (a b : Told) : Type 0 where
  pub answers : List Answer
  pub labels : List Label
  pub stores : List Stored
  pub gives : (rest : List Answer) → call (environment a (answers ++ rest)) ≡ Gives labels result stores (environment b rest)
  pub memory : n ≡ store_all stores m
  pub host : HasGiven answers 0 labels a b

-- Memory was wanting: that of the program is as it was, and the host wasn't called, or its one call gave no answer.
pub record CallWantsMemory (m n : Memory) (a b : Told) : Type 0 where
  pub memory : n ≡ m
  pub calls : ℕ
  pub host : HasGiven [] calls [] a b

abbrev pub EndsAs : Option End → (Environment → Called) → Memory → Memory → Told → Told → Type 0
EndsAs None call m n a b = ⊥
EndsAs (Some end) call m n a b = EndsRun call end m n a b

-- what making a call does that comes to this over each environment, by the answer
abbrev pub Makes : (Environment → Called) → Result CallOutcome AllocError → Memory → Memory → Told → Told → Type 0
Makes call (Ok (outcome.Ended end)) m n a b = EndsAs (end_of_run end) call m n a b
Makes call (Ok (outcome.Returned result)) m n a b = GivesResult call result m n a b
Makes call (Err _) m n a b = CallWantsMemory m n a b
