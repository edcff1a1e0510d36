-- What an operation does to values, a memory and a host that tells, by its answer. All of this is own.
use Rattle.std.specs.Prelude.{◌≡◌, ℕ, List, [], ◌++◌, Option, Some, None, Result, Ok, Err}
use Rattle.std.specs.declared.alloc.AllocError.{AllocError}
use Rattle.outside.specs.declared.answer.Answer.{Answer}
use Rattle.traces.specs.Trace.{Label, End}
use Rattle.memory.specs.Memory.{Memory}
use Rattle.mem_pages.specs.Ends.{end_of_run}
use Rattle.mem_pages.specs.declared.end.RunEnd.{RunEnd}
use Rattle.sw_host.specs.Told.{Told}
use Rattle.system_calls.specs.Given.{environment, HasGiven}
use Rattle.flag_ir.specs.declared.operation.Op.{Op}
use Rattle.flag_ir.specs.Operations.{perform, shown_by}
use Rattle.unit_machine.specs.declared.values.Values.{Values}
use Rattle.unit_machine.specs.Standing.{storage_of}

-- the run goes on, whatever answers are left after those that the host gave
pub record GoesBy (o : Op) (v : Values) (m : Memory) (w : Values) (n : Memory) (a b : Told) : Type 0 where
  pub answers : List Answer
  pub labels : List Label
  pub goes : (turn : ℕ) (rest : List Answer) → perform turn o (storage_of v m (environment a (answers ++ rest))) ≡ Ok (storage_of w n (environment b rest))
  pub shows : (rest : List Answer) → shown_by o (storage_of v m (environment a (answers ++ rest))) ≡ labels
  pub host : HasGiven answers 0 labels a b

-- it comes to this end, and the host gave nothing
pub record EndsBy (o : Op) (end : RunEnd) (v : Values) (m : Memory) (a b : Told) : Type 0 where
  pub last : End
  pub is_last : end_of_run end ≡ Some last
  pub ends : (turn : ℕ) (rest : List Answer) → perform turn o (storage_of v m (environment a rest)) ≡ Err last
  pub host : b ≡ a

-- memory was wanting; some calls of the host gave no answer
pub record Wanted (a b : Told) : Type 0 where
  pub calls : ℕ
  pub host : HasGiven [] calls [] a b

abbrev pub PerformsOp : Op → Result (Option RunEnd) AllocError → Values → Memory → Values → Memory → Told → Told → Type 0
PerformsOp o (Ok None) v m w n a b = GoesBy o v m w n a b
PerformsOp o (Ok (Some end)) v m w n a b = EndsBy o end v m a b
PerformsOp o (Err _) v m w n a b = Wanted a b
