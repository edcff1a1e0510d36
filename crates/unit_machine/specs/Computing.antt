-- What an operation that makes no call does to values and a memory, by its answer. All of this is own.
use Rattle.std.specs.Prelude.{◌≡◌, ℕ, Bool, true, false, Option, Some, None, Result, Ok, Err}
use Rattle.std.specs.declared.alloc.AllocError.{AllocError}
use Rattle.outside.specs.Environment.{Environment}
use Rattle.traces.specs.Trace.{End}
use Rattle.memory.specs.Memory.{Memory}
use Rattle.mem_pages.specs.Ends.{end_of_run}
use Rattle.mem_pages.specs.declared.end.RunEnd.{RunEnd}
use Rattle.flag_ir.specs.declared.operation.Op.{Op}
use Rattle.flag_ir.specs.declared.operation.Op.TheVariants as op
use Rattle.flag_ir.specs.Storage.{Storage}
use Rattle.flag_ir.specs.Operations.{perform}
use Rattle.unit_machine.specs.declared.values.Values.{Values}
use Rattle.unit_machine.specs.Standing.{storage_of}

abbrev pub is_system : Op → Bool
is_system op.System = true
is_system _ = false

-- it comes to this end, whatever is left of the outside
pub record ComesTo (f : Storage → Result Storage End) (end : RunEnd) (v : Values) (m : Memory) : Type 0 where
  pub last : End
  pub is_last : end_of_run end ≡ Some last
  pub ends : (left : Environment) → f (storage_of v m left) ≡ Err last

abbrev pub ComesOut : (Storage → Result Storage End) → Result (Option RunEnd) AllocError → Values → Memory → Values → Memory → Type 0
ComesOut f (Ok None) v m w n = (left : Environment) → f (storage_of v m left) ≡ Ok (storage_of w n left)
ComesOut f (Ok (Some end)) v m w n = ComesTo f end v m
ComesOut f (Err _) v m w n = Unit {0}

abbrev pub Computes : Op → Result (Option RunEnd) AllocError → Values → Memory → Values → Memory → Type 0
Computes o r v m w n = (turn : ℕ) → ComesOut (perform turn o) r v m w n
