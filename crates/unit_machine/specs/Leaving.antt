-- What an exit comes to, by its answer. All of this is own.
use Rattle.std.specs.Prelude.{◌≡◌, ℕ, ◌<◌, length, slice_get, Some, Ok, Err}
use Rattle.outside.specs.Environment.{Environment}
use Rattle.traces.specs.Trace.{End}
use Rattle.memory.specs.Memory.{Memory}
use Rattle.flag_ir.specs.declared.block.Block.{Block}
use Rattle.flag_ir.specs.declared.block.Exit.{Exit}
use Rattle.flag_ir.specs.Entering.{CodeUnit, leave}
use Rattle.unit_machine.specs.declared.end.UnitEnd.{UnitEnd}
use Rattle.unit_machine.specs.declared.leave.Left.{Left}
use Rattle.unit_machine.specs.declared.leave.Left.TheVariants as way
use Rattle.unit_machine.specs.declared.values.Values.{Values}
use Rattle.unit_machine.specs.Standing.{storage_of, end_of_unit}

-- the run ends so
pub record EndsSo (unit : CodeUnit) (turn : ℕ) (e : Exit) (end : UnitEnd) (v : Values) (m : Memory) : Type 0 where
  pub last : End
  pub is_last : end_of_unit end ≡ Some last
  pub ends : (left : Environment) → leave unit turn e (storage_of v m left) ≡ Err last

abbrev pub LeavesBy : CodeUnit → ℕ → Exit → Left → Values → Memory → Type 0
LeavesBy unit turn e (way.To k) v m = (left : Environment) → leave unit turn e (storage_of v m left) ≡ Ok (k, storage_of v m left)
LeavesBy unit turn e (way.Ended end) v m = EndsSo unit turn e end v m

-- it goes on at a block of the unit
abbrev pub IsThere : CodeUnit → Left → Type 0
IsThere unit (way.To k) = k < length unit.whole
IsThere unit (way.Ended end) = Unit {0}

-- the blocks are numbered 0, 1, 2 and so on
abbrev pub AreNumbered : CodeUnit → Type 0
AreNumbered unit = (k : ℕ) (b : Block) → slice_get unit.whole k ≡ Some b → b.number ≡ k
