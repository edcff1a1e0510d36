-- What a step of the machine does, over a host that tells, by its answer. All of this is own.
use Rattle.std.specs.Prelude.{◌≡◌, ℕ, zero, suc, ◌≤◌, List, [], ◌++◌, length, drop, slice_get, Option, Some, None, Result, Ok, Err}
use Rattle.std.specs.declared.alloc.AllocError.{AllocError}
use Rattle.outside.specs.declared.answer.Answer.{Answer}
use Rattle.outside.specs.Environment.{Environment}
use Rattle.traces.specs.Trace.{Label, End, Move, Go, Halt}
use Rattle.memory.specs.Memory.{Memory}
use Rattle.sw_host.specs.Told.{Told}
use Rattle.system_calls.specs.Given.{environment, HasGiven}
use Rattle.flag_ir.specs.declared.operation.Op.{Op}
use Rattle.flag_ir.specs.declared.block.Block.{Block}
use Rattle.flag_ir.specs.Entering.{CodeUnit}
use Rattle.flag_ir.specs.UnitRun.{Point, Before, Within, UnitState, state_at, within, next}
use Rattle.flag_ir.specs.Form.{IsOp, IsExit, IsFrameless, IsFramelessExit}
use Rattle.unit_machine.specs.declared.end.UnitEnd.{UnitEnd}
use Rattle.unit_machine.specs.declared.step.Position.{Position}
use Rattle.unit_machine.specs.Standing.{storage_of, end_of_unit}
use Rattle.unit_machine.specs.Performing.{Wanted}
use Rattle.unit_machine.specs.Leaving.{AreNumbered}

-- ---- what the machine can run: each operation and each exit is in form, and needs no frame
pub record IsRunnable (unit : CodeUnit) : Type 0 where
  pub numbered : AreNumbered unit
  pub procs : unit.procs ≡ []
  pub op_form : (k i : ℕ) (b : Block) (o : Op) → slice_get unit.whole k ≡ Some b → slice_get b.ops i ≡ Some o → IsOp 0 o
  pub op_frameless : (k i : ℕ) (b : Block) (o : Op) → slice_get unit.whole k ≡ Some b → slice_get b.ops i ≡ Some o → IsFrameless o
  pub exit_form : (k : ℕ) (b : Block) → slice_get unit.whole k ≡ Some b → IsExit 0 (length unit.whole) unit.procs b.exit
  pub exit_frameless : (k : ℕ) (b : Block) → slice_get unit.whole k ≡ Some b → IsFramelessExit b.exit

-- ---- where it stands: before a block, or after some operations of it
abbrev pub point_of : Option Block → ℕ → ℕ → Point
point_of o k zero = Before k
point_of None k (suc i) = Before k
point_of (Some b) k (suc i) = Within (drop (suc i) b.ops) b.exit

abbrev pub state_in : CodeUnit → Position → Memory → Environment → UnitState
state_in unit s m left = state_at s.turn (point_of (slice_get unit.whole s.block) s.block s.op) (storage_of s.values m left)

pub record StandsInBlock (unit : CodeUnit) (s : Position) : Type 0 where
  pub block : Block
  pub there : slice_get unit.whole s.block ≡ Some block
  pub within : s.op ≤ length block.ops

-- ---- moves
-- it goes on, whatever answers are left after those that the host gave
pub record UnitMoveGoes (move : Environment → Move UnitState) (to : Environment → UnitState) (a b : Told) : Type 0 where
  pub answers : List Answer
  pub labels : List Label
  pub goes : (rest : List Answer) → move (environment a (answers ++ rest)) ≡ Go labels (to (environment b rest))
  pub host : HasGiven answers 0 labels a b

-- it halts with this end
pub record UnitMoveHalts (move : Environment → Move UnitState) (end : UnitEnd) (a b : Told) : Type 0 where
  pub answers : List Answer
  pub labels : List Label
  pub last : End
  pub is_last : end_of_unit end ≡ Some last
  pub halts : (rest : List Answer) → move (environment a (answers ++ rest)) ≡ Halt labels last
  pub host : HasGiven answers 0 labels a b

abbrev pub MakesMove : (Environment → Move UnitState) → CodeUnit → Result (Option UnitEnd) AllocError → Position → Memory → Told → Told → Type 0
MakesMove move unit (Ok None) t n a b = UnitMoveGoes move (state_in unit t n) a b
MakesMove move unit (Ok (Some end)) t n a b = UnitMoveHalts move end a b
MakesMove move unit (Err _) t n a b = Wanted a b

-- within a block, from where it stands
abbrev pub within_from : CodeUnit → Block → Position → Memory → Environment → Move UnitState
within_from unit b s m left = within unit s.turn (drop s.op b.ops) b.exit (storage_of s.values m left)

-- the machine's move
abbrev pub next_from : CodeUnit → Position → Memory → Environment → Move UnitState
next_from unit s m left = next unit (state_in unit s m left)
