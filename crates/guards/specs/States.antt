-- States of a unit and of what is made of it, side by side. All of this is own.
use Rattle.std.specs.Prelude.{◌≡◌, ℕ, ◌<◌, true, List, [], ◌∷◌, slice_get, Some, Result, Ok, Err, All}
use Rattle.x86_values.specs.Words.{known, padded}
use Rattle.traces.specs.Trace.{End}
use Rattle.memory.specs.Memory.{Memory, bytes_at}
use Rattle.flag_ir.specs.declared.operation.Op.{Op}
use Rattle.flag_ir.specs.declared.block.Block.{Block}
use Rattle.flag_ir.specs.Storage.{Storage}
use Rattle.flag_ir.specs.Operations.{perform}
use Rattle.flag_ir.specs.Entering.{CodeUnit}
use Rattle.flag_ir.specs.UnitRun.{Point, Before, Within, Over, UnitState}
use Rattle.flag_ir.specs.Accesses.{op_accesses}
use Rattle.flag_ir.specs.LessSpecified.{StorageLessSpecified}
use Rattle.flag_ir.specs.Form.{IsFrameless, IsFramelessExit}
use Rattle.private_memory.specs.PrivateArea.{without_private, IsApartAccess, HasPrivateArea}
use Rattle.guards.specs.Guarding.{has_loose_stop}

-- the second storage has the private area, and the fresh temporaries
pub record DiffersByArea (u v : Storage) : Type 0 where
  pub regs : u.regs ≡ v.regs
  pub flags : u.flags ≡ v.flags
  pub temps : (k : ℕ) → k < 1399997 → u.temps k ≡ v.temps k
  pub memory : u.memory ≡ without_private v.memory
  pub left : u.left ≡ v.left
  pub no_frame : u.frames ≡ []
  pub no_frame' : v.frames ≡ []
  pub esp0 : u.esp0 ≡ v.esp0

-- what holds of the second one alone: known bytes are below 256
pub record IsLoweredStorage (v : Storage) : Type 0 where
  pub no_frame : v.frames ≡ []
  pub area : HasPrivateArea v.memory
  pub formed : StorageLessSpecified v v

-- the word where a stop finds its turn
abbrev pub NamesTurn : Memory → ℕ → Type 0
NamesTurn m turn = known (padded (bytes_at m 0x75000004 4)) ≡ Some turn

-- before the block with an index, or at the end to which the first jump came
abbrev pub point_of : Result ℕ End → Point
point_of (Ok k) = Before k
point_of (Err e) = Over e

-- where a block that begins no turn stops, each such block finds the turn named
abbrev pub OwesTurn : List Block → Result ℕ End → Memory → ℕ → Type 0
OwesTurn blocks (Ok k) m turn = has_loose_stop blocks ≡ true → (b : Block) → slice_get blocks k ≡ Some b → b.at ≡ 0 → NamesTurn m turn
OwesTurn blocks (Err e) m turn = Unit {0}

pub record StatePair (u : CodeUnit) : Type 0 where
  pub turn : ℕ
  pub place : Result ℕ End
  pub first : Storage
  pub second : Storage
  pub beside : DiffersByArea first second
  pub kept : IsLoweredStorage second
  pub owes : OwesTurn u.whole place second.memory turn

-- ---- states that make no access to what the program mustn't reach
-- an operation makes none, nor do those behind it; and none needs a frame
abbrev pub AreSafe : ℕ → List Op → Storage → Type 0
AreSafe turn [] v = Unit {0}
AreSafe turn (o ∷ os) v = All (IsApartAccess v.memory) (op_accesses o v) × ((w : Storage) → perform turn o v ≡ Ok w → AreSafe turn os w)

abbrev pub IsSafePoint : ℕ → Point → Storage → Type 0
IsSafePoint turn (Before k) v = Unit {0}
IsSafePoint turn (Within ops e) v = AreSafe turn ops v × All IsFrameless ops × IsFramelessExit e
IsSafePoint turn (Over e) v = Unit {0}

pub record IsSafe (s : UnitState) : Type 0 where
  pub kept : IsLoweredStorage s.storage
  pub point : IsSafePoint s.turn s.point s.storage
