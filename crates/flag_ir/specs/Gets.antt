-- How the Gets of a procedure meet places of its frame that become variables. All of this is own.
use Rattle.std.specs.Prelude.{◌≡◌, ℕ, ◌⊎◌, ℤ, pos, ◌+ℤ◌, ◌<ℤ◌, List, [], ◌∷◌, ◌++◌, slice_get, All, Contains, Some}
use Rattle.flag_ir.specs.declared.variable.Var.{Var}
use Rattle.flag_ir.specs.declared.variable.Var.TheVariants as var
use Rattle.flag_ir.specs.declared.operation.Op.{Op}
use Rattle.flag_ir.specs.declared.operation.Op.TheVariants as op
use Rattle.flag_ir.specs.declared.block.Block.{Block}
use Rattle.flag_ir.specs.declared.block.Exit.TheVariants as exit
use Rattle.flag_ir.specs.declared.procedure.LocalSlot.{LocalSlot}
use Rattle.flag_ir.specs.declared.procedure.Proc.{Proc}

-- a place of a frame shares a byte with a slot
pub record Overlaps (size : ℕ) (offset : ℤ) (s : LocalSlot) : Type 0 where
  pub starts : offset <ℤ (s.offset +ℤ pos s.size)
  pub ends : s.offset <ℤ (offset +ℤ pos size)

-- an operation of a procedure's block
pub record IsOpOf (p : Proc) (b : Block) (o : Op) : Type 0 where
  pub block : Contains p.blocks b
  pub op : Contains b.ops o

-- each Get that overlaps a slot is of that very slot
abbrev pub GetsFit : List LocalSlot → Proc → Type 0
GetsFit slots p = (b : Block) (to : Var) (size : ℕ) (offset : ℤ) (s : LocalSlot) → IsOpOf p b (op.Get to size offset) → Contains slots s → Overlaps size offset s → (offset ≡ s.offset) × (size ≡ s.size)

-- each Get of a slot puts into the local of that slot
abbrev pub GetsHaveLocals : List LocalSlot → Proc → Type 0
GetsHaveLocals slots p = (b : Block) (to : Var) (size n : ℕ) (offset : ℤ) (s : LocalSlot) → IsOpOf p b (op.Get to size offset) → slice_get slots n ≡ Some s → offset ≡ s.offset → size ≡ s.size → to ≡ var.Local n

-- ---- rows of Gets
abbrev pub IsGet : Op → Type 0
IsGet (op.Get to size offset) = Unit {0}
IsGet _ = ⊥

-- what may change bytes of a frame by an address
abbrev pub IsNear : Op → Type 0
IsNear (op.NearLoad to size at) = Unit {0}
IsNear (op.NearStore size at from) = Unit {0}
IsNear op.NearSystem = Unit {0}
IsNear _ = ⊥

-- the block is entered from another procedure: it is that of the entry, or one to which a call comes back
pub record ComesBack (p : Proc) (b : Block) : Type 0 where
  pub caller : Block
  pub called : Contains p.blocks caller
  pub entry : ℕ
  pub exit : caller.exit ≡ exit.CallProc entry b.number

abbrev pub IsEntered : Proc → Block → Type 0
IsEntered p b = (b.at ≡ p.entry) ⊎ ComesBack p b

-- the operations before a row begin such a block, or end in one of those operations
abbrev pub BeginsRow : Proc → Block → List Op → Type 0
BeginsRow p b [] = IsEntered p b
BeginsRow p b (o ∷ []) = IsNear o
BeginsRow p b (o ∷ n ∷ more) = BeginsRow p b (n ∷ more)

-- a Get stands in an unbroken row of Gets
pub record StandsInRow (p : Proc) (b : Block) (before : List Op) : Type 0 where
  pub first : List Op
  pub row : List Op
  pub split : before ≡ first ++ row
  pub gets : All IsGet row
  pub begins : BeginsRow p b first

-- each Get of a slot does
abbrev pub GetsStandInRows : List LocalSlot → Proc → Type 0
GetsStandInRows slots p =
    (b : Block) (before after : List Op) (to : Var) (size : ℕ) (offset : ℤ) (s : LocalSlot) → Contains p.blocks b → b.ops ≡ before ++ op.Get to size offset ∷ after → Contains slots s → offset ≡ s.offset → size ≡ s.size → StandsInRow p b before

-- the variables of a procedure are loaded where its frame may have changed, and only there
pub record CarriesVariables (slots : List LocalSlot) (p : Proc) : Type 0 where
  pub locals : GetsHaveLocals slots p
  pub rows : GetsStandInRows slots p
