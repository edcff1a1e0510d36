-- The unit of a whole program: a block for each found instruction, with its list and its way. All of this is own.
use Rattle.std.specs.Prelude.{◌≡◌, ◌≢◌, ℕ, ◌⊎◌, false, List, [], slice_get, Contains, Option, Some, None}
use Rattle.flag_ir.specs.declared.variable.Term.{Term}
use Rattle.flag_ir.specs.declared.variable.Term.TheVariants as term
use Rattle.flag_ir.specs.declared.operation.Op.{Op}
use Rattle.flag_ir.specs.declared.block.Block.{Block}
use Rattle.flag_ir.specs.declared.block.Exit.{Exit}
use Rattle.flag_ir.specs.declared.block.Exit.TheVariants as exit
use Rattle.flag_ir.specs.Entering.{CodeUnit, index_of_number, index_at}
use Rattle.plan_types.specs.declared.place.Place.{Place}
use Rattle.plan_types.specs.Contents.{FoundContents}
use Rattle.plan_types.specs.Body.{HasPlace}
use Rattle.lift_core.specs.declared.way.Way.{Way}
use Rattle.lift_core.specs.declared.way.Way.TheVariants as way

-- the list and the way of each place
pub record Lifting : Type 0 where
  pub list : Place → List Op
  pub way : Place → Way

-- ---- blocks of a list of blocks
-- the number of a block with an index
pub record IsNumbered (blocks : List Block) (number k : ℕ) (b : Block) : Type 0 where
  pub index : index_of_number number blocks ≡ Some k
  pub block : slice_get blocks k ≡ Some b

-- a block that only jumps to an old address
pub record OnlyJumps (a : ℕ) (b : Block) : Type 0 where
  pub at : b.at ≡ 0
  pub ops : b.ops ≡ []
  pub exit : b.exit ≡ exit.Jump (term.Word a)

-- ---- ways
-- an exit leads to an old address: by the number of its block, or by a jump
pub record GoesToBlock (blocks : List Block) (e : Exit) (a : ℕ) : Type 0 where
  pub number : ℕ
  pub index : ℕ
  pub goes : e ≡ exit.Go number
  pub numbered : index_of_number number blocks ≡ Some index
  pub there : index_at a blocks ≡ Some index

abbrev pub LeadsTo : List Block → Exit → ℕ → Type 0
LeadsTo blocks e a = GoesToBlock blocks e a ⊎ (e ≡ exit.Jump (term.Word a))

-- a number leads there: it is that of the block of the address, or of one that only jumps there
pub record NumberLeadsTo (blocks : List Block) (number a : ℕ) : Type 0 where
  pub index : ℕ
  pub block : Block
  pub numbered : IsNumbered blocks number index block
  pub leads : (index_at a blocks ≡ Some index) ⊎ OnlyJumps a block

pub record BranchesTo (blocks : List Block) (e : Exit) (test : Term) (a b : ℕ) : Type 0 where
  pub yes : ℕ
  pub no : ℕ
  pub branches : e ≡ exit.Branch test yes no
  pub first : NumberLeadsTo blocks yes a
  pub second : NumberLeadsTo blocks no b

-- a repeat tests its count in the block of its address, and has its list in another
pub record Repeats (blocks : List Block) (ops : List Op) (count again : Term) (here next : ℕ) (b : Block) : Type 0 where
  pub empty : b.ops ≡ []
  pub yes : ℕ
  pub no : ℕ
  pub tests : b.exit ≡ exit.Branch count yes no
  pub done : NumberLeadsTo blocks no next
  pub index : ℕ
  pub body : Block
  pub numbered : IsNumbered blocks yes index body
  pub within : body.at ≡ 0
  pub iteration : body.ops ≡ ops
  pub branches : BranchesTo blocks body.exit again here next

-- the block of an instruction has its list and goes its way
abbrev pub HasWay : List Block → List Op → Way → Block → Type 0
HasWay blocks ops (way.On a) b = (b.ops ≡ ops) × LeadsTo blocks b.exit a
HasWay blocks ops (way.Either test x y) b = (b.ops ≡ ops) × BranchesTo blocks b.exit test x y
HasWay blocks ops (way.Repeat count again x y) b = Repeats blocks ops count again x y b
HasWay blocks ops (way.To target) b = (b.ops ≡ ops) × (b.exit ≡ exit.Jump target)
HasWay blocks ops (way.Back target) b = (b.ops ≡ ops) × (b.exit ≡ exit.Jump target)

-- ---- the unit
-- the block of a place
pub record HasBlock (lifting : Lifting) (blocks : List Block) (p : Place) : Type 0 where
  pub index : ℕ
  pub block : Block
  pub there : index_at p.at blocks ≡ Some index
  pub is : slice_get blocks index ≡ Some block
  pub by : HasWay blocks (lifting.list p) (lifting.way p) block

-- The unit isn't lowered and has no procedures; each found place has a block, and each block with an address is that of a found place.
pub record IsWholeBy (lifting : Lifting) (unit : CodeUnit) (found : FoundContents) : Type 0 where
  pub lowered : unit.lowered ≡ false
  pub procs : unit.procs ≡ []
  pub blocks : (p : Place) → Contains found.code p → HasBlock lifting unit.whole p
  pub places : (b : Block) → Contains unit.whole b → b.at ≢ 0 → HasPlace found b.at
