-- Well shaped units: no turn goes on for ever without a mark, and frames hold what is put there. All of this is own.
use Rattle.std.specs.Prelude.{◌≡◌, ◌≢◌, ℕ, ◌+◌, ◌*◌, ◌<◌, ◌≤◌, ℤ, pos, neg_ℤ, ◌+ℤ◌, ◌≤ℤ◌, List, [], ◌∷◌, map, length, slice_get, sum_by, All, Contains, Option, Some, None}
use Rattle.flag_ir.specs.declared.operation.Op.{Op}
use Rattle.flag_ir.specs.declared.operation.Op.TheVariants as op
use Rattle.flag_ir.specs.declared.block.Block.{Block}
use Rattle.flag_ir.specs.declared.block.Exit.{Exit}
use Rattle.flag_ir.specs.declared.block.Exit.TheVariants as exit
use Rattle.flag_ir.specs.declared.procedure.Proc.{Proc}
use Rattle.flag_ir.specs.Entering.{CodeUnit, index_of_number}
use Rattle.flag_ir.specs.Form.{IsFramelessBlock}

-- ---- parts: the whole part, where no procedure is given, or that of a procedure of the unit
abbrev pub Part : Type 0
Part = Option Proc

abbrev pub IsPart : CodeUnit → Part → Type 0
IsPart unit None = Unit {0}
IsPart unit (Some p) = Contains unit.procs p

abbrev pub part_blocks : CodeUnit → Part → List Block
part_blocks unit None = unit.whole
part_blocks unit (Some p) = p.blocks

-- ---- how a turn goes on from a block
-- the numbers of the blocks of its part to which an exit goes
abbrev pub named_by : Exit → List ℕ
named_by (exit.Go n) = n ∷ []
named_by (exit.Branch test m n) = m ∷ n ∷ []
named_by _ = []

-- the block with an index in a part
abbrev pub IsBlock : CodeUnit → Part → ℕ → Block → Type 0
IsBlock unit part k b = IsPart unit part × (slice_get (part_blocks unit part) k ≡ Some b)

-- a block goes on by its exit to one of its part
pub record GoesTo (unit : CodeUnit) (part : Part) (k : ℕ) (b : Block) (j : ℕ) (d : Block) : Type 0 where
  pub from : IsBlock unit part k b
  pub to : IsBlock unit part j d
  pub number : ℕ
  pub named : Contains (named_by b.exit) number
  pub there : index_of_number number (part_blocks unit part) ≡ Some j

-- a block of a procedure goes on by its exit Return behind a call of that procedure, in the caller's part
pub record ReturnsTo (unit : CodeUnit) (p : Proc) (k : ℕ) (b : Block) (part : Part) (j : ℕ) (d : Block) : Type 0 where
  pub from : IsBlock unit (Some p) k b
  pub to : IsBlock unit part j d
  pub returns : b.exit ≡ exit.Return
  pub call : ℕ
  pub caller : Block
  pub calls : IsBlock unit part call caller
  pub back : ℕ
  pub names : caller.exit ≡ exit.CallProc p.entry back
  pub there : index_of_number back (part_blocks unit part) ≡ Some j

-- ---- frames
-- an offset with a size lies in the frame of a procedure
pub record IsInFrame (p : Proc) (size : ℕ) (offset : ℤ) : Type 0 where
  pub low : neg_ℤ (pos p.depth) ≤ℤ offset
  pub high : (offset +ℤ pos size) ≤ℤ pos (4 + 4 * p.args)

abbrev pub StaysInFrame : Proc → Op → Type 0
StaysInFrame p (op.Get to size offset) = IsInFrame p size offset
StaysInFrame p (op.Put size offset from) = IsInFrame p size offset
StaysInFrame p _ = Unit {0}

pub record IsWellShapedProc (p : Proc) : Type 0 where
  pub entry : p.entry ≢ 0
  pub depth : p.depth ≤ 1048576
  pub args : p.args ≤ 16
  pub few : length p.locals ≤ 1024
  pub small : sum_by (λ s. s.size) p.locals ≤ p.depth + 4 + 4 * p.args + 256
  pub first : Contains (map (λ b. b.at) p.blocks) p.entry
  pub frame : (b : Block) → Contains p.blocks b → All (StaysInFrame p) b.ops

-- no two procedures have one entry
abbrev pub AreApart : List Proc → Type 0
AreApart procs = (i j : ℕ) (p q : Proc) → slice_get procs i ≡ Some p → slice_get procs j ≡ Some q → p.entry ≡ q.entry → i ≡ j

pub record IsWellShaped (unit : CodeUnit) : Type 0 where
  pub whole : All IsFramelessBlock unit.whole
  -- a block with address 0 goes on to a later one of its part, or to one with another address
  pub onward : (part : Part) (k : ℕ) (b : Block) (j : ℕ) (d : Block) → GoesTo unit part k b j d → b.at ≡ 0 → d.at ≡ 0 → k < j
  pub return : (p : Proc) (k : ℕ) (b : Block) (part : Part) (j : ℕ) (d : Block) → ReturnsTo unit p k b part j d → b.at ≡ 0 → d.at ≡ 0 → (part ≡ Some p) × (k < j)
  pub procs : (p : Proc) → Contains unit.procs p → IsWellShapedProc p
  pub apart : AreApart unit.procs
