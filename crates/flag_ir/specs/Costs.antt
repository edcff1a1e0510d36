-- What the turns of a unit cost, computed over its blocks. All of this is own.
use Rattle.std.specs.Prelude.{◌≡◌, ℕ, ◌+◌, ◌≤◌, ◌==◌, cond, List, [], ◌∷◌, slice_get, Option, Some, None}
use Rattle.flag_ir.specs.declared.operation.Op.{Op}
use Rattle.flag_ir.specs.declared.block.Block.{Block}
use Rattle.flag_ir.specs.declared.block.Exit.{Exit}
use Rattle.flag_ir.specs.declared.procedure.Proc.{Proc}
use Rattle.flag_ir.specs.Entering.{CodeUnit, blocks_of}
use Rattle.flag_ir.specs.UnitRun.{Point, Before, Within, Over, UnitState}
use Rattle.flag_ir.specs.Shape.{Part, IsBlock, GoesTo, ReturnsTo}

-- what each operation and each exit costs
pub record Costing : Type 0 where
  pub op : Op → ℕ
  pub exit : Exit → ℕ

-- one step each: by this the cost of a turn is its weight
abbrev pub one_each : Costing
one_each = record { op = λ o. 1; exit = λ e. 1 }

-- what operations and an exit behind them cost, and what a block does
unfoldable pub list_cost : Costing → List Op → Exit → ℕ
list_cost c [] e = c.exit e
list_cost c (o ∷ os) e = c.op o + list_cost c os e

abbrev pub block_cost : Costing → Block → ℕ
block_cost c b = list_cost c b.ops b.exit

-- ---- the cost of a step
abbrev pub first_cost : Costing → List Op → Exit → ℕ
first_cost c [] e = c.exit e
first_cost c (o ∷ os) e = c.op o

abbrev pub entry_cost : Costing → Option Block → ℕ
entry_cost c None = 0
entry_cost c (Some b) = first_cost c b.ops b.exit

abbrev pub cost_at : Costing → CodeUnit → Point → UnitState → ℕ
cost_at c unit (Before k) s = entry_cost c (slice_get (blocks_of unit s.storage.frames) k)
cost_at c unit (Within ops e) s = first_cost c ops e
cost_at c unit (Over e) s = 0

abbrev pub step_cost : Costing → CodeUnit → UnitState → ℕ
step_cost c unit s = cost_at c unit s.point s

-- ---- the cost of turns
-- from the beginning of a block a turn may cost: w in all where the block begins it, and else what is given for that block
abbrev pub allowed : ℕ → (Part → ℕ → ℕ) → Part → ℕ → Block → ℕ
allowed w rest part k b = cond (b.at == 0) (rest part k) w

-- Each turn costs at most w, where what is given for the blocks with address 0 is enough for each way on from there.
pub record BoundsTurns (c : Costing) (w : ℕ) (rest : Part → ℕ → ℕ) (unit : CodeUnit) : Type 0 where
  pub block : (part : Part) (k : ℕ) (b : Block) → IsBlock unit part k b → block_cost c b ≤ allowed w rest part k b
  pub onward : (part : Part) (k : ℕ) (b : Block) (j : ℕ) (d : Block) → GoesTo unit part k b j d → d.at ≡ 0 → block_cost c b + rest part j ≤ allowed w rest part k b
  pub return : (p : Proc) (k : ℕ) (b : Block) (part : Part) (j : ℕ) (d : Block) → ReturnsTo unit p k b part j d → d.at ≡ 0 → block_cost c b + rest part j ≤ allowed w rest (Some p) k b
