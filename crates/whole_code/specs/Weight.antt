-- What a turn of the unit of a whole program takes: the longest list has 48 operations, and with its exit, the test of a repeat and a
-- jump behind it 51 steps are the most. All of this is own.
use Rattle.std.specs.Prelude.{ℕ, ◌+◌, ◌≤◌, length, slice_get, All, Option, Some, None}
use Rattle.flag_ir.specs.declared.block.Block.{Block}
use Rattle.flag_ir.specs.declared.block.Exit.{Exit}
use Rattle.flag_ir.specs.declared.block.Exit.TheVariants as exit
use Rattle.flag_ir.specs.Entering.{CodeUnit}
use Rattle.flag_ir.specs.Shape.{Part, part_blocks}
use Rattle.flag_ir.specs.Costs.{one_each, block_cost}

abbrev pub longest_list : ℕ
longest_list = 48

-- no block has more operations, also none of those without an address
abbrev pub HasShortLists : CodeUnit → Type 0
HasShortLists unit = All (λ (b : Block). length b.ops ≤ longest_list) unit.whole

abbrev pub whole_weight : ℕ
whole_weight = 51

-- what comes behind a block without an address: where it branches, a block that only jumps
abbrev pub cost_behind : Exit → ℕ
cost_behind (exit.Branch test m n) = 1
cost_behind _ = 0

abbrev pub rest_at : Option Block → ℕ
rest_at None = 0
rest_at (Some b) = block_cost one_each b + cost_behind b.exit

abbrev pub rest_of : CodeUnit → Part → ℕ → ℕ
rest_of unit part k = rest_at (slice_get (part_blocks unit part) k)
