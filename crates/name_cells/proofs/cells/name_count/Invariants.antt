use Rattle.std.proofs.Common.{◌≡◌, ◌≤◌, fold, take}
use Rattle.name_cells.specs.Cells.{counted_block}
use Rattle.name_cells.proofs.cells.name_count.Given as goal

abbrev pub invariant-loop-block : goal.invariant-loop-block
invariant-loop-block l = (l.total ≡ fold counted_block 0 (take l.block-index l.blocks)) × (l.total ≤ 1540095)
