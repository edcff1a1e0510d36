use Rattle.std.proofs.Common.{◌≡◌, ◌≤◌, fold, take}
use Rattle.name_cells.specs.Cells.{counted_slot}
use Rattle.name_cells.proofs.cells.counted_slots.Given as goal

abbrev pub invariant-loop-slot : goal.invariant-loop-slot
invariant-loop-slot l = (l.total ≡ fold counted_slot l.count (take l.slot-index l.slots)) × (l.total ≤ 1540095)
