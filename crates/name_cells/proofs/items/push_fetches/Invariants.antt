use Rattle.std.proofs.Common.{◌≡◌, ◌++◌, flat_map, take}
use Rattle.name_cells.specs.Placing.{fetch_slot}
use Rattle.name_cells.proofs.items.push_fetches.Given as goal

abbrev pub invariant-loop-slot : goal.invariant-loop-slot
invariant-loop-slot l = l.items.items ≡ l.initial.items.items ++ flat_map (fetch_slot l.byte l.last) (take l.slot-index l.slots)
