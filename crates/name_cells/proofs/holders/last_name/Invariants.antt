use Rattle.std.proofs.Common.{◌≡◌, fold, take, None}
use Rattle.name_cells.specs.Holders.{name_or}
use Rattle.name_cells.proofs.holders.last_name.Given as goal

abbrev pub invariant-loop-slot : goal.invariant-loop-slot
invariant-loop-slot l = l.last ≡ fold name_or None (take l.slot-index l.slots)
