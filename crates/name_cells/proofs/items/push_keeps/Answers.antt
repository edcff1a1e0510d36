use Rattle.std.proofs.Common.{arith}
use Rattle.name_cells.specs.Placing.{keep_slot}
use Rattle.name_cells.proofs.Growing.{flat_more_behind}
use Rattle.name_cells.proofs.items.push_keeps.Goals as goal

pub loop-slot-preserved : goal.loop-slot-preserved
loop-slot-preserved c = flat_more_behind (keep_slot c.args.byte c.args.last) _ c.args.slots.now c.loop-slot.slot-index _ c.loop-slot.items.items _ (omega arith) c.loop-slot.invariant c.in_ok-push_keep.ensures
