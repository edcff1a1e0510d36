use Rattle.std.proofs.Common.{◌≡◌, take}
use Rattle.flag_ir.proofs.copies.copy_locals.Given as goal

abbrev pub invariant-loop-slot : goal.invariant-loop-slot
invariant-loop-slot l = l.copy.items ≡ take l.slot-index l.slots
