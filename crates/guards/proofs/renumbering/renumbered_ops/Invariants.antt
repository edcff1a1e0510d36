use Rattle.std.proofs.Common.{◌≡◌, map, take}
use Rattle.guards.specs.Renumbering.{new_number, renumbered_op}
use Rattle.guards.proofs.renumbering.renumbered_ops.Given as goal

abbrev pub invariant-loop-op : goal.invariant-loop-op
invariant-loop-op l = l.ops.items ≡ map (renumbered_op (new_number l.written.keys)) (take l.op-index l.old)
