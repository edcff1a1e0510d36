use Rattle.std.proofs.Common.{◌≡◌, ◌++◌, take}
use Rattle.guards.specs.Guarding.{guarded_ops}
use Rattle.guards.proofs.operations.guarded_ops.Given as goal

abbrev pub invariant-loop-op : goal.invariant-loop-op
invariant-loop-op l = l.ops.items ≡ l.fn.ops.items ++ guarded_ops (take l.op-index l.old)
