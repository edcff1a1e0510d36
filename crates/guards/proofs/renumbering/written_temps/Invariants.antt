use Rattle.std.proofs.Common.{◌≡◌, take}
use Rattle.guards.specs.Renumbering.{written_temps}
use Rattle.guards.proofs.renumbering.written_temps.Given as goal

abbrev pub invariant-loop-op : goal.invariant-loop-op
invariant-loop-op l = l.written.keys ≡ written_temps (take l.op-index l.ops)
