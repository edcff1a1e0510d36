use Rattle.std.proofs.Common.{◌≡◌, drop}
use Rattle.guards.specs.Guarding.{has_loose_stop}
use Rattle.guards.proofs.units.has_loose_stop.Given as goal

abbrev pub invariant-loop-block : goal.invariant-loop-block
invariant-loop-block l = has_loose_stop l.blocks ≡ has_loose_stop (drop l.block-index l.blocks)
