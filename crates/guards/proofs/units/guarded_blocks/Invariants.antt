use Rattle.std.proofs.Common.{◌≡◌, map, take}
use Rattle.guards.specs.Guarding.{guarded_block, AreAddresses}
use Rattle.guards.proofs.units.guarded_blocks.Given as goal

abbrev pub invariant-loop-block : goal.invariant-loop-block
invariant-loop-block l = record { guarded : l.new.items ≡ map (guarded_block l.loose) (take l.block-index l.blocks); addresses : AreAddresses l.new.items }
