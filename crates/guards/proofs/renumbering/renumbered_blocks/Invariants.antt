use Rattle.std.proofs.Common.{◌≡◌, map, take}
use Rattle.guards.specs.Renumbering.{renumbered_block}
use Rattle.guards.proofs.renumbering.renumbered_blocks.Given as goal

abbrev pub invariant-loop-block : goal.invariant-loop-block
invariant-loop-block l = l.new.items ≡ map renumbered_block (take l.block-index l.blocks)
