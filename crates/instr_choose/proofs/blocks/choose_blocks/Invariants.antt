use Rattle.std.proofs.Common.{◌≡◌, All, take}
use Rattle.instr_choose.specs.Blocks.{choose_blocks}
use Rattle.instr_choose.specs.Words.{BlockFits}
use Rattle.instr_choose.proofs.blocks.choose_blocks.Given as goal

abbrev pub invariant-loop-block : goal.invariant-loop-block
invariant-loop-block l = record { blocks : l.blocks.items ≡ choose_blocks (take l.block-index l.unit); words : All BlockFits (take l.block-index l.unit) }
