use Rattle.std.proofs.Common.{ap, ◌∙◌, subst, arith}
use Rattle.instr_choose.specs.Blocks.{choose_block}
use Rattle.instr_choose.specs.Words.{BlockFits}
use Rattle.instr_choose.proofs.Growing.{choose_blocks_more, all_more}
use Rattle.instr_choose.proofs.blocks.choose_blocks.Goals as goal

pub loop-block-preserved : goal.loop-block-preserved
loop-block-preserved c = record {
  blocks = choose_blocks_more c.args.unit.now c.loop-block.block-index _ c.loop-block.blocks.items _ _ (omega arith) c.loop-block.invariant.blocks (c.in_ok-choose_block.ensures.block ∙ ap choose_block c.block-item.is) c.in_ok-push.ensures.items;
  words = all_more BlockFits c.args.unit.now c.loop-block.block-index _ (omega arith) c.loop-block.invariant.words (subst BlockFits c.block-item.is c.in_ok-choose_block.ensures.words);
}
