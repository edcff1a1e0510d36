use Rattle.std.proofs.Common.{arith}
use Rattle.instr_choose.specs.Words.{OpFits}
use Rattle.instr_choose.proofs.Growing.{choose_ops_more, all_more}
use Rattle.instr_choose.proofs.blocks.choose_ops.Goals as goal

pub loop-op-preserved : goal.loop-op-preserved
loop-op-preserved c = record {
  list = choose_ops_more c.args.ops.now c.loop-op.op-index _ c.loop-op.code.items _ (omega arith) c.loop-op.invariant.list c.in_ok-choose_op.ensures.list;
  words = all_more OpFits c.args.ops.now c.loop-op.op-index _ (omega arith) c.loop-op.invariant.words c.in_ok-choose_op.ensures.words;
}
