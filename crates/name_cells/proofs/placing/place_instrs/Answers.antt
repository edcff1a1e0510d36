use Rattle.std.proofs.Common.{arith}
use Rattle.name_cells.proofs.Growing.{instrs_more}
use Rattle.name_cells.proofs.placing.place_instrs.Goals as goal

pub loop-instr-preserved : goal.loop-instr-preserved
loop-instr-preserved c = instrs_more c.args.spare c.args.instrs.now c.loop-instr.instr-index c.instr-item.result c.instr-item.result c.loop-instr.items.items _ (omega arith) c.loop-instr.invariant c.instr-item.is c.in_ok-push_instr.ensures
