use Rattle.std.proofs.Common.{arith}
use Rattle.std.proofs.lemmas.Bool.Decides.{nat_tests}
use Rattle.guards.proofs.Numbering.{written_more}
use Rattle.guards.proofs.renumbering.written_temps.Goals as goal

pub loop-op-preserved : goal.loop-op-preserved
loop-op-preserved c = written_more c.args.ops.now c.loop-op.op-index _ c.loop-op.written.keys c.add_temps.new.written.keys (grind (arith, nat_tests, c.loop-op-test.true)) c.loop-op.invariant c.in_ok-add_temps.ensures
