use Rattle.std.proofs.Common.{arith}
use Rattle.std.proofs.lemmas.List.{length-drop}
use Rattle.linear_sweep.specs.Sweep.{counted_bytes}
use Rattle.linear_sweep.proofs.Steps.{grows_left, so_far_next, so_far_whole}
use Rattle.linear_sweep.proofs.linear.sweep.Goals as goal

pub loop-seen-preserved : goal.loop-seen-preserved
loop-seen-preserved c =
    let bytes = c.args.bytes.now in
    let seen = c.loop-seen.seen in
    let before = c.loop-seen.invariant in
    let g = grows_left bytes c.all-in-loop-seen.result seen c.more-seen.result c.all-in-loop-seen.ensures c.more-seen.ensures in
    (omega (arith, g.within, length-drop (counted_bytes seen) bytes, before.0), g.few, so_far_next bytes seen c.more-seen.result (omega (arith, c.loop-seen-test.true, c.all.ensures)) g before.2)

pub returns-clause-swept : goal.returns-clause-swept
returns-clause-swept c = so_far_whole c.args.bytes.now c.loop-seen.seen (omega (arith, c.loop-seen-test.false, c.all.ensures)) c.loop-seen.invariant.2
