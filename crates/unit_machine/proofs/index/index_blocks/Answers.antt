use Rattle.std.proofs.Common.{arith}
use Rattle.unit_machine.proofs.Indexing.{indexed_more}
use Rattle.unit_machine.proofs.index.index_blocks.Goals as goal

pub loop-place-preserved : goal.loop-place-preserved
loop-place-preserved c = record { indexed = indexed_more c.args.blocks.now c.loop-place.place _ c.loop-place.index c.add.new.self (omega (arith, c.loop-place-test.true, c.loop-place.auto.place-end)) c.loop-place.invariant.indexed c.in_ok-add.ensures }
