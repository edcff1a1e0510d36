use Rattle.unit_machine.proofs.Computing.{picks}
use Rattle.unit_machine.proofs.compute.pick.Goals as goal

pub returns : goal.returns
returns c m = picks c.args.values.now c.put.new.self c.args.to m c.args.test c.args.yes c.args.no c.term.result c.term-2.result c.term-3.result c.picked-word.result c.known-test.result c.term.ensures c.term-2.ensures c.term-3.ensures c.known-test.ensures c.picked-word.ensures c.in_ok-put.ensures
