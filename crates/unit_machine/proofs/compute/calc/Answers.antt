use Rattle.unit_machine.proofs.Computing.{calculates}
use Rattle.unit_machine.proofs.compute.calc.Goals as goal

pub returns : goal.returns
returns c m = calculates c.args.values.now c.put.new.self c.args.to m c.args.calc c.args.left c.args.right c.term.result c.term-2.result c.calculate-word.result c.term.ensures c.term-2.ensures c.calculate-word.ensures c.in_ok-put.ensures
