use Rattle.unit_machine.proofs.Computing.{sets}
use Rattle.unit_machine.proofs.compute.set.Goals as goal

pub returns : goal.returns
returns c m = sets c.args.values.now c.put.new.self c.args.to m c.args.from c.term-word.result c.term-word.ensures c.in_ok-put.ensures
