use Rattle.unit_machine.proofs.Computing.{forgets}
use Rattle.unit_machine.proofs.compute.forget.Goals as goal

pub returns : goal.returns
returns c m = forgets c.args.values.now c.put.new.self c.args.to m c.no_word.result c.no_word.ensures c.in_ok-put.ensures
