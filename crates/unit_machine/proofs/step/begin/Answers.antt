use Rattle.unit_machine.proofs.Moving.{begins_turn, begins_no_turn}
use Rattle.unit_machine.proofs.step.begin.Goals as goal

pub returns-then-block-ne0 : goal.returns-then-block-ne0
returns-then-block-ne0 c = begins_turn c.args.block.now c.args.at.now c.begin.new.self c.if-at-eq0.true c.begin.ensures c.if-block-ne0.true

pub returns-else-block-ne0 : goal.returns-else-block-ne0
returns-else-block-ne0 c = begins_no_turn c.args.block.now c.args.at.now c.begin.new.self c.if-at-eq0.true c.begin.ensures c.if-block-ne0.false
