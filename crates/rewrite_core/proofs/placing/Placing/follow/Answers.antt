use Rattle.rewrite_core.proofs.Followings.{following_none, following_more, followed}
use Rattle.rewrite_core.proofs.placing.Placing.follow.Goals as goal

pub run-init : goal.run-init
run-init c = following_none c.args.page.now c.args.self.now c.args.from c.requires.opened

pub run-preserved : goal.run-preserved
run-preserved c = following_more c.args.page.now c.args.self.now c.run.self c.place.new.self c.args.from c.run.at c.in-On.next c.run.invariant (rw c.in-On.is at c.in_ok-next.ensures)

pub returns-in-Done : goal.returns-in-Done
returns-in-Done c = followed c.args.page.now c.args.self.now c.run.self c.place.new.self c.args.from c.run.at c.run.invariant (rw c.in-Done.is at c.in_ok-next.ensures)
