use Rattle.std.proofs.Common.{arith, refl}
use Rattle.mem_pages.proofs.page.Page.forget.Goals as goal
use Rattle.mem_pages.proofs.PageSteps.{forgets_off_stack, forgets_by_clearing, forgets_by_low, forgets_already, same_kept}

pub returns-then-not-is_stack-clause-places : goal.returns-then-not-is_stack-clause-places
returns-then-not-is_stack-clause-places c k = forgets_off_stack c.args.self.now c.args.start c.args.end k (cc)

pub returns-then-self-start-clause-places : goal.returns-then-self-start-clause-places
returns-then-self-start-clause-places c k = forgets_by_clearing c.args.self.now c.clear.new.bytes c.args.start c.args.end k (cc) (c.clear.ensures.places k)

pub returns-then-self-start-clause-keeps : goal.returns-then-self-start-clause-keeps
returns-then-self-start-clause-keeps c k = same_kept c.args.self.now c.clear.new.bytes c.args.self.now.low k c.clear.ensures.len

pub returns-then-self-end-clause-places : goal.returns-then-self-end-clause-places
returns-then-self-end-clause-places c k = forgets_by_low c.args.self.now c.args.start c.args.end k (cc) (omega arith) (omega arith)

pub returns-then-self-end-clause-keeps : goal.returns-then-self-end-clause-keeps
returns-then-self-end-clause-keeps c k = same_kept c.args.self.now c.args.self.now.bytes c.args.end k refl

pub returns-else-self-end-clause-places : goal.returns-else-self-end-clause-places
returns-else-self-end-clause-places c k = forgets_already c.args.self.now c.args.start c.args.end k (cc) (omega arith) (omega arith)
