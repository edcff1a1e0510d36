use Rattle.std.proofs.Common.{arith, refl}
use Rattle.mem_pages.proofs.pages.Pages.forget.Goals as goal
use Rattle.mem_pages.proofs.Shown.{forgets_between, forgets_nothing, keeps_pages}
use Rattle.mem_pages.proofs.Swept.{quiet_forgotten}

pub returns-then-start-end-clause-forgets : goal.returns-then-start-end-clause-forgets
returns-then-start-end-clause-forgets c = forgets_between c.args.self.now _ c.args.start c.args.end refl c.forget.ensures.places

pub returns-then-start-end-clause-keeps : goal.returns-then-start-end-clause-keeps
returns-then-start-end-clause-keeps c = keeps_pages c.args.self.now _ c.forget.ensures.keeps

pub returns-else-start-end-clause-forgets : goal.returns-else-start-end-clause-forgets
returns-else-start-end-clause-forgets c = forgets_nothing c.args.self.now c.args.start c.args.end (omega arith)

pub invariant_of-self : goal.invariant_of-self
invariant_of-self c = record { quiet = quiet_forgotten c.args.self.now.exposed c.args.self.now.directory c.forget.new.self c.args.start c.args.end c.forget.ensures.places c.args.self.now.quiet }
