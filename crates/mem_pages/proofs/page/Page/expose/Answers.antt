use Rattle.std.proofs.Common.{arith}
use Rattle.mem_pages.proofs.page.Page.expose.Goals as goal
use Rattle.mem_pages.proofs.PageSteps.{exposed, same_kept}

pub returns-then-at-self-clause-places : goal.returns-then-at-self-clause-places
returns-then-at-self-clause-places c k = exposed c.args.self.now c.clear.new.bytes c.args.at k (cc) (omega arith) (c.clear.ensures.places k)

pub returns-then-at-self-clause-keeps : goal.returns-then-at-self-clause-keeps
returns-then-at-self-clause-keeps c k = same_kept c.args.self.now c.clear.new.bytes c.args.at k c.clear.ensures.len
