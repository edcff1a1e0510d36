use Rattle.std.proofs.Common.{arith, sym, ◌∙◌}
use Rattle.mem_pages.proofs.page.Page.part.Goals as goal
use Rattle.mem_pages.proofs.PageSteps.{shows_part}

pub returns : goal.returns
returns c = rw c.deref.ensures.value (shows_part c.args.self.now c.args.at c.args.count (omega arith) c.requires (sym c.hides.ensures ∙ c.if-hides.false))
