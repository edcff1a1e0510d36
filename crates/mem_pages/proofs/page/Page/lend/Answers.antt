use Rattle.std.proofs.Common.{refl}
use Rattle.mem_pages.proofs.page.Page.lend.Goals as goal
use Rattle.mem_pages.proofs.PageSteps.{shows_part}

pub returns : goal.returns
returns c = ((refl, λ w. refl), record { writes_back = tt; shown = rw c.slice_mut.ensures.value (shows_part c.args.self.now c.args.at c.args.count c.requires.open.0 c.requires.in_page c.requires.open.1) })
