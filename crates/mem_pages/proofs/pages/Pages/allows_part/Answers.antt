use Rattle.mem_pages.proofs.pages.Pages.allows_part.Goals as goal
use Rattle.mem_pages.specs.Page.{kind_of_access}
use Rattle.mem_pages.proofs.Shown.{judged_in}

pub returns : goal.returns
returns c = judged_in c.allows.result (kind_of_access c.args.store) c.args.self.now c.args.at c.args.count c.allows.ensures
