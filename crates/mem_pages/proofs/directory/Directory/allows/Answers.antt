use Rattle.mem_pages.proofs.directory.Directory.allows.Goals as goal
use Rattle.mem_pages.specs.Page.{kind_of_access}
use Rattle.mem_pages.proofs.Lifting.{judged_there, judged_nowhere}

pub returns-in-Some : goal.returns-in-Some
returns-in-Some c = judged_there c.allows.result (kind_of_access c.args.store) c.args.self.now c.args.at c.args.count c.in-Some.page.now c.requires.in_page c.in-Some.ensures c.allows.ensures

pub returns-in-None : goal.returns-in-None
returns-in-None c = judged_nowhere (kind_of_access c.args.store) c.args.self.now c.args.at c.args.count c.requires.some c.in-None.ensures
