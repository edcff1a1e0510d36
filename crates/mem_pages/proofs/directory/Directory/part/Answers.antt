use Rattle.mem_pages.proofs.directory.Directory.part.Goals as goal
use Rattle.mem_pages.proofs.Lifting.{shows_part}

pub returns-in-Some : goal.returns-in-Some
returns-in-Some c = shows_part c.part.result (λ x. x.now) c.args.self.now c.args.at c.args.count c.in-Some.page.now c.requires c.in-Some.ensures c.part.ensures
