use Rattle.std.proofs.Common.{◌∙◌}
use Rattle.mem_pages.proofs.directory.Directory.page.Goals as goal
use Rattle.mem_pages.proofs.Tables.{page_found, no_page_found}

pub returns-in-Some : goal.returns-in-Some
returns-in-Some c = c.page.ensures ∙ page_found c.args.self.now c.args.number c.in-Some.table.now c.in-Some.ensures

pub returns-in-None : goal.returns-in-None
returns-in-None c = no_page_found c.args.self.now c.args.number c.in-None.ensures
