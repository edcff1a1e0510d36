use Rattle.std.proofs.Common.{◌∙◌, ◌/◌, sym, refl, Some, None}
use Rattle.mem_pages.proofs.directory.Directory.is_kept.Goals as goal
use Rattle.mem_pages.proofs.Lifting.{keeps_on}

pub returns-in-Some : goal.returns-in-Some
returns-in-Some c = c.is_kept.ensures ∙ sym (keeps_on c.args.self.now c.args.at (c.args.at / 4096) (Some c.in-Some.page.now) c.in-Some.ensures refl)

pub returns-in-None : goal.returns-in-None
returns-in-None c = sym (keeps_on c.args.self.now c.args.at (c.args.at / 4096) None c.in-None.ensures refl)
