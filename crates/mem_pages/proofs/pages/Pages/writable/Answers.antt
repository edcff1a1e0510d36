use Rattle.std.proofs.Common.{◌∙◌}
use Rattle.mem_pages.proofs.pages.Pages.writable.Goals as goal
use Rattle.mem_pages.proofs.Shown.{writable_in}

pub returns : goal.returns
returns c = c.writable.ensures ∙ writable_in c.args.self.now c.args.at
