use Rattle.std.proofs.Common.{sym, ◌∙◌}
use Rattle.mem_pages.proofs.pages.Pages.store_opened.Goals as goal
use Rattle.mem_pages.proofs.Shown.{there_is_kept}

pub open-requires : goal.open-requires
open-requires c = record { kept = there_is_kept c.args.self.now c.args.at (sym c.is_kept.ensures ∙ c.if-not-is_kept.false) }
