use Rattle.std.proofs.Common.{sym, ◌∙◌}
use Rattle.mem_pages.proofs.pages.Pages.store_each.Goals as goal
use Rattle.mem_pages.proofs.Runs.{kept_range, take_short}

pub put_each-requires-clause-kept : goal.put_each-requires-clause-kept
put_each-requires-clause-kept c = kept_range c.keep_range.result c.args.at _ c.args.size c.args.self.now c.keep_range.new.self (cc) (take_short c.args.size _) (sym c.allows.ensures ∙ c.if-not-allows.false) c.keep_range.ensures.kept
