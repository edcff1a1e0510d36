use Rattle.std.proofs.Common.{arith, sym, ◌∙◌, length}
use Rattle.mem_pages.proofs.pages.Pages.fill.Goals as goal
use Rattle.mem_pages.proofs.Runs.{kept_range}

pub put_known-requires-clause-kept : goal.put_known-requires-clause-kept
put_known-requires-clause-kept c = kept_range c.keep_range.result c.args.at (length c.args.bytes.now) (length c.args.bytes.now) c.args.self.now c.keep_range.new.self (cc) (omega arith) (sym c.allows.ensures ∙ c.if-not-allows.false) c.keep_range.ensures.kept
