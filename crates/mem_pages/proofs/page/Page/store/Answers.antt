use Rattle.std.proofs.Common.{sym, ◌∙◌}
use Rattle.mem_pages.proofs.page.Page.store.Goals as goal
use Rattle.mem_pages.proofs.StoredWord.{can_be_stored}

pub returns-clause-allowed : goal.returns-clause-allowed
returns-clause-allowed c e k l = can_be_stored c.args.self.now c.args.hidden c.args.at c.args.size k (sym c.is_plain.ensures ∙ c.if-not-is_plain.false) (c.if-not-self.false) l
