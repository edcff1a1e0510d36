use Rattle.std.proofs.Common.{arith, sym, ◌∙◌, ◌≡◌}
use Rattle.mem_pages.proofs.page.Page.word.Goals as goal
use Rattle.mem_pages.proofs.WithinPage.{word_one, word_two, word_four}

pub returns-then-size-eq1-clause-word : goal.returns-then-size-eq1-clause-word
returns-then-size-eq1-clause-word c = word_one c.args.self.now c.args.hidden c.args.at c.args.size _ c.if-size-eq1.true (sym c.is_plain.ensures ∙ c.if-not-is_plain.false) c.requires.in_page c.index-b0.ensures

pub returns-then-size-eq2-clause-word : goal.returns-then-size-eq2-clause-word
returns-then-size-eq2-clause-word c = word_two c.args.self.now c.args.hidden c.args.at c.args.size _ _ c.if-size-eq2.true (sym c.is_plain.ensures ∙ c.if-not-is_plain.false) c.requires.in_page c.index-b0.ensures c.index-b1.ensures

pub returns-clause-word : goal.returns-clause-word
returns-clause-word c = let e : c.args.size ≡ 4 = grind arith in word_four c.args.self.now c.args.hidden c.args.at c.args.size _ _ _ _ e (sym c.is_plain.ensures ∙ c.if-not-is_plain.false) c.requires.in_page c.index-b0.ensures c.index-b1.ensures c.index.ensures c.index-2.ensures
