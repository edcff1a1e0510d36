use Rattle.std.proofs.Common.{arith, ◌≡◌, ◌+◌, ◌∙◌}
use Rattle.mem_pages.proofs.page.Page.set_word.Goals as goal
use Rattle.mem_pages.proofs.StoredWord.{stores_one, stores_two, stores_four, with_put, kept_put}

pub returns-then-size-eq1-clause-places : goal.returns-then-size-eq1-clause-places
returns-then-size-eq1-clause-places c = stores_one c.args.self.now c.args.at c.args.size c.args.word c.if-size-eq1.true c.requires.in_page c.requires.plain

pub returns-then-size-eq1-clause-keeps : goal.returns-then-size-eq1-clause-keeps
returns-then-size-eq1-clause-keeps c k = kept_put c.args.self.now c.args.at k c.args.word.b0

pub returns-then-size-eq2-clause-places : goal.returns-then-size-eq2-clause-places
returns-then-size-eq2-clause-places c = stores_two c.args.self.now c.args.at c.args.size c.args.word c.if-size-eq2.true c.requires.in_page c.requires.plain

pub returns-then-size-eq2-clause-keeps : goal.returns-then-size-eq2-clause-keeps
returns-then-size-eq2-clause-keeps c k = kept_put (with_put c.args.self.now c.args.at c.args.word.b0) (c.args.at + 1) k c.args.word.b1 ∙ kept_put c.args.self.now c.args.at k c.args.word.b0

pub returns-clause-places : goal.returns-clause-places
returns-clause-places c = let e : c.args.size ≡ 4 = grind arith in stores_four c.args.self.now c.args.at c.args.size c.args.word e c.requires.in_page c.requires.plain

pub returns-clause-keeps : goal.returns-clause-keeps
returns-clause-keeps c k =
    let g = with_put c.args.self.now c.args.at c.args.word.b0 in
    let h = with_put g (c.args.at + 1) c.args.word.b1 in
    kept_put (with_put h (c.args.at + 2) c.args.word.b2) (c.args.at + 3) k c.args.word.b3 ∙ kept_put h (c.args.at + 2) k c.args.word.b2 ∙ kept_put g (c.args.at + 1) k c.args.word.b1 ∙ kept_put c.args.self.now c.args.at k c.args.word.b0
