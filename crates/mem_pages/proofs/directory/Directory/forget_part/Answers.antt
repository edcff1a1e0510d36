use Rattle.std.proofs.Common.{◌/◌, ◌∙◌}
use Rattle.mem_pages.proofs.directory.Directory.forget_part.Goals as goal
use Rattle.mem_pages.proofs.Lifting.{holds, forget_lifted, forget_nothing, keeps_lifted, same_pages_keep}

pub returns-in-Some-clause-places : goal.returns-in-Some-clause-places
returns-in-Some-clause-places c = forget_lifted c.args.self.now _ c.args.start c.args.end c.in-Some.page.now c.forget.new.self c.requires.order c.requires.in_page (holds c.page_mut.result _ _ c.in-Some.is (c.page_mut.follows.holds c.forget.new.self)) c.in-Some.ensures.value c.forget.ensures.places

pub returns-in-Some-clause-keeps : goal.returns-in-Some-clause-keeps
returns-in-Some-clause-keeps c = keeps_lifted c.args.self.now _ (c.args.start / 4096) c.in-Some.page.now c.forget.new.self (holds c.page_mut.result _ _ c.in-Some.is (c.page_mut.follows.holds c.forget.new.self)) c.in-Some.ensures.value (λ k l h. c.forget.ensures.keeps k ∙ h)

pub returns-in-None-clause-places : goal.returns-in-None-clause-places
returns-in-None-clause-places c = forget_nothing c.args.self.now c.page_mut.follows.lender-at-none c.args.start c.args.end c.requires.in_page c.in-None.ensures.value c.page_mut.follows.holds-at-none

pub returns-in-None-clause-keeps : goal.returns-in-None-clause-keeps
returns-in-None-clause-keeps c = same_pages_keep c.args.self.now c.page_mut.follows.lender-at-none c.page_mut.follows.holds-at-none
