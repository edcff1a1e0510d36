use Rattle.std.proofs.Common.{◌/◌, ◌∙◌}
use Rattle.mem_pages.proofs.directory.Directory.put.Goals as goal
use Rattle.mem_pages.proofs.Lifting.{holds, put_lifted, keeps_lifted, kept_there, not_kept_there}

pub put-requires-clause-kept : goal.put-requires-clause-kept
put-requires-clause-kept c = kept_there c.args.self.now c.args.at c.in-Some.page.now c.in-Some.ensures.value c.requires

pub returns-in-Some-clause-places : goal.returns-in-Some-clause-places
returns-in-Some-clause-places c = put_lifted c.args.self.now _ c.args.at c.args.byte c.in-Some.page.now c.put.new.self (holds c.page_mut.result _ _ c.in-Some.is (c.page_mut.follows.holds c.put.new.self)) c.in-Some.ensures.value c.put.ensures.places

pub returns-in-Some-clause-keeps : goal.returns-in-Some-clause-keeps
returns-in-Some-clause-keeps c = keeps_lifted c.args.self.now _ (c.args.at / 4096) c.in-Some.page.now c.put.new.self (holds c.page_mut.result _ _ c.in-Some.is (c.page_mut.follows.holds c.put.new.self)) c.in-Some.ensures.value (λ k l h. c.put.ensures.keeps k ∙ h)

pub returns-in-None-clause-places : goal.returns-in-None-clause-places
returns-in-None-clause-places c = absurd (not_kept_there c.args.self.now c.args.at c.in-None.ensures.value c.requires)

pub returns-in-None-clause-keeps : goal.returns-in-None-clause-keeps
returns-in-None-clause-keeps c = absurd (not_kept_there c.args.self.now c.args.at c.in-None.ensures.value c.requires)
