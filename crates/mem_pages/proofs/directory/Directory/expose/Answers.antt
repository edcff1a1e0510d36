use Rattle.std.proofs.Common.{◌/◌, ◌%◌, ◌∙◌}
use Rattle.mem_pages.proofs.directory.Directory.expose.Goals as goal
use Rattle.mem_pages.proofs.Lifting.{holds, lifted, keeps_lifted, not_kept_there}
use Rattle.mem_pages.proofs.LentThere.{exposed_there}
use Rattle.std.proofs.Common.{refl}

pub returns-in-Some-clause-places : goal.returns-in-Some-clause-places
returns-in-Some-clause-places c = lifted c.args.self.now _ (c.args.at / 4096) c.in-Some.page.now c.expose.new.self (λ a o. o) (holds c.page_mut.result _ _ c.in-Some.is (c.page_mut.follows.holds c.expose.new.self)) c.in-Some.ensures.value (λ a s. c.expose.ensures.places (a % 4096)) (λ a o n. refl)

pub returns-in-Some-clause-keeps : goal.returns-in-Some-clause-keeps
returns-in-Some-clause-keeps c = keeps_lifted c.args.self.now _ (c.args.at / 4096) c.in-Some.page.now c.expose.new.self (holds c.page_mut.result _ _ c.in-Some.is (c.page_mut.follows.holds c.expose.new.self)) c.in-Some.ensures.value (λ k l h. c.expose.ensures.keeps k ∙ h)

pub returns-in-Some-clause-open : goal.returns-in-Some-clause-open
returns-in-Some-clause-open c = exposed_there c.args.self.now _ c.args.at c.in-Some.page.now c.expose.new.self (holds c.page_mut.result _ _ c.in-Some.is (c.page_mut.follows.holds c.expose.new.self)) c.in-Some.ensures.value c.requires c.expose.ensures.keeps c.expose.ensures.exposed

pub returns-in-None-clause-places : goal.returns-in-None-clause-places
returns-in-None-clause-places c = absurd (not_kept_there c.args.self.now c.args.at c.in-None.ensures.value c.requires)

pub returns-in-None-clause-keeps : goal.returns-in-None-clause-keeps
returns-in-None-clause-keeps c = absurd (not_kept_there c.args.self.now c.args.at c.in-None.ensures.value c.requires)

pub returns-in-None-clause-open : goal.returns-in-None-clause-open
returns-in-None-clause-open c = absurd (not_kept_there c.args.self.now c.args.at c.in-None.ensures.value c.requires)
