use Rattle.std.proofs.Common.{◌/◌, ◌%◌, refl}
use Rattle.mem_pages.proofs.directory.Directory.keep.Goals as goal
use Rattle.mem_pages.proofs.Lifting.{holds, lifted, keeps_lifted, contents_same_page, same_pages_keep, keep_lifted, missing_lifted, nothing_to_keep}

pub returns-in-Some-clause-places : goal.returns-in-Some-clause-places
returns-in-Some-clause-places c = lifted c.args.self.now _ (c.args.at / 4096) c.in-Some.page.now c.keep.new.self (λ a o. o) (holds c.page_mut.result _ _ c.in-Some.is (c.page_mut.follows.holds c.keep.new.self)) c.in-Some.ensures.value (λ a s. c.keep.ensures.places (a % 4096)) (λ a o n. refl)

pub returns-in-Some-clause-keeps : goal.returns-in-Some-clause-keeps
returns-in-Some-clause-keeps c = keeps_lifted c.args.self.now _ (c.args.at / 4096) c.in-Some.page.now c.keep.new.self (holds c.page_mut.result _ _ c.in-Some.is (c.page_mut.follows.holds c.keep.new.self)) c.in-Some.ensures.value (λ k l. c.keep.ensures.keeps.kept k)

pub returns-in-Some-clause-kept : goal.returns-in-Some-clause-kept
returns-in-Some-clause-kept c = keep_lifted c.keep.result c.args.self.now _ c.args.at c.in-Some.page.now c.keep.new.self (holds c.page_mut.result _ _ c.in-Some.is (c.page_mut.follows.holds c.keep.new.self)) c.in-Some.ensures.value c.keep.ensures.places c.keep.ensures.kept

pub returns-in-None-clause-places : goal.returns-in-None-clause-places
returns-in-None-clause-places c a = contents_same_page c.args.self.now c.page_mut.follows.lender-at-none a (c.page_mut.follows.holds-at-none (a / 4096))

pub returns-in-None-clause-keeps : goal.returns-in-None-clause-keeps
returns-in-None-clause-keeps c = same_pages_keep c.args.self.now c.page_mut.follows.lender-at-none c.page_mut.follows.holds-at-none

pub returns-in-None-clause-kept : goal.returns-in-None-clause-kept
returns-in-None-clause-kept c = nothing_to_keep c.args.self.now c.page_mut.follows.lender-at-none c.args.at c.in-None.ensures.value

pub returns-in-Some-clause-missing : goal.returns-in-Some-clause-missing
returns-in-Some-clause-missing c = missing_lifted c.keep.result c.args.self.now c.args.at c.in-Some.page.now c.in-Some.ensures.value c.keep.ensures.missing
