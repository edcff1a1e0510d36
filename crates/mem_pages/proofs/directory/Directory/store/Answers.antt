use Rattle.std.proofs.Common.{arith, ◌/◌, ◌%◌, ◌∙◌, take, refl}
use Rattle.x86_values.specs.Words.{word_list}
use Rattle.mem_pages.proofs.directory.Directory.store.Goals as goal
use Rattle.mem_pages.proofs.Lifting.{holds, lifted, keeps_lifted, contents_same_page, same_pages_keep, off_stack_there}
use Rattle.mem_pages.proofs.StoredThere.{part_lifted, allowed_there, word_size}

pub returns-in-Some-clause-places : goal.returns-in-Some-clause-places
returns-in-Some-clause-places c e = let n = word_size c.args.size c.args.word c.requires.size in let l = c.requires.in_page in part_lifted c.args.self.now _ c.args.at (take c.args.size (word_list c.args.word)) c.in-Some.page.now c.store.new.self (omega (arith, n, l)) (holds c.page_mut.result _ _ c.in-Some.is (c.page_mut.follows.holds c.store.new.self)) c.in-Some.ensures.value (c.store.ensures.places e)

pub returns-in-Some-clause-allowed : goal.returns-in-Some-clause-allowed
returns-in-Some-clause-allowed c e = allowed_there c.args.self.now c.args.at c.args.size c.in-Some.page.now c.requires.in_page c.in-Some.ensures.value (c.store.ensures.allowed e)

pub returns-in-Some-clause-off : goal.returns-in-Some-clause-off
returns-in-Some-clause-off c e h = off_stack_there c.args.self.now c.args.at c.in-Some.page.now _ c.in-Some.ensures.value refl (c.store.ensures.off e h)

pub returns-in-Some-clause-same : goal.returns-in-Some-clause-same
returns-in-Some-clause-same c e = lifted c.args.self.now _ (c.args.at / 4096) c.in-Some.page.now c.store.new.self (λ a o. o) (holds c.page_mut.result _ _ c.in-Some.is (c.page_mut.follows.holds c.store.new.self)) c.in-Some.ensures.value (λ a s. c.store.ensures.same e (a % 4096)) (λ a o n. refl)

pub returns-in-Some-clause-keeps : goal.returns-in-Some-clause-keeps
returns-in-Some-clause-keeps c = keeps_lifted c.args.self.now _ (c.args.at / 4096) c.in-Some.page.now c.store.new.self (holds c.page_mut.result _ _ c.in-Some.is (c.page_mut.follows.holds c.store.new.self)) c.in-Some.ensures.value (λ k l h. c.store.ensures.keeps k ∙ h)

pub returns-in-None-clause-same : goal.returns-in-None-clause-same
returns-in-None-clause-same c e a = contents_same_page c.args.self.now c.page_mut.follows.lender-at-none a (c.page_mut.follows.holds-at-none (a / 4096))

pub returns-in-None-clause-keeps : goal.returns-in-None-clause-keeps
returns-in-None-clause-keeps c = same_pages_keep c.args.self.now c.page_mut.follows.lender-at-none c.page_mut.follows.holds-at-none
