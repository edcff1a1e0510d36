use Rattle.std.proofs.Common.{◌/◌}
use Rattle.mem_pages.proofs.directory.Directory.map_part.Goals as goal
use Rattle.mem_pages.proofs.Lifting.{holds, map_lifted, free_there, keeps_lifted, unmapped_is_not_kept, some_pages}

pub map-requires : goal.map-requires
map-requires c = free_there c.args.self.now (c.args.start / 4096) c.in-Some.page.now c.in-Some.ensures.value c.requires.free

pub returns-in-Some-clause-places : goal.returns-in-Some-clause-places
returns-in-Some-clause-places c = map_lifted c.args.self.now _ c.args.start c.args.end c.args.can_write c.args.unset c.in-Some.page.now c.map.new.self c.requires.order c.requires.in_page (holds c.page_mut.result _ _ c.in-Some.is (c.page_mut.follows.holds c.map.new.self)) c.in-Some.ensures.value c.map.ensures

pub returns-in-Some-clause-keeps : goal.returns-in-Some-clause-keeps
returns-in-Some-clause-keeps c = keeps_lifted c.args.self.now _ (c.args.start / 4096) c.in-Some.page.now c.map.new.self (holds c.page_mut.result _ _ c.in-Some.is (c.page_mut.follows.holds c.map.new.self)) c.in-Some.ensures.value (λ k l h. absurd (unmapped_is_not_kept c.in-Some.page.now k (free_there c.args.self.now (c.args.start / 4096) c.in-Some.page.now c.in-Some.ensures.value c.requires.free k l) h))

pub returns-in-Some-clause-pages : goal.returns-in-Some-clause-pages
returns-in-Some-clause-pages c = some_pages c.args.self.now _ (c.args.start / 4096) c.in-Some.page.now c.map.new.self (holds c.page_mut.result _ _ c.in-Some.is (c.page_mut.follows.holds c.map.new.self)) c.in-Some.ensures.value
