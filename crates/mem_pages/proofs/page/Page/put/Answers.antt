use Rattle.std.proofs.Common.{arith, ◌∙◌}
use Rattle.std.proofs.Math.ListN.{length-set}
use Rattle.mem_pages.proofs.page.Page.put.Goals as goal
use Rattle.mem_pages.proofs.PageSteps.{puts, put_alike, same_kept, kept_is_within}

pub index_mut-requires : goal.index_mut-requires
index_mut-requires c = let h = kept_is_within c.expose.new.self c.args.at c.requires.in_page (c.expose.ensures.keeps c.args.at ∙ c.requires.kept) in omega (arith, h)

pub returns-clause-places : goal.returns-clause-places
returns-clause-places c k =
    let h = kept_is_within c.expose.new.self c.args.at c.requires.in_page (c.expose.ensures.keeps c.args.at ∙ c.requires.kept) in
    puts c.expose.new.self c.args.at c.args.byte k c.expose.ensures.exposed h ∙ put_alike c.args.at c.args.byte _ _ k (c.expose.ensures.places k)

pub returns-clause-keeps : goal.returns-clause-keeps
returns-clause-keeps c k = same_kept c.expose.new.self _ c.expose.new.self.low k (length-set c.expose.new.self.bytes.items c.args.at c.args.byte) ∙ c.expose.ensures.keeps k
