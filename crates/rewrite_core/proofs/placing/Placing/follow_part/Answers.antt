use Rattle.std.proofs.Common.{◌≡◌, get_or, sym, ◌∙◌}
use Rattle.std.proofs.lemmas.List.{get_or_read}
use Rattle.rewrite_core.specs.declared.placing.Part.TheVariants.{Stops, Leads}
use Rattle.rewrite_core.proofs.PlacedParts.{there_read}
use Rattle.rewrite_core.proofs.Followings.{lead_within, met_there}
use Rattle.rewrite_core.proofs.placing.Placing.follow_part.Goals as goal

pub returns-then-is_some : goal.returns-then-is_some
returns-then-is_some c =
    let s = c.args.self.now in
    let is : get_or s.parts.items c.args.index Stops ≡ Leads c.in-Leads.to = sym (get_or_read s.parts.items c.args.index _ c.requires.index c.index.ensures Stops) ∙ c.in-Leads.is in
    let h = lead_within c.args.page.now s c.requires.settled c.args.index c.requires.index c.in-Leads.to is in
    met_there c.args.page.now s c.requires.settled c.args.index c.requires.index c.in-Leads.to is (there_read s.places.items c.in-Leads.to _ _ h c.index-2.ensures c.is_some.ensures c.if-is_some.true)
