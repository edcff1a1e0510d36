use Rattle.std.proofs.Common.{◌∙◌, ◌/◌, Bool, true, false, sym, refl, ap, Some, None, ◌≡◌}
use Rattle.mem_pages.proofs.directory.Directory.any_byte.Goals as goal
use Rattle.mem_pages.specs.Page.{shown, seen}
use Rattle.mem_pages.proofs.Lifting.{contents_on}

none_seen : (h : Bool) → None ≡ seen (shown h None)
none_seen true = refl
none_seen false = refl

pub returns-in-Some : goal.returns-in-Some
returns-in-Some c = c.byte.ensures ∙ ap (λ o. seen (shown c.args.hidden o)) (sym (contents_on c.args.self.now c.args.at (c.args.at / 4096) (Some c.in-Some.page.now) c.in-Some.ensures refl))

pub returns-in-None : goal.returns-in-None
returns-in-None c = none_seen c.args.hidden ∙ ap (λ o. seen (shown c.args.hidden o)) (sym (contents_on c.args.self.now c.args.at (c.args.at / 4096) None c.in-None.ensures refl))
