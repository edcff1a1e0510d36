use Rattle.std.proofs.Common.{◌∙◌, ◌/◌, sym, refl, ap, Some, None}
use Rattle.std.specs.Option.{option_map}
use Rattle.mem_pages.proofs.directory.Directory.writable.Goals as goal
use Rattle.memory.specs.Memory.{Place}
use Rattle.mem_pages.proofs.Lifting.{contents_on}

pub returns-in-Some : goal.returns-in-Some
returns-in-Some c = c.writable.ensures ∙ ap (λ o. option_map (λ (p : Place). p.can_write) o) (sym (contents_on c.args.self.now c.args.at (c.args.at / 4096) (Some c.in-Some.page.now) c.in-Some.ensures refl))

pub returns-in-None : goal.returns-in-None
returns-in-None c = ap (λ o. option_map (λ (p : Place). p.can_write) o) (sym (contents_on c.args.self.now c.args.at (c.args.at / 4096) None c.in-None.ensures refl))
