use Rattle.std.proofs.Common.{◌∙◌, refl}
use Rattle.mem_pages.proofs.pages.Pages.open.Goals as goal
use Rattle.mem_pages.proofs.Shown.{is_kept_there, same_places, keeps_pages, keeps_then}

pub expose-requires : goal.expose-requires
expose-requires c = is_kept_there c.ready.new.self c.args.at (c.ready.ensures.keeps.kept c.args.at c.requires.kept)

pub returns-clause-same : goal.returns-clause-same
returns-clause-same c = record { memory = same_places c.ready.new.self _ refl c.expose.ensures.places ∙ c.ready.ensures.same.memory }

pub returns-clause-keeps : goal.returns-clause-keeps
returns-clause-keeps c = keeps_then c.args.self.now c.ready.new.self _ c.ready.ensures.keeps (keeps_pages c.ready.new.self _ c.expose.ensures.keeps)
