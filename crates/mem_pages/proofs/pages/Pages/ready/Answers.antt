use Rattle.std.proofs.Common.{◌∙◌, refl}
use Rattle.mem_pages.proofs.pages.Pages.ready.Goals as goal
use Rattle.mem_pages.proofs.Parts as parts
use Rattle.mem_pages.proofs.Shown.{same_places, keeps_pages, keeps_then}

pub returns-clause-same : goal.returns-clause-same
returns-clause-same c = record { memory = same_places c.lower.new.self _ refl (λ a. refl) ∙ c.lower.ensures.same.memory }

pub returns-clause-keeps : goal.returns-clause-keeps
returns-clause-keeps c = keeps_then c.args.self.now c.lower.new.self _ c.lower.ensures.keeps (keeps_pages c.lower.new.self _ (parts.keeps_itself c.lower.new.self.directory))
