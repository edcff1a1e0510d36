use Rattle.std.proofs.Common.{arith, refl}
use Rattle.mem_pages.proofs.pages.Pages.forget_below.Goals as goal
use Rattle.mem_pages.proofs.Parts as parts
use Rattle.mem_pages.proofs.Shown.{forgets_below, forgotten_already, keeps_pages}

pub returns-then-self-end-clause-forgets : goal.returns-then-self-end-clause-forgets
returns-then-self-end-clause-forgets c = forgets_below c.args.self.now _ c.args.end refl refl (omega arith)

pub returns-then-self-end-clause-keeps : goal.returns-then-self-end-clause-keeps
returns-then-self-end-clause-keeps c = keeps_pages c.args.self.now _ (parts.keeps_itself c.args.self.now.directory)

pub returns-else-self-end-clause-forgets : goal.returns-else-self-end-clause-forgets
returns-else-self-end-clause-forgets c = forgotten_already c.args.self.now c.args.end (omega arith)
