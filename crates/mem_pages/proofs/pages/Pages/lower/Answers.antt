use Rattle.std.proofs.Common.{arith, ◌*◌, ◌/◌}
use Rattle.mem_pages.proofs.pages.Pages.lower.Goals as goal
use Rattle.mem_pages.proofs.Parts as parts
use Rattle.mem_pages.proofs.Swept.{quiet_forgotten}
use Rattle.mem_pages.proofs.Shown.{lowered, keeps_pages}

pub invariant_of-self : goal.invariant_of-self
invariant_of-self c = record { quiet = quiet_forgotten c.sweep.new.exposed c.sweep.new.directory c.forget_part.new.self _ _ c.forget_part.ensures.places c.sweep.ensures.quiet }

pub returns-clause-same : goal.returns-clause-same
returns-clause-same c = record { memory = lowered c.args.self.now _ c.sweep.new.directory (4096 * (c.args.self.now.lowest / 4096)) (omega arith) (omega arith) c.sweep.ensures.places c.forget_part.ensures.places }

pub returns-clause-keeps : goal.returns-clause-keeps
returns-clause-keeps c = keeps_pages c.args.self.now _ (parts.keeps_then c.args.self.now.directory c.sweep.new.directory c.forget_part.new.self c.sweep.ensures.keeps c.forget_part.ensures.keeps)
