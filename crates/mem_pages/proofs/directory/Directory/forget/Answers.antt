use Rattle.std.proofs.Common.{arith}
use Rattle.mem_pages.proofs.directory.Directory.forget.Goals as goal
use Rattle.mem_pages.proofs.Parts.{none_forgotten, more_forgotten, all_forgotten}

pub parts-init : goal.parts-init
parts-init c = none_forgotten c.args.start c.args.end c.args.self.now c.requires

pub parts-preserved : goal.parts-preserved
parts-preserved c = more_forgotten c.args.start c.parts.at c.part_end-next.result c.args.end c.args.self.now c.parts.self c.forget_part.new.self c.part_end-next.ensures.more c.part_end-next.ensures.within c.forget_part.ensures.places c.forget_part.ensures.keeps c.parts.invariant

pub returns-clause-places : goal.returns-clause-places
returns-clause-places c = all_forgotten c.args.start c.parts.at c.args.end c.args.self.now c.parts.self (omega arith) c.parts.invariant

pub returns-clause-keeps : goal.returns-clause-keeps
returns-clause-keeps c = c.parts.invariant.keeps
