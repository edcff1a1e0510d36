use Rattle.std.proofs.Common.{◌∙◌}
use Rattle.mem_pages.proofs.directory.Directory.grow_range.Goals as goal
use Rattle.mem_pages.proofs.Parts.{none_grown, more_grown, grown_contents, grown_keeps, keeps_then}

pub parts-init : goal.parts-init
parts-init c = none_grown c.args.start c.args.end c.args.self.now c.requires

pub parts-preserved : goal.parts-preserved
parts-preserved c = more_grown c.args.start c.parts.at c.part_end-at.result c.args.end c.args.self.now c.parts.self c.grow.new.self c.part_end-at.ensures.more c.part_end-at.ensures.within c.part_end-at.ensures.in_page c.grow.ensures.grown c.in_ok-grow.ensures.has c.parts.invariant

pub returns-in_err-grow-clause-places : goal.returns-in_err-grow-clause-places
returns-in_err-grow-clause-places c a = grown_contents c.parts.self c.grow.new.self c.grow.ensures.grown a ∙ c.parts.invariant.places a

pub returns-in_err-grow-clause-keeps : goal.returns-in_err-grow-clause-keeps
returns-in_err-grow-clause-keeps c = keeps_then c.args.self.now c.parts.self c.grow.new.self c.parts.invariant.keeps (grown_keeps c.parts.self c.grow.new.self c.grow.ensures.grown)
