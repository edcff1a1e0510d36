use Rattle.std.proofs.Common.{arith, ◌∙◌}
use Rattle.mem_pages.proofs.directory.Directory.map.Goals as goal
use Rattle.mem_pages.proofs.Parts.{none_mapped, more_mapped, all_mapped, still_free}

pub parts-init : goal.parts-init
parts-init c = none_mapped c.args.start c.args.end c.args.can_write c.args.unset c.args.self.now c.requires.order

pub map_part-requires-clause-there : goal.map_part-requires-clause-there
map_part-requires-clause-there c = c.parts.invariant.pages _ ∙ c.requires.there.there c.parts.at (omega (arith, c.parts.invariant.before)) (omega arith)

pub map_part-requires-clause-free : goal.map_part-requires-clause-free
map_part-requires-clause-free c = still_free c.args.start c.parts.at c.args.end c.args.can_write c.args.unset c.args.self.now c.parts.self (omega arith) c.requires.room c.parts.invariant

pub parts-preserved : goal.parts-preserved
parts-preserved c = more_mapped c.args.start c.parts.at c.part_end-next.result c.args.end c.args.can_write c.args.unset c.args.self.now c.parts.self c.map_part.new.self c.part_end-next.ensures.more c.part_end-next.ensures.within c.part_end-next.ensures.aligned c.map_part.ensures.places c.map_part.ensures.keeps c.map_part.ensures.pages c.parts.invariant

pub returns-clause-places : goal.returns-clause-places
returns-clause-places c = all_mapped c.args.start c.parts.at c.args.end c.args.can_write c.args.unset c.args.self.now c.parts.self (omega arith) c.parts.invariant

pub returns-clause-keeps : goal.returns-clause-keeps
returns-clause-keeps c = c.parts.invariant.keeps
