use Rattle.std.proofs.Common.{length}
use Rattle.whole_code.specs.Building.{lifting_of_places, AreMade}
use Rattle.whole_code.proofs.build.all_blocks.Given as goal

abbrev pub invariant-loop-index : goal.invariant-loop-index
invariant-loop-index l = AreMade lifting_of_places l.found.code (length l.found.code) l.index l.blocks.items l.further.items
