use Rattle.std.proofs.Common.{◌≡◌, map, take}
use Rattle.name_cells.specs.Placing.{place_block}
use Rattle.name_cells.proofs.placing.place.Given as goal

abbrev pub invariant-loop-block : goal.invariant-loop-block
invariant-loop-block l = l.blocks.items ≡ map (place_block l.spare) (take l.block-index l.code)
