use Rattle.std.proofs.Common.{◌+◌, ◌<◌, map, drop}
use Rattle.named_code.specs.Items.{placed_block}
use Rattle.code_text.specs.KeptPlaces.{places_in}
use Rattle.code_text.specs.Placing.{blocks_most}
use Rattle.code_text.proofs.Adding.{Keeps}
use Rattle.code_text.proofs.placing.add_blocks.Given as goal

-- what is kept so far and what is left are what all are
abbrev pub invariant-loop-block : goal.invariant-loop-block
invariant-loop-block l = record {
  kept : Keeps (places_in l.fn.places) (places_in l.places) l.first l.place (map (placed_block l.homes) l.blocks) (map (placed_block l.homes) (drop l.block-index l.blocks));
  low : l.place + blocks_most (map (placed_block l.homes) (drop l.block-index l.blocks)) < 4294967296;
  some : 0 < l.place;
}
