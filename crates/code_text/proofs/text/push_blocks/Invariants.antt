use Rattle.std.proofs.Common.{◌≡◌, ◌+◌, ◌≤◌, ◌++◌, length, map, drop}
use Rattle.named_code.specs.Items.{placed_block}
use Rattle.code_text.specs.KeptPlaces.{places_in, place_behind}
use Rattle.code_text.specs.Placing.{blocks_most}
use Rattle.code_text.specs.Texts.{blocks_text}
use Rattle.code_text.proofs.text.push_blocks.Given as goal

-- the text so far and that of the blocks that are left are the whole
abbrev pub invariant-loop-block : goal.invariant-loop-block
invariant-loop-block l = record {
  whole : l.out.items ++ blocks_text (places_in l.places) (place_behind l.out.items) (map (placed_block l.homes) (drop l.block-index l.blocks)) ≡ l.fn.out.items ++ blocks_text (places_in l.places) (place_behind l.fn.out.items) (map (placed_block l.homes) l.blocks);
  few : length l.out.items + blocks_most (map (placed_block l.homes) (drop l.block-index l.blocks)) ≤ length l.fn.out.items + blocks_most (map (placed_block l.homes) l.blocks);
}
