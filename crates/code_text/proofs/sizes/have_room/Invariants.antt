use Rattle.std.proofs.Common.{◌≡◌, ◌+◌, ◌≤◌, map, drop}
use Rattle.named_code.specs.Items.{placed_block}
use Rattle.code_text.specs.Placing.{blocks_most}
use Rattle.code_text.proofs.sizes.have_room.Given as goal

-- what was taken is what the blocks so far have
abbrev pub invariant-loop-block : goal.invariant-loop-block
invariant-loop-block l = record {
  taken : blocks_most (map (placed_block l.homes) (drop l.block-index l.blocks)) + l.fn.room ≡ l.left + blocks_most (map (placed_block l.homes) l.blocks);
  within : l.left ≤ l.fn.room;
}
