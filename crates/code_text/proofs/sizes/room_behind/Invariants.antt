use Rattle.std.proofs.Common.{◌≡◌, ◌+◌, ◌≤◌, map, drop}
use Rattle.named_code.specs.Items.{placed_item}
use Rattle.code_text.specs.Placing.{items_most}
use Rattle.code_text.proofs.sizes.room_behind.Given as goal

-- what was taken is what the items so far have
abbrev pub invariant-loop-item : goal.invariant-loop-item
invariant-loop-item l = record {
  taken : items_most (map (placed_item l.homes) (drop l.item-index l.items)) + l.fn.room ≡ l.left + items_most (map (placed_item l.homes) l.items);
  within : l.left ≤ l.fn.room;
}
