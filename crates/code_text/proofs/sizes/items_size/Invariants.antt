use Rattle.std.proofs.Common.{◌≡◌, ◌+◌, ◌≤◌, map, drop}
use Rattle.named_code.specs.Items.{placed_item}
use Rattle.code_text.specs.KeptPlaces.{sized}
use Rattle.code_text.specs.Placing.{items_size, items_most}
use Rattle.code_text.proofs.sizes.items_size.Given as goal

-- the size so far and that of what is left are that of all
abbrev pub invariant-loop-item : goal.invariant-loop-item
invariant-loop-item l = record {
  whole : l.size + items_size (sized l.span l.count) (map (placed_item l.homes) (drop l.item-index l.items)) ≡ items_size (sized l.span l.count) (map (placed_item l.homes) l.items);
  few : l.size + items_most (map (placed_item l.homes) (drop l.item-index l.items)) ≤ items_most (map (placed_item l.homes) l.items);
}
