use Rattle.std.proofs.Common.{◌≡◌, ◌+◌, ◌≤◌, ◌++◌, length, map, drop}
use Rattle.named_code.specs.Items.{placed_item}
use Rattle.code_text.specs.KeptPlaces.{places_in, place_behind}
use Rattle.code_text.specs.Placing.{items_most}
use Rattle.code_text.specs.Texts.{items_text}
use Rattle.code_text.proofs.text.push_items.Given as goal

-- the text so far and that of the items that are left are the whole
abbrev pub invariant-loop-item : goal.invariant-loop-item
invariant-loop-item l = record {
  whole : l.out.items ++ items_text (places_in l.places) (place_behind l.out.items) (map (placed_item l.homes) (drop l.item-index l.items)) ≡ l.fn.out.items ++ items_text (places_in l.places) (place_behind l.fn.out.items) (map (placed_item l.homes) l.items);
  few : length l.out.items + items_most (map (placed_item l.homes) (drop l.item-index l.items)) ≤ length l.fn.out.items + items_most (map (placed_item l.homes) l.items);
}
