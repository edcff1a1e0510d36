-- Placed code, one item and one block after the other.
use Rattle.std.proofs.Common.{◌≡◌, ℕ, ◌+◌, ◌-◌, ◌<◌, ◌≤◌, Bool, true, false, cond, leb, Some, None, List, [], ◌∷◌, All, map, get_or, drop, length, refl, sym, ap, ◌∙◌, subst, arith}
use Rattle.std.proofs.lemmas.Bool.{leb-true, leb-false}
use Rattle.std.proofs.lemmas.List.{drop_more, drop_all, get_or-map, length-map}
use Rattle.std.proofs.lemmas.List.Elements.{All-get_or}
use Rattle.std.proofs.lemmas.List.Sums.{sum_by-cons}
use Rattle.x86_types.specs.declared.instr.Instr.{Instr}
use Rattle.x86_grammar.specs.Fields.{HasSpelling}
use Rattle.named_code.specs.declared.placed.Home.{Home}
use Rattle.named_code.specs.declared.placed.PInstr.{PInstr}
use Rattle.named_code.specs.declared.placed.PBlock.{PBlock}
use Rattle.named_code.specs.Items.{Item, CodeBlock, placed_item, placed_block}
use Rattle.laid_code.specs.Laid.{Places}
use Rattle.code_text.specs.KeptPlaces.{room_left}
use Rattle.code_text.specs.Placing.{instr_size, items_size, most_bytes, items_most, blocks_most, AreInSpan}
use Rattle.code_text.specs.Sizes.{AreItemsSpelled}

-- ---- items, of which one is in turn
module _ (homes : List Home) (items : List PInstr) where
  abbrev pub items_from : ℕ → List Item
  items_from i = map (placed_item homes) (drop i items)

  pub items_end : (i : ℕ) → length items ≤ i → items_from i ≡ []
  items_end i past = ap (map (placed_item homes)) (drop_all i items past)

  pub most_end : (i : ℕ) → length items ≤ i → items_most (items_from i) ≡ 2
  most_end i past = ap items_most (items_end i past)

  pub size_end : (l : Places) (i : ℕ) → length items ≤ i → items_size l (items_from i) ≡ 2
  unfolding items_size
  size_end l i past = ap (items_size l) (items_end i past)

  module _ (i : ℕ) (d : PInstr) (low : i < length items) where
    abbrev here : Item
    here = placed_item homes (get_or items i d)

    pub items_more : items_from i ≡ here ∷ items_from (i + 1)
    items_more = ap (map (placed_item homes)) (drop_more items i d low)

    pub spelled_here : AreItemsSpelled (map (placed_item homes) items) → HasSpelling here.instr
    spelled_here h =
        let within : i < length (map (placed_item homes) items) = subst (λ n. i < n) (sym (length-map items (placed_item homes))) low in
        subst (λ (x : Item). HasSpelling x.instr) (get_or-map (placed_item homes) items i d (placed_item homes d) low) (All-get_or (λ (x : Item). HasSpelling x.instr) (map (placed_item homes) items) i (placed_item homes d) within h)

    pub most_more : items_most (items_from i) ≡ most_bytes here.instr + items_most (items_from (i + 1))
    most_more =
        let f : Item → ℕ = λ (x : Item). most_bytes x.instr in
        let whole = ap items_most items_more in
        let first = sum_by-cons f here (items_from (i + 1)) in
        omega (arith, whole, first)

    pub size_more : (l : Places) → items_size l (items_from i) ≡ instr_size l here.instr + items_size l (items_from (i + 1))
    unfolding items_size
    size_more l = ap (items_size l) items_more

    -- a size of so far and one more
    pub size_step : (l : Places) (r : Instr) (size s whole : ℕ) → r ≡ here.instr → s ≡ instr_size l r → size + items_size l (items_from i) ≡ whole → size + s + items_size l (items_from (i + 1)) ≡ whole
    size_step l r size s whole is own h =
        let more = size_more l in
        let own' = own ∙ ap (instr_size l) is in
        omega (arith, more, own', h)

    pub few_step : (r : Instr) (size s room : ℕ) → r ≡ here.instr → s ≤ most_bytes r → size + items_most (items_from i) ≤ room → size + s + items_most (items_from (i + 1)) ≤ room
    few_step r size s room is own h =
        let more = most_more in
        let own' = subst (λ (x : Instr). s ≤ most_bytes x) is own in
        omega (arith, more, own', h)

    pub size_step_up : (r : Instr) (size new room : ℕ) → r ≡ here.instr → new ≤ size + most_bytes r → size + items_most (items_from i) ≤ room → new + items_most (items_from (i + 1)) ≤ room
    size_step_up r size new room is short h =
        let more = most_more in
        let short' = subst (λ (x : Instr). new ≤ size + most_bytes x) is short in
        omega (arith, more, short', h)

    -- room that is taken by one more
    pub taken_step : (r : Instr) (m room left whole : ℕ) → r ≡ here.instr → m ≡ most_bytes r → m ≤ left → items_most (items_from i) + room ≡ left + whole → items_most (items_from (i + 1)) + room ≡ left - m + whole
    taken_step r m room left whole is own enough h =
        let more = most_more in
        let own' = own ∙ ap (λ (x : Instr). most_bytes x) is in
        omega (arith, more, own', enough, h)

    -- and has no room
    pub taken_over : (r : Instr) (m room left whole : ℕ) → r ≡ here.instr → m ≡ most_bytes r → left < m → items_most (items_from i) + room ≡ left + whole → room < whole
    taken_over r m room left whole is own over h =
        let more = most_more in
        let own' = own ∙ ap (λ (x : Instr). most_bytes x) is in
        omega (arith, more, own', over, h)

-- ---- blocks, of which one is in turn
module _ (homes : List Home) (blocks : List PBlock) where
  abbrev pub blocks_from : ℕ → List CodeBlock
  blocks_from i = map (placed_block homes) (drop i blocks)

  pub blocks_end : (i : ℕ) → length blocks ≤ i → blocks_from i ≡ []
  blocks_end i past = ap (map (placed_block homes)) (drop_all i blocks past)

  pub blocks_most_end : (i : ℕ) → length blocks ≤ i → blocks_most (blocks_from i) ≡ 0
  unfolding blocks_most
  blocks_most_end i past = ap blocks_most (blocks_end i past)

  module _ (i : ℕ) (d : PBlock) (low : i < length blocks) where
    abbrev block_here : CodeBlock
    block_here = placed_block homes (get_or blocks i d)

    pub blocks_more : blocks_from i ≡ block_here ∷ blocks_from (i + 1)
    blocks_more = ap (map (placed_block homes)) (drop_more blocks i d low)

    pub block_holds : (P : CodeBlock → Type 0) → All P (map (placed_block homes) blocks) → P block_here
    block_holds P h =
        let within : i < length (map (placed_block homes) blocks) = subst (λ n. i < n) (sym (length-map blocks (placed_block homes))) low in
        subst P (get_or-map (placed_block homes) blocks i d (placed_block homes d) low) (All-get_or P (map (placed_block homes) blocks) i (placed_block homes d) within h)

    pub blocks_most_more : blocks_most (blocks_from i) ≡ items_most block_here.items + blocks_most (blocks_from (i + 1))
    unfolding blocks_most
    blocks_most_more = ap blocks_most blocks_more ∙ sum_by-cons (λ (b : CodeBlock). items_most b.items) block_here (blocks_from (i + 1))

    -- what the blocks' room is with one more, or that it is too small
    pub room_step : (items : List Item) (room left first whole : ℕ) → items ≡ block_here.items → items_most items ≤ left → first ≡ left - items_most items → blocks_most (blocks_from i) + room ≡ left + whole → blocks_most (blocks_from (i + 1)) + room ≡ first + whole
    room_step items room left first whole is enough rest h =
        let more = blocks_most_more in
        let own = ap items_most is in
        omega (arith, more, own, enough, rest, h)

    pub room_over : (items : List Item) (room left whole : ℕ) → items ≡ block_here.items → left < items_most items → blocks_most (blocks_from i) + room ≡ left + whole → room < whole
    room_over items room left whole is over h =
        let more = blocks_most_more in
        let own = ap items_most is in
        omega (arith, more, own, over, h)

    -- a text of so far, with its room behind it
    pub room_here : (items : List Item) (size first whole most : ℕ) → items ≡ block_here.items → size + blocks_most (blocks_from i) ≤ first + whole → first + whole ≤ most → size + items_most items ≤ most
    room_here items size first whole most is h few =
        let more = blocks_most_more in
        let same = ap items_most is in
        omega (arith, more, same, h, few)

    pub room_step_up : (items : List Item) (size new room : ℕ) → items ≡ block_here.items → new ≤ size + items_most items → size + blocks_most (blocks_from i) ≤ room → new + blocks_most (blocks_from (i + 1)) ≤ room
    room_step_up items size new room is short h =
        let more = blocks_most_more in
        let same = ap items_most is in
        omega (arith, more, same, short, h)

    -- a place of so far, with its room behind it
    pub low_here : (place : ℕ) → place + blocks_most (blocks_from i) < 4294967296 → items_most block_here.items < 4294967296
    low_here place h = let more = blocks_most_more in omega (arith, more, h)

    pub low_step : (items : List Item) (place size : ℕ) → items ≡ block_here.items → size ≤ items_most items → place + blocks_most (blocks_from i) < 4294967296 → place + size + blocks_most (blocks_from (i + 1)) < 4294967296
    low_step items place size is own h =
        let more = blocks_most_more in
        let same = ap items_most is in
        omega (arith, more, same, own, h)

    pub low_size : (items : List Item) (place size : ℕ) → items ≡ block_here.items → size ≤ items_most items → place + blocks_most (blocks_from i) < 4294967296 → place + size < 4294967296
    low_size items place size is own h =
        let more = blocks_most_more in
        let same = ap items_most is in
        omega (arith, more, same, own, h)

-- the items of a block that was read
pub items_read : (homes : List Home) (blocks : List PBlock) (items : List PInstr) (i : ℕ) (b : PBlock) → b ≡ get_or blocks i b → items ≡ b.code → map (placed_item homes) items ≡ (placed_block homes (get_or blocks i b)).items
items_read homes blocks items i b read is = ap (map (placed_item homes)) (is ∙ ap (λ (x : PBlock). x.code) read)

-- ---- room
pub room_enough : (n room left : ℕ) → Some left ≡ room_left n room → (n ≤ room) × (left ≡ room - n)
room_enough n room left h = by (leb n room) refl
  where
    by : (b : Bool) → leb n room ≡ b → (n ≤ room) × (left ≡ room - n)
    by true is = let same : Some left ≡ Some (room - n) = h ∙ ap (λ t. cond t (Some (room - n)) None) is in (leb-true n room is, cc same)
    by false is = let none : Some left ≡ None = h ∙ ap (λ t. cond t (Some (room - n)) None) is in absurd (cc none)

pub room_none : (n room : ℕ) → None ≡ room_left n room → room < n
room_none n room h = by (leb n room) refl
  where
    by : (b : Bool) → leb n room ≡ b → room < n
    by true is = let some : None ≡ Some (room - n) = h ∙ ap (λ t. cond t (Some (room - n)) None) is in absurd (cc some)
    by false is = leb-false n room is

-- ---- the old address of a block that was read lies in the span
pub span_read : (before now : Places) (homes : List Home) (blocks : List PBlock) (i : ℕ) (b : PBlock) → i < length blocks → AreInSpan before.span before.count (map (placed_block homes) blocks) → b ≡ get_or blocks i b → now.span ≡ before.span → now.count ≡ before.count → (b.at ≡ 0 → ⊥)
    → (now.span ≤ b.at) × (b.at < now.span + now.count)
span_read before now homes blocks i b low all read span count some =
    let at : b.at ≡ (get_or blocks i b).at = ap (λ (x : PBlock). x.at) read in
    let got = block_holds homes blocks i b low (λ (x : CodeBlock). (x.at ≡ 0 → ⊥) → (before.span ≤ x.at) × (x.at < before.span + before.count)) all (λ z. some (at ∙ z)) in
    (omega (arith, got.0, at, span), omega (arith, got.1, at, span, count))
