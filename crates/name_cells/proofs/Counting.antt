-- How many names there are: each name has a cell, and so has one more.
use Rattle.std.proofs.Common.{◌≡◌, inl, inr, ℕ, ◌+◌, ◌<◌, ◌≤◌, max, Bool, true, false, List, [], ◌∷◌, fold, All, ap, arith}
use Rattle.std.proofs.lemmas.List.Elements.{All-nil, All-cons, All-head, All-tail, All-weaker}
use Rattle.named_code.specs.declared.slot.Slot.{Slot}
use Rattle.named_code.specs.declared.slot.Slot.TheVariants.{Fixed, Name}
use Rattle.named_code.specs.declared.named.VInstr.{VInstr}
use Rattle.named_code.specs.declared.named.VBlock.{VBlock}
use Rattle.name_cells.specs.Cells.{counted_slot, counted_instr, counted_block, name_count}
use Rattle.name_cells.specs.CanBePlaced.{IsPlaceable, HasName, IsInstrPlaceable, IsBlockPlaceable, CanBePlaced}
use Rattle.name_cells.specs.CellPairs.{Fits}

number_of : Slot → ℕ
number_of (Fixed r) = 0
number_of (Name n) = n

is_name : Slot → Bool
is_name (Fixed r) = false
is_name (Name n) = true

-- ---- a count grows
slot_grows : (count : ℕ) (s : Slot) → count ≤ counted_slot count s
slot_grows count (Fixed r) = omega arith
slot_grows count (Name n) = grind (arith)

slots_grow : (slots : List Slot) (count : ℕ) → count ≤ fold counted_slot count slots
slots_grow [] count = omega arith
slots_grow (s ∷ slots) count = let first = slot_grows count s in let rest = slots_grow slots (counted_slot count s) in omega (arith, first, rest)

instrs_grow : (xs : List VInstr) (count : ℕ) → count ≤ fold counted_instr count xs
instrs_grow [] count = omega arith
instrs_grow (x ∷ xs) count = let first = slots_grow x.slots count in let rest = instrs_grow xs (counted_instr count x) in omega (arith, first, rest)

blocks_grow : (bs : List VBlock) (count : ℕ) → count ≤ fold counted_block count bs
blocks_grow [] count = omega arith
blocks_grow (b ∷ bs) count = let first = instrs_grow b.code count in let rest = blocks_grow bs (counted_block count b) in omega (arith, first, rest)

-- ---- past each name
past_slots : (slots : List Slot) (count n : ℕ) → HasName n slots → n < fold counted_slot count slots
unfolding number_of is_name
past_slots [] count n h = absurd h
past_slots (Fixed r ∷ slots) count n (inl e) = absurd (let f : is_name (Fixed r) ≡ is_name (Name n) = ap is_name e in cc)
past_slots (Fixed r ∷ slots) count n (inr h) = past_slots slots count n h
past_slots (Name m ∷ slots) count n (inl e) =
    let f : m ≡ n = ap number_of e in
    let first : m + 1 ≤ max count (m + 1) = grind (arith) in
    let rest = slots_grow slots (max count (m + 1)) in
    omega (arith, f, first, rest)
past_slots (Name m ∷ slots) count n (inr h) = past_slots slots (max count (m + 1)) n h

more_cells : (low high : ℕ) (x : VInstr) → low ≤ high → Fits low x → Fits high x
more_cells low high x h f = record { placeable = f.placeable; names = λ n g. let l = f.names n g in omega (arith, h, l) }

instrs_fit : (xs : List VInstr) (count : ℕ) → All IsInstrPlaceable xs → All (Fits (fold counted_instr count xs)) xs
instrs_fit [] count h = All-nil (Fits count)
instrs_fit (x ∷ xs) count h =
    let now = counted_instr count x in
    All-cons (Fits (fold counted_instr now xs)) x xs
    (more_cells now (fold counted_instr now xs) x (instrs_grow xs now) (record { placeable = All-head IsInstrPlaceable x xs h; names = past_slots x.slots count }))
    (instrs_fit xs now (All-tail IsInstrPlaceable x xs h))

abbrev pub BlockFits : ℕ → VBlock → Type 0
BlockFits count b = All (Fits count) b.code

blocks_fit : (bs : List VBlock) (count : ℕ) → All IsBlockPlaceable bs → All (BlockFits (fold counted_block count bs)) bs
blocks_fit [] count h = All-nil (BlockFits count)
blocks_fit (b ∷ bs) count h =
    let now = counted_block count b in
    All-cons (BlockFits (fold counted_block now bs)) b bs
    (All-weaker (Fits now) (Fits (fold counted_block now bs)) (λ x. more_cells now (fold counted_block now bs) x (blocks_grow bs now)) b.code (instrs_fit b.code count (All-head IsBlockPlaceable b bs h)))
    (blocks_fit bs now (All-tail IsBlockPlaceable b bs h))

pub code_fits : (code : List VBlock) → CanBePlaced code → All (BlockFits (name_count code)) code
code_fits code h = blocks_fit code 0 h

-- ---- there is room for one more
slot_small : (count : ℕ) (s : Slot) → count ≤ 1540095 → IsPlaceable s → counted_slot count s ≤ 1540095
slot_small count (Fixed r) low h = low
slot_small count (Name n) low h = grind (arith)

slots_small : (slots : List Slot) (count : ℕ) → count ≤ 1540095 → All IsPlaceable slots → fold counted_slot count slots ≤ 1540095
slots_small [] count low h = low
slots_small (s ∷ slots) count low h = slots_small slots (counted_slot count s) (slot_small count s low (All-head IsPlaceable s slots h)) (All-tail IsPlaceable s slots h)

instrs_small : (xs : List VInstr) (count : ℕ) → count ≤ 1540095 → All IsInstrPlaceable xs → fold counted_instr count xs ≤ 1540095
instrs_small [] count low h = low
instrs_small (x ∷ xs) count low h = instrs_small xs (counted_instr count x) (slots_small x.slots count low (All-head IsInstrPlaceable x xs h).slots) (All-tail IsInstrPlaceable x xs h)

blocks_small : (bs : List VBlock) (count : ℕ) → count ≤ 1540095 → All IsBlockPlaceable bs → fold counted_block count bs ≤ 1540095
blocks_small [] count low h = low
blocks_small (b ∷ bs) count low h = blocks_small bs (counted_block count b) (instrs_small b.code count low (All-head IsBlockPlaceable b bs h)) (All-tail IsBlockPlaceable b bs h)

pub count_small : (code : List VBlock) → CanBePlaced code → name_count code ≤ 1540095
count_small code h = blocks_small code 0 (omega arith) h
