-- What the turns of the placed code cost.
use Rattle.std.proofs.Common.{◌≡◌, ℕ, ◌+◌, ◌≤◌, Bool, true, false, is_some, List, [], ◌∷◌, ◌++◌, map, All, Option, refl, sym, ap, ◌∙◌, subst, arith}
use Rattle.std.specs.List.{AllByRecursion}
use Rattle.std.proofs.lemmas.List.{append-nil, map-append}
use Rattle.std.proofs.lemmas.List.Elements.{All-nil, All-cons, All-head, All-tail, All-append}
use Rattle.x86_types.specs.declared.instr.Instr.{Instr}
use Rattle.x86_types.specs.declared.instr.Instr.TheVariants as instr
use Rattle.named_code.specs.declared.slot.Slot.{Slot}
use Rattle.named_code.specs.declared.slot.Slot.TheVariants.{Fixed, Name}
use Rattle.named_code.specs.declared.named.VInstr.{VInstr}
use Rattle.named_code.specs.declared.named.VBlock.{VBlock}
use Rattle.named_code.specs.declared.placed.Home.{Home}
use Rattle.named_code.specs.declared.placed.PInstr.{PInstr}
use Rattle.named_code.specs.Items.{Item, named_item, named_block, placed_item, placed_block}
use Rattle.named_code.specs.Running.{Marks}
use Rattle.named_code.specs.Weight.{Course, Next, ToBlock, Either, ToOld, Again, course_of, left_at, most_behind, most, items_cost, IsOnce, IsBounded}
use Rattle.name_cells.specs.Cells.{homes_of, name_count}
use Rattle.name_cells.specs.Holders.{has_byte_field, last_name, borrows_ebx}
use Rattle.name_cells.specs.CanBePlaced.{IsFalling, IsInstrPlaceable, IsBlockPlaceable, CanBePlaced}
use Rattle.name_cells.specs.Placing.{fetches, keeps, own, lend, give_back, place_instr, place_instrs, place_block, cells_of}
use Rattle.name_cells.specs.Pairs.{own_renaming}
use Rattle.name_cells.specs.OwnSteps.{placed_own}
use Rattle.name_cells.specs.PlacesCode.{CostsAsCode}
use Rattle.name_cells.proofs.ItemsRun.{layout}
use Rattle.name_cells.proofs.NoNames.{alone_is}
use Rattle.name_cells.proofs.RenamedInstrs.{is_kept}

-- ---- courses
falls_next : (i : Instr) → IsFalling i → course_of i ≡ Next
falls_next (instr.Alu op w to from) h = refl
falls_next (instr.Test w left right) h = refl
falls_next (instr.Mov w to from) h = refl
falls_next (instr.Lea w to at) h = refl
falls_next (instr.Inc w to) h = refl
falls_next (instr.Dec w to) h = refl
falls_next (instr.Not w to) h = refl
falls_next (instr.Neg w to) h = refl
falls_next (instr.Mul w from) h = refl
falls_next (instr.ImulWide w from) h = refl
falls_next (instr.Div w from) h = refl
falls_next (instr.Idiv w from) h = refl
falls_next (instr.Imul w to from) h = refl
falls_next (instr.ImulBy w to from by) h = refl
falls_next (instr.Shift op w to n) h = refl
falls_next (instr.Shld to from n) h = refl
falls_next (instr.Shrd to from n) h = refl
falls_next (instr.Push from) h = refl
falls_next (instr.Pop to) h = refl
falls_next (instr.Xchg w left right) h = refl
falls_next (instr.Movzx wide w to from) h = refl
falls_next (instr.Movsx wide w to from) h = refl
falls_next (instr.Cmov c w to from) h = refl
falls_next (instr.Setcc c to) h = refl
falls_next (instr.Extend w) h = refl
falls_next (instr.Spread w) h = refl
falls_next (instr.Bsf w to from) h = refl
falls_next (instr.Bsr w to from) h = refl
falls_next (instr.Bswap to) h = refl
falls_next (instr.Movs w repeat) h = absurd h
falls_next (instr.Stos w repeat) h = absurd h
falls_next (instr.Jmp by) h = absurd h
falls_next (instr.JmpTo to) h = absurd h
falls_next (instr.CallTo to) h = absurd h
falls_next (instr.Jcc c by) h = absurd h
falls_next (instr.Call by) h = absurd h
falls_next (instr.Ret drop) h = absurd h
falls_next instr.Leave h = refl
falls_next instr.Int80 h = absurd h
falls_next instr.Cld h = refl
falls_next instr.Nop h = refl

abbrev IsNext : Item → Type 0
IsNext x = course_of x.instr ≡ Next

abbrev AreNext : List Item → Type 0
AreNext xs = AllByRecursion IsNext xs

module _ (homes : List Home) where
  abbrev placed : List PInstr → List Item
  placed ps = map (placed_item homes) ps

  module _ (byte : Bool) (last : Option ℕ) where
    fetches_next : (slots : List Slot) → AreNext (placed (fetches byte last slots))
    fetches_next [] = tt
    fetches_next (Fixed r ∷ slots) = fetches_next slots
    fetches_next (Name n ∷ slots) = (refl, fetches_next slots)

    keeps_next : (slots : List Slot) → AreNext (placed (keeps byte last slots))
    keeps_next [] = tt
    keeps_next (Fixed r ∷ slots) = keeps_next slots
    keeps_next (Name n ∷ slots) = (refl, keeps_next slots)

  lend_next : (b : Bool) (spare : ℕ) → AreNext (placed (lend b spare))
  lend_next true spare = (refl, tt)
  lend_next false spare = tt

  give_next : (b : Bool) (spare : ℕ) → AreNext (placed (give_back b spare))
  give_next true spare = (refl, tt)
  give_next false spare = tt

  -- ---- no item comes again at once
  next_once : (xs : List Item) → AreNext xs → All IsOnce xs
  next_once [] h = All-nil IsOnce
  next_once (x ∷ xs) h = All-cons IsOnce x xs (λ e. let f : Next ≡ Again = sym h.0 ∙ e in absurd cc) (next_once xs h.1)

  own_course : (x : VInstr) → course_of (placed_own x).instr ≡ course_of x.instr
  own_course x = (is_kept (own_renaming x) x.instr).2

  instr_once : (spare : ℕ) (x : VInstr) (rest : List Item) → IsOnce (named_item x) → All IsOnce rest → All IsOnce (placed (place_instr spare x) ++ rest)
  instr_once spare x rest once h =
      let byte = has_byte_field x.instr in
      let last = last_name x.slots in
      let b = borrows_ebx x in
      let behind = placed (keeps byte last x.slots) ++ (placed (give_back b spare) ++ rest) in
      subst (All IsOnce) (sym (layout (placed_item homes) (lend b spare) (fetches byte last x.slots) (own x) (keeps byte last x.slots) (give_back b spare) rest))
      (All-append IsOnce (placed (lend b spare)) (placed (fetches byte last x.slots) ++ placed_own x ∷ behind) (next_once _ (lend_next b spare))
      (All-append IsOnce (placed (fetches byte last x.slots)) (placed_own x ∷ behind) (next_once _ (fetches_next byte last x.slots))
      (All-cons IsOnce (placed_own x) behind (λ e. once (sym (own_course x) ∙ e))
      (All-append IsOnce (placed (keeps byte last x.slots)) (placed (give_back b spare) ++ rest) (next_once _ (keeps_next byte last x.slots))
      (All-append IsOnce (placed (give_back b spare)) rest (next_once _ (give_next b spare)) h)))))

  instrs_once : (spare : ℕ) (xs : List VInstr) → All IsOnce (map named_item xs) → All IsOnce (placed (place_instrs spare xs))
  instrs_once spare [] h = All-nil IsOnce
  instrs_once spare (x ∷ xs) h =
      subst (All IsOnce) (sym (map-append (placed_item homes) (place_instr spare x) (place_instrs spare xs)))
      (instr_once spare x (placed (place_instrs spare xs)) (All-head IsOnce (named_item x) (map named_item xs) h) (instrs_once spare xs (All-tail IsOnce (named_item x) (map named_item xs) h)))

  -- ---- the longest way
  module _ (c d : Item → ℕ) (left : ℕ → ℕ) where
    next_most : (xs rest : List Item) → AreNext xs → most c left (xs ++ rest) ≡ items_cost c xs + most c left rest
    next_most [] rest h = omega arith
    next_most (x ∷ xs) rest h =
        let more : most c left (xs ++ rest) ≡ items_cost c xs + most c left rest = next_most xs rest h.1 in
        let first : most c left (x ∷ (xs ++ rest)) ≡ c x + most c left (xs ++ rest) = ap (λ k. c x + most_behind k left (most c left (xs ++ rest))) h.0 in
        omega (arith, first, more)

    cost_both : (xs ys : List Item) → items_cost c (xs ++ ys) ≡ items_cost c xs + items_cost c ys
    cost_both [] ys = omega arith
    cost_both (x ∷ xs) ys = let more = cost_both xs ys in omega (arith, more)

    behind_more : (k : Course) (n m : ℕ) → n ≤ m → most_behind k left n ≤ most_behind k left m
    behind_more Next n m h = h
    behind_more (ToBlock number) n m h = omega arith
    behind_more (Either number) n m h = grind (arith)
    behind_more ToOld n m h = omega arith
    behind_more Again n m h = h

    module _ (spare : ℕ) (x : VInstr) (placeable : IsInstrPlaceable x) (within : items_cost c (placed (place_instr spare x)) ≤ d (named_item x)) (rest rest' : List Item) (less : most c left rest ≤ most d left rest') where
      abbrev Within : Type 0
      Within = most c left (placed (place_instr spare x) ++ rest) ≤ most d left (named_item x ∷ rest')

      alone_within : is_some (last_name x.slots) ≡ false → Within
      alone_within none =
          let is : placed (place_instr spare x) ≡ placed_own x ∷ [] = ap (map (placed_item homes)) (alone_is spare x none) in
          let cost : items_cost c (placed (place_instr spare x)) ≡ c (placed_own x) + 0 = ap (items_cost c) is in
          let whole : most c left (placed (place_instr spare x) ++ rest) ≡ c (placed_own x) + most_behind (course_of x.instr) left (most c left rest)
          = ap (λ (xs : List Item). most c left (xs ++ rest)) is ∙ ap (λ k. c (placed_own x) + most_behind k left (most c left rest)) (own_course x) in
          let behind : most_behind (course_of x.instr) left (most c left rest) ≤ most_behind (course_of x.instr) left (most d left rest') = behind_more (course_of x.instr) (most c left rest) (most d left rest') less in
          omega (arith, whole, cost, behind, within)

      several_within : is_some (last_name x.slots) ≡ true → Within
      several_within some =
          let byte = has_byte_field x.instr in
          let last = last_name x.slots in
          let b = borrows_ebx x in
          let falls : course_of x.instr ≡ Next = falls_next x.instr (placeable.falls some) in
          let own_next : course_of (placed_own x).instr ≡ Next = own_course x ∙ falls in
          let all_next : AreNext (placed (place_instr spare x)) = items_next own_next in
          let whole : most c left (placed (place_instr spare x) ++ rest) ≡ items_cost c (placed (place_instr spare x)) + most c left rest = next_most (placed (place_instr spare x)) rest all_next in
          let named : most d left (named_item x ∷ rest') ≡ d (named_item x) + most d left rest' = ap (λ k. d (named_item x) + most_behind k left (most d left rest')) falls in
          omega (arith, whole, named, within, less)
        where
          both_next : (xs ys : List Item) → AreNext xs → AreNext ys → AreNext (xs ++ ys)
          both_next [] ys h k = k
          both_next (y ∷ xs) ys h k = (h.0, both_next xs ys h.1 k)

          items_next : course_of (placed_own x).instr ≡ Next → AreNext (placed (place_instr spare x))
          items_next e =
              let byte = has_byte_field x.instr in
              let last = last_name x.slots in
              let b = borrows_ebx x in
              subst AreNext (sym (layout (placed_item homes) (lend b spare) (fetches byte last x.slots) (own x) (keeps byte last x.slots) (give_back b spare) []) ∙ append-nil (placed (place_instr spare x)))
              (both_next (placed (lend b spare)) _ (lend_next b spare)
              (both_next (placed (fetches byte last x.slots)) _ (fetches_next byte last x.slots)
              (e, both_next (placed (keeps byte last x.slots)) _ (keeps_next byte last x.slots) (both_next (placed (give_back b spare)) [] (give_next b spare) tt))))

      instr_within : Within
      instr_within = by (is_some (last_name x.slots)) refl
        where
          by : (b : Bool) → is_some (last_name x.slots) ≡ b → Within
          by true e = several_within e
          by false e = alone_within e

    longest_within : (spare : ℕ) (xs : List VInstr) → ((x : VInstr) → IsInstrPlaceable x → items_cost c (placed (place_instr spare x)) ≤ d (named_item x)) → All IsInstrPlaceable xs → most c left (placed (place_instrs spare xs)) ≤ most d left (map named_item xs)
    longest_within spare [] each h = omega arith
    longest_within spare (x ∷ xs) each h =
        let placeable = All-head IsInstrPlaceable x xs h in
        subst (λ (is : List Item). most c left is ≤ most d left (map named_item (x ∷ xs))) (sym (map-append (placed_item homes) (place_instr spare x) (place_instrs spare xs)))
        (instr_within spare x placeable (each x placeable) (placed (place_instrs spare xs)) (map named_item xs) (longest_within spare xs each (All-tail IsInstrPlaceable x xs h)))

-- ---- a block, and the whole code
module _ (code : List VBlock) (can : CanBePlaced code) (marks : Marks) (c d : Item → ℕ) (rest : ℕ → ℕ) (w : ℕ) where
  abbrev homes : List Home
  homes = homes_of (name_count code + 1)

  block_bounded : ((x : VInstr) → IsInstrPlaceable x → items_cost c (map (placed_item homes) (place_instr (name_count code) x)) ≤ d (named_item x)) → (b : VBlock) → All IsInstrPlaceable b.code
      → IsBounded marks d rest w (named_block b) → IsBounded marks c rest w (placed_block homes (place_block (name_count code) b))
  block_bounded each b h bounded = record {
    within = let long = longest_within homes c d (left_at marks rest) (name_count code) b.code each h in let most_of = bounded.within in omega (arith, long, most_of);
    entered = bounded.entered;
    once = instrs_once homes (name_count code) b.code bounded.once;
  }

  blocks_bounded : ((x : VInstr) → IsInstrPlaceable x → items_cost c (map (placed_item homes) (place_instr (name_count code) x)) ≤ d (named_item x)) → (bs : List VBlock) → All IsBlockPlaceable bs
      → All (IsBounded marks d rest w) (map named_block bs) → All (IsBounded marks c rest w) (map (placed_block homes) (map (place_block (name_count code)) bs))
  blocks_bounded each [] h bounds = All-nil (IsBounded marks c rest w)
  blocks_bounded each (b ∷ bs) h bounds =
      All-cons (IsBounded marks c rest w) (placed_block homes (place_block (name_count code) b)) (map (placed_block homes) (map (place_block (name_count code)) bs))
      (block_bounded each b (All-head IsBlockPlaceable b bs h) (All-head (IsBounded marks d rest w) (named_block b) (map named_block bs) bounds))
      (blocks_bounded each bs (All-tail IsBlockPlaceable b bs h) (All-tail (IsBounded marks d rest w) (named_block b) (map named_block bs) bounds))

pub costs : (code : List VBlock) → CanBePlaced code → CostsAsCode code (cells_of code)
costs code can marks c d rest w each bounds = blocks_bounded code can marks c d rest w each code can bounds
