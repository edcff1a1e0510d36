-- Named code and its placed code meet behind jumps, and so at each pair of positions.
use Rattle.std.proofs.Common.{◌≡◌, ◌⊎◌, inl, inr, ℕ, ◌+◌, ◌==◌, Bool, true, false, cond, find, List, [], ◌∷◌, ◌++◌, map, All, Option, Some, None, refl, sym, ap, ◌∙◌, subst, subst₂}
use Rattle.std.specs.List.{list_all}
use Rattle.std.proofs.lemmas.List.{map-append}
use Rattle.std.proofs.lemmas.List.Elements.{All-head, All-tail}
use Rattle.traces.specs.Trace.{Turn, Outside, Unspecified, Seen, seen, Move, Stand, Halt}
use Rattle.traces.specs.Machines.{marked}
use Rattle.traces.specs.Meeting.{OnBoth, SeenRefines, Meets}
use Rattle.private_memory.specs.PrivateArea.{is_apart_access, is_clear_access}
use Rattle.named_code.specs.declared.named.VInstr.{VInstr}
use Rattle.named_code.specs.declared.named.VBlock.{VBlock}
use Rattle.named_code.specs.declared.placed.Home.{Home}
use Rattle.named_code.specs.declared.placed.PInstr.{PInstr}
use Rattle.named_code.specs.Items.{Item, CodeBlock, named_item, named_block, named_blocks, placed_item, placed_block, placed_blocks}
use Rattle.named_code.specs.Running.{CodeState, CodePoint, AtNumber, AtOld, CodePosition, Marks, standing_at, act, goes_on, block_of_number, block_at, marked_unless_zero, begun, code_next}
use Rattle.named_code.specs.TestedRun.{AccessTest, first_accesses, items_found, turn_found, all_pass, tested_next}
use Rattle.name_cells.specs.Cells.{homes_of, name_count}
use Rattle.name_cells.specs.CanBePlaced.{CanBePlaced}
use Rattle.name_cells.specs.Placing.{place_instr, place_instrs, place_block, cells_of}
use Rattle.name_cells.specs.Living.{before_items, LiveInCells}
use Rattle.name_cells.specs.CellPairs.{Fits, PairPoint, ToNumber, ToOld, Before, PointFits, named_point, placed_point, named_position, placed_position}
use Rattle.name_cells.proofs.WholeInstrs.{items_run}
use Rattle.name_cells.proofs.SomeItems.{some_placed}
use Rattle.name_cells.proofs.Counting.{BlockFits, code_fits, count_small}
use Rattle.name_cells.proofs.Beginnings.{items_awake, Onward, Both, met, jump_met}
use Rattle.name_cells.proofs.Meets.{CellLawsBelow, source, target, IsPair, Later, items_met, excused}

-- ---- a jump and the block that it finds
abbrev move_of : AccessTest → Marks → Option CodeBlock → CodeState → Move CodePosition
move_of test marks o s = cond (list_all (test s.memory) (first_accesses (items_found o) s)) (begun marks o s) (Halt (turn_found marks o) Unspecified)

-- where no item is there, no turn begins
no_turn : (z : Bool) (a : ℕ) → cond {A = Move CodePosition} z (Stand [] Outside) (marked a (Stand [] Outside)) ≡ Stand [] Outside
no_turn true a = refl
no_turn false a = refl

module _ (test : AccessTest) (marks : Marks) (code : List CodeBlock) (s : CodeState) where
  abbrev next : CodePosition → Move CodePosition
  next = tested_next test marks code

  pub by_number : (n : ℕ) → next (standing_at (AtNumber n) s) ≡ move_of test marks (block_of_number n code) s
  unfolding tested_next all_pass code_next
  by_number n = refl

  pub by_old : (a : ℕ) → next (standing_at (AtOld a) s) ≡ move_of test marks (block_at a code) s
  unfolding tested_next all_pass code_next
  by_old a = refl

  -- the turn begins with the first item, where it passes and where it doesn't
  turned : (c z : Bool) (a : ℕ) (m : Move CodePosition) → cond c (cond z m (marked a m)) (Halt (cond z [] (Turn a ∷ [])) Unspecified) ≡ cond z (cond c m (Halt [] Unspecified)) (marked a (cond c m (Halt [] Unspecified)))
  turned true true a m = refl
  turned true false a m = refl
  turned false true a m = refl
  turned false false a m = refl

  pub from_block : (b : CodeBlock) → move_of test marks (Some b) s ≡ marked_unless_zero (marks b.number) (next (before_items b.items s))
  unfolding tested_next all_pass code_next
  from_block b = turned (list_all (test s.memory) (first_accesses b.items s)) (marks b.number == 0) (marks b.number) (goes_on b.items s)

  pub empty_stands : next (before_items [] s) ≡ Stand [] Outside
  unfolding tested_next all_pass code_next
  empty_stands = refl

  pub empty_block : (b : CodeBlock) → b.items ≡ [] → move_of test marks (Some b) s ≡ Stand [] Outside
  empty_block b e = from_block b ∙ ap (λ (is : List Item). marked_unless_zero (marks b.number) (next (before_items is s))) e ∙ (ap (marked_unless_zero (marks b.number)) empty_stands ∙ no_turn (marks b.number == 0) (marks b.number))

-- ---- both find a block, or none
module _ (count : ℕ) where
  abbrev homes : List Home
  homes = homes_of (count + 1)

  abbrev placed_of : VBlock → CodeBlock
  placed_of b = placed_block homes (place_block count b)

  abbrev pub FindBoth : Option CodeBlock → Option CodeBlock → Type 0
  FindBoth o o' = ((o ≡ None) × (o' ≡ None)) ⊎ ((b : VBlock) × BlockFits count b × (o ≡ Some (named_block b)) × (o' ≡ Some (placed_of b)))

  find_both : (test : ℕ → ℕ → Bool) (bs : List VBlock) → All (BlockFits count) bs
      → FindBoth (find (λ (b : CodeBlock). test b.number b.at) (map named_block bs)) (find (λ (b : CodeBlock). test b.number b.at) (map (placed_block homes) (map (place_block count) bs)))
  find_both test [] fits = inl (refl, refl)
  find_both test (b ∷ bs) fits = by (test b.number b.at) (find_both test bs (All-tail (BlockFits count) b bs fits))
    where
      by : (c : Bool) → FindBoth (find (λ (b : CodeBlock). test b.number b.at) (map named_block bs)) (find (λ (b : CodeBlock). test b.number b.at) (map (placed_block homes) (map (place_block count) bs)))
          → FindBoth (cond c (Some (named_block b)) (find (λ (b : CodeBlock). test b.number b.at) (map named_block bs))) (cond c (Some (placed_of b)) (find (λ (b : CodeBlock). test b.number b.at) (map (placed_block homes) (map (place_block count) bs))))
      by true h = inr (b, All-head (BlockFits count) b bs fits, refl, refl)
      by false h = h

  at_both : (a : ℕ) (bs : List VBlock) → All (BlockFits count) bs → FindBoth (block_at a (map named_block bs)) (block_at a (map (placed_block homes) (map (place_block count) bs)))
  at_both a bs fits = by (a == 0)
    where
      by : (z : Bool) → FindBoth (cond z None (find (λ (b : CodeBlock). b.at == a) (map named_block bs))) (cond z None (find (λ (b : CodeBlock). b.at == a) (map (placed_block homes) (map (place_block count) bs))))
      by true = inl (refl, refl)
      by false = find_both (λ k c. c == a) bs fits

module _ (laws : CellLawsBelow) (code : List VBlock) (can : CanBePlaced code) (marks : Marks) where
  abbrev count : ℕ
  count = name_count code

  abbrev from : CodePosition → Move CodePosition
  from = source laws code can marks

  abbrev to : CodePosition → Move CodePosition
  to = target laws code can marks

  abbrev Meet : CodePosition → CodePosition → Type 0
  Meet p q = Both laws.runs laws.meetings from to (IsPair laws code can marks) p q

  abbrev placed : List PInstr → List Item
  placed ps = map (placed_item (homes_of (count + 1))) ps

  map_empty : (ps : List PInstr) → placed ps ≡ [] → ps ≡ []
  map_empty [] e = refl
  map_empty (p ∷ ps) e = absurd cc

  -- ---- before an instruction
  instr_onward : (x : VInstr) (xs : List VInstr) (s t : CodeState) → All (Fits count) (x ∷ xs) → LiveInCells count s t
      → Onward laws.runs laws.meetings from to (IsPair laws code can marks) (before_items (map named_item (x ∷ xs)) s) (before_items (placed (place_instrs count (x ∷ xs))) t)
  unfolding tested_next code_next
  instr_onward x xs s t fits living = record {
    awake = items_awake laws.runs is_apart_access marks (named_blocks code) (map named_item (x ∷ xs)) s (λ e. absurd cc);
    awake' = items_awake laws.runs is_clear_access marks (placed_blocks (cells_of code)) (placed (place_instrs count (x ∷ xs))) t (λ e. some_placed count (x ∷ xs) (λ f. absurd cc) (map_empty (place_instrs count (x ∷ xs)) e));
    way = subst (λ (is : List Item). Goal (before_items is t)) (sym (map-append (placed_item (homes_of (count + 1))) (place_instr count x) (place_instrs count xs))) (by (all_pass is_apart_access (named_blocks code) here) refl);
  }
    where
      here : CodePosition
      here = before_items (map named_item (x ∷ xs)) s

      Goal : CodePosition → Type 0
      Goal q = OnBoth from to (IsPair laws code can marks) here q ⊎ Later laws code can marks here q

      by : (b : Bool) → all_pass is_apart_access (named_blocks code) here ≡ b → Goal (before_items (placed (place_instr count x) ++ placed (place_instrs count xs)) t)
      by true e =
          let apart = laws.tested.passes_apart (named_blocks code) here e in
          let fit = All-head (Fits count) x xs fits in
          items_met laws code can marks x xs s t fits living (ap (λ (c : Bool). cond c (act (named_item x) (map named_item xs) s) (Halt [] Unspecified)) e) apart
          (items_run laws.runs laws.memories laws.areas laws.fields laws.looks laws.steps laws.tested marks (placed_blocks (cells_of code)) count (count_small code can) x fit.placeable fit.names (map named_item xs) (placed (place_instrs count xs)) s t living apart)
      by false e = inr (excused laws code can marks here _ (ap (λ (c : Bool). cond c (act (named_item x) (map named_item xs) s) (Halt [] Unspecified)) e))

  -- ---- both stand
  stand_both : (p q : CodePosition) → from p ≡ Stand [] Outside → to q ≡ Stand [] Outside → Meet p q
  stand_both p q g h =
      let first = laws.runs.run_stand from p [] Outside g 0 in
      let second = laws.runs.run_stand to q [] Outside h 0 in
      inr (record {
        steps = 0;
        ended = λ n. let e : Some Outside ≡ None = sym (ap (λ (c : Seen). c.end) first) ∙ n in absurd cc;
        steps' = 0;
        fits = subst₂ SeenRefines (sym first) (sym second) (laws.meetings.refines_itself (seen [] (Some Outside)));
      })

  -- ---- at a jump
  jump_meets : (p q : CodePoint) (s t : CodeState) (o o' : Option CodeBlock) → LiveInCells count s t → FindBoth count o o' → from (standing_at p s) ≡ move_of is_apart_access marks o s → to (standing_at q t) ≡ move_of is_clear_access marks o' t → Meet (standing_at p s) (standing_at q t)
  jump_meets p q s t o o' living (inl f) g h = stand_both (standing_at p s) (standing_at q t) (g ∙ ap (λ (z : Option CodeBlock). move_of is_apart_access marks z s) f.0) (h ∙ ap (λ (z : Option CodeBlock). move_of is_clear_access marks z t) f.1)
  jump_meets p q s t o o' living (inr f) g h =
      by f.0.code refl
    where
      b : VBlock
      b = f.0

      first : from (standing_at p s) ≡ move_of is_apart_access marks (Some (named_block b)) s
      first = g ∙ ap (λ (z : Option CodeBlock). move_of is_apart_access marks z s) f.2

      second : to (standing_at q t) ≡ move_of is_clear_access marks (Some (placed_block (homes_of (count + 1)) (place_block count b))) t
      second = h ∙ ap (λ (z : Option CodeBlock). move_of is_clear_access marks z t) f.3

      by : (xs : List VInstr) → f.0.code ≡ xs → Meet (standing_at p s) (standing_at q t)
      by [] e =
          stand_both (standing_at p s) (standing_at q t) (first ∙ empty_block is_apart_access marks (named_blocks code) s (named_block b) (ap (map named_item) e))
          (second ∙ empty_block is_clear_access marks (placed_blocks (cells_of code)) t (placed_block (homes_of (count + 1)) (place_block count b)) (ap (λ (xs : List VInstr). placed (place_instrs count xs)) e))
      by (x ∷ xs) e =
          jump_met laws.runs laws.meetings from to (IsPair laws code can marks) (marks b.number) (standing_at p s) (standing_at q t) (before_items (map named_item (x ∷ xs)) s) (before_items (placed (place_instrs count (x ∷ xs))) t)
          (first ∙ from_block is_apart_access marks (named_blocks code) s (named_block b) ∙ ap (λ (ys : List VInstr). marked_unless_zero (marks b.number) (from (before_items (map named_item ys) s))) e)
          (second ∙ from_block is_clear_access marks (placed_blocks (cells_of code)) t (placed_block (homes_of (count + 1)) (place_block count b)) ∙ ap (λ (ys : List VInstr). marked_unless_zero (marks b.number) (to (before_items (placed (place_instrs count ys)) t))) e)
          (instr_onward x xs s t (subst (All (Fits count)) e f.1) living)

  point_meets : (point : PairPoint) (s t : CodeState) → PointFits count point → LiveInCells count s t → Meet (standing_at (named_point point) s) (standing_at (placed_point count point) t)
  point_meets (ToNumber n) s t fits living =
      jump_meets (AtNumber n) (AtNumber n) s t _ _ living (find_both count (λ k a. k == n) code (code_fits code can)) (by_number is_apart_access marks (named_blocks code) s n) (by_number is_clear_access marks (placed_blocks (cells_of code)) t n)
  point_meets (ToOld a) s t fits living =
      jump_meets (AtOld a) (AtOld a) s t _ _ living (at_both count a code (code_fits code can)) (by_old is_apart_access marks (named_blocks code) s a) (by_old is_clear_access marks (placed_blocks (cells_of code)) t a)
  point_meets (Before []) s t fits living = stand_both _ _ (empty_stands is_apart_access marks (named_blocks code) s) (empty_stands is_clear_access marks (placed_blocks (cells_of code)) t)
  point_meets (Before (x ∷ xs)) s t fits living = met laws.runs laws.meetings from to (IsPair laws code can marks) _ _ (instr_onward x xs s t fits living)

  pub meets : Meets from to (named_position code) (placed_position code) SeenRefines
  meets p = point_meets p.point p.named p.placed p.fits p.living
