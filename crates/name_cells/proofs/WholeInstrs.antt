-- An instruction's items run as the instruction does: with names, and without.
use Rattle.std.proofs.Common.{◌≡◌, ◌≢◌, ◌⊎◌, inl, inr, ℕ, suc, ◌+◌, ◌<◌, ◌≤◌, ◌==◌, Bool, true, false, is_some, List, [], ◌∷◌, ◌++◌, map, length, All, Option, refl, sym, ap, ◌∙◌, subst, arith}
use Rattle.std.proofs.lemmas.Bool.Decides.{eqb_tells}
use Rattle.traces.specs.Trace.{Go}
use Rattle.traces.specs.Steps.{Reaches, rests, goes}
use Rattle.traces.specs.RunLaws.{RunLaws}
use Rattle.x86_values.specs.declared.word.Word.{Word}
use Rattle.x86_values.specs.Words.{padded}
use Rattle.memory.specs.Memory.{Memory, bytes_at}
use Rattle.memory.specs.MemoryLaws.{MemoryLaws}
use Rattle.x86_types.specs.declared.operand.Reg.TheVariants.{Ebx}
use Rattle.x86_types.specs.Numbers.{number_of_reg}
use Rattle.x86_meaning.specs.Registers.{Processor, with_register}
use Rattle.x86_meaning.specs.Outcomes.{Way, Falls}
use Rattle.x86_meaning.specs.Effect.{Effect, accesses}
use Rattle.x86_meaning.specs.StepLaws.{StepLaws}
use Rattle.x86_meaning.specs.AccessLaws.{AccessLaws}
use Rattle.private_memory.specs.PrivateArea.{IsApartAccess, HasPrivateArea}
use Rattle.private_memory.specs.PrivateAreaLaws.{PrivateAccessLaws}
use Rattle.field_places.specs.Pairs.{EffectsAlike}
use Rattle.field_places.specs.FieldPlaceLaws.{FieldPlaceLaws}
use Rattle.named_code.specs.declared.named.VInstr.{VInstr}
use Rattle.named_code.specs.declared.placed.PInstr.{PInstr}
use Rattle.named_code.specs.Items.{Item, CodeBlock, name_place, named_item, placed_item, naming_of}
use Rattle.named_code.specs.Running.{CodeState, CodePosition, Marks, act, onward, performed}
use Rattle.named_code.specs.TestedRun.{item_accesses}
use Rattle.named_code.specs.TestedRunLaws.{TestedRunLaws}
use Rattle.name_cells.specs.Cells.{cell_at, homes_of}
use Rattle.name_cells.specs.Holders.{has_byte_field, last_name, is_last, holder, borrows_ebx}
use Rattle.name_cells.specs.Placing.{fetches, keeps, own, lend, give_back}
use Rattle.name_cells.specs.CanBePlaced.{HasName, IsInstrPlaceable}
use Rattle.name_cells.specs.Pairs.{pairs_of}
use Rattle.name_cells.specs.MovedNames.{StandsIn, with_fetched, with_kept, HaveCells}
use Rattle.name_cells.specs.OwnSteps.{MissCells, SameButCells, StandsBeside, placed_own, GoAlike, RunAlike}
use Rattle.name_cells.specs.Living.{clear_next, before_items, LiveInCells, placed_start, ItemsFall, ItemsRun}
use Rattle.name_cells.proofs.OwnItems.{name_paired}
use Rattle.name_cells.proofs.CellMoves.{area_after, clear_step, fetch_step, keep_step, fetches_run, keeps_run}
use Rattle.name_cells.proofs.MovedNames.{set_there, set_elsewhere, others, put_there, put_elsewhere, fetched_alike, kept_there, kept_elsewhere}
use Rattle.name_cells.proofs.OwnSteps.{own_step}
use Rattle.name_cells.proofs.Falling.{effect_falls}
use Rattle.name_cells.proofs.OwnAccesses.{item_misses, own_clear}
use Rattle.name_cells.proofs.NoNames.{none_named, and_false, alone_is}
use Rattle.name_cells.proofs.ItemsRun.{layout, fetched_memory, fetched_flags, fetched_left, kept_cpu, kept_left, lent, given, given_memory, given_flags, given_left, named_or_not, not_four, ebx_left, name_left, registers_after, cell_put, kept_memory, kept_area}

module _ (runs : RunLaws CodePosition) (memories : MemoryLaws) (areas : PrivateAccessLaws) (fields : FieldPlaceLaws) (looks : AccessLaws) (steps : StepLaws) (tested : TestedRunLaws) (marks : Marks) (code : List CodeBlock) (count : ℕ) (small : count ≤ 1540095) (x : VInstr) (placeable : IsInstrPlaceable x) (have : HaveCells count x.slots) (rest rest' : List Item) where
  abbrev byte : Bool
  byte = has_byte_field x.instr

  abbrev last : Option ℕ
  last = last_name x.slots

  abbrev borrows : Bool
  borrows = borrows_ebx x

  abbrev placed : List PInstr → List Item
  placed xs = map (placed_item (homes_of (count + 1))) xs

  abbrev Steps : CodePosition → ℕ → CodePosition → Type 0
  Steps p n q = Reaches (clear_next marks code) p n [] q

  have_more : HaveCells (count + 1) x.slots
  have_more n h = let l = have n h in omega (arith, l)

  have_all : HaveCells 1540096 x.slots
  have_all n h = let l = have n h in omega (arith, l, small)

  -- ---- EBX
  lend_runs : (b : Bool) (more : List Item) (t : CodeState) → HasPrivateArea t.memory → Steps (before_items (placed (lend b count) ++ more) t) (length (lend b count)) (before_items more (lent b count t))
  unfolding lent
  lend_runs true more t h = goes _ [] _ _ [] _ (keep_step memories areas tested marks code (count + 1) (omega (arith, small)) count Ebx more t (omega arith) h) (rests _)
  lend_runs false more t h = rests _

  give_runs : (b : Bool) (more : List Item) (t : CodeState) → HasPrivateArea t.memory → Steps (before_items (placed (give_back b count) ++ more) t) (length (give_back b count)) (before_items more (given b count t))
  unfolding given
  give_runs true more t h = goes _ [] _ _ [] _ (fetch_step memories areas tested marks code (count + 1) (omega (arith, small)) count Ebx more t (omega arith) h) (rests _)
  give_runs false more t h = rests _

  record Lent (b : Bool) (s t u : CodeState) : Type 0 where
    cpu : u.cpu ≡ t.cpu
    left : u.left ≡ t.left
    memory : SameButCells s.memory u.memory
    area : HasPrivateArea u.memory
    names : (n : ℕ) → n < count → StandsIn u.memory n (s.cpu.regs (name_place n))
    spare : b ≡ true → StandsIn u.memory count (t.cpu.regs 3)

  lends : (b : Bool) (s t : CodeState) → LiveInCells count s t → Lent b s t (lent b count t)
  unfolding lent
  lends true s t l = record {
    cpu = refl;
    left = refl;
    memory = cell_put memories areas count _ s.memory t.memory (omega (arith, small)) l.memory;
    area = area_after memories areas (cell_at count) _ t.memory l.area;
    names = λ n low. put_elsewhere memories areas n count _ _ t.memory (omega (arith, low, small)) (omega (arith, small)) (λ e. omega (arith, low, e)) (l.names n low);
    spare = λ _. put_there memories areas count _ t.memory (omega (arith, small)) l.area;
  }
  lends false s t l = record { cpu = refl; left = refl; memory = l.memory; area = l.area; names = l.names; spare = λ e. absurd cc }

  -- ---- after the own item: the registers and the cells
  name_stays : (s t u : CodeState) (d e : Effect) → EffectsAlike (pairs_of x) s.cpu.regs u.cpu.regs d e → (n : ℕ) → ((m : ℕ) → HasName m x.slots → m ≢ n) → d.cpu.regs (name_place n) ≡ s.cpu.regs (name_place n)
  name_stays s t u d e a n o = a.others_left (name_place n) (name_left x n o)

  module _ (s t : CodeState) (living : LiveInCells count s t) (apart : All (IsApartAccess s.memory) (item_accesses (named_item x) s)) where
    miss : MissCells (accesses (naming_of x.slots) x.instr s.cpu.regs) s.memory
    miss = item_misses x s apart

    -- ---- without names: the own item alone
    module _ (none : is_some (last_name x.slots) ≡ false) where
      beside : StandsBeside x s t
      beside = record {
        registers = record { registers = λ k low below. living.registers k (omega (arith, low)); names = λ n h. absurd (none_named x.slots none n h) };
        flags = living.flags;
        memory = living.memory;
        area = living.area;
      }

      start_is : clear_next marks code (placed_start marks code count x rest rest' s t) ≡ act (placed_own x) rest' t
      start_is = ap (λ (is : List PInstr). clear_next marks code (before_items (placed is ++ rest') t)) (alone_is count x none) ∙ clear_step memories areas tested marks code (placed_own x) rest' t (own_clear memories areas fields x placeable s t beside apart)

      single : RunAlike x rest rest' s t → ItemsRun marks code count x rest rest' s t
      single (inl e) = inl (record { end = e.end; named = e.named; steps = 0; position = placed_start marks code count x rest rest' s t; reaches = rests _; placed = start_is ∙ e.placed })
      single (inr g) = inr (inr (record {
        alone = alone_is count x none;
        left = g.left;
        right = g.right;
        is_left = g.is_left;
        same = g.effects.way;
        named = g.named;
        placed = start_is ∙ g.placed;
        living = record {
          registers = λ k low. registers_after x s.cpu.regs t.cpu.regs g.left g.right g.effects (living.registers 4 (omega arith)) k low (λ b. absurd (let f : borrows ≡ false = and_false byte (is_some (last_name x.slots)) none in cc));
          flags = g.effects.flags;
          names = λ n low.
              g.cells n _ (omega (arith, low, small))
              (subst (λ (w : Word). StandsIn t.memory n w) (sym (name_stays s t t g.left g.right g.effects n (λ m h. absurd (none_named x.slots none m h)))) (living.names n low));
          memory = g.memory;
          area = g.area;
          left = living.left;
        };
      }))

    -- ---- with names
    module _ (some : is_some (last_name x.slots) ≡ true) where
      abbrev t1 : CodeState
      t1 = lent borrows count t

      abbrev t2 : CodeState
      t2 = with_fetched byte last x.slots t1

      abbrev rest2 : List Item
      rest2 = placed (keeps byte last x.slots) ++ (placed (give_back borrows count) ++ rest')

      l1 : Lent borrows s t t1
      l1 = lends borrows s t living

      regs1 : (k : ℕ) → t1.cpu.regs k ≡ t.cpu.regs k
      regs1 k = ap (λ (c : Processor). c.regs k) l1.cpu

      memory2 : t2.memory ≡ t1.memory
      memory2 = fetched_memory byte last x.slots t1

      beside2 : StandsBeside x s t2
      beside2 = record {
        registers = fetched_alike x s.cpu.regs t1 placeable (record { registers = λ k low below. living.registers k (omega (arith, low)) ∙ sym (regs1 k); names = λ n h. l1.names n (have n h) });
        flags = living.flags ∙ sym (ap (λ (c : Processor). c.flags) l1.cpu) ∙ sym (fetched_flags byte last x.slots t1);
        memory = subst (λ (m : Memory). SameButCells s.memory m) (sym memory2) l1.memory;
        area = subst HasPrivateArea (sym memory2) l1.area;
      }

      start : Steps (placed_start marks code count x rest rest' s t) (length (lend borrows count) + length (fetches byte last x.slots)) (before_items (placed_own x ∷ rest2) t2)
      start =
          subst (λ (is : List Item). Steps (before_items is t) (length (lend borrows count) + length (fetches byte last x.slots)) (before_items (placed_own x ∷ rest2) t2))
          (sym (layout (placed_item (homes_of (count + 1))) (lend borrows count) (fetches byte last x.slots) (own x) (keeps byte last x.slots) (give_back borrows count) rest'))
          (runs.reaches_then (clear_next marks code) _ _ [] _ _ [] _ (lend_runs borrows _ t living.area) (fetches_run memories areas tested marks code (count + 1) (omega (arith, small)) byte last (placed_own x ∷ rest2) x.slots t1 have_more l1.area))

      own_is : clear_next marks code (before_items (placed_own x ∷ rest2) t2) ≡ act (placed_own x) rest2 t2
      own_is = clear_step memories areas tested marks code (placed_own x) rest2 t2 (own_clear memories areas fields x placeable s t2 beside2 apart)

      esp_same : s.cpu.regs 4 ≡ t2.cpu.regs 4
      esp_same = living.registers 4 (omega arith) ∙ sym (regs1 4) ∙ sym (others byte last x.slots t1 4 (λ n h e. not_four (is_last last n) byte (sym e)))

      module _ (g : GoAlike x rest rest2 s t2) where
        abbrev t3 : CodeState
        t3 = performed g.right t2

        abbrev t4 : CodeState
        t4 = with_kept byte last x.slots t3

        abbrev t5 : CodeState
        t5 = given borrows count t4

        falls : g.left.way ≡ Falls
        falls = effect_falls (naming_of x.slots) x.instr 0 s.cpu s.memory g.left (placeable.falls some) g.is_left

        named_falls : act (named_item x) rest s ≡ Go [] (before_items rest (performed g.left s))
        named_falls = g.named ∙ ap (λ (w : Way). onward w (named_item x) rest (performed g.left s)) falls

        own_falls : clear_next marks code (before_items (placed_own x ∷ rest2) t2) ≡ Go [] (before_items rest2 t3)
        own_falls = own_is ∙ g.placed ∙ ap (λ (w : Way). onward w (placed_own x) rest2 t3) (sym g.effects.way ∙ falls)

        area4 : HasPrivateArea t4.memory
        area4 = kept_area memories areas byte last x.slots t3 g.area

        steps_back : Steps (before_items rest2 t3) (length (keeps byte last x.slots) + length (give_back borrows count)) (before_items rest' t5)
        steps_back =
            runs.reaches_then (clear_next marks code) _ _ [] _ _ [] _ (keeps_run memories areas tested marks code (count + 1) (omega (arith, small)) byte last (placed (give_back borrows count) ++ rest') x.slots t3 have_more g.area)
            (give_runs borrows rest' t4 area4)

        spare4 : borrows ≡ true → StandsIn t4.memory count (t.cpu.regs 3)
        spare4 b =
            kept_elsewhere memories areas x t3 count _ have_all (omega (arith, small)) (λ m h e. let l = have m h in omega (arith, l, e))
            (g.cells count _ (omega (arith, small)) (subst (λ (m : Memory). StandsIn m count (t.cpu.regs 3)) (sym memory2) (l1.spare b)))

        names4 : (n : ℕ) → n < count → StandsIn t4.memory n (g.left.cpu.regs (name_place n))
        names4 n low = by (named_or_not n x.slots)
          where
            by : HasName n x.slots ⊎ ((m : ℕ) → HasName m x.slots → m ≢ n) → StandsIn t4.memory n (g.left.cpu.regs (name_place n))
            by (inl h) =
                subst (λ (w : Word). StandsIn t4.memory n w) (sym (g.effects.words (name_place n) (number_of_reg (holder byte last n)) (name_paired x n h)))
                (kept_there memories areas x t3 n placeable have_all g.area h)
            by (inr o) =
                kept_elsewhere memories areas x t3 n _ have_all (omega (arith, low, small)) o
                (g.cells n _ (omega (arith, low, small))
                (subst (λ (w : Word). StandsIn t2.memory n w) (sym (name_stays s t t2 g.left g.right g.effects n o)) (subst (λ (m : Memory). StandsIn m n (s.cpu.regs (name_place n))) (sym memory2) (l1.names n low))))

        regs4 : (k : ℕ) → t4.cpu.regs k ≡ g.right.cpu.regs k
        regs4 k = ap (λ (c : Processor). c.regs k) (kept_cpu byte last x.slots t3)

        registers5 : (b : Bool) → borrows ≡ b → (k : ℕ) → k < 5 → g.left.cpu.regs k ≡ (given b count t4).cpu.regs k
        unfolding given
        registers5 false e k low = registers_after x s.cpu.regs t2.cpu.regs g.left g.right g.effects esp_same k low (λ b. absurd cc) ∙ sym (regs4 k)
        registers5 true e k low = by (eqb_tells k 3)
          where
            by : (((k == 3) ≡ true) × (k ≡ 3)) ⊎ (((k == 3) ≡ false) × (k ≡ 3 → ⊥)) → g.left.cpu.regs k ≡ with_register 3 (padded (bytes_at t4.memory (cell_at count) 4)) t4.cpu.regs k
            by (inl f) = ap g.left.cpu.regs f.1 ∙ g.effects.others_left 3 (ebx_left x e) ∙ living.registers 3 (omega arith) ∙ ap padded (sym (spare4 e)) ∙ sym (set_there 3 _ t4.cpu.regs k f.1)
            by (inr f) = registers_after x s.cpu.regs t2.cpu.regs g.left g.right g.effects esp_same k low (λ b. f.1) ∙ sym (regs4 k) ∙ sym (set_elsewhere 3 _ t4.cpu.regs k f.1)

        memory5 : t5.memory ≡ t4.memory
        memory5 = given_memory borrows count t4

        living5 : LiveInCells count (performed g.left s) t5
        living5 = record {
          registers = registers5 borrows refl;
          flags = g.effects.flags ∙ sym (ap (λ (c : Processor). c.flags) (kept_cpu byte last x.slots t3)) ∙ sym (given_flags borrows count t4);
          names = λ n low. subst (λ (m : Memory). StandsIn m n (g.left.cpu.regs (name_place n))) (sym memory5) (names4 n low);
          memory = subst (λ (m : Memory). SameButCells (performed g.left s).memory m) (sym memory5) (kept_memory memories areas byte last x.slots (performed g.left s).memory t3 have_all g.memory);
          area = subst HasPrivateArea (sym memory5) area4;
          left = living.left ∙ sym l1.left ∙ sym (fetched_left byte last x.slots t1) ∙ sym (kept_left byte last x.slots t3) ∙ sym (given_left borrows count t4);
        }

        falling : ItemsFall marks code count x rest rest' s t
        falling = record {
          state = performed g.left s;
          named = named_falls;
          steps = (length (lend borrows count) + length (fetches byte last x.slots)) + suc (length (keeps byte last x.slots) + length (give_back borrows count));
          some = omega arith;
          state' = t5;
          reaches = runs.reaches_then (clear_next marks code) _ _ [] _ _ [] _ start (goes _ [] _ _ [] _ own_falls steps_back);
          living = living5;
        }

      several : RunAlike x rest rest2 s t2 → ItemsRun marks code count x rest rest' s t
      several (inl e) = inl (record { end = e.end; named = e.named; steps = _; position = _; reaches = start; placed = own_is ∙ e.placed })
      several (inr g) = inr (inl (falling g))

      with_names : ItemsRun marks code count x rest rest' s t
      with_names = several (own_step memories fields looks steps x placeable s t2 beside2 rest rest2 miss)

    by_names : (b : Bool) → is_some (last_name x.slots) ≡ b → ItemsRun marks code count x rest rest' s t
    by_names true e = with_names e
    by_names false e = single e (own_step memories fields looks steps x placeable s t (beside e) rest rest' miss)

    pub items_run : ItemsRun marks code count x rest rest' s t
    items_run = by_names (is_some (last_name x.slots)) refl
