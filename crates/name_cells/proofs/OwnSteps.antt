-- An own item runs as its instruction does.
use Rattle.std.proofs.Common.{◌≡◌, inl, inr, ℕ, ◌+◌, ◌<◌, Bool, true, false, List, [], ◌∷◌, length, map, Option, Some, None, Result, Ok, Err, refl, sym, ap, ◌∙◌, subst, arith}
use Rattle.std.proofs.lemmas.Bool.{and_parts}
use Rattle.traces.specs.Trace.{Halt}
use Rattle.x86_values.specs.declared.word.Word.{Word}
use Rattle.memory.specs.Memory.{Memory, Place, wrapped, Stored, AccessKind, Load, Store, allows_all, put_all, store_all, kind_of, AreApart, IsWithin}
use Rattle.memory.specs.MemoryLaws.{MemoryLaws}
use Rattle.x86_types.specs.declared.instr.Instr.{Instr}
use Rattle.x86_types.specs.Registers.{renamed}
use Rattle.x86_meaning.specs.declared.stop.Stop.{Stop}
use Rattle.x86_meaning.specs.declared.stop.Stop.TheVariants.{MemoryFault}
use Rattle.x86_meaning.specs.Registers.{machine_naming}
use Rattle.x86_meaning.specs.Operands.{Access}
use Rattle.x86_meaning.specs.Effect.{Effect, accesses, effect}
use Rattle.x86_meaning.specs.Step.{access_allowed, all_allowed, end_of}
use Rattle.x86_meaning.specs.StepLaws.{StepLaws, stored_range, if_store, store_ranges}
use Rattle.x86_meaning.specs.AccessLaws.{AccessLaws, SameLoad, SameLoads}
use Rattle.private_memory.specs.PrivateArea.{HasPrivateArea}
use Rattle.field_places.specs.Pairs.{ResultsAlike}
use Rattle.field_places.specs.FieldPlaceLaws.{FieldPlaceLaws, processor}
use Rattle.named_code.specs.declared.named.VInstr.{VInstr}
use Rattle.named_code.specs.Items.{Item, named_item, naming_of}
use Rattle.named_code.specs.Running.{CodeState, by_loads, act}
use Rattle.name_cells.specs.Cells.{cell_at}
use Rattle.name_cells.specs.CanBePlaced.{IsInstrPlaceable}
use Rattle.name_cells.specs.Pairs.{pairs_of, own_renaming}
use Rattle.name_cells.specs.MovedNames.{StandsIn}
use Rattle.name_cells.specs.OwnSteps.{MissCells, SameButCells, StandsBeside, placed_own, RunAlike}
use Rattle.name_cells.proofs.OwnItems.{own_accesses, own_effect}

-- what is stored misses the cells
abbrev pub RangesMiss : List (ℕ × ℕ) → Type 0
RangesMiss [] = Unit {0}
RangesMiss (p ∷ ps) = AreApart p.0 p.1 0x75220000 0x5E0000 × RangesMiss ps

unmapped : (o : Option Place) → kind_of o ≡ None → o ≡ None
unmapped None h = refl
unmapped (Some p) h = absurd cc

module _ (memories : MemoryLaws) where
  -- ---- accesses over both memories
  allowed_same : (kind other : AccessKind) (at n : ℕ) (l m : Memory) → SameButCells l m → access_allowed kind other l at n ≡ access_allowed kind other m at n
  allowed_same Load Load at n l m h = memories.allows_by_kinds Load l m h.kinds at n
  allowed_same Store Store at n l m h = memories.allows_by_kinds Store l m h.kinds at n
  allowed_same Load Store at n l m h = refl
  allowed_same Store Load at n l m h = refl

  judged_same : (kind : AccessKind) (xs : List Access) (l m : Memory) → SameButCells l m → all_allowed kind xs l ≡ all_allowed kind xs m
  judged_same kind [] l m h = refl
  judged_same kind (a ∷ xs) l m h = rw (allowed_same kind a.kind a.at a.size l m h, judged_same kind xs l m h) refl

  load_same : (kind : AccessKind) (at n : ℕ) (l m : Memory) → SameButCells l m → access_allowed Load kind l at n ≡ true → (allows_all kind l at n ≡ true → AreApart at n 0x75220000 0x5E0000) → SameLoad kind at n l m
  load_same Load at n l m h a f = record { places = λ j less. h.outside.places (wrapped (at + j)) (λ i small. (f a).apart j i less small) }
  load_same Store at n l m h a f = tt

  loads_same : (xs : List Access) (l m : Memory) → SameButCells l m → MissCells xs l → all_allowed Load xs l ≡ true → SameLoads xs l m
  loads_same [] l m h f a = tt
  loads_same (x ∷ xs) l m h f a = let p = and_parts (access_allowed Load x.kind l x.at x.size) (all_allowed Load xs l) a in (load_same x.kind x.at x.size l m h p.0 f.0, loads_same xs l m h f.1 p.1)

  range_missed : (kind : AccessKind) (at n : ℕ) (ps : List (ℕ × ℕ)) (l : Memory) → access_allowed Store kind l at n ≡ true → (allows_all kind l at n ≡ true → AreApart at n 0x75220000 0x5E0000) → RangesMiss ps → RangesMiss (if_store kind (at, n) ps)
  range_missed Load at n ps l a f h = h
  range_missed Store at n ps l a f h = (f a, h)

  ranges_missed : (xs : List Access) (l : Memory) → MissCells xs l → all_allowed Store xs l ≡ true → RangesMiss (store_ranges xs)
  ranges_missed [] l f a = tt
  ranges_missed (x ∷ xs) l f a = let p = and_parts (access_allowed Store x.kind l x.at x.size) (all_allowed Store xs l) a in range_missed x.kind x.at x.size (store_ranges xs) l p.0 f.0 (ranges_missed xs l f.1 p.1)

  -- ---- what is stored
  cell_apart : (n at count : ℕ) → n < 1540096 → AreApart at count 0x75220000 0x5E0000 → AreApart (cell_at n) 4 at count
  cell_apart n at count low h =
      let inside : IsWithin (cell_at n) 4 0x75220000 0x5E0000 = memories.within_in_order (cell_at n) 4 0x75220000 0x5E0000 (omega arith) (omega (arith, low)) in
      record { apart = λ j k less small e. let w = inside.within j less in h.apart k w.0 small w.1 (sym e ∙ w.2) }

  pub cells_stay : (ss : List Stored) (m : Memory) (n : ℕ) (w : Word) → n < 1540096 → RangesMiss (map stored_range ss) → StandsIn m n w → StandsIn (store_all ss m) n w
  cells_stay [] m n w low h c = c
  cells_stay (s ∷ ss) m n w low h c = cells_stay ss (put_all s.at s.bytes m) n w low h.1 (memories.bytes_elsewhere s.at s.bytes m (cell_at n) 4 (cell_apart n s.at (length s.bytes) low h.0) ∙ c)

  pub same_after : (ss : List Stored) (l m : Memory) → SameButCells l m → SameButCells (store_all ss l) (store_all ss m)
  same_after [] l m h = h
  same_after (s ∷ ss) l m h = same_after ss _ _ (record {
    outside = memories.same_outside_put 0x75220000 0x5E0000 s.at s.bytes l m h.outside;
    kinds = λ a. memories.put_all_keeps_kinds s.at s.bytes l a ∙ h.kinds a ∙ sym (memories.put_all_keeps_kinds s.at s.bytes m a);
  })

  pub area_stays : (ss : List Stored) (m : Memory) → HasPrivateArea m → HasPrivateArea (store_all ss m)
  area_stays [] m h = h
  area_stays (s ∷ ss) m h = area_stays ss (put_all s.at s.bytes m) (record {
    zero = unmapped _ (memories.put_all_keeps_kinds s.at s.bytes m 0 ∙ ap kind_of h.zero);
    before = unmapped _ (memories.put_all_keeps_kinds s.at s.bytes m 0x5FFFFFFF ∙ ap kind_of h.before);
    area = λ b e. memories.put_all_keeps_kinds s.at s.bytes m b ∙ h.area b e;
  })

  -- ---- the step
  module _ (fields : FieldPlaceLaws) (looks : AccessLaws) (steps : StepLaws) (x : VInstr) (placeable : IsInstrPlaceable x) (s t : CodeState) (beside : StandsBeside x s t) where
    abbrev own : Instr
    own = renamed (own_renaming x) x.instr

    abbrev made : List Access
    made = accesses (naming_of x.slots) x.instr s.cpu.regs

    same_made : made ≡ accesses machine_naming own t.cpu.regs
    same_made = own_accesses fields x s.cpu.regs t.cpu.regs placeable beside.registers

    abbrev left_result : Result Effect Stop
    left_result = effect (naming_of x.slots) x.instr 0 s.cpu s.memory

    abbrev right_result : Result Effect Stop
    right_result = effect machine_naming own 0 t.cpu t.memory

    judged : (kind : AccessKind) → all_allowed kind (accesses machine_naming own t.cpu.regs) t.memory ≡ all_allowed kind made s.memory
    judged kind = ap (λ (xs : List Access). all_allowed kind xs t.memory) (sym same_made) ∙ sym (judged_same kind made s.memory t.memory beside.memory)

    results : MissCells made s.memory → all_allowed Load made s.memory ≡ true → ResultsAlike (pairs_of x) s.cpu.regs t.cpu.regs left_result right_result
    results miss a =
        let loads : SameLoads (accesses machine_naming own t.cpu.regs) s.memory t.memory = subst (λ (xs : List Access). SameLoads xs s.memory t.memory) same_made (loads_same made s.memory t.memory beside.memory miss a) in
        let flags : effect machine_naming own 0 (processor t.cpu.regs s.cpu.flags) s.memory ≡ effect machine_naming own 0 t.cpu s.memory = ap (λ f. effect machine_naming own 0 (processor t.cpu.regs f) s.memory) beside.flags in
        subst (λ (r : Result Effect Stop). ResultsAlike (pairs_of x) s.cpu.regs t.cpu.regs left_result r) (flags ∙ looks.effect_by_loads machine_naming own 0 t.cpu s.memory t.memory loads)
        (own_effect fields x 0 s.cpu.flags s.cpu.regs t.cpu.regs s.memory placeable beside.registers)

    module _ (rest rest' : List Item) where
      named_is : (a b : Bool) (r : Result Effect Stop) → all_allowed Load made s.memory ≡ a → all_allowed Store made s.memory ≡ b → left_result ≡ r → act (named_item x) rest s ≡ by_loads a b r (named_item x) rest s
      unfolding act
      named_is a b r h k e =
          ap (λ (z : Bool). by_loads z (all_allowed Store made s.memory) left_result (named_item x) rest s) h ∙ ap (λ (z : Bool). by_loads a z left_result (named_item x) rest s) k ∙ ap (λ (z : Result Effect Stop). by_loads a b z (named_item x) rest s) e

      placed_is : (a b : Bool) (r : Result Effect Stop) → all_allowed Load made s.memory ≡ a → all_allowed Store made s.memory ≡ b → right_result ≡ r → act (placed_own x) rest' t ≡ by_loads a b r (placed_own x) rest' t
      unfolding act
      placed_is a b r h k e =
          ap (λ (z : Bool). by_loads z (all_allowed Store (accesses machine_naming own t.cpu.regs) t.memory) right_result (placed_own x) rest' t) (judged Load ∙ h)
          ∙ ap (λ (z : Bool). by_loads a z right_result (placed_own x) rest' t) (judged Store ∙ k) ∙ ap (λ (z : Result Effect Stop). by_loads a b z (placed_own x) rest' t) e

      module _ (miss : MissCells made s.memory) where
        go : (a b : Bool) (p q : Result Effect Stop) → all_allowed Load made s.memory ≡ a → all_allowed Store made s.memory ≡ b → left_result ≡ p → right_result ≡ q → (a ≡ true → ResultsAlike (pairs_of x) s.cpu.regs t.cpu.regs p q) → RunAlike x rest rest' s t
        go false b p q h k e f r = inl (record { end = end_of MemoryFault; named = named_is false b p h k e; placed = placed_is false b q h k f })
        go true b (Err y) (Err z) h k e f r = inl (record { end = end_of y; named = named_is true b (Err y) h k e; placed = placed_is true b (Err z) h k f ∙ ap (λ (w : Stop). Halt [] (end_of w)) (sym (r refl)) })
        go true b (Err y) (Ok d) h k e f r = absurd (r refl)
        go true b (Ok d) (Err z) h k e f r = absurd (r refl)
        go true false (Ok c) (Ok d) h k e f r = inl (record { end = end_of MemoryFault; named = named_is true false (Ok c) h k e; placed = placed_is true false (Ok d) h k f })
        go true true (Ok c) (Ok d) h k e f r =
            let alike = r refl in
            let missed : RangesMiss (map stored_range c.stores) = subst RangesMiss (sym (steps.stores_are_accesses (naming_of x.slots) x.instr 0 s.cpu s.memory c e)) (ranges_missed made s.memory miss k) in
            inr (record {
              left = c;
              right = d;
              is_left = e;
              named = named_is true true (Ok c) h k e;
              placed = placed_is true true (Ok d) h k f;
              effects = alike;
              memory = subst (λ (ss : List Stored). SameButCells (store_all c.stores s.memory) (store_all ss t.memory)) alike.stores (same_after c.stores s.memory t.memory beside.memory);
              area = area_stays d.stores t.memory beside.area;
              cells = λ n w low c'. cells_stay d.stores t.memory n w low (subst (λ (ss : List Stored). RangesMiss (map stored_range ss)) alike.stores missed) c';
            })

        pub own_step : RunAlike x rest rest' s t
        own_step = go (all_allowed Load made s.memory) (all_allowed Store made s.memory) left_result right_result refl refl refl refl (results miss)
