-- The moves between cells and registers.
use Rattle.std.proofs.Common.{◌≡◌, inl, inr, ℕ, zero, suc, ◌+◌, ◌*◌, ◌%◌, ◌<◌, ◌≤◌, ◌&&◌, Bool, true, false, cond, List, [], ◌∷◌, ◌++◌, map, length, slice_get, All, Option, Some, None, refl, sym, ap, ◌∙◌, subst, arith}
use Rattle.std.proofs.lemmas.List.Elements.{All-nil, All-cons}
use Rattle.std.specs.Option.{option_map}
use Rattle.std.specs.List.{range_with_len}
use Rattle.traces.specs.Trace.{Unspecified, Move, Go, Halt}
use Rattle.traces.specs.Steps.{Reaches, rests, goes}
use Rattle.x86_values.specs.declared.word.Word.{Word}
use Rattle.x86_values.specs.Words.{padded, word_list}
use Rattle.memory.specs.Memory.{Memory, Place, AccessKind, Load, Store, allows_all, bytes_at, put_all, kind_of}
use Rattle.memory.specs.MemoryLaws.{MemoryLaws}
use Rattle.x86_types.specs.declared.operand.Reg.{Reg}
use Rattle.x86_types.specs.Numbers.{number_of_reg}
use Rattle.x86_meaning.specs.Registers.{with_register}
use Rattle.x86_meaning.specs.Operands.{InRegister, InMemory, operand}
use Rattle.x86_meaning.specs.Outcomes.{values_alone}
use Rattle.x86_meaning.specs.TransferShapes.{Transfer, by_two, move_transfer}
use Rattle.x86_meaning.specs.Transfers.{transfer}
use Rattle.x86_meaning.specs.Computing.{compute}
use Rattle.x86_meaning.specs.Effect.{transfer_accesses, accesses, effect_of, effect_by, effect}
use Rattle.x86_meaning.specs.Step.{all_allowed}
use Rattle.private_memory.specs.PrivateArea.{IsClearAccess, HasPrivateArea}
use Rattle.private_memory.specs.PrivateAreaLaws.{PrivateAccessLaws}
use Rattle.named_code.specs.declared.slot.Slot.{Slot}
use Rattle.named_code.specs.declared.slot.Slot.TheVariants.{Fixed, Name}
use Rattle.named_code.specs.Items.{Item, CodeBlock, fetch_from, keep_to, cell_or, cell_of, placed_item}
use Rattle.named_code.specs.Running.{CodeState, CodePosition, Inside, Marks, standing_at, by_loads, act, code_next}
use Rattle.named_code.specs.TestedRun.{item_accesses, tested_next}
use Rattle.named_code.specs.TestedRunLaws.{TestedRunLaws}
use Rattle.name_cells.specs.Cells.{cell_at, home_at, homes_of}
use Rattle.name_cells.specs.Holders.{holder}
use Rattle.name_cells.specs.Placing.{fetches, keeps}
use Rattle.name_cells.specs.MovedNames.{fetched, kept, with_fetched, with_kept, HaveCells}
use Rattle.name_cells.specs.Living.{clear_next, before_items}

-- ---- the cell of a name
home_in : (a n k : ℕ) → k < n → slice_get (map home_at (range_with_len a n)) k ≡ Some (home_at (a + k))
home_in a zero k low = absurd (omega (arith, low))
home_in a (suc n) zero low = let e : a ≡ a + 0 = omega arith in ap (λ (j : ℕ). Some (home_at j)) e
home_in a (suc n) (suc k) low = home_in (a + 1) n k (omega (arith, low)) ∙ (let e : a + 1 + k ≡ a + suc k = omega arith in ap (λ (j : ℕ). Some (home_at j)) e)

cell_is : (count n : ℕ) → n < count → cell_of (homes_of count) n ≡ cell_at n
cell_is count n low = ap cell_or (home_in 0 count n low) ∙ (let e : 0 + n ≡ n = omega arith in ap cell_at e)

-- ---- one MOV
acted : Option Transfer → Item → List Item → CodeState → Move CodePosition
acted o x rest s = by_loads (all_allowed Load (transfer_accesses o) s.memory) (all_allowed Store (transfer_accesses o) s.memory) (effect_by o x.instr 0 s.cpu s.memory) x rest s

by_transfer : (x : Item) (rest : List Item) (s : CodeState) → act x rest s ≡ acted (transfer x.naming x.instr s.cpu.regs) x rest s
unfolding act accesses effect acted
by_transfer x rest s = refl

summed : (a : ℕ) → a < 4294967296 → (0 + 0 * 1 + a) % 4294967296 ≡ a
summed a h = omega (arith, h)

loaded : (b : Bool) (p : ℕ) (w : Word) (x : Item) (rest : List Item) (s : CodeState) → b ≡ true → by_loads (b && true) true (effect_of (operand 4 (InRegister p 0) ∷ []) s.cpu.regs (values_alone (w ∷ []) s.cpu.flags)) x rest s ≡ Go [] (standing_at (Inside rest) (record s { cpu = record s.cpu { regs = with_register p w s.cpu.regs } }))
loaded true p w x rest s e = refl
loaded false p w x rest s e = absurd cc

stored : (b : Bool) (a : ℕ) (w : Word) (x : Item) (rest : List Item) (s : CodeState) → b ≡ true → by_loads true (b && true) (effect_of (operand 4 (InMemory a) ∷ []) s.cpu.regs (values_alone (w ∷ []) s.cpu.flags)) x rest s ≡ Go [] (standing_at (Inside rest) (record s { memory = put_all a (word_list w) s.memory }))
stored true a w x rest s e = refl
stored false a w x rest s e = absurd cc

fetch_is : (a : ℕ) (r : Reg) (rest : List Item) (t : CodeState) → a < 4294967296 → allows_all Load t.memory a 4 ≡ true
    → act (fetch_from a r) rest t ≡ Go [] (standing_at (Inside rest) (record t { cpu = record t.cpu { regs = with_register (number_of_reg r) (padded (bytes_at t.memory a 4)) t.cpu.regs } }))
unfolding transfer compute acted
fetch_is a r rest t low h =
    by_transfer (fetch_from a r) rest t ∙ ap (λ (k : ℕ). acted (by_two (move_transfer 4 4) (Some (InRegister (number_of_reg r) 0)) (option_map InMemory (Some k))) (fetch_from a r) rest t) (summed a low)
    ∙ loaded (allows_all Load t.memory a 4) (number_of_reg r) (padded (bytes_at t.memory a 4)) (fetch_from a r) rest t h

keep_is : (a : ℕ) (r : Reg) (rest : List Item) (t : CodeState) → a < 4294967296 → allows_all Store t.memory a 4 ≡ true
    → act (keep_to a r) rest t ≡ Go [] (standing_at (Inside rest) (record t { memory = put_all a (word_list (t.cpu.regs (number_of_reg r))) t.memory }))
unfolding transfer compute acted
keep_is a r rest t low h =
    by_transfer (keep_to a r) rest t ∙ ap (λ (k : ℕ). acted (by_two (move_transfer 4 4) (option_map InMemory (Some k)) (Some (InRegister (number_of_reg r) 0))) (keep_to a r) rest t) (summed a low)
    ∙ stored (allows_all Store t.memory a 4) a (t.cpu.regs (number_of_reg r)) (keep_to a r) rest t h

fetch_accesses : (a : ℕ) (r : Reg) (t : CodeState) → a < 4294967296 → item_accesses (fetch_from a r) t ≡ record { kind = Load; at = a; size = 4 } ∷ []
unfolding accesses transfer
fetch_accesses a r t low = ap (λ (k : ℕ). record { kind = Load; at = k; size = 4 } ∷ []) (summed a low)

keep_accesses : (a : ℕ) (r : Reg) (t : CodeState) → a < 4294967296 → item_accesses (keep_to a r) t ≡ record { kind = Store; at = a; size = 4 } ∷ []
unfolding accesses transfer
keep_accesses a r t low = ap (λ (k : ℕ). record { kind = Store; at = k; size = 4 } ∷ []) (summed a low)

-- ---- the area after a store
no_kind : (o : Option Place) → kind_of o ≡ None → o ≡ None
no_kind None h = refl
no_kind (Some p) h = absurd cc

module _ (memories : MemoryLaws) (areas : PrivateAccessLaws) where
  pub area_after : (a : ℕ) (w : Word) (m : Memory) → HasPrivateArea m → HasPrivateArea (put_all a (word_list w) m)
  area_after a w m h = record {
    zero = no_kind _ (memories.put_all_keeps_kinds a (word_list w) m 0 ∙ ap kind_of h.zero);
    before = no_kind _ (memories.put_all_keeps_kinds a (word_list w) m 0x5FFFFFFF ∙ ap kind_of h.before);
    area = λ b e. memories.put_all_keeps_kinds a (word_list w) m b ∙ h.area b e;
  }

  -- ---- the accesses of one MOV
  cell_clear : (kind : AccessKind) (n : ℕ) (m : Memory) → n < 1540096 → IsClearAccess m (record { kind = kind; at = cell_at n; size = 4 })
  cell_clear kind n m low = record {
    unreserved = λ _. record {
      code = memories.apart_symmetric 0x60000000 0x15000000 (cell_at n) 4 (memories.apart_in_order 0x60000000 0x15000000 (cell_at n) 4 (omega arith) (omega (arith, low)));
      behind_names = memories.apart_in_order (cell_at n) 4 0x75800000 0x800000 (omega (arith, low)) (omega arith);
    };
  }

  module _ (tested : TestedRunLaws) (marks : Marks) (code : List CodeBlock) where
    -- where its accesses are clear, an item acts
    pub clear_step : (x : Item) (rest : List Item) (t : CodeState) → All (IsClearAccess t.memory) (item_accesses x t) → clear_next marks code (before_items (x ∷ rest) t) ≡ act x rest t
    unfolding tested_next code_next
    clear_step x rest t h = ap (λ (b : Bool). cond b (act x rest t) (Halt [] Unspecified)) (tested.clear_passes code (before_items (x ∷ rest) t) h)

    move_clear : (kind : AccessKind) (n : ℕ) (x : Item) (t : CodeState) → n < 1540096 → item_accesses x t ≡ record { kind = kind; at = cell_at n; size = 4 } ∷ [] → All (IsClearAccess t.memory) (item_accesses x t)
    move_clear kind n x t low e = subst (All (IsClearAccess t.memory)) (sym e) (All-cons (IsClearAccess t.memory) (record { kind = kind; at = cell_at n; size = 4 }) [] (cell_clear kind n t.memory low) (All-nil (IsClearAccess t.memory)))

    module _ (count : ℕ) (small : count ≤ 1540096) where
      pub fetch_step : (n : ℕ) (r : Reg) (rest : List Item) (t : CodeState) → n < count → HasPrivateArea t.memory → clear_next marks code (before_items (fetch_from (cell_of (homes_of count) n) r ∷ rest) t) ≡ Go [] (before_items rest (fetched n r t))
      fetch_step n r rest t low h =
          ap (λ (a : ℕ). clear_next marks code (before_items (fetch_from a r ∷ rest) t)) (cell_is count n low)
          ∙ clear_step (fetch_from (cell_at n) r) rest t (move_clear Load n (fetch_from (cell_at n) r) t (omega (arith, low, small)) (fetch_accesses (cell_at n) r t (omega (arith, low, small))))
          ∙ fetch_is (cell_at n) r rest t (omega (arith, low, small)) (areas.allows_area Load t.memory (cell_at n) 4 h (omega arith) (omega (arith, low, small)))

      pub keep_step : (n : ℕ) (r : Reg) (rest : List Item) (t : CodeState) → n < count → HasPrivateArea t.memory → clear_next marks code (before_items (keep_to (cell_of (homes_of count) n) r ∷ rest) t) ≡ Go [] (before_items rest (kept n r t))
      keep_step n r rest t low h =
          ap (λ (a : ℕ). clear_next marks code (before_items (keep_to a r ∷ rest) t)) (cell_is count n low)
          ∙ clear_step (keep_to (cell_at n) r) rest t (move_clear Store n (keep_to (cell_at n) r) t (omega (arith, low, small)) (keep_accesses (cell_at n) r t (omega (arith, low, small))))
          ∙ keep_is (cell_at n) r rest t (omega (arith, low, small)) (areas.allows_area Store t.memory (cell_at n) 4 h (omega arith) (omega (arith, low, small)))

      module _ (byte : Bool) (last : Option ℕ) (rest : List Item) where
        pub fetches_run : (slots : List Slot) (t : CodeState) → HaveCells count slots → HasPrivateArea t.memory
            → Reaches (clear_next marks code) (before_items (map (placed_item (homes_of count)) (fetches byte last slots) ++ rest) t) (length (fetches byte last slots)) [] (before_items rest (with_fetched byte last slots t))
        fetches_run [] t c h = rests _
        fetches_run (Fixed r ∷ slots) t c h = fetches_run slots t (λ n k. c n (inr k)) h
        fetches_run (Name n ∷ slots) t c h = goes _ [] _ _ [] _ (fetch_step n (holder byte last n) _ t (c n (inl refl)) h) (fetches_run slots (fetched n (holder byte last n) t) (λ m k. c m (inr k)) h)

        pub keeps_run : (slots : List Slot) (t : CodeState) → HaveCells count slots → HasPrivateArea t.memory
            → Reaches (clear_next marks code) (before_items (map (placed_item (homes_of count)) (keeps byte last slots) ++ rest) t) (length (keeps byte last slots)) [] (before_items rest (with_kept byte last slots t))
        keeps_run [] t c h = rests _
        keeps_run (Fixed r ∷ slots) t c h = keeps_run slots t (λ n k. c n (inr k)) h
        keeps_run (Name n ∷ slots) t c h = goes _ [] _ _ [] _ (keep_step n (holder byte last n) _ t (c n (inl refl)) h) (keeps_run slots (kept n (holder byte last n) t) (λ m k. c m (inr k)) (area_after (cell_at n) _ t.memory h))
