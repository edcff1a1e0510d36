-- What an item does, beside the step of the processor over the registers alone, in a memory that is at reserved addresses as at first.
use Rattle.std.proofs.Common.{◌≡◌, ◌≢◌, ◌⊎◌, inl, inr, ℕ, ◌+◌, ◌<◌, ◌==◌, Bool, true, false, List, [], ◌∷◌, All, map, Result, Ok, Err, refl, sym, ap, ◌∙◌, subst, arith}
use Rattle.std.proofs.lemmas.Bool.{and_parts, eqb-true, eqb-false}
use Rattle.std.proofs.lemmas.List.Elements.{All-nil, All-cons, All-head, All-tail}
use Rattle.traces.specs.Trace.{End, Halt}
use Rattle.memory.specs.Memory.{Memory, Stored, AccessKind, Load, Store, wrapped, store_all}
use Rattle.memory.specs.CallLaws.{is_own_end}
use Rattle.x86_types.specs.declared.operand.Reg.TheVariants.{Esp}
use Rattle.x86_types.specs.declared.instr.Instr.{Instr}
use Rattle.x86_meaning.specs.declared.stop.Stop.{Stop}
use Rattle.x86_meaning.specs.declared.stop.Stop.TheVariants.{MemoryFault, DivideFault, Unspecified}
use Rattle.x86_meaning.specs.Registers.{machine_naming}
use Rattle.x86_meaning.specs.Operands.{Access}
use Rattle.x86_meaning.specs.Effect.{Effect, accesses, effect}
use Rattle.x86_meaning.specs.Step.{State, access_allowed, all_allowed, end_of, finish, step}
use Rattle.x86_meaning.specs.Step as processor
use Rattle.x86_meaning.specs.StepLaws.{stored_range, if_store, store_ranges}
use Rattle.x86_meaning.specs.AccessLaws.{SameLoads}
use Rattle.private_memory.specs.PrivateArea.{is_unreserved, is_clear_access}
use Rattle.field_places.specs.Fields.{fields}
use Rattle.field_places.specs.Pairs.{ResultsAlike, EffectsAlike}
use Rattle.named_code.specs.Items.{Item, own_item}
use Rattle.named_code.specs.Running.{CodeState, onward, performed, by_loads, act}
use Rattle.named_code.specs.Form.{IsStackless}
use Rattle.laid_code.specs.LaidRun.{with_reserved}
use Rattle.laid_code.proofs.Given.{Given}
use Rattle.laid_code.proofs.Memories.{IsFree, IsUnreservedStore, clear_addresses, all_judged, loads_same, stores_same, stores_keep_kinds}
use Rattle.laid_code.proofs.OwnPairs.{own_pairs, registers_alone, alone_below, which, paired, uses}
use Rattle.laid_code.proofs.NextInstruction.{same_effect}

-- the processor with the registers of a state of code, at a place
abbrev pub alone : Memory → CodeState → ℕ → State
alone first s q = record { cpu = record { regs = registers_alone s.cpu.regs; flags = s.cpu.flags }; eip = q; memory = with_reserved first s.memory; left = s.left }

-- ---- what is stored by accesses that are clear and allowed
abbrev AreUnreservedRanges : List (ℕ × ℕ) → Type 0
AreUnreservedRanges [] = Unit {0}
AreUnreservedRanges (p ∷ ps) = ((j : ℕ) → j < p.1 → is_unreserved (wrapped (p.0 + j)) ≡ true) × AreUnreservedRanges ps

stores_of : (ss : List Stored) → AreUnreservedRanges (map stored_range ss) → All IsUnreservedStore ss
stores_of [] h = All-nil IsUnreservedStore
stores_of (s ∷ ss) h = All-cons IsUnreservedStore s ss h.0 (stores_of ss h.1)

module _ (first l : Memory) (free : IsFree l) where
  abbrev IsClear : Access → Type 0
  IsClear a = is_clear_access l a ≡ true

  range_unreserved : (k : AccessKind) (at size : ℕ) (ranges : List (ℕ × ℕ)) → IsClear (record { kind = k; at = at; size = size }) → access_allowed Store k l at size ≡ true → AreUnreservedRanges ranges → AreUnreservedRanges (if_store k (at, size) ranges)
  range_unreserved Load at size ranges clear all rest = rest
  range_unreserved Store at size ranges clear all rest = (clear_addresses first l free (record { kind = Store; at = at; size = size }) clear all, rest)

  ranges_unreserved : (xs : List Access) → All IsClear xs → all_allowed Store xs l ≡ true → AreUnreservedRanges (store_ranges xs)
  ranges_unreserved [] clear all = tt
  ranges_unreserved (a ∷ xs) clear all =
      let parts = and_parts (access_allowed Store a.kind l a.at a.size) (all_allowed Store xs l) all in
      range_unreserved a.kind a.at a.size (store_ranges xs) (All-head IsClear a xs clear) parts.0 (ranges_unreserved xs (All-tail IsClear a xs clear) parts.1)

-- ---- both moves
stop_own : (x : Stop) → is_own_end (end_of x) ≡ true
stop_own MemoryFault = refl
stop_own DivideFault = refl
stop_own Unspecified = refl

-- the same end, before anything is shown
pub record EndAlike (x : Item) (rest : List Item) (s : CodeState) (len : ℕ) (u : State) : Type 0 where
  pub end : End
  pub coded : act x rest s ≡ Halt [] end
  pub stepped : step x.instr len u ≡ Halt [] end
  pub own : is_own_end end ≡ true

-- or effects that are alike
pub record GoAlike (first : Memory) (x : Item) (rest : List Item) (s : CodeState) (len : ℕ) (u : State) : Type 0 where
  pub left : Effect
  pub right : Effect
  pub is_left : effect x.naming x.instr 0 s.cpu s.memory ≡ Ok left
  pub coded : act x rest s ≡ onward left.way x rest (performed left s)
  pub stepped : step x.instr len u ≡ finish left.way (u.eip + len) (processor.performed right u)
  pub registers : (k : ℕ) → k < 8 → left.cpu.regs k ≡ right.cpu.regs k
  pub esp : left.cpu.regs 4 ≡ s.cpu.regs 4
  pub flags : left.cpu.flags ≡ right.cpu.flags
  pub memory : (a : ℕ) → (processor.performed right u).memory a ≡ with_reserved first (performed left s).memory a
  pub free : IsFree (performed left s).memory

module _ (given : Given) (first : Memory) (i : Instr) (rest : List Item) (s : CodeState) (q len : ℕ) (free : IsFree s.memory) (no_esp : All (λ f. f.register ≢ Esp) (fields i)) (stackless : IsStackless i) where
  abbrev x : Item
  x = own_item i

  abbrev u : State
  u = alone first s q

  abbrev made : List Access
  made = accesses machine_naming i s.cpu.regs

  abbrev made' : List Access
  made' = accesses machine_naming i u.cpu.regs

  abbrev Effects : Result Effect Stop
  Effects = effect machine_naming i 0 s.cpu s.memory

  abbrev next_at : ℕ
  next_at = wrapped (q + len)

  same_made : made ≡ made'
  same_made = given.field_places.same_accesses own_pairs machine_naming machine_naming i s.cpu.regs u.cpu.regs (uses i s.cpu.regs no_esp stackless)

  module _ (clear : All (λ a. is_clear_access s.memory a ≡ true) made) where
    judged_as : (kind : AccessKind) → all_allowed kind made' u.memory ≡ all_allowed kind made s.memory
    judged_as kind = ap (λ xs. all_allowed kind xs u.memory) (sym same_made) ∙ sym (all_judged first s.memory free given.memory kind made clear)

    -- over the memory of the code, the effects are alike
    alike : ResultsAlike own_pairs s.cpu.regs u.cpu.regs (effect machine_naming i 0 s.cpu s.memory) (effect machine_naming i 0 u.cpu s.memory)
    alike = given.field_places.same_effect own_pairs machine_naming machine_naming i 0 s.cpu.flags s.cpu.regs u.cpu.regs s.memory (uses i s.cpu.regs no_esp stackless)

    -- and so over the other, where the loads are allowed
    effect_as : all_allowed Load made s.memory ≡ true → effect machine_naming i next_at u.cpu u.memory ≡ effect machine_naming i 0 u.cpu s.memory
    effect_as all =
        sym (given.access.effect_by_loads machine_naming i next_at u.cpu s.memory u.memory (subst (λ xs. SameLoads xs s.memory u.memory) same_made (loads_same first s.memory free given.memory made clear all)))
        ∙ same_effect machine_naming i next_at 0 u.cpu s.memory stackless

    abbrev BothMoves : Type 0
    BothMoves = EndAlike x rest s len u ⊎ GoAlike first x rest s len u

    coded_by : (b c : Bool) (e : Result Effect Stop) → all_allowed Load made s.memory ≡ b → all_allowed Store made s.memory ≡ c → effect machine_naming i 0 s.cpu s.memory ≡ e → act x rest s ≡ by_loads b c e x rest s
    unfolding act
    coded_by b c e is is' is'' = rw (sym is, sym is', sym is'') refl

    stepped_by : (b c : Bool) (e : Result Effect Stop) → all_allowed Load made' u.memory ≡ b → all_allowed Store made' u.memory ≡ c → effect machine_naming i next_at u.cpu u.memory ≡ e → step i len u ≡ processor.by_loads b c e (q + len) u
    unfolding step
    stepped_by b c e is is' is'' = rw (sym is, sym is', sym is'') refl

    -- the loads fault
    faults : all_allowed Load made s.memory ≡ false → BothMoves
    faults all = inl (record {
      end = end_of MemoryFault;
      coded = coded_by false (all_allowed Store made s.memory) Effects all refl refl;
      stepped = stepped_by false (all_allowed Store made' u.memory) (effect machine_naming i next_at u.cpu u.memory) (judged_as Load ∙ all) refl refl;
      own = refl;
    })

    -- the stores fault, or both go on
    by_effects : (d e : Effect) (c : Bool) → all_allowed Load made s.memory ≡ true → all_allowed Store made s.memory ≡ c → Effects ≡ Ok d → effect machine_naming i 0 u.cpu s.memory ≡ Ok e → EffectsAlike own_pairs s.cpu.regs u.cpu.regs d e → BothMoves
    by_effects d e false all stores is is' h = inl (record {
      end = end_of MemoryFault;
      coded = coded_by true false (Ok d) all stores is;
      stepped = stepped_by true false (Ok e) (judged_as Load ∙ all) (judged_as Store ∙ stores) (effect_as all ∙ is');
      own = refl;
    })
    by_effects d e true all stores is is' h =
        let unreserved = stores_of d.stores (subst AreUnreservedRanges (sym (given.steps.stores_are_accesses machine_naming i 0 s.cpu s.memory d is)) (ranges_unreserved first s.memory free made clear stores)) in
        inr (record {
          left = d;
          right = e;
          is_left = is;
          coded = coded_by true true (Ok d) all stores is;
          stepped = stepped_by true true (Ok e) (judged_as Load ∙ all) (judged_as Store ∙ stores) (effect_as all ∙ is') ∙ ap (λ w. finish w (q + len) (processor.performed e u)) (sym h.way);
          registers = register h;
          esp = h.others_left 4 (λ b k. (which 4 b k).other refl);
          flags = h.flags;
          memory = λ a. ap (λ ss. store_all ss u.memory a) (sym h.stores) ∙ stores_same given.memory first s.memory u.memory d.stores unreserved (λ b. refl) a;
          free = λ a r. stores_keep_kinds given.memory first s.memory d.stores a ∙ free a r;
        })
      where
        register : EffectsAlike own_pairs s.cpu.regs u.cpu.regs d e → (k : ℕ) → k < 8 → d.cpu.regs k ≡ e.cpu.regs k
        register h k low = cases (k == 4) refl
          where
            cases : (b : Bool) → (k == 4) ≡ b → d.cpu.regs k ≡ e.cpu.regs k
            cases true four = let is : k ≡ 4 = eqb-true k 4 four in rw is (h.others_left 4 (λ b p. (which 4 b p).other refl) ∙ (sym (alone_below s.cpu.regs 4 (omega arith)) ∙ sym (h.others_right 4 (λ a p. (which a 4 p).other (which a 4 p).same))))
            cases false other = h.words k k (paired k low (eqb-false k 4 other))

    by_results : (r o : Result Effect Stop) → all_allowed Load made s.memory ≡ true → Effects ≡ r → effect machine_naming i 0 u.cpu s.memory ≡ o → ResultsAlike own_pairs s.cpu.regs u.cpu.regs r o → BothMoves
    by_results (Ok d) (Ok e) all is is' h = by_effects d e (all_allowed Store made s.memory) all refl is is' h
    by_results (Ok d) (Err stop) all is is' h = absurd h
    by_results (Err stop) (Ok e) all is is' h = absurd h
    by_results (Err stop) (Err other) all is is' h = inl (record {
      end = end_of stop;
      coded = coded_by true (all_allowed Store made s.memory) (Err stop) all refl is;
      stepped = stepped_by true (all_allowed Store made' u.memory) (Err other) (judged_as Load ∙ all) refl (effect_as all ∙ is') ∙ ap (λ (e : Stop). Halt [] (end_of e)) (sym h);
      own = stop_own stop;
    })

    pub both_moves : BothMoves
    both_moves = cases (all_allowed Load made s.memory) refl
      where
        cases : (b : Bool) → all_allowed Load made s.memory ≡ b → BothMoves
        cases true all = by_results Effects (effect machine_naming i 0 u.cpu s.memory) all refl refl alike
        cases false all = faults all
