-- PUSH, POP, CALL, RET and LEAVE.
use Rattle.std.proofs.Common.{◌≡◌, ℕ, ◌+◌, ◌^◌, ◌<◌, ◌==◌, false, List, [], ◌∷◌, ◌++◌, Option, Some, None, Result, Ok, refl, sym, ◌∙◌, ap, subst, arith, lit<}
use Rattle.x86_values.specs.declared.word.Word.{Word}
use Rattle.x86_values.specs.Words.{word_of, known}
use Rattle.traces.specs.Trace.{End}
use Rattle.memory.specs.Memory.{wrapped, Load, Store}
use Rattle.memory.specs.MemoryLaws.{MemoryLaws}
use Rattle.memory.specs.LessSpecifiedLaws.{LessSpecifiedMemoryLaws}
use Rattle.x86_types.specs.declared.operand.Rm.{Rm}
use Rattle.x86_types.specs.declared.operand.Src.{Src}
use Rattle.x86_types.specs.declared.width.Width.TheVariants.{Four}
use Rattle.x86_meaning.specs.Registers.{with_register, machine_naming}
use Rattle.x86_meaning.specs.Operands.{Location, InRegister, InMemory, SizedOperand, operand as sized, accesses_of, location_of, source_of, value_in}
use Rattle.x86_meaning.specs.TransferShapes.{esp, stack_word, register, up, down}
use Rattle.x86_meaning.specs.Outcomes.{Way, Falls, JumpsBy, JumpsTo, Computed, Computation, computed, goes_to as goes_if, raised_by, lowered_by, push_computed, pop_computed, call_computed, call_to_computed, ret_computed, jump_to_computed}
use Rattle.x86_meaning.specs.Effect.{Effect, effect_of, written_to}
use Rattle.x86_meaning.specs.Step.{State, all_allowed, performed}
use Rattle.flag_ir.specs.declared.variable.Term.{Term}
use Rattle.flag_ir.specs.declared.operation.Op.TheVariants as op
use Rattle.flag_ir.specs.declared.operation.Calc.TheVariants as calc
use Rattle.flag_ir.specs.Calculations.{sum_of, difference_of}
use Rattle.flag_ir.specs.Storage.{Storage, put_word, term_in}
use Rattle.flag_ir.specs.Operations.{needed, performs}
use Rattle.lift_relation.specs.Matching.{StateMatches}
use Rattle.lift_relation.specs.Cores.{CutMatches}
use Rattle.lift_values.specs.Terms.{temp, word}
use Rattle.lift_core.specs.declared.way.Way.{Way as Going}
use Rattle.lift_core.specs.declared.way.Way.TheVariants as way
use Rattle.lift_core.specs.declared.operand.Operand.TheVariants as operand
use Rattle.lift_core.specs.Pieces.{reg, to_reg, target_ops, target, write_ops, source_ops}
use Rattle.lift_core.specs.Lists.{push_ops, call_ops, pop_ops, leave_ops}
use Rattle.lift_core.proofs.Words.{known_in, known_less, word_itself, difference_any}
use Rattle.lift_core.proofs.Parts.{whole, whole_cut}
use Rattle.lift_core.proofs.Addresses.{with_temps, temps_match}
use Rattle.lift_core.proofs.Meeting.{Ends, EffectMeets, LoadsMeet}
use Rattle.lift_core.proofs.Reading.{target_then, read_then, source_then}
use Rattle.lift_core.proofs.Writing.{store_term_then}
use Rattle.lift_core.proofs.Cores.{begun, begun_matches, last_write, list_ends}
use Rattle.lift_core.proofs.Raising.{AddingLaws, raised_matches, raised_then, lowered_matches, lowered_then, register_number, register_word, raised_word}

module _ (turn : ℕ) (laws : MemoryLaws) (memories : LessSpecifiedMemoryLaws) (adding : AddingLaws) (len : ℕ) (s : State) where
  -- what is asked of a list, with the way at its end
  abbrev pub ReadAndGone : List SizedOperand → List SizedOperand → Computation → Going → Result Storage End → Type 0
  ReadAndGone reads writes c w y = LoadsMeet (all_allowed Load (accesses_of Load reads) s.memory) (all_allowed Store (accesses_of Store writes) s.memory) (effect_of writes s.cpu.regs c) (s.eip + len) s w y

  abbrev pub Gone : List SizedOperand → Computation → Going → Result Storage End → Type 0
  Gone writes c w y = EffectMeets (effect_of writes s.cpu.regs c) (all_allowed Store (accesses_of Store writes) s.memory) (s.eip + len) s w y

  -- ---- a word is pushed: esp falls, and the word that a term is is stored there
  abbrev push_made : Word → Way → Computed
  push_made v go = record { values = v ∷ lowered_by 4 (s.cpu.regs 4) ∷ []; flags = s.cpu.flags; way = go }

  abbrev push_effect : Word → ℕ → Way → Effect
  push_effect v at go = written_to 4 (InRegister 4 0) (lowered_by 4 (s.cpu.regs 4)) (written_to 4 (InMemory (down 4 at)) v (begun (push_made v go) s))

  pushed : (from : Term) (v : Word) (at : ℕ) (go : Way) (w : Going) (u : Storage) → StateMatches s u → known (s.cpu.regs 4) ≡ Some at → CutMatches 4 v (term_in from (record u { regs = put_word 4 (difference_of (u.regs 4) (word_of 4)) u.regs })) →
      ((z : Storage) → StateMatches (performed (push_effect v at go) s) z → ((j : ℕ) → (j == 2) ≡ false → (j == 3) ≡ false → z.temps j ≡ u.temps j) → Ends (push_effect v at go) (s.eip + len) s w z) →
      Gone (stack_word (down 4 at) ∷ esp ∷ []) (Ok (push_made v go)) w (performs turn (to_reg 4 calc.Sub (reg 4) (word 4) ∷ op.Store 4 (reg 4) from ∷ []) u)
  pushed from v at go w u h e c end =
      let e0 = begun (push_made v go) s in
      let e1 = written_to 4 (InRegister 4 0) (lowered_by 4 (s.cpu.regs 4)) e0 in
      let u1 : Storage = record u { regs = put_word 4 (difference_of (u.regs 4) (word_of 4)) u.regs } in
      let h1 : StateMatches (performed e1 s) u1 = lowered_matches adding e0 s u 4 4 4 (begun_matches (push_made v go) s u h h.flags) (lit< tt) in
      lowered_then adding turn 4 4 4 u (op.Store 4 (reg 4) from ∷ []) (λ y. Gone (stack_word (down 4 at) ∷ esp ∷ []) (Ok (push_made v go)) w y)
      (store_term_then turn laws memories s Four (reg 4) from (down 4 at) [] e1 (push_effect v at go) (s.eip + len) w v u1 [] h1 (difference_any at 4 (u.regs 4) (lit< tt) (register_number adding s u 4 at h (lit< tt) e)) c
      (λ z g kept. list_ends turn s (push_effect v at go) (s.eip + len) w z (end z g kept)))

  module _ (u : Storage) (h : StateMatches s u) where
    -- PUSH
    pub push_meets : (from : Src) (k : Location) (at : ℕ) → source_of machine_naming s.cpu.regs Four from ≡ Some k → known (s.cpu.regs 4) ≡ Some at →
        ReadAndGone (esp ∷ sized 4 k ∷ []) (stack_word (down 4 at) ∷ esp ∷ []) (push_computed s.cpu.flags (s.cpu.regs 4) (value_in (sized 4 k) s.cpu.regs s.memory)) (way.On (wrapped (s.eip + len))) (performs turn (source_ops 4 Four from ++ push_ops) u)
    push_meets from k at e known_esp =
        let x = value_in (sized 4 k) s.cpu.regs s.memory in
        source_then turn memories s 4 Four from k [] _ _ (s.eip + len) (way.On (wrapped (s.eip + len))) u push_ops h e
        (λ t k1 c. pushed (temp 4) x at Falls (way.On (wrapped (s.eip + len))) (with_temps t u) (temps_match s u t h) known_esp c (λ z g kept. record { state = g; goes = refl; no_call = tt }))

    -- CALL
    pub call_meets : (by at : ℕ) → known (s.cpu.regs 4) ≡ Some at →
        ReadAndGone (esp ∷ []) (stack_word (down 4 at) ∷ esp ∷ []) (call_computed by (wrapped (s.eip + len)) s.cpu.flags (s.cpu.regs 4)) (way.On (wrapped (s.eip + len + by))) (performs turn (call_ops (wrapped (s.eip + len))) u)
    call_meets by at known_esp =
        let x = word_of (wrapped (s.eip + len)) in
        pushed (word (wrapped (s.eip + len))) x at (JumpsBy by) (way.On (wrapped (s.eip + len + by))) u h known_esp (whole_cut x x (word_itself (wrapped (s.eip + len)))) (λ z g kept. record { state = g; goes = refl; no_call = tt })

    -- ---- an address that a temporary holds
    goes_there : (target : ℕ) (x : Word) (z : Storage) → known x ≡ Some target → CutMatches 4 x (z.temps 4) → needed (known (z.temps 4)) ≡ Ok (wrapped target)
    goes_there target x z e c =
        let n = known_less x target (z.temps 4) e (whole x (z.temps 4) c) in
        let l : target < 2 ^ 32 = n.fits in
        let m : target ≡ wrapped target = omega arith in
        ap needed (known_in target (z.temps 4) n) ∙ ap (λ a. Ok a) m

    -- CALL through an operand, whose target is read first
    pub call_to_meets : (to : Src) (k : Location) (at : ℕ) → source_of machine_naming s.cpu.regs Four to ≡ Some k → known (s.cpu.regs 4) ≡ Some at →
        ReadAndGone (esp ∷ sized 4 k ∷ []) (stack_word (down 4 at) ∷ esp ∷ []) (call_to_computed (wrapped (s.eip + len)) s.cpu.flags (s.cpu.regs 4) (value_in (sized 4 k) s.cpu.regs s.memory)) (way.To (temp 4)) (performs turn (source_ops 4 Four to ++ call_ops (wrapped (s.eip + len))) u)
    call_to_meets to k at e known_esp =
        source_then turn memories s 4 Four to k [] _ _ (s.eip + len) (way.To (temp 4)) u (call_ops (wrapped (s.eip + len))) h e
        (λ t k1 c. by_target (known x) refl t c)
      where
        next : ℕ
        next = wrapped (s.eip + len)

        x : Word
        x = value_in (sized 4 k) s.cpu.regs s.memory

        by_target : (o : Option ℕ) → known x ≡ o → (t : ℕ → Word) → CutMatches 4 x (t 4) → Gone (stack_word (down 4 at) ∷ esp ∷ []) (goes_if (word_of next ∷ lowered_by 4 (s.cpu.regs 4) ∷ []) o s.cpu.flags) (way.To (temp 4)) (performs turn (call_ops next) (with_temps t u))
        by_target None q t c = tt
        by_target (Some target) q t c = pushed (word next) (word_of next) at (JumpsTo target) (way.To (temp 4)) (with_temps t u) (temps_match s u t h) known_esp (whole_cut (word_of next) (word_of next) (word_itself next))
            (λ z g kept. record { state = g; goes = goes_there target x z q (subst (CutMatches 4 x) (sym (kept 4 refl refl)) c); no_call = tt })

    -- JMP through an operand
    pub jump_to_meets : (to : Src) (k : Location) → source_of machine_naming s.cpu.regs Four to ≡ Some k →
        ReadAndGone (sized 4 k ∷ []) [] (jump_to_computed s.cpu.flags (value_in (sized 4 k) s.cpu.regs s.memory)) (way.To (temp 4)) (performs turn (source_ops 4 Four to ++ []) u)
    jump_to_meets to k e =
        source_then turn memories s 4 Four to k [] _ _ (s.eip + len) (way.To (temp 4)) u [] h e (λ t k1 c. by_target (known x) refl t c)
      where
        x : Word
        x = value_in (sized 4 k) s.cpu.regs s.memory

        by_target : (o : Option ℕ) → known x ≡ o → (t : ℕ → Word) → CutMatches 4 x (t 4) → Gone [] (goes_if [] o s.cpu.flags) (way.To (temp 4)) (performs turn [] (with_temps t u))
        by_target None q t c = tt
        by_target (Some target) q t c =
            let d : Computed = record { values = []; flags = s.cpu.flags; way = JumpsTo target } in
            list_ends turn s (begun d s) (s.eip + len) (way.To (temp 4)) (with_temps t u) (record { state = begun_matches d s (with_temps t u) (temps_match s u t h) h.flags; goes = goes_there target x (with_temps t u) q c; no_call = tt })

    -- ---- a word is popped: loaded where a register is, and esp is that register raised
    -- RET
    pub ret_meets : (drop at : ℕ) → known (s.cpu.regs 4) ≡ Some at →
        ReadAndGone (esp ∷ stack_word at ∷ []) (esp ∷ []) (ret_computed drop s.cpu.flags (s.cpu.regs 4) (value_in (stack_word at) s.cpu.regs s.memory)) (way.Back (temp 4)) (performs turn (pop_ops (4 + drop)) u)
    ret_meets drop at known_esp =
        read_then turn memories s 4 Four (operand.Memory (reg 4)) (InMemory at) [] _ _ (s.eip + len) (way.Back (temp 4)) u (to_reg 4 calc.Add (reg 4) (word (4 + drop)) ∷ []) h (record { at = at; is = refl; number = register_number adding s u 4 at h (lit< tt) known_esp })
        (λ t k1 c. by_target (known x) refl t c)
      where
        x : Word
        x = value_in (stack_word at) s.cpu.regs s.memory

        by_target : (o : Option ℕ) → known x ≡ o → (t : ℕ → Word) → CutMatches 4 x (t 4) → Gone (esp ∷ []) (goes_if (raised_by (4 + drop) (s.cpu.regs 4) ∷ []) o s.cpu.flags) (way.Back (temp 4)) (performs turn (to_reg 4 calc.Add (reg 4) (word (4 + drop)) ∷ []) (with_temps t u))
        by_target None q t c = tt
        by_target (Some target) q t c =
            let d : Computed = record { values = raised_by (4 + drop) (s.cpu.regs 4) ∷ []; flags = s.cpu.flags; way = JumpsTo target } in
            let v = with_temps t u in
            let e1 = written_to 4 (InRegister 4 0) (raised_by (4 + drop) (s.cpu.regs 4)) (begun d s) in
            let v1 : Storage = record v { regs = put_word 4 (sum_of (v.regs 4) (word_of (4 + drop))) v.regs } in
            raised_then adding turn 4 4 (4 + drop) v [] (λ y. Gone (esp ∷ []) (computed (raised_by (4 + drop) (s.cpu.regs 4) ∷ []) s.cpu.flags (JumpsTo target)) (way.Back (temp 4)) y)
            (list_ends turn s e1 (s.eip + len) (way.Back (temp 4)) v1 (record { state = raised_matches adding (begun d s) s v 4 4 (4 + drop) (begun_matches d s v (temps_match s u t h) h.flags) (lit< tt); goes = goes_there target x v1 q c; no_call = tt }))

    -- POP, whose target's address uses the raised esp
    pub pop_meets : (to : Rm) (l : Location) (at : ℕ) → known (s.cpu.regs 4) ≡ Some at → location_of machine_naming (with_register 4 (word_of (up 4 at)) s.cpu.regs) Four to ≡ Some l →
        ReadAndGone (esp ∷ stack_word at ∷ []) (esp ∷ sized 4 l ∷ []) (pop_computed s.cpu.flags (s.cpu.regs 4) (value_in (stack_word at) s.cpu.regs s.memory)) (way.On (wrapped (s.eip + len))) (performs turn (pop_ops 4 ++ (target_ops to ++ write_ops 4 Four (target Four to))) u)
    pop_meets to l at known_esp e =
        let w = way.On (wrapped (s.eip + len)) in
        let x = value_in (stack_word at) s.cpu.regs s.memory in
        let d : Computed = record { values = raised_by 4 (s.cpu.regs 4) ∷ x ∷ []; flags = s.cpu.flags; way = Falls } in
        let e1 = written_to 4 (InRegister 4 0) (raised_by 4 (s.cpu.regs 4)) (begun d s) in
        let rest = target_ops to ++ write_ops 4 Four (target Four to) in
        let same : word_of (up 4 at) ≡ raised_by 4 (s.cpu.regs 4) = raised_word at (s.cpu.regs 4) (register_word adding s u 4 at h (lit< tt) known_esp) in
        read_then turn memories s 4 Four (operand.Memory (reg 4)) (InMemory at) [] _ _ (s.eip + len) w u (to_reg 4 calc.Add (reg 4) (word 4) ∷ rest) h (record { at = at; is = refl; number = register_number adding s u 4 at h (lit< tt) known_esp })
        (λ t k1 c.
        let v = with_temps t u in
        let v1 : Storage = record v { regs = put_word 4 (sum_of (v.regs 4) (word_of 4)) v.regs } in
        let h1 : StateMatches (performed e1 s) v1 = raised_matches adding (begun d s) s v 4 4 4 (begun_matches d s v (temps_match s u t h) h.flags) (lit< tt) in
        raised_then adding turn 4 4 4 v rest (λ y. Gone (esp ∷ sized 4 l ∷ []) (Ok d) w y)
        (target_then turn Four to l (performed e1 s) v1 (write_ops 4 Four (target Four to)) (λ y. Gone (esp ∷ sized 4 l ∷ []) (Ok d) w y) h1 (subst (λ (x : Word). location_of machine_naming (with_register 4 x s.cpu.regs) Four to ≡ Some l) same e)
        (λ t2 k2 there. last_write turn laws memories s 4 Four (target Four to) l e1 (s.eip + len) x (with_temps t2 v1) refl (record { regs = h1.regs; flags = h1.flags; memory = h1.memory; left = h1.left; environment = h1.environment; frames = h1.frames }) there (subst (CutMatches 4 x) (sym (k2 4 refl)) c) refl)))

    -- LEAVE
    pub leave_meets : (at : ℕ) → known (s.cpu.regs 5) ≡ Some at →
        ReadAndGone (register 4 5 ∷ stack_word at ∷ []) (esp ∷ register 4 5 ∷ []) (pop_computed s.cpu.flags (s.cpu.regs 5) (value_in (stack_word at) s.cpu.regs s.memory)) (way.On (wrapped (s.eip + len))) (performs turn leave_ops u)
    leave_meets at known_ebp =
        let w = way.On (wrapped (s.eip + len)) in
        let x = value_in (stack_word at) s.cpu.regs s.memory in
        let d : Computed = record { values = raised_by 4 (s.cpu.regs 5) ∷ x ∷ []; flags = s.cpu.flags; way = Falls } in
        let e1 = written_to 4 (InRegister 4 0) (raised_by 4 (s.cpu.regs 5)) (begun d s) in
        let rest = write_ops 4 Four (operand.Register 5 0) in
        read_then turn memories s 4 Four (operand.Memory (reg 5)) (InMemory at) [] _ _ (s.eip + len) w u (to_reg 4 calc.Add (reg 5) (word 4) ∷ rest) h (record { at = at; is = refl; number = register_number adding s u 5 at h (lit< tt) known_ebp })
        (λ t k1 c.
        let v = with_temps t u in
        let v1 : Storage = record v { regs = put_word 4 (sum_of (v.regs 5) (word_of 4)) v.regs } in
        let h1 : StateMatches (performed e1 s) v1 = raised_matches adding (begun d s) s v 4 5 4 (begun_matches d s v (temps_match s u t h) h.flags) (lit< tt) in
        raised_then adding turn 4 5 4 v rest (λ y. Gone (esp ∷ register 4 5 ∷ []) (Ok d) w y)
        (last_write turn laws memories s 4 Four (operand.Register 5 0) (InRegister 5 0) e1 (s.eip + len) x v1 refl h1 (record { is = refl; small = lit< tt; index = tt }) c refl))
