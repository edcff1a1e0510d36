-- The processor simulates the code.
use Rattle.std.proofs.Common.{◌≡◌, ◌≢◌, ℕ, ◌+◌, ◌==◌, ◌||◌, Bool, true, false, cond, leb, ltb, List, [], ◌∷◌, All, Contains, map, Option, Some, None, refl, sym, ap, ◌∙◌, subst, arith}
use Rattle.std.specs.List.{list_all}
use Rattle.std.proofs.lemmas.Bool.{ltb-false, leb-false}
use Rattle.std.proofs.lemmas.List.Elements.{All-head, All-tail}
use Rattle.traces.specs.Trace.{Label, Turn, Outside, Move, Stand, Go, Halt, seen, events, run}
use Rattle.traces.specs.Trace as trace
use Rattle.traces.specs.Machines.{marked}
use Rattle.memory.specs.Memory.{Memory}
use Rattle.x86_types.specs.declared.operand.Reg.TheVariants.{Esp}
use Rattle.x86_types.specs.declared.instr.Instr.{Instr}
use Rattle.x86_types.specs.declared.instr.Instr.TheVariants as instr
use Rattle.x86_code.specs.Code.{Code}
use Rattle.x86_meaning.specs.Registers.{Naming, machine_naming}
use Rattle.x86_meaning.specs.Operands.{Access}
use Rattle.x86_meaning.specs.Transfers.{transfer}
use Rattle.x86_meaning.specs.Effect.{accesses}
use Rattle.x86_meaning.specs.Step.{State, next}
use Rattle.private_memory.specs.PrivateArea.{is_clear_access}
use Rattle.field_places.specs.Fields.{fields}
use Rattle.named_code.specs.Items.{Item, CodeBlock, own_item}
use Rattle.named_code.specs.Running.{CodeState, CodePoint, AtNumber, AtOld, Inside, CodePosition, Marks, act, goes_on, marked_unless_zero, begun, move_at, block_of_number, block_at, code_next}
use Rattle.named_code.specs.TestedRun.{call_buffer, item_accesses, first_accesses, items_found, items_at, turn_at, all_pass, tested_next}
use Rattle.named_code.specs.Form.{IsStackless, NamesBlock}
use Rattle.named_code.specs.Weight.{Next, Again, course_of, first_cost, entry_cost, cost_at, step_cost}
use Rattle.laid_code.specs.Laid.{Places, Stands, InstrStands, Lies, FoundAt, is_outside, place_of_old, IsLaid, IsLayable, AreLayable}
use Rattle.laid_code.specs.LaidRun.{AreStatesBeside, StandsAt, IsBeside, HasAddressTable, instr_steps, laid_steps}
use Rattle.laid_code.proofs.Given.{Given}
use Rattle.laid_code.proofs.Finding.{found_number, found_at, is_found, all_front}
use Rattle.laid_code.proofs.Moving.{Simulated, awake}
use Rattle.laid_code.proofs.PlainItems.{plain_met, jmp_met, jcc_met}
use Rattle.laid_code.proofs.CallItems.{call_met}
use Rattle.laid_code.proofs.OldJumps.{jump_met}

module _ (given : Given) (l : Places) (code : Code) (blocks : List CodeBlock) (first : Memory) (laid : IsLaid l code blocks) (table : HasAddressTable l first) where
  abbrev numbers : List ℕ
  numbers = map (λ (b : CodeBlock). b.number) blocks

  -- ---- an instruction stands where an item does
  record Something (q : ℕ) : Type 0 where
    pub instr : Instr
    pub len : ℕ
    pub is : code q ≡ Some (instr, len)

  something_stands : (i : Instr) (q r : ℕ) → InstrStands l code q i r → Something q
  something_stands (instr.Alu op w to from) q r h = record { instr = _; len = h.len; is = h.is }
  something_stands (instr.Test w left right) q r h = record { instr = _; len = h.len; is = h.is }
  something_stands (instr.Mov w to from) q r h = record { instr = _; len = h.len; is = h.is }
  something_stands (instr.Lea w to at) q r h = record { instr = _; len = h.len; is = h.is }
  something_stands (instr.Inc w to) q r h = record { instr = _; len = h.len; is = h.is }
  something_stands (instr.Dec w to) q r h = record { instr = _; len = h.len; is = h.is }
  something_stands (instr.Not w to) q r h = record { instr = _; len = h.len; is = h.is }
  something_stands (instr.Neg w to) q r h = record { instr = _; len = h.len; is = h.is }
  something_stands (instr.Mul w from) q r h = record { instr = _; len = h.len; is = h.is }
  something_stands (instr.ImulWide w from) q r h = record { instr = _; len = h.len; is = h.is }
  something_stands (instr.Div w from) q r h = record { instr = _; len = h.len; is = h.is }
  something_stands (instr.Idiv w from) q r h = record { instr = _; len = h.len; is = h.is }
  something_stands (instr.Imul w to from) q r h = record { instr = _; len = h.len; is = h.is }
  something_stands (instr.ImulBy w to from by) q r h = record { instr = _; len = h.len; is = h.is }
  something_stands (instr.Shift op w to n) q r h = record { instr = _; len = h.len; is = h.is }
  something_stands (instr.Shld to from n) q r h = record { instr = _; len = h.len; is = h.is }
  something_stands (instr.Shrd to from n) q r h = record { instr = _; len = h.len; is = h.is }
  something_stands (instr.Push from) q r h = record { instr = _; len = h.len; is = h.is }
  something_stands (instr.Pop to) q r h = record { instr = _; len = h.len; is = h.is }
  something_stands (instr.Xchg w left right) q r h = record { instr = _; len = h.len; is = h.is }
  something_stands (instr.Movzx wide w to from) q r h = record { instr = _; len = h.len; is = h.is }
  something_stands (instr.Movsx wide w to from) q r h = record { instr = _; len = h.len; is = h.is }
  something_stands (instr.Cmov c w to from) q r h = record { instr = _; len = h.len; is = h.is }
  something_stands (instr.Setcc c to) q r h = record { instr = _; len = h.len; is = h.is }
  something_stands (instr.Extend w) q r h = record { instr = _; len = h.len; is = h.is }
  something_stands (instr.Spread w) q r h = record { instr = _; len = h.len; is = h.is }
  something_stands (instr.Bsf w to from) q r h = record { instr = _; len = h.len; is = h.is }
  something_stands (instr.Bsr w to from) q r h = record { instr = _; len = h.len; is = h.is }
  something_stands (instr.Bswap to) q r h = record { instr = _; len = h.len; is = h.is }
  something_stands (instr.Movs w repeat) q r h = record { instr = _; len = h.len; is = h.is }
  something_stands (instr.Stos w repeat) q r h = record { instr = _; len = h.len; is = h.is }
  something_stands (instr.Jmp n) q r h = record { instr = _; len = h.stands.len; is = h.stands.is }
  something_stands (instr.JmpTo to) q r h = record { instr = _; len = h.takes.len; is = h.takes.is }
  something_stands (instr.CallTo to) q r h = record { instr = _; len = h.len; is = h.is }
  something_stands (instr.Jcc c n) q r h = record { instr = _; len = h.stands.len; is = h.stands.is }
  something_stands (instr.Call by) q r h = record { instr = _; len = h.len; is = h.is }
  something_stands (instr.Ret drop) q r h = record { instr = _; len = h.len; is = h.is }
  something_stands instr.Leave q r h = record { instr = _; len = h.len; is = h.is }
  something_stands instr.Int80 q r h = record { instr = _; len = h.len; is = h.is }
  something_stands instr.Cld q r h = record { instr = _; len = h.len; is = h.is }
  something_stands instr.Nop q r h = record { instr = _; len = h.len; is = h.is }

  -- ---- one item
  module _ (s : CodeState) (t : State) (states : AreStatesBeside first s t) (rest : List Item) (r : ℕ) (inside : Lies l code r rest × All (IsLayable numbers) rest) where
    abbrev IsClear : Access → Type 0
    IsClear a = is_clear_access s.memory a ≡ true

    abbrev Met : ℕ → Instr → Type 0
    Met k i = Simulated given l code blocks first k (act (own_item i) rest s) t

    record IsTaken (i : Instr) : Type 0 where
      pub no_esp : All (λ f. f.register ≢ Esp) (fields i)
      pub stackless : IsStackless i
      pub target : NamesBlock numbers i
      pub once : course_of i ≢ Again
      pub clear : All (λ a. is_clear_access s.memory a ≡ true) (item_accesses (own_item i) s)

    own_clear : (i : Instr) → IsTaken i → All (λ a. is_clear_access s.memory a ≡ true) (accesses machine_naming i s.cpu.regs)
    own_clear i h = all_front IsClear (accesses machine_naming i s.cpu.regs) (call_buffer i s) h.clear

    buffer_clear : IsTaken instr.Int80 → All (λ a. is_clear_access s.memory a ≡ true) (call_buffer instr.Int80 s)
    unfolding accesses transfer
    buffer_clear h = h.clear

    plain : (i : Instr) → course_of i ≡ Next → (i ≡ instr.Int80 → ⊥) → Stands code t.eip i r → IsTaken i → Met 1 i
    plain i next other stands h = plain_met given l code blocks first s t states i r rest stands inside h.no_esp h.stackless next other (own_clear i h)

    item_met : (i : Instr) → InstrStands l code t.eip i r → IsTaken i → Met (instr_steps i) i
    item_met (instr.Alu op w to from) h k = plain (instr.Alu op w to from) refl (λ e. absurd (cc e)) h k
    item_met (instr.Test w left right) h k = plain (instr.Test w left right) refl (λ e. absurd (cc e)) h k
    item_met (instr.Mov w to from) h k = plain (instr.Mov w to from) refl (λ e. absurd (cc e)) h k
    item_met (instr.Lea w to at) h k = plain (instr.Lea w to at) refl (λ e. absurd (cc e)) h k
    item_met (instr.Inc w to) h k = plain (instr.Inc w to) refl (λ e. absurd (cc e)) h k
    item_met (instr.Dec w to) h k = plain (instr.Dec w to) refl (λ e. absurd (cc e)) h k
    item_met (instr.Not w to) h k = plain (instr.Not w to) refl (λ e. absurd (cc e)) h k
    item_met (instr.Neg w to) h k = plain (instr.Neg w to) refl (λ e. absurd (cc e)) h k
    item_met (instr.Mul w from) h k = plain (instr.Mul w from) refl (λ e. absurd (cc e)) h k
    item_met (instr.ImulWide w from) h k = plain (instr.ImulWide w from) refl (λ e. absurd (cc e)) h k
    item_met (instr.Div w from) h k = plain (instr.Div w from) refl (λ e. absurd (cc e)) h k
    item_met (instr.Idiv w from) h k = plain (instr.Idiv w from) refl (λ e. absurd (cc e)) h k
    item_met (instr.Imul w to from) h k = plain (instr.Imul w to from) refl (λ e. absurd (cc e)) h k
    item_met (instr.ImulBy w to from by) h k = plain (instr.ImulBy w to from by) refl (λ e. absurd (cc e)) h k
    item_met (instr.Shift op w to n) h k = plain (instr.Shift op w to n) refl (λ e. absurd (cc e)) h k
    item_met (instr.Shld to from n) h k = plain (instr.Shld to from n) refl (λ e. absurd (cc e)) h k
    item_met (instr.Shrd to from n) h k = plain (instr.Shrd to from n) refl (λ e. absurd (cc e)) h k
    item_met (instr.Push from) h k = absurd k.stackless
    item_met (instr.Pop to) h k = absurd k.stackless
    item_met (instr.Xchg w left right) h k = plain (instr.Xchg w left right) refl (λ e. absurd (cc e)) h k
    item_met (instr.Movzx wide w to from) h k = plain (instr.Movzx wide w to from) refl (λ e. absurd (cc e)) h k
    item_met (instr.Movsx wide w to from) h k = plain (instr.Movsx wide w to from) refl (λ e. absurd (cc e)) h k
    item_met (instr.Cmov c w to from) h k = plain (instr.Cmov c w to from) refl (λ e. absurd (cc e)) h k
    item_met (instr.Setcc c to) h k = plain (instr.Setcc c to) refl (λ e. absurd (cc e)) h k
    item_met (instr.Extend w) h k = plain (instr.Extend w) refl (λ e. absurd (cc e)) h k
    item_met (instr.Spread w) h k = plain (instr.Spread w) refl (λ e. absurd (cc e)) h k
    item_met (instr.Bsf w to from) h k = plain (instr.Bsf w to from) refl (λ e. absurd (cc e)) h k
    item_met (instr.Bsr w to from) h k = plain (instr.Bsr w to from) refl (λ e. absurd (cc e)) h k
    item_met (instr.Bswap to) h k = plain (instr.Bswap to) refl (λ e. absurd (cc e)) h k
    item_met (instr.Movs w true) h k = absurd (k.once refl)
    item_met (instr.Movs w false) h k = plain (instr.Movs w false) refl (λ e. absurd (cc e)) h k
    item_met (instr.Stos w true) h k = absurd (k.once refl)
    item_met (instr.Stos w false) h k = plain (instr.Stos w false) refl (λ e. absurd (cc e)) h k
    item_met (instr.Jmp n) h k = jmp_met given l code blocks first s t states n r rest h k.target
    item_met (instr.JmpTo to) h k = jump_met given l code blocks first laid table to rest s t states r h k.no_esp (own_clear (instr.JmpTo to) k)
    item_met (instr.CallTo to) h k = absurd k.stackless
    item_met (instr.Jcc c n) h k = jcc_met given l code blocks first s t states c n r rest h inside k.target
    item_met (instr.Call by) h k = absurd k.stackless
    item_met (instr.Ret drop) h k = absurd k.stackless
    item_met instr.Leave h k = absurd k.stackless
    item_met instr.Int80 h k = call_met given l code blocks first s t states (buffer_clear k) r rest h inside
    item_met instr.Cld h k = plain instr.Cld refl (λ e. absurd (cc e)) h k
    item_met instr.Nop h k = plain instr.Nop refl (λ e. absurd (cc e)) h k

  -- ---- the items at a place
  own_is : (x : Item) → x.naming ≡ machine_naming → x ≡ own_item x.instr
  own_is x e = ap (λ (v : Naming). record { naming = v; instr = x.instr }) e

  abbrev Sim : ℕ → Move CodePosition → State → Type 0
  Sim K m t = Simulated given l code blocks first K m t

  abbrev Stand_there : List Item → State → Type 0
  Stand_there xs t = Lies l code t.eip xs × All (IsLayable numbers) xs

  nothing_met : (t : State) → code t.eip ≡ None → Sim 0 (Stand [] Outside) t
  nothing_met t e =
      let same = given.runs.run_stand (next code) t [] Outside (given.steps.at_none code t e) 0 in
      record { steps = 0; few = omega arith; fits = record { same_events = ap (λ x. events x.trace) same; same_end = λ defined. ap (λ x. x.end) same } }

  items_met : (xs : List Item) (s : CodeState) (t : State) → Stand_there xs t → AreStatesBeside first s t → All (λ a. is_clear_access s.memory a ≡ true) (first_accesses xs s) → Sim (first_cost laid_steps xs) (goes_on xs s) t
  items_met [] s t there states clear = nothing_met t there.0
  items_met (x ∷ rest) s t there states clear =
      let layable : IsLayable numbers x = All-head (IsLayable numbers) x rest there.1 in
      let is = own_is x layable.own in
      let taken : IsTaken s t states rest there.0.0 (there.0.2, All-tail (IsLayable numbers) x rest there.1) x.instr = record {
        no_esp = layable.no_esp;
        stackless = layable.stackless;
        target = layable.target;
        once = layable.once;
        clear = subst (λ y. All (λ a. is_clear_access s.memory a ≡ true) (item_accesses y s)) is clear;
      } in
      subst (λ y. Sim (instr_steps x.instr) (act y rest s) t) (sym is) (item_met s t states rest there.0.0 (there.0.2, All-tail (IsLayable numbers) x rest there.1) x.instr there.0.1 taken)

  -- ---- a turn shows no event
  marked_met : (a K : ℕ) (m : Move CodePosition) (t : State) → Sim K m t → Sim K (marked a m) t
  marked_met a K (Stand ls e) t h = h
  marked_met a K (Go ls p) t h = record { steps = h.steps; few = h.few; trace = h.trace; state = h.state; fits = h.fits; goes = h.goes; related = h.related }
  marked_met a K (Halt ls e) t h = (record { steps = h.0.steps; few = h.0.few; fits = record { same_events = h.0.fits.same_events; same_end = h.0.fits.same_end } }, h.1)

  unless_zero_met : (a K : ℕ) (m : Move CodePosition) (t : State) → Sim K m t → Sim K (marked_unless_zero a m) t
  unless_zero_met a K m t h = elim (a == 0) as (λ b. Sim K (cond b m (marked a m)) t) [ true ↦ h | false ↦ marked_met a K m t h ]

  -- ---- where an access isn't clear, nothing is asked
  module _ (layable : AreLayable blocks) (marks : Marks) where
    excused : (ls : List Label) (K : ℕ) (t : State) → events ls ≡ [] → run (next code) t 0 ≡ seen [] None → Sim K (Halt ls trace.Unspecified) t
    excused ls K t quiet rests =
        (record { steps = 0; few = omega arith; fits = record { same_events = ap (λ x. events x.trace) rests ∙ sym quiet; same_end = λ defined. absurd (defined refl) } }, rests)

    awake_there : (xs : List Item) (s : CodeState) (t : State) → Stand_there xs t → list_all (is_clear_access s.memory) (first_accesses xs s) ≡ false → run (next code) t 0 ≡ seen [] None
    awake_there [] s t there fails = absurd (cc fails)
    awake_there (x ∷ rest) s t there fails = let h = something_stands x.instr t.eip there.0.0 there.0.1 in awake given l code blocks first t h.instr h.len h.is

    -- ---- a place to which a jump has come
    -- its block lies there, or nothing stands there
    abbrev FoundThere : Option CodeBlock → State → Type 0
    FoundThere None t = code t.eip ≡ None
    FoundThere (Some b) t = Stand_there b.items t

    begun_met : (o : Option CodeBlock) (s : CodeState) (t : State) → FoundThere o t → AreStatesBeside first s t → All (λ a. is_clear_access s.memory a ≡ true) (first_accesses (items_found o) s) → Sim (entry_cost laid_steps o) (begun marks o s) t
    begun_met None s t there states clear = nothing_met t there
    begun_met (Some b) s t there states clear = unless_zero_met (marks b.number) (first_cost laid_steps b.items) (goes_on b.items s) t (items_met b.items s t there states clear)

    found_awake : (o : Option CodeBlock) (s : CodeState) (t : State) → FoundThere o t → list_all (is_clear_access s.memory) (first_accesses (items_found o) s) ≡ false → run (next code) t 0 ≡ seen [] None
    found_awake None s t there fails = absurd (cc fails)
    found_awake (Some b) s t there fails = awake_there b.items s t there fails

    number_found : (n : ℕ) (t : State) → Contains numbers n → t.eip ≡ l.by_number n → FoundThere (block_of_number n blocks) t
    number_found n t named at = cases (block_of_number n blocks) refl
      where
        cases : (o : Option CodeBlock) → block_of_number n blocks ≡ o → FoundThere o t
        cases None e = absurd (is_found n blocks named e)
        cases (Some b) e = (subst (λ q. Lies l code q b.items) (sym at) (laid.numbers n b e), found_number (λ c. All (IsLayable numbers) c.items) n blocks b layable e)

    old_found : (a : ℕ) (t : State) → t.eip ≡ place_of_old l a → FoundThere (block_at a blocks) t
    old_found a t at = sides (is_outside l a) refl
      where
        placed : (o : Option CodeBlock) → block_at a blocks ≡ o → FoundAt l code t.eip o → FoundThere o t
        placed None e h = h
        placed (Some b) e h = (h, found_at (λ c. All (IsLayable numbers) c.items) a blocks b layable e)

        at_place : (b : Bool) → is_outside l a ≡ b → t.eip ≡ cond b l.stop (l.by_address a)
        at_place b e = at ∙ ap (λ x. cond x l.stop (l.by_address a)) e

        or_parts : (x y : Bool) → (x || y) ≡ false → (x ≡ false) × (y ≡ false)
        or_parts false y e = (refl, e)
        or_parts true y e = absurd (cc e)

        sides : (b : Bool) → is_outside l a ≡ b → FoundThere (block_at a blocks) t
        sides true e = subst (λ o. FoundThere o t) (sym (laid.outside a e)) (subst (λ q. code q ≡ None) (sym (at_place true e)) laid.stops)
        sides false e =
            let parts = or_parts (ltb a l.span) (leb (l.span + l.count) a) e in
            let h = laid.addresses a (ltb-false a l.span parts.0) (leb-false (l.span + l.count) a parts.1) in
            placed (block_at a blocks) refl (subst (λ q. FoundAt l code q (block_at a blocks)) (sym (at_place false e)) h)

    -- ---- a position

    point_met : (point : CodePoint) (s : CodeState) (t : State) → StandsAt l code blocks point t.eip → AreStatesBeside first s t → All (λ a. is_clear_access s.memory a ≡ true) (first_accesses (items_at blocks point) s) → Sim (cost_at laid_steps blocks point) (move_at marks blocks point s) t
    point_met (AtNumber n) s t stands states clear = begun_met (block_of_number n blocks) s t (number_found n t stands.0 stands.1) states clear
    point_met (AtOld a) s t stands states clear = begun_met (block_at a blocks) s t (old_found a t stands) states clear
    point_met (Inside items) s t stands states clear = items_met items s t stands states clear

    point_awake : (point : CodePoint) (s : CodeState) (t : State) → StandsAt l code blocks point t.eip → list_all (is_clear_access s.memory) (first_accesses (items_at blocks point) s) ≡ false → run (next code) t 0 ≡ seen [] None
    point_awake (AtNumber n) s t stands fails = found_awake (block_of_number n blocks) s t (number_found n t stands.0 stands.1) fails
    point_awake (AtOld a) s t stands fails = found_awake (block_at a blocks) s t (old_found a t stands) fails
    point_awake (Inside items) s t stands fails = awake_there items s t stands fails

    pub position_met : (p : CodePosition) (t : State) → IsBeside l code blocks first p t → Sim (step_cost laid_steps blocks p) (tested_next is_clear_access marks blocks p) t
    unfolding all_pass tested_next code_next
    position_met p t h = cases (all_pass is_clear_access blocks p) refl
      where
        tested_by : (b : Bool) → all_pass is_clear_access blocks p ≡ b → tested_next is_clear_access marks blocks p ≡ cond b (code_next marks blocks p) (Halt (turn_at marks blocks p.point) trace.Unspecified)
        tested_by b e = ap (λ x. cond x (code_next marks blocks p) (Halt (turn_at marks blocks p.point) trace.Unspecified)) e

        cases : (b : Bool) → all_pass is_clear_access blocks p ≡ b → Sim (step_cost laid_steps blocks p) (tested_next is_clear_access marks blocks p) t
        cases true e = subst (λ m. Sim (step_cost laid_steps blocks p) m t) (sym (tested_by true e)) (point_met p.point p.state t h.stands h.states (given.tested.passes_all is_clear_access blocks p e))
        cases false e =
            subst (λ m. Sim (step_cost laid_steps blocks p) m t) (sym (tested_by false e))
            (excused (turn_at marks blocks p.point) (step_cost laid_steps blocks p) t (given.tested.turn_is_quiet marks blocks p.point) (point_awake p.point p.state t h.stands e))
