-- What a step looks at.
use Rattle.std.proofs.Common.{◌≡◌, ℕ, ◌+◌, Bool, true, false, List, [], ◌∷◌, ◌++◌, Option, Some, None, Result, Ok, Err, refl, ap, ◌∙◌, subst}
use Rattle.x86_values.specs.declared.word.Word.{Word}
use Rattle.x86_values.specs.Words.{padded, known}
use Rattle.traces.specs.Trace.{Label, Move}
use Rattle.memory.specs.Memory.{Memory, wrapped, Stored, AccessKind, Load, Store, SameIn, SameOutside, AreApart, store_all}
use Rattle.memory.specs.MemoryLaws.{MemoryLaws}
use Rattle.memory.specs.CallLaws.{CallLaws}
use Rattle.memory.specs.SystemCall.{Request, Called, Ends, Gives, system_call}
use Rattle.x86_types.specs.declared.instr.Instr.{Instr}
use Rattle.x86_meaning.specs.declared.stop.Stop.{Stop}
use Rattle.x86_meaning.specs.Registers.{Registers, Processor, Naming, machine_naming}
use Rattle.x86_meaning.specs.Operands.{Location, InRegister, InMemory, Constant, SizedOperand, Access, access, accesses_of, bytes_in, value_in, values_in}
use Rattle.x86_meaning.specs.TransferShapes.{Transfer}
use Rattle.x86_meaning.specs.Transfers.{transfer}
use Rattle.x86_meaning.specs.Outcomes.{Way, Falls, JumpsBy, JumpsTo, Repeats, Calls}
use Rattle.x86_meaning.specs.Computing.{compute}
use Rattle.x86_meaning.specs.Effect.{Effect, transfer_accesses, accesses, effect_of, effect_by, effect}
use Rattle.x86_meaning.specs.Step.{State, access_allowed, all_allowed, settled_by, settled, at_address, request_of, with_result, after_call, finish, performed, by_stores, by_effect, by_loads, step}
use Rattle.x86_meaning.specs.AccessLaws.{SameLoad, SameLoads, AllApart, BufferIsApart, SameButRange, MovesAlike, CallIsApart}

-- ---- the effect looks at the loads alone
loads_first : (xs ys : List Access) (l m : Memory) → SameLoads (xs ++ ys) l m → SameLoads xs l m
loads_first [] ys l m h = tt
loads_first (x ∷ xs) ys l m h = (h.0, loads_first xs ys l m h.1)

module _ (laws : MemoryLaws) where
  operand_same : (size : ℕ) (k : Location) (more : List Access) (regs : Registers) (l m : Memory) → SameLoads (access Load size k more) l m → (bytes_in size k regs l ≡ bytes_in size k regs m) × SameLoads more l m
  operand_same size (InRegister p i) more regs l m h = (refl, h)
  operand_same size (InMemory at) more regs l m h = (laws.bytes_in_same l m at size h.0, h.1)
  operand_same size (Constant n) more regs l m h = (refl, h)

  values_same : (os : List SizedOperand) (regs : Registers) (l m : Memory) → SameLoads (accesses_of Load os) l m → values_in os regs l ≡ values_in os regs m
  values_same [] regs l m h = refl
  values_same (o ∷ os) regs l m h =
      let first = operand_same o.size o.location (accesses_of Load os) regs l m h in
      let value : value_in o regs l ≡ value_in o regs m = ap padded first.0 in
      let rest : values_in os regs l ≡ values_in os regs m = values_same os regs l m first.1 in
      cc

  by_loads_same : (o : Option Transfer) (i : Instr) (n : ℕ) (cpu : Processor) (l m : Memory) → SameLoads (transfer_accesses o) l m → effect_by o i n cpu l ≡ effect_by o i n cpu m
  by_loads_same None i n cpu l m h = refl
  by_loads_same (Some t) i n cpu l m h =
      ap (λ (ws : List Word). effect_of t.writes cpu.regs (compute i n cpu.flags ws)) (values_same t.reads cpu.regs l m (loads_first (accesses_of Load t.reads) (accesses_of Store t.writes) l m h))

  pub effect_by_loads : (v : Naming) (i : Instr) (n : ℕ) (cpu : Processor) (l m : Memory) → SameLoads (accesses v i cpu.regs) l m → effect v i n cpu l ≡ effect v i n cpu m
  unfolding effect accesses
  effect_by_loads v i n cpu l m h = by_loads_same (transfer v i cpu.regs) i n cpu l m h

  -- ---- memories that differ in a range
  same_in : (from n at count : ℕ) (l m : Memory) → AreApart from n at count → SameOutside at count l m → SameIn from n l m
  same_in from n at count l m h k = record { places = λ j less. k.places (wrapped (from + j)) (λ i small. h.apart j i less small) }

  load_same : (kind : AccessKind) (from n at count : ℕ) (l m : Memory) → AreApart from n at count → SameOutside at count l m → SameLoad kind from n l m
  load_same Load from n at count l m h k = same_in from n at count l m h k
  load_same Store from n at count l m h k = tt

  loads_same : (xs : List Access) (at count : ℕ) (l m : Memory) → AllApart xs at count → SameOutside at count l m → SameLoads xs l m
  loads_same [] at count l m h k = tt
  loads_same (x ∷ xs) at count l m h k = (load_same x.kind x.at x.size at count l m h.0 k, loads_same xs at count l m h.1 k)

  allowed_same : (kind other : AccessKind) (from n at count : ℕ) (l m : Memory) → AreApart from n at count → SameOutside at count l m → access_allowed kind other l from n ≡ access_allowed kind other m from n
  allowed_same Load Load from n at count l m h k = laws.allows_outside Load at count from n l m h k
  allowed_same Store Store from n at count l m h k = laws.allows_outside Store at count from n l m h k
  allowed_same Load Store from n at count l m h k = refl
  allowed_same Store Load from n at count l m h k = refl

  judged_same : (kind : AccessKind) (xs : List Access) (at count : ℕ) (l m : Memory) → AllApart xs at count → SameOutside at count l m → all_allowed kind xs l ≡ all_allowed kind xs m
  judged_same kind [] at count l m h k = refl
  judged_same kind (x ∷ xs) at count l m h k = rw (allowed_same kind x.kind x.at x.size at count l m h.0 k, judged_same kind xs at count l m h.1 k) refl

  stored_same : (xs : List Stored) (at count : ℕ) (l m : Memory) → SameOutside at count l m → SameOutside at count (store_all xs l) (store_all xs m)
  stored_same [] at count l m h = h
  stored_same (x ∷ xs) at count l m h = stored_same xs at count _ _ (laws.same_outside_put at count x.at x.bytes l m h)

  module _ (calls : CallLaws) (at count : ℕ) where
    settled_same : (ls : List Label) (s t : State) → SameButRange at count s t → MovesAlike at count (settled ls s) (settled ls t)
    unfolding settled
    settled_same ls s t h = subst (λ (p : Processor). MovesAlike at count (settled_by (known (s.cpu.regs 4)) ls s) (settled_by (known (p.regs 4)) ls t)) h.cpu (go (known (s.cpu.regs 4)))
      where
        go : (o : Option ℕ) → MovesAlike at count (settled_by o ls s) (settled_by o ls t)
        go None = refl
        go (Some esp) = (refl, record { cpu = h.cpu; eip = h.eip; memory = laws.same_outside_forget at count esp s.memory t.memory h.memory; left = h.left })

    moved_same : (a b : ℕ) (s t : State) → a ≡ b → SameButRange at count s t → SameButRange at count (at_address a s) (at_address b t)
    moved_same a b s t e h = record { cpu = h.cpu; eip = rw e refl; memory = h.memory; left = h.left }

    called_same : (x : Called) (s t : State) → SameButRange at count s t → MovesAlike at count (after_call x s) (after_call x t)
    called_same (Ends e) s t h = refl
    called_same (Gives ls result stores left) s t h = settled_same ls _ _ (record { cpu = ap (with_result result) h.cpu; eip = h.eip; memory = stored_same stores at count s.memory t.memory h.memory; left = refl })

    call_same : (s t : State) → SameButRange at count s t → BufferIsApart (request_of s.cpu) at count → MovesAlike at count (after_call (system_call (request_of s.cpu) s.memory s.left) s) (after_call (system_call (request_of t.cpu) t.memory t.left) t)
    call_same s t h k =
        let q : Request = request_of s.cpu in
        let same : system_call q s.memory s.left ≡ system_call q t.memory s.left = calls.by_buffer q s.memory t.memory s.left (λ from n e f. calls.same_in_is_buffer from n s.memory t.memory (same_in from n at count s.memory t.memory (k from n e f) h.memory)) in
        let there : system_call q t.memory s.left ≡ system_call (request_of t.cpu) t.memory t.left =
        ap (λ (p : Processor). system_call (request_of p) t.memory s.left) h.cpu ∙ ap (system_call (request_of t.cpu) t.memory) h.left in
        subst (λ (x : Called). MovesAlike at count (after_call (system_call q s.memory s.left) s) (after_call x t)) (same ∙ there) (called_same (system_call q s.memory s.left) s t h)

    finish_same : (w : Way) (a b : ℕ) (s t : State) → a ≡ b → SameButRange at count s t → (w ≡ Calls → BufferIsApart (request_of s.cpu) at count) → MovesAlike at count (finish w a s) (finish w b t)
    unfolding finish
    finish_same Falls a b s t e h k = settled_same [] _ _ (moved_same a b s t e h)
    finish_same (JumpsBy by) a b s t e h k = settled_same [] _ _ (moved_same (a + by) (b + by) s t (rw e refl) h)
    finish_same (JumpsTo target) a b s t e h k = settled_same [] _ _ (moved_same target target s t refl h)
    finish_same Repeats a b s t e h k = settled_same [] s t h
    finish_same Calls a b s t e h k = call_same _ _ (moved_same a b s t e h) (k refl)

    by_stores_same : (x : Bool) (e : Effect) (a b : ℕ) (s t : State) → a ≡ b → SameButRange at count s t → (e.way ≡ Calls → BufferIsApart (request_of e.cpu) at count) → MovesAlike at count (by_stores x e a s) (by_stores x e b t)
    by_stores_same false e a b s t z h k = refl
    by_stores_same true e a b s t z h k = finish_same e.way a b (performed e s) (performed e t) z (record { cpu = refl; eip = h.eip; memory = stored_same e.stores at count s.memory t.memory h.memory; left = h.left }) k

    by_effect_same : (r : Result Effect Stop) (x : Bool) (a b : ℕ) (s t : State) → a ≡ b → SameButRange at count s t → ((e : Effect) → r ≡ Ok e → e.way ≡ Calls → BufferIsApart (request_of e.cpu) at count) → MovesAlike at count (by_effect r x a s) (by_effect r x b t)
    by_effect_same (Err y) x a b s t z h k = refl
    by_effect_same (Ok e) x a b s t z h k = by_stores_same x e a b s t z h (k e refl)

    by_loads_alike : (y x : Bool) (r : Result Effect Stop) (a b : ℕ) (s t : State) → a ≡ b → SameButRange at count s t → ((e : Effect) → r ≡ Ok e → e.way ≡ Calls → BufferIsApart (request_of e.cpu) at count) → MovesAlike at count (by_loads y x r a s) (by_loads y x r b t)
    by_loads_alike false x r a b s t z h k = refl
    by_loads_alike true x r a b s t z h k = by_effect_same r x a b s t z h k

    -- the parts of a step, at the processor of the left state
    abbrev parts : Instr → ℕ → Processor → Memory → ℕ → State → Move State
    parts i len p m eip u =
        by_loads (all_allowed Load (accesses machine_naming i p.regs) m) (all_allowed Store (accesses machine_naming i p.regs) m) (effect machine_naming i (wrapped (eip + len)) p m) (eip + len) u

    pub step_outside : (i : Instr) (len : ℕ) (s t : State) → SameButRange at count s t → AllApart (accesses machine_naming i s.cpu.regs) at count → CallIsApart i len at count s → MovesAlike at count (step i len s) (step i len t)
    unfolding step
    step_outside i len s t h apart call =
        let xs : List Access = accesses machine_naming i s.cpu.regs in
        let loads : all_allowed Load xs s.memory ≡ all_allowed Load xs t.memory = judged_same Load xs at count s.memory t.memory apart h.memory in
        let stores : all_allowed Store xs s.memory ≡ all_allowed Store xs t.memory = judged_same Store xs at count s.memory t.memory apart h.memory in
        let same : effect machine_naming i (wrapped (s.eip + len)) s.cpu s.memory ≡ effect machine_naming i (wrapped (s.eip + len)) s.cpu t.memory =
        effect_by_loads machine_naming i (wrapped (s.eip + len)) s.cpu s.memory t.memory (loads_same xs at count s.memory t.memory apart h.memory) in
        let start : MovesAlike at count (step i len s) (by_loads (all_allowed Load xs s.memory) (all_allowed Store xs s.memory) (effect machine_naming i (wrapped (s.eip + len)) s.cpu s.memory) (s.eip + len) t) =
        by_loads_alike _ _ (effect machine_naming i (wrapped (s.eip + len)) s.cpu s.memory) (s.eip + len) (s.eip + len) s t refl h call in
        let moved : by_loads (all_allowed Load xs s.memory) (all_allowed Store xs s.memory) (effect machine_naming i (wrapped (s.eip + len)) s.cpu s.memory) (s.eip + len) t ≡ parts i len s.cpu t.memory s.eip t =
        rw (loads, stores, same) refl in
        let there : parts i len s.cpu t.memory s.eip t ≡ parts i len t.cpu t.memory t.eip t =
        ap (λ (p : Processor). parts i len p t.memory s.eip t) h.cpu ∙ ap (λ (a : ℕ). parts i len t.cpu t.memory a t) h.eip in
        subst (λ (m : Move State). MovesAlike at count (step i len s) m) (moved ∙ there) start
