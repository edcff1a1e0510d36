-- A step in the order of the code is the step.
use Rattle.std.proofs.Common.{◌≡◌, ℕ, ◌+◌, ◌&&◌, Bool, true, false, cond, List, [], ◌∷◌, ◌++◌, map, length, take, Option, Some, None, Ok, Err, refl, sym, ap, ◌∙◌}
use Rattle.outside.specs.Environment.{Environment}
use Rattle.traces.specs.Trace.{Halt}
use Rattle.x86_values.specs.declared.word.Word.{Word}
use Rattle.x86_values.specs.Words.{word_list, padded}
use Rattle.memory.specs.Memory.{Memory, AccessKind, Load, Store, allows_all, bytes_at, wrapped}
use Rattle.x86_types.specs.declared.instr.Instr.{Instr}
use Rattle.x86_meaning.specs.declared.state.Cpu.{Cpu}
use Rattle.x86_meaning.specs.declared.stop.Stop.{Stop}
use Rattle.x86_meaning.specs.Registers.{Registers, Processor, machine_naming}
use Rattle.x86_meaning.specs.Operands as operands
use Rattle.x86_meaning.specs.Operands.{InRegister, InMemory, Constant, SizedOperand, Access, access, accesses_of, bytes_in, value_in, values_in}
use Rattle.x86_meaning.specs.TransferShapes.{Transfer}
use Rattle.x86_meaning.specs.Transfers.{transfer}
use Rattle.x86_meaning.specs.Computing.{compute}
use Rattle.x86_meaning.specs.Effect as spec
use Rattle.x86_meaning.specs.Effect.{accesses, effect, effect_by, effect_of, transfer_accesses}
use Rattle.x86_meaning.specs.Step.{State, access_allowed, all_allowed, by_effect, by_loads, by_stores, end_of, step}
use Rattle.x86_meaning.specs.StepLaws.{StepLaws, stored_range, store_ranges, if_store}
use Rattle.x86_step.specs.declared.operand.Size.{Size}
use Rattle.x86_step.specs.declared.operand.Size.TheVariants as size
use Rattle.x86_step.specs.declared.effect.Stored.{Stored}
use Rattle.x86_step.specs.declared.effect.Effect.{Effect}
use Rattle.x86_step.specs.Transferred.{bytes_in_size}
use Rattle.x86_step.specs.Judged.{effect_from, effect_read, effect_seen, processor_of, store_allowed, stores_of, value_read, values_read, with_value}
use Rattle.x86_step.specs.Steps.{registers_of, state_of}
use Rattle.x86_step.specs.Finishing.{rest_of_step}

-- ---- the loads
if_both : (a b : Bool) (w : Word) (ws : List Word) → with_value (cond a (Some w) None) (cond b (Some ws) None) ≡ cond (a && b) (Some (w ∷ ws)) None
if_both true true w ws = refl
if_both true false w ws = refl
if_both false true w ws = refl
if_both false false w ws = refl

one_more : (size : ℕ) (l : operands.Location) (regs : Registers) (m : Memory) (b : Bool) (made : List Access) (ws : List Word) → b ≡ all_allowed Load made m
    → with_value (value_read size l regs m) (cond b (Some ws) None) ≡ cond (all_allowed Load (access Load size l made) m) (Some (padded (bytes_in size l regs m) ∷ ws)) None
one_more size (InRegister p i) regs m b made ws h = rw (← h) (if_both true b _ ws)
one_more size (InMemory at) regs m b made ws h = rw (← h) (if_both (allows_all Load m at size) b (padded (bytes_at m at size)) ws)
one_more size (Constant n) regs m b made ws h = rw (← h) (if_both true b _ ws)

-- operands have values where all of their loads are allowed
loads_judged : (os : List SizedOperand) (regs : Registers) (m : Memory) → values_read os regs m ≡ cond (all_allowed Load (accesses_of Load os) m) (Some (values_in os regs m)) None
loads_judged [] regs m = refl
loads_judged (o ∷ os) regs m = ap (with_value (value_read o.size o.location regs m)) (loads_judged os regs m) ∙ one_more o.size o.location regs m (all_allowed Load (accesses_of Load os) m) (accesses_of Load os) (values_in os regs m) refl

-- stores are judged apart
no_load : (size : ℕ) (l : operands.Location) (made : List Access) (m : Memory) → all_allowed Load (access Store size l made) m ≡ all_allowed Load made m
no_load size (InRegister p i) made m = refl
no_load size (InMemory at) made m = refl
no_load size (Constant n) made m = refl

no_loads : (os : List SizedOperand) (m : Memory) → all_allowed Load (accesses_of Store os) m ≡ true
no_loads [] m = refl
no_loads (o ∷ os) m = no_load o.size o.location (accesses_of Store os) m ∙ no_loads os m

loads_first : (xs ys : List Access) (m : Memory) → all_allowed Load ys m ≡ true → all_allowed Load (xs ++ ys) m ≡ all_allowed Load xs m
loads_first [] ys m h = h
loads_first (a ∷ xs) ys m h = ap (λ b. access_allowed Load a.kind m a.at a.size && b) (loads_first xs ys m h)

-- ---- the step
of_loads : (b : Bool) (st : Bool) (t : Transfer) (i : Instr) (n : ℕ) (cpu : Processor) (xs : List Word) (next : ℕ) (s : State)
    → by_loads b st (effect_of t.writes cpu.regs (compute i n cpu.flags xs)) next s ≡ by_effect (effect_from t i n cpu (cond b (Some xs) None)) st next s
of_loads true st t i n cpu xs next s = refl
of_loads false st t i n cpu xs next s = refl

of_transfer : (o : Option Transfer) (st : Bool) (i : Instr) (n : ℕ) (cpu : Processor) (m : Memory) (next : ℕ) (s : State)
    → by_loads (all_allowed Load (transfer_accesses o) m) st (effect_by o i n cpu m) next s ≡ by_effect (effect_read o i n cpu m) st next s
of_transfer None st i n cpu m next s = refl
of_transfer (Some t) st i n cpu m next s =
    ap (λ b. by_loads b st (effect_by (Some t) i n cpu m) next s) (loads_first (accesses_of Load t.reads) (accesses_of Store t.writes) m (no_loads t.writes m))
    ∙ (of_loads (all_allowed Load (accesses_of Load t.reads) m) st t i n cpu (values_in t.reads cpu.regs m) next s
    ∙ ap (λ o. by_effect (effect_from t i n cpu o) st next s) (sym (loads_judged t.reads cpu.regs m)))

step_judged : (i : Instr) (len : ℕ) (s : State) → step i len s ≡ by_effect (effect_read (transfer machine_naming i s.cpu.regs) i (wrapped (s.eip + len)) s.cpu s.memory) (all_allowed Store (accesses machine_naming i s.cpu.regs) s.memory) (s.eip + len) s
unfolding step accesses effect
step_judged i len s = of_transfer (transfer machine_naming i s.cpu.regs) (all_allowed Store (transfer_accesses (transfer machine_naming i s.cpu.regs)) s.memory) i (wrapped (s.eip + len)) s.cpu s.memory (s.eip + len) s

-- an effect whose loads are allowed is the effect
same_loads : (b : Bool) (t : Transfer) (i : Instr) (n : ℕ) (cpu : Processor) (xs : List Word) (e : spec.Effect) → effect_from t i n cpu (cond b (Some xs) None) ≡ Ok e → effect_of t.writes cpu.regs (compute i n cpu.flags xs) ≡ Ok e
same_loads true t i n cpu xs e h = h
same_loads false t i n cpu xs e h = cc

same_transfer : (o : Option Transfer) (i : Instr) (n : ℕ) (cpu : Processor) (m : Memory) (e : spec.Effect) → effect_read o i n cpu m ≡ Ok e → effect_by o i n cpu m ≡ Ok e
same_transfer None i n cpu m e h = cc
same_transfer (Some t) i n cpu m e h = same_loads (all_allowed Load (accesses_of Load t.reads) m) t i n cpu (values_in t.reads cpu.regs m) e (ap (effect_from t i n cpu) (sym (loads_judged t.reads cpu.regs m)) ∙ h)

same_effect : (i : Instr) (n : ℕ) (cpu : Processor) (m : Memory) (e : spec.Effect) → effect_read (transfer machine_naming i cpu.regs) i n cpu m ≡ Ok e → effect machine_naming i n cpu m ≡ Ok e
unfolding effect
same_effect i n cpu m e h = same_transfer (transfer machine_naming i cpu.regs) i n cpu m e h

-- ---- the stores
abbrev ranges_allowed : List (ℕ × ℕ) → Memory → Bool
ranges_allowed [] m = true
ranges_allowed (r ∷ rs) m = allows_all Store m r.0 r.1 && ranges_allowed rs m

one_range : (kind : AccessKind) (at size : ℕ) (rs : List (ℕ × ℕ)) (m : Memory) → (access_allowed Store kind m at size && ranges_allowed rs m) ≡ ranges_allowed (if_store kind (at, size) rs) m
one_range Load at size rs m = refl
one_range Store at size rs m = refl

by_ranges : (made : List Access) (m : Memory) → all_allowed Store made m ≡ ranges_allowed (store_ranges made) m
by_ranges [] m = refl
by_ranges (a ∷ made) m = ap (λ b. access_allowed Store a.kind m a.at a.size && b) (by_ranges made m) ∙ one_range a.kind a.at a.size (store_ranges made) m

and_true : (b : Bool) → (b && true) ≡ b
and_true true = refl
and_true false = refl

sized : (s : Size) (w : Word) → length (take (bytes_in_size s) (word_list w)) ≡ bytes_in_size s
sized size.Zero w = refl
sized size.One w = refl
sized size.Two w = refl
sized size.Four w = refl

one_store : (o : Option Stored) (m : Memory) → ranges_allowed (map stored_range (stores_of o)) m ≡ store_allowed o m
one_store None m = refl
one_store (Some s) m = and_true (allows_all Store m s.at (length (take (bytes_in_size s.size) (word_list s.word)))) ∙ ap (allows_all Store m s.at) (sized s.size s.word)

stores_judged : (made : List Access) (o : Option Stored) (m : Memory) → map stored_range (stores_of o) ≡ store_ranges made → all_allowed Store made m ≡ store_allowed o m
stores_judged made o m h = by_ranges made m ∙ (ap (λ rs. ranges_allowed rs m) (sym h) ∙ one_store o m)

-- ---- what the code made is the step
pub step_stops : (i : Instr) (len : ℕ) (c : Cpu) (m : Memory) (x : Stop) → Err x ≡ effect_read (transfer machine_naming i (registers_of c.regs)) i (wrapped (c.eip + len)) (processor_of c) m
    → (left : Environment) → step i len (state_of c m left) ≡ Halt [] (end_of x)
step_stops i len c m x h left = step_judged i len (state_of c m left) ∙ ap (λ r. by_effect r (all_allowed Store (accesses machine_naming i (registers_of c.regs)) m) (c.eip + len) (state_of c m left)) (sym h)

pub step_goes : (laws : StepLaws) (i : Instr) (len : ℕ) (c : Cpu) (m : Memory) (e : Effect) → Ok (effect_seen e) ≡ effect_read (transfer machine_naming i (registers_of c.regs)) i (wrapped (c.eip + len)) (processor_of c) m
    → (left : Environment) → step i len (state_of c m left) ≡ rest_of_step e len c m left
step_goes laws i len c m e h left =
    let same = same_effect i (wrapped (c.eip + len)) (processor_of c) m (effect_seen e) (sym h) in
    let ranges = laws.stores_are_accesses machine_naming i (wrapped (c.eip + len)) (processor_of c) m (effect_seen e) same in
    step_judged i len (state_of c m left)
    ∙ (ap (λ r. by_effect r (all_allowed Store (accesses machine_naming i (registers_of c.regs)) m) (c.eip + len) (state_of c m left)) (sym h)
    ∙ ap (λ b. by_stores b (effect_seen e) (c.eip + len) (state_of c m left)) (stores_judged (accesses machine_naming i (registers_of c.regs)) e.store m ranges))
