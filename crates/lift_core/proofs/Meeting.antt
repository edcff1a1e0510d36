-- What a list of operations has to come to, so that it does what a step does: by whether the loads are allowed, by the effect, and by
-- whether the stores are allowed, as a step is made.
use Rattle.std.proofs.Common.{◌≡◌, ℕ, ◌+◌, Bool, true, false, List, [], ◌∷◌, ◌++◌, Option, Some, None, Result, Ok, Err, refl, sym, ap, subst}
use Rattle.x86_values.specs.Words.{known}
use Rattle.traces.specs.Trace.{Label, End, MemoryFault, DivideFault}
use Rattle.memory.specs.Memory.{Memory, wrapped, Load, Store}
use Rattle.memory.specs.LessSpecifiedLaws.{LessSpecifiedMemoryLaws}
use Rattle.x86_types.specs.declared.instr.Instr.{Instr}
use Rattle.x86_meaning.specs.declared.stop.Stop.{Stop}
use Rattle.x86_meaning.specs.declared.stop.Stop.TheVariants as stop
use Rattle.x86_meaning.specs.Registers.{machine_naming}
use Rattle.x86_meaning.specs.Operands.{Location, InRegister, InMemory, Constant, SizedOperand, Access, access, accesses_of, values_in}
use Rattle.x86_meaning.specs.TransferShapes.{Transfer, by_one, by_two}
use Rattle.x86_meaning.specs.Transfers.{transfer}
use Rattle.x86_meaning.specs.Outcomes.{Way, Falls, JumpsBy, JumpsTo, Repeats, Calls}
use Rattle.x86_meaning.specs.Computing.{compute}
use Rattle.x86_meaning.specs.Effect.{Effect, transfer_accesses, accesses, effect_of, effect_by, effect}
use Rattle.x86_meaning.specs.Step.{State, all_allowed, settled_by, settled, at_address, finish, performed, by_stores, by_effect, by_loads, step}
use Rattle.flag_ir.specs.declared.operation.Op.{Op}
use Rattle.flag_ir.specs.Storage.{Storage}
use Rattle.flag_ir.specs.Operations.{and_then, performs, shown_by_all}
use Rattle.lift_relation.specs.Matching.{StateMatches, MoveMatches}
use Rattle.lift_relation.specs.Cores.{StopMatches}
use Rattle.lift_core.specs.declared.way.Way.{Way as Going}
use Rattle.lift_core.specs.Lifting.{goes_to, listed}

-- ---- what a list and its way come to, by the parts of a step of an instruction that stands at an address, before the next one
-- the address to which a way of the machine leads
abbrev pub leads_to : Way → ℕ → ℕ → ℕ
leads_to Falls next at = wrapped next
leads_to (JumpsBy by) next at = wrapped (next + by)
leads_to (JumpsTo target) next at = wrapped target
leads_to Repeats next at = at
leads_to Calls next at = wrapped next

-- a call isn't among them
abbrev pub IsNoCall : Way → Type 0
IsNoCall Calls = ⊥
IsNoCall _ = Unit {0}

pub record Ends (e : Effect) (next : ℕ) (s : State) (w : Going) (v : Storage) : Type 0 where
  pub state : StateMatches (performed e s) v
  pub goes : goes_to w v ≡ Ok (leads_to e.way next s.eip)
  pub no_call : IsNoCall e.way

abbrev pub EndMeets : Effect → ℕ → State → Going → Result Storage End → Type 0
EndMeets e next s w (Ok v) = Ends e next s w v
EndMeets e next s w (Err x) = ⊥

abbrev pub StoresMeet : Bool → Effect → ℕ → State → Going → Result Storage End → Type 0
StoresMeet false e next s w y = y ≡ Err MemoryFault
StoresMeet true e next s w y = EndMeets e next s w y

abbrev pub EffectMeets : Result Effect Stop → Bool → ℕ → State → Going → Result Storage End → Type 0
EffectMeets (Err x) stores next s w y = StopMatches x y
EffectMeets (Ok e) stores next s w y = StoresMeet stores e next s w y

abbrev pub LoadsMeet : Bool → Bool → Result Effect Stop → ℕ → State → Going → Result Storage End → Type 0
LoadsMeet false stores r next s w y = y ≡ Err MemoryFault
LoadsMeet true stores r next s w y = EffectMeets r stores next s w y

-- by what an instruction reads and writes; where an address has an unspecified byte nothing is asked
abbrev pub TransferMeets : Option Transfer → Instr → ℕ → State → Going → Result Storage End → Type 0
TransferMeets None i len s w y = Unit {0}
TransferMeets (Some t) i len s w y =
    LoadsMeet (all_allowed Load (accesses_of Load t.reads) s.memory) (all_allowed Store (accesses_of Store t.writes) s.memory) (effect_of t.writes s.cpu.regs (compute i (wrapped (s.eip + len)) s.cpu.flags (values_in t.reads s.cpu.regs s.memory))) (s.eip + len) s w y

-- ---- loads and stores are judged each for themselves
module _ (m : Memory) where
  none_here : (size : ℕ) (l : Location) (more : List Access) → all_allowed Load more m ≡ true → all_allowed Load (access Store size l more) m ≡ true
  none_here size (InRegister p i) more h = h
  none_here size (InMemory at) more h = h
  none_here size (Constant n) more h = h

  no_loads : (os : List SizedOperand) → all_allowed Load (accesses_of Store os) m ≡ true
  no_loads [] = refl
  no_loads (o ∷ os) = none_here o.size o.location (accesses_of Store os) (no_loads os)

  loads_here : (size : ℕ) (l : Location) (more ws : List Access) → all_allowed Load (more ++ ws) m ≡ all_allowed Load more m → all_allowed Load (access Load size l more ++ ws) m ≡ all_allowed Load (access Load size l more) m
  loads_here size (InRegister p i) more ws h = h
  loads_here size (InMemory at) more ws h = rw h refl
  loads_here size (Constant n) more ws h = h

  loads_alone : (os ws : List SizedOperand) → all_allowed Load (accesses_of Load os ++ accesses_of Store ws) m ≡ all_allowed Load (accesses_of Load os) m
  loads_alone [] ws = no_loads ws
  loads_alone (o ∷ os) ws = loads_here o.size o.location (accesses_of Load os) (accesses_of Store ws) (loads_alone os ws)

  stores_here : (size : ℕ) (l : Location) (more ws : List Access) → all_allowed Store (more ++ ws) m ≡ all_allowed Store ws m → all_allowed Store (access Load size l more ++ ws) m ≡ all_allowed Store ws m
  stores_here size (InRegister p i) more ws h = h
  stores_here size (InMemory at) more ws h = h
  stores_here size (Constant n) more ws h = h

  stores_alone : (os ws : List SizedOperand) → all_allowed Store (accesses_of Load os ++ accesses_of Store ws) m ≡ all_allowed Store (accesses_of Store ws) m
  stores_alone [] ws = refl
  stores_alone (o ∷ os) ws = stores_here o.size o.location (accesses_of Load os) (accesses_of Store ws) (stores_alone os ws)

-- ---- from there to the step
abbrev pub going : Going → Result Storage End → Result (ℕ × Storage) End
going w y = and_then y (λ v. and_then (goes_to w v) (λ a. Ok (a, v)))

module _ (memories : LessSpecifiedMemoryLaws) where
  -- a state whose stack below esp is forgotten matches still, at whatever address
  settled_meets : (s : State) (v : Storage) (a : ℕ) (y : Result (ℕ × Storage) End) → StateMatches s v → y ≡ Ok (a, v) → s.eip ≡ a → MoveMatches (settled [] s) [] y
  unfolding settled
  settled_meets s v a y h e q = subst (MoveMatches (settled_by (known (s.cpu.regs 4)) [] s) []) (sym e) (go (known (s.cpu.regs 4)))
    where
      go : (o : Option ℕ) → MoveMatches (settled_by o [] s) [] (Ok (a, v))
      go None = tt
      go (Some esp) = (refl, q, record { regs = h.regs; flags = h.flags; memory = memories.forget_left s.memory v.memory esp h.memory; left = h.left; environment = h.environment; frames = h.frames })

  moved : (a : ℕ) (s : State) (v : Storage) → StateMatches s v → StateMatches (at_address a s) v
  moved a s v h = record { regs = h.regs; flags = h.flags; memory = h.memory; left = h.left; environment = h.environment; frames = h.frames }

  finish_meets : (x : Way) (next : ℕ) (s : State) (v : Storage) (y : Result (ℕ × Storage) End) → IsNoCall x → StateMatches s v → y ≡ Ok (leads_to x next s.eip, v) → MoveMatches (finish x next s) [] y
  unfolding finish
  finish_meets Falls next s v y n h e = settled_meets (at_address next s) v (wrapped next) y (moved next s v h) e refl
  finish_meets (JumpsBy by) next s v y n h e = settled_meets (at_address (next + by) s) v (wrapped (next + by)) y (moved (next + by) s v h) e refl
  finish_meets (JumpsTo target) next s v y n h e = settled_meets (at_address target s) v (wrapped target) y (moved target s v h) e refl
  finish_meets Repeats next s v y n h e = settled_meets s v s.eip y h e refl
  finish_meets Calls next s v y n h e = absurd n

  faulted : (w : Going) (e : End) (y : Result Storage End) → y ≡ Err e → going w y ≡ Err e
  faulted w e y h = ap (going w) h

  stores_meet : (b : Bool) (e : Effect) (next : ℕ) (s : State) (w : Going) (y : Result Storage End) → StoresMeet b e next s w y → MoveMatches (by_stores b e next s) [] (going w y)
  stores_meet false e next s w y h = ap (λ z. ([], z)) (sym (faulted w MemoryFault y h))
  stores_meet true e next s w (Ok v) h = finish_meets e.way next (performed e s) v _ h.no_call h.state (ap (λ z. and_then z (λ a. Ok (a, v))) h.goes)
  stores_meet true e next s w (Err x) h = absurd h

  effect_meets : (r : Result Effect Stop) (b : Bool) (next : ℕ) (s : State) (w : Going) (y : Result Storage End) → EffectMeets r b next s w y → MoveMatches (by_effect r b next s) [] (going w y)
  effect_meets (Err stop.Unspecified) b next s w y h = tt
  effect_meets (Err stop.DivideFault) b next s w y h = ap (λ z. ([], z)) (sym (faulted w DivideFault y h))
  effect_meets (Err stop.MemoryFault) b next s w y h = absurd h
  effect_meets (Ok e) b next s w y h = stores_meet b e next s w y h

  loads_meet : (a b : Bool) (r : Result Effect Stop) (next : ℕ) (s : State) (w : Going) (y : Result Storage End) → LoadsMeet a b r next s w y → MoveMatches (by_loads a b r next s) [] (going w y)
  loads_meet false b r next s w y h = ap (λ z. ([], z)) (sym (faulted w MemoryFault y h))
  loads_meet true b r next s w y h = effect_meets r b next s w y h

  parts_meet : (o : Option Transfer) (i : Instr) (len : ℕ) (s : State) (w : Going) (y : Result Storage End) → TransferMeets o i len s w y →
      MoveMatches (by_loads (all_allowed Load (transfer_accesses o) s.memory) (all_allowed Store (transfer_accesses o) s.memory) (effect_by o i (wrapped (s.eip + len)) s.cpu s.memory) (s.eip + len) s) [] (going w y)
  parts_meet None i len s w y h = tt
  parts_meet (Some t) i len s w y h =
      rw (loads_alone s.memory t.reads t.writes, stores_alone s.memory t.reads t.writes) (loads_meet _ _ _ (s.eip + len) s w y h)

  -- the list and its way do what the step does, if they show nothing and come to what its parts ask for
  pub step_meets : (i : Instr) (len turn : ℕ) (ops : List Op) (w : Going) (s : State) (u : Storage) → shown_by_all turn ops u ≡ [] → TransferMeets (transfer machine_naming i s.cpu.regs) i len s w (performs turn ops u) → MoveMatches (step i len s) (shown_by_all turn ops u) (listed turn w ops u)
  unfolding step accesses effect
  step_meets i len turn ops w s u q h =
      subst (λ (ks : List Label). MoveMatches (step i len s) ks (listed turn w ops u)) (sym q) (parts_meet (transfer machine_naming i s.cpu.regs) i len s w (performs turn ops u) h)

-- ---- by the operands of an instruction, where their addresses are known
pub by_one_meets : (f : Location → Transfer) (o : Option Location) (i : Instr) (len : ℕ) (s : State) (w : Going) (y : Result Storage End) → ((l : Location) → o ≡ Some l → TransferMeets (Some (f l)) i len s w y) → TransferMeets (by_one f o) i len s w y
by_one_meets f None i len s w y h = tt
by_one_meets f (Some l) i len s w y h = h l refl

pub by_two_meets : (f : Location → Location → Transfer) (o p : Option Location) (i : Instr) (len : ℕ) (s : State) (w : Going) (y : Result Storage End) → ((l k : Location) → o ≡ Some l → p ≡ Some k → TransferMeets (Some (f l k)) i len s w y) → TransferMeets (by_two f o p) i len s w y
by_two_meets f None p i len s w y h = tt
by_two_meets f (Some l) None i len s w y h = tt
by_two_meets f (Some l) (Some k) i len s w y h = h l k refl refl
