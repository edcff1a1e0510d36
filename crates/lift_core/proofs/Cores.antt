-- Cores within a list, and how a list ends.
use Rattle.std.proofs.Common.{◌≡◌, ℕ, ◌<◌, ◌==◌, Bool, true, false, List, [], ◌∷◌, ◌++◌, Result, Ok, Err, refl, sym, ◌∙◌, ap, subst}
use Rattle.x86_values.specs.declared.word.Word.{Word}
use Rattle.traces.specs.Trace.{End}
use Rattle.memory.specs.Memory.{wrapped, Store}
use Rattle.memory.specs.MemoryLaws.{MemoryLaws}
use Rattle.memory.specs.LessSpecifiedLaws.{LessSpecifiedMemoryLaws}
use Rattle.x86_types.specs.declared.width.Width.{Width}
use Rattle.x86_types.specs.Numbers.{size_of}
use Rattle.x86_meaning.specs.declared.stop.Stop.{Stop}
use Rattle.x86_meaning.specs.declared.stop.Stop.TheVariants as stop
use Rattle.x86_meaning.specs.Operands.{Location, InRegister, InMemory, Constant, access}
use Rattle.x86_meaning.specs.Outcomes.{Falls, Computed}
use Rattle.x86_meaning.specs.Effect.{Effect, written_to}
use Rattle.x86_meaning.specs.Step.{State, all_allowed, performed}
use Rattle.flag_ir.specs.declared.operation.Op.{Op}
use Rattle.flag_ir.specs.Storage.{Storage}
use Rattle.flag_ir.specs.Operations.{and_then, perform, performs}
use Rattle.lift_relation.specs.Matching.{StateMatches, FlagsMatch}
use Rattle.lift_relation.specs.Cores.{CutMatches, ResultsMatch, IsComputed, StopMatches, ComputationMatches}
use Rattle.lift_core.specs.declared.way.Way.{Way as Going}
use Rattle.lift_core.specs.declared.way.Way.TheVariants as way
use Rattle.lift_core.specs.declared.operand.Operand.{Operand}
use Rattle.lift_core.specs.Pieces.{write_ops}
use Rattle.lift_core.proofs.Meeting.{Ends, StoresMeet}
use Rattle.lift_core.proofs.Reading.{Stands}
use Rattle.lift_core.proofs.Writing.{write_then}
use Rattle.std.proofs.Common.{append-nil}

-- ---- a list is its parts, one behind the other
same_then : {A B : Type 0} (x : Result A End) (f g : A → Result B End) → ((a : A) → f a ≡ g a) → and_then x f ≡ and_then x g
same_then (Ok a) f g h = h a
same_then (Err e) f g h = refl

then_then : {A B C : Type 0} (x : Result A End) (f : A → Result B End) (g : B → Result C End) → and_then x (λ a. and_then (f a) g) ≡ and_then (and_then x f) g
then_then (Ok a) f g = refl
then_then (Err e) f g = refl

pub performs_append : (turn : ℕ) (xs ys : List Op) (u : Storage) → performs turn (xs ++ ys) u ≡ and_then (performs turn xs u) (performs turn ys)
unfolding performs
performs_append turn [] ys u = refl
performs_append turn (x ∷ xs) ys u = same_then (perform turn x u) (performs turn (xs ++ ys)) (λ v. and_then (performs turn xs v) (performs turn ys)) (λ v. performs_append turn xs ys v) ∙ then_then (perform turn x u) (performs turn xs) (performs turn ys)

-- the effect before anything is written
abbrev pub begun : Computed → State → Effect
begun d s = record { cpu = record { regs = s.cpu.regs; flags = d.flags }; stores = []; way = d.way }

pub begun_matches : (d : Computed) (s : State) (u : Storage) → StateMatches s u → FlagsMatch d.flags u.flags → StateMatches (performed (begun d s) s) u
begun_matches d s u h f = record { regs = h.regs; flags = f; memory = h.memory; left = h.left; environment = h.environment; frames = h.frames }

-- what stands behind a core: the flags are set, the results stand in their temporaries, and the temporaries below 4 are kept
pub record IsBehind (size : ℕ) (d : Computed) (s : State) (u z : Storage) : Type 0 where
  pub state : StateMatches (performed (begun d s) s) z
  pub values : ResultsMatch size 4 d.values z.temps
  pub kept : (j : ℕ) → j < 4 → z.temps j ≡ u.temps j

behind : (size : ℕ) (d : Computed) (s : State) (u z : Storage) → StateMatches s u → IsComputed size d u z → IsBehind size d s u z
behind size d s u z h c =
    let h' : StateMatches (performed (begun d s) s) (record u { flags = z.flags; temps = z.temps }) = record { regs = h.regs; flags = c.flags; memory = h.memory; left = h.left; environment = h.environment; frames = h.frames } in
    record { state = subst (StateMatches (performed (begun d s) s)) (sym c.change.same) h'; values = c.values; kept = c.change.kept }

module _ (turn : ℕ) (s : State) where
  -- what follows a core that computes something
  pub core_then : (stores : Bool) (done : Effect) (next : ℕ) (way : Going) (core rest : List Op) (size : ℕ) (d : Computed) (u : Storage) → StateMatches s u → ComputationMatches size (Ok d) u (performs turn core u) →
      ((z : Storage) → IsBehind size d s u z → StoresMeet stores done next s way (performs turn rest z)) → StoresMeet stores done next s way (performs turn (core ++ rest) u)
  core_then stores done next way core rest size d u h c f = subst (λ (y : Result Storage End). StoresMeet stores done next s way y) (sym (performs_append turn core rest u)) (go (performs turn core u) c)
    where
      go : (y : Result Storage End) → ComputationMatches size (Ok d) u y → StoresMeet stores done next s way (and_then y (performs turn rest))
      go (Ok z) c = f z (behind size d s u z h c)
      go (Err x) c = absurd c

  -- a core that stops
  pub core_stops : (x : Stop) (core rest : List Op) (size : ℕ) (u : Storage) → ComputationMatches size (Err x) u (performs turn core u) → StopMatches x (performs turn (core ++ rest) u)
  core_stops stop.Unspecified core rest size u c = tt
  core_stops stop.DivideFault core rest size u c = performs_append turn core rest u ∙ ap (λ y. and_then y (performs turn rest)) c
  core_stops stop.MemoryFault core rest size u c = absurd c

  -- ---- the end of a list
  pub list_ends : (e : Effect) (next : ℕ) (way : Going) (z : Storage) → Ends e next s way z → StoresMeet true e next s way (performs turn [] z)
  unfolding performs
  list_ends e next way z h = h

pub way_kept : (size : ℕ) (l : Location) (v : Word) (e : Effect) → (written_to size l v e).way ≡ e.way
way_kept size (InRegister p i) v e = refl
way_kept size (InMemory at) v e = refl
way_kept size (Constant n) v e = refl

falls_on : (e : Effect) (next : ℕ) (s : State) (z : Storage) → e.way ≡ Falls → StateMatches (performed e s) z → Ends e next s (way.On (wrapped next)) z
falls_on e next s z q h = record { state = h; goes = rw q refl; no_call = rw q tt }

module _ (turn : ℕ) (laws : MemoryLaws) (memories : LessSpecifiedMemoryLaws) (s : State) where
  -- a list that ends with a write, and goes on to the next instruction
  pub last_write : (k : ℕ) (w : Width) (o : Operand) (l : Location) (e : Effect) (next : ℕ) (v : Word) (u : Storage) → e.way ≡ Falls → StateMatches (performed e s) u → Stands w o l u → CutMatches (size_of w) v (u.temps k) → (k == 2) ≡ false →
      StoresMeet (all_allowed Store (access Store (size_of w) l []) s.memory) (written_to (size_of w) l v e) next s (way.On (wrapped next)) (performs turn (write_ops k w o) u)
  last_write k w o l e next v u q h x c n =
      subst (λ (ops : List Op). StoresMeet (all_allowed Store (access Store (size_of w) l []) s.memory) (written_to (size_of w) l v e) next s (way.On (wrapped next)) (performs turn ops u)) (append-nil (write_ops k w o))
      (write_then turn laws memories s k w o l [] e (written_to (size_of w) l v e) next (way.On (wrapped next)) v u [] h x c n
      (λ z g kept. list_ends turn s (written_to (size_of w) l v e) next (way.On (wrapped next)) z (falls_on (written_to (size_of w) l v e) next s z (way_kept (size_of w) l v e ∙ q) g)))

-- a list that writes nothing
pub no_write : (turn : ℕ) (s : State) (e : Effect) (next : ℕ) (u : Storage) → e.way ≡ Falls → StateMatches (performed e s) u → StoresMeet true e next s (way.On (wrapped next)) (performs turn [] u)
no_write turn s e next u q h = list_ends turn s e next (way.On (wrapped next)) u (falls_on e next s u q h)
