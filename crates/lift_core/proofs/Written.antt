-- Cores whose results are written, after the operands were read.
use Rattle.std.proofs.Common.{◌≡◌, ℕ, ◌+◌, ◌<◌, true, List, [], ◌∷◌, ◌++◌, Result, refl, sym, subst}
use Rattle.x86_values.specs.declared.word.Word.{Word}
use Rattle.x86_values.specs.declared.word.Flags.{Flags}
use Rattle.traces.specs.Trace.{End}
use Rattle.memory.specs.Memory.{wrapped, Load, Store}
use Rattle.memory.specs.MemoryLaws.{MemoryLaws}
use Rattle.memory.specs.LessSpecifiedLaws.{LessSpecifiedMemoryLaws}
use Rattle.x86_types.specs.declared.width.Width.{Width}
use Rattle.x86_types.specs.Numbers.{size_of}
use Rattle.x86_meaning.specs.Operands.{Location, SizedOperand, operand as sized, accesses_of}
use Rattle.x86_meaning.specs.Outcomes.{Falls, Computed, Computation, computed, move_computed}
use Rattle.x86_meaning.specs.Effect.{effect_of}
use Rattle.x86_meaning.specs.Step.{State, all_allowed}
use Rattle.flag_ir.specs.declared.operation.Op.{Op}
use Rattle.flag_ir.specs.Storage.{Storage}
use Rattle.flag_ir.specs.Operations.{performs}
use Rattle.lift_relation.specs.Matching.{StateMatches}
use Rattle.lift_relation.specs.Cores.{CutMatches, ComputationMatches}
use Rattle.lift_core.specs.declared.way.Way.TheVariants as way
use Rattle.lift_core.specs.declared.operand.Operand.{Operand}
use Rattle.lift_core.specs.Pieces.{write_ops}
use Rattle.lift_core.proofs.Meeting.{StoresMeet, EffectMeets, LoadsMeet}
use Rattle.lift_core.proofs.Reading.{Stands}
use Rattle.lift_core.proofs.Writing.{write_then}
use Rattle.lift_core.proofs.Cores.{core_then, begun, begun_matches, way_kept, last_write, no_write}
use Rattle.std.proofs.Common.{append-nil}

-- ---- computations of a value, of two and of none, after which the next instruction follows
pub record OneValue (c : Computation) : Type 0 where
  pub value : Word
  pub flags : Flags
  pub is : c ≡ computed (value ∷ []) flags Falls

pub record TwoValues (c : Computation) : Type 0 where
  pub first : Word
  pub second : Word
  pub flags : Flags
  pub is : c ≡ computed (first ∷ second ∷ []) flags Falls

pub record NoValue (c : Computation) : Type 0 where
  pub flags : Flags
  pub is : c ≡ computed [] flags Falls

module _ (turn : ℕ) (laws : MemoryLaws) (memories : LessSpecifiedMemoryLaws) (len : ℕ) (s : State) where
  -- what reads and writes ask of a list that goes on to the next instruction
  abbrev pub Written : List SizedOperand → Computation → Result Storage End → Type 0
  Written writes c y = EffectMeets (effect_of writes s.cpu.regs c) (all_allowed Store (accesses_of Store writes) s.memory) (s.eip + len) s (way.On (wrapped (s.eip + len))) y

  abbrev pub ReadAndWritten : List SizedOperand → List SizedOperand → Computation → Result Storage End → Type 0
  ReadAndWritten reads writes c y = LoadsMeet (all_allowed Load (accesses_of Load reads) s.memory) (all_allowed Store (accesses_of Store writes) s.memory) (effect_of writes s.cpu.regs c) (s.eip + len) s (way.On (wrapped (s.eip + len))) y

  -- nothing is computed: a value is written that stands in temporary 4
  pub moved : (w : Width) (o : Operand) (l : Location) (x : Word) (u : Storage) → StateMatches s u → Stands w o l u → CutMatches (size_of w) x (u.temps 4) → Written (sized (size_of w) l ∷ []) (move_computed s.cpu.flags x) (performs turn (write_ops 4 w o) u)
  moved w o l x u h there c =
      let d : Computed = record { values = x ∷ []; flags = s.cpu.flags; way = Falls } in
      last_write turn laws memories s 4 w o l (begun d s) (s.eip + len) x u refl (begun_matches d s u h h.flags) there c refl

  module _ (core : List Op) (size : ℕ) (c : Computation) (u : Storage) (h : StateMatches s u) (m : ComputationMatches size c u (performs turn core u)) where
    at_computed : (d : Computation) → c ≡ d → ComputationMatches size d u (performs turn core u)
    at_computed d e = subst (λ (c : Computation). ComputationMatches size c u (performs turn core u)) e m

    -- one result is written
    pub one_written : (w : Width) (o : Operand) (l : Location) → size ≡ size_of w → OneValue c → ((z : Storage) → ((j : ℕ) → j < 4 → z.temps j ≡ u.temps j) → Stands w o l z) → Written (sized (size_of w) l ∷ []) c (performs turn (core ++ write_ops 4 w o) u)
    one_written w o l q v stands =
        subst (λ (c : Computation). Written (sized (size_of w) l ∷ []) c (performs turn (core ++ write_ops 4 w o) u)) (sym v.is)
        (core_then turn s _ _ (s.eip + len) (way.On (wrapped (s.eip + len))) core (write_ops 4 w o) (size_of w) (record { values = v.value ∷ []; flags = v.flags; way = Falls }) u h
        (subst (λ (n : ℕ). ComputationMatches n (computed (v.value ∷ []) v.flags Falls) u (performs turn core u)) q (at_computed _ v.is))
        (λ z b. last_write turn laws memories s 4 w o l _ (s.eip + len) v.value z refl b.state (stands z b.kept) b.values.0 refl))

    -- two results are written, to operands that stand wherever the storage is
    pub two_written : (w : Width) (o p : Operand) (l k : Location) → size ≡ size_of w → TwoValues c → ((z : Storage) → Stands w o l z) → ((z : Storage) → Stands w p k z) →
        Written (sized (size_of w) l ∷ sized (size_of w) k ∷ []) c (performs turn (core ++ (write_ops 4 w o ++ write_ops 5 w p)) u)
    two_written w o p l k q v first second =
        subst (λ (c : Computation). Written (sized (size_of w) l ∷ sized (size_of w) k ∷ []) c (performs turn (core ++ (write_ops 4 w o ++ write_ops 5 w p)) u)) (sym v.is)
        (core_then turn s _ _ (s.eip + len) (way.On (wrapped (s.eip + len))) core (write_ops 4 w o ++ write_ops 5 w p) (size_of w) (record { values = v.first ∷ v.second ∷ []; flags = v.flags; way = Falls }) u h
        (subst (λ (n : ℕ). ComputationMatches n (computed (v.first ∷ v.second ∷ []) v.flags Falls) u (performs turn core u)) q (at_computed _ v.is))
        (λ z b. write_then turn laws memories s 4 w o l _ _ _ (s.eip + len) (way.On (wrapped (s.eip + len))) v.first z (write_ops 5 w p) b.state (first z) b.values.0 refl
        (λ z' g kept. last_write turn laws memories s 5 w p k _ (s.eip + len) v.second z' (way_kept (size_of w) l v.first _) g (second z') (subst (CutMatches (size_of w) v.second) (sym (kept 5 refl refl)) b.values.1.0) refl)))

    -- none is written
    pub none_written : NoValue c → Written [] c (performs turn core u)
    none_written v =
        let d : Computed = record { values = []; flags = v.flags; way = Falls } in
        subst (λ (c : Computation). Written [] c (performs turn core u)) (sym v.is)
        (subst (λ (ops : List Op). StoresMeet true (begun d s) (s.eip + len) s (way.On (wrapped (s.eip + len))) (performs turn ops u)) (append-nil core)
        (core_then turn s true (begun d s) (s.eip + len) (way.On (wrapped (s.eip + len))) core [] size d u h (at_computed _ v.is) (λ z b. no_write turn s (begun d s) (s.eip + len) z refl b.state)))
