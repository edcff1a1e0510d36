-- Instructions that compute one operand from itself.
use Rattle.std.proofs.Common.{◌≡◌, ℕ, ◌+◌, List, [], ◌∷◌, ◌++◌, Option, Some, None, refl, sym, ◌∙◌, subst, lit<}
use Rattle.x86_values.specs.declared.word.Word.{Word}
use Rattle.x86_values.specs.declared.word.Flags.{Flags}
use Rattle.memory.specs.Memory.{wrapped, Load, Store}
use Rattle.memory.specs.MemoryLaws.{MemoryLaws}
use Rattle.memory.specs.LessSpecifiedLaws.{LessSpecifiedMemoryLaws}
use Rattle.x86_types.specs.declared.operand.Rm.{Rm}
use Rattle.x86_types.specs.declared.width.Width.{Width}
use Rattle.x86_types.specs.declared.instr.Instr.{Instr}
use Rattle.x86_types.specs.Numbers.{size_of}
use Rattle.x86_meaning.specs.Registers.{machine_naming}
use Rattle.x86_meaning.specs.Operands.{Location, operand as sized, access, location_of, value_in}
use Rattle.x86_meaning.specs.TransferShapes.{by_one, update_transfer}
use Rattle.x86_meaning.specs.Outcomes.{Falls, Computation, computed}
use Rattle.x86_meaning.specs.Computing.{compute}
use Rattle.x86_meaning.specs.Effect.{effect_of}
use Rattle.x86_meaning.specs.Step.{State, all_allowed}
use Rattle.flag_ir.specs.declared.operation.Op.{Op}
use Rattle.flag_ir.specs.Storage.{Storage}
use Rattle.flag_ir.specs.Operations.{performs}
use Rattle.lift_relation.specs.Matching.{StateMatches}
use Rattle.lift_relation.specs.Cores.{ComputesOne, ComputationMatches}
use Rattle.lift_core.specs.declared.way.Way.TheVariants as way
use Rattle.lift_core.specs.Pieces.{target, read_ops, write_ops}
use Rattle.lift_core.specs.Lists.{update_ops}
use Rattle.lift_core.proofs.Addresses.{with_temps, temps_match}
use Rattle.lift_core.proofs.Meeting.{LoadsMeet, TransferMeets}
use Rattle.lift_core.proofs.Reading.{target_then, target_again, read_then}
use Rattle.lift_core.proofs.Cores.{core_then, last_write}
use Rattle.lift_core.proofs.Written.{OneValue}

module _ (turn : ℕ) (laws : MemoryLaws) (memories : LessSpecifiedMemoryLaws) (len : ℕ) (s : State) (u : Storage) (h : StateMatches s u) where
  pub update_meets : (i : Instr) (w : Width) (to : Rm) (make : Flags → Word → Computation) (core : List Op) → ComputesOne (size_of w) (size_of w) make core → ((f : Flags) (x : Word) → OneValue (make f x)) →
      ((next : ℕ) (f : Flags) (x : Word) → compute i next f (x ∷ []) ≡ make f x) → TransferMeets (by_one (update_transfer (size_of w)) (location_of machine_naming s.cpu.regs w to)) i len s (way.On (wrapped (s.eip + len))) (performs turn (update_ops w to core) u)
  update_meets i w to make core computes one is = go (location_of machine_naming s.cpu.regs w to) refl
    where
      go : (o : Option Location) → location_of machine_naming s.cpu.regs w to ≡ o → TransferMeets (by_one (update_transfer (size_of w)) o) i len s (way.On (wrapped (s.eip + len))) (performs turn (update_ops w to core) u)
      go None e = tt
      go (Some l) e =
          let x = value_in (sized (size_of w) l) s.cpu.regs s.memory in
          let v = one s.cpu.flags x in
          let stores = all_allowed Store (access Store (size_of w) l []) s.memory in
          subst (λ (c : Computation). LoadsMeet (all_allowed Load (access Load (size_of w) l []) s.memory) stores (effect_of (sized (size_of w) l ∷ []) s.cpu.regs c) (s.eip + len) s (way.On (wrapped (s.eip + len))) (performs turn (update_ops w to core) u)) (sym (is (wrapped (s.eip + len)) s.cpu.flags x ∙ v.is))
          (target_then turn w to l s u (read_ops 1 w (target w to) ++ (core ++ write_ops 4 w (target w to)))
          (λ (y : _). LoadsMeet (all_allowed Load (access Load (size_of w) l []) s.memory) stores (effect_of (sized (size_of w) l ∷ []) s.cpu.regs (computed (v.value ∷ []) v.flags Falls)) (s.eip + len) s (way.On (wrapped (s.eip + len))) y) h e
          (λ t0 k0 there. read_then turn memories s 1 w (target w to) l [] stores _ (s.eip + len) (way.On (wrapped (s.eip + len))) (with_temps t0 u) (core ++ write_ops 4 w (target w to)) (temps_match s u t0 h) there
          (λ t1 k1 c. core_then turn s stores _ (s.eip + len) (way.On (wrapped (s.eip + len))) core (write_ops 4 w (target w to)) (size_of w) (record { values = v.value ∷ []; flags = v.flags; way = Falls }) (with_temps t1 u) (temps_match s u t1 h)
          (subst (λ (c : Computation). ComputationMatches (size_of w) c (with_temps t1 u) (performs turn core (with_temps t1 u))) v.is (computes.computes turn x s.cpu.flags (with_temps t1 u) c h.flags))
          (λ z b. last_write turn laws memories s 4 w (target w to) l _ (s.eip + len) v.value z refl b.state (target_again w to l (with_temps t0 u) z (b.kept 0 (lit< tt) ∙ k1 0 refl) there) b.values.0 refl))))
