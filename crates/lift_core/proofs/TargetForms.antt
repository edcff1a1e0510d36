-- Shifts, SETcc, XCHG, LEA and MOVZX.
use Rattle.std.proofs.Common.{◌≡◌, ℕ, ◌+◌, Bool, List, [], ◌∷◌, ◌++◌, Some, Result, refl, sym, ◌∙◌, subst, lit<}
use Rattle.x86_values.specs.declared.word.Word.{Word}
use Rattle.x86_values.specs.declared.word.Flags.{Flags}
use Rattle.x86_values.specs.Sizes.{cut, no_word}
use Rattle.x86_values.specs.Conditions.{condition}
use Rattle.traces.specs.Trace.{End}
use Rattle.memory.specs.Memory.{wrapped, Load}
use Rattle.memory.specs.MemoryLaws.{MemoryLaws}
use Rattle.memory.specs.LessSpecifiedLaws.{LessSpecifiedMemoryLaws}
use Rattle.x86_types.specs.declared.operand.Reg.{Reg}
use Rattle.x86_types.specs.declared.operand.Rm.{Rm}
use Rattle.x86_types.specs.declared.operation.ShiftOp.{ShiftOp}
use Rattle.x86_types.specs.declared.operation.Count.{Count}
use Rattle.x86_types.specs.declared.operation.Count.TheVariants as count
use Rattle.x86_types.specs.declared.operation.Cond.{Cond}
use Rattle.x86_types.specs.declared.width.Width.{Width}
use Rattle.x86_types.specs.declared.width.Width.TheVariants.{One, Four}
use Rattle.x86_types.specs.Numbers.{size_of}
use Rattle.x86_meaning.specs.Registers.{machine_naming}
use Rattle.x86_meaning.specs.Operands.{Location, SizedOperand, operand as sized, accesses_of, field, location_of, value_in}
use Rattle.x86_meaning.specs.TransferShapes.{count_operand}
use Rattle.x86_meaning.specs.Outcomes.{Falls, Computed, Computation, shift_computed, double_shift_computed, set_computed, exchange_computed}
use Rattle.x86_meaning.specs.Step.{State}
use Rattle.flag_ir.specs.Storage.{Storage}
use Rattle.flag_ir.specs.Operations.{performs}
use Rattle.lift_relation.specs.Matching.{StateMatches}
use Rattle.lift_relation.specs.Cores.{CutMatches}
use Rattle.lift_values.specs.CoreLaws.{CoreLaws}
use Rattle.lift_values.specs.ShiftLaws.{ShiftCoreLaws}
use Rattle.lift_values.specs.Shifts.{shift_core}
use Rattle.lift_values.specs.DoubleShifts.{double_shift_core}
use Rattle.lift_values.specs.Conditions.{set_core}
use Rattle.lift_core.specs.declared.way.Way.TheVariants as way
use Rattle.lift_core.specs.Pieces.{field_operand, target_ops, target, read_ops, write_ops}
use Rattle.lift_core.specs.Lists.{count_of, double_shift_ops}
use Rattle.lift_core.proofs.Addresses.{with_temps, temps_match}
use Rattle.lift_core.proofs.Reading.{Stands, field_stands, target_then, target_again, read_then}
use Rattle.lift_core.proofs.Writing.{write_then}
use Rattle.lift_core.proofs.Cores.{begun, begun_matches, way_kept, last_write}
use Rattle.lift_core.proofs.Written.{OneValue, ReadAndWritten, one_written}

-- the count of a shift stands wherever the storage is
count_location : Count → Location
count_location n = (count_operand n).location

count_stands : (n : Count) (u : Storage) → Stands One (count_of n) ((count_operand n).location) u
count_stands (count.Imm n) u = refl
count_stands count.Cl u = record { is = refl; small = lit< tt; index = tt }

count_is : (n : Count) → count_operand n ≡ sized 1 ((count_operand n).location)
count_is (count.Imm n) = refl
count_is count.Cl = refl

-- each shift has one value
shift_value : (op : ShiftOp) (size : ℕ) (f : Flags) (x n : Word) → OneValue (shift_computed op size f x n)
shift_value op size f x n = record { value = _; flags = _; is = refl }

nothing_cut : (y : Word) → CutMatches 4 no_word y
unfolding cut
nothing_cut y = record { b0 = tt; b1 = tt; b2 = tt; b3 = tt }

module _ (turn : ℕ) (laws : MemoryLaws) (memories : LessSpecifiedMemoryLaws) (len : ℕ) (s : State) (u : Storage) (h : StateMatches s u) where
  abbrev value : Width → Location → Word
  value w l = value_in (sized (size_of w) l) s.cpu.regs s.memory

  abbrev Meets : List SizedOperand → List SizedOperand → Computation → Result Storage End → Type 0
  Meets reads writes c y = ReadAndWritten turn laws memories len s reads writes c y

  -- ---- shifts and rotates
  pub shift_meets : ShiftCoreLaws → (op : ShiftOp) (w : Width) (to : Rm) (n : Count) (l : Location) → location_of machine_naming s.cpu.regs w to ≡ Some l →
      Meets (sized (size_of w) l ∷ count_operand n ∷ []) (sized (size_of w) l ∷ []) (shift_computed op (size_of w) s.cpu.flags (value w l) (value_in (count_operand n) s.cpu.regs s.memory))
      (performs turn (target_ops to ++ (read_ops 1 w (target w to) ++ (read_ops 2 One (count_of n) ++ (shift_core op w ++ write_ops 4 w (target w to))))) u)
  shift_meets cores op w to n l e =
      let k = (count_operand n).location in
      let rest = shift_core op w ++ write_ops 4 w (target w to) in
      let list = target_ops to ++ (read_ops 1 w (target w to) ++ (read_ops 2 One (count_of n) ++ rest)) in
      let c = shift_computed op (size_of w) s.cpu.flags (value w l) (value One k) in
      subst (λ (o : SizedOperand). Meets (sized (size_of w) l ∷ o ∷ []) (sized (size_of w) l ∷ []) (shift_computed op (size_of w) s.cpu.flags (value w l) (value_in o s.cpu.regs s.memory)) (performs turn list u)) (sym (count_is n))
      (target_then turn w to l s u (read_ops 1 w (target w to) ++ (read_ops 2 One (count_of n) ++ rest)) (λ y. Meets (sized (size_of w) l ∷ sized 1 k ∷ []) (sized (size_of w) l ∷ []) c y) h e
      (λ t0 k0 there. read_then turn memories s 1 w (target w to) l (accesses_of Load (sized 1 k ∷ [])) _ _ (s.eip + len) (way.On (wrapped (s.eip + len))) (with_temps t0 u) (read_ops 2 One (count_of n) ++ rest) (temps_match s u t0 h) there
      (λ t1 k1 c1. read_then turn memories s 2 One (count_of n) k [] _ _ (s.eip + len) (way.On (wrapped (s.eip + len))) (with_temps t1 u) rest (temps_match s u t1 h) (count_stands n (with_temps t1 u))
      (λ t2 k2 c2. one_written turn laws memories len s (shift_core op w) (size_of w) c (with_temps t2 u) (temps_match s u t2 h) ((cores.shift op w).computes turn (value w l) (value One k) s.cpu.flags (with_temps t2 u) (subst (CutMatches (size_of w) (value w l)) (sym (k2 1 refl)) c1) c2 h.flags)
      w (target w to) l refl (shift_value op (size_of w) s.cpu.flags (value w l) (value One k)) (λ z kept. target_again w to l (with_temps t0 u) z (kept 0 (lit< tt) ∙ k2 0 refl ∙ k1 0 refl) there)))))

  pub double_meets : ShiftCoreLaws → (right : Bool) (to : Rm) (from : Reg) (n : Count) (l : Location) → location_of machine_naming s.cpu.regs Four to ≡ Some l →
      Meets (sized 4 l ∷ sized 4 (field machine_naming Four from) ∷ count_operand n ∷ []) (sized 4 l ∷ []) (double_shift_computed right s.cpu.flags (value Four l) (value Four (field machine_naming Four from)) (value_in (count_operand n) s.cpu.regs s.memory))
      (performs turn (double_shift_ops right to from n) u)
  double_meets cores right to from n l e =
      let k = (count_operand n).location in
      let f = field machine_naming Four from in
      let rest = double_shift_core right ++ write_ops 4 Four (target Four to) in
      let last = read_ops 3 One (count_of n) ++ rest in
      let c = double_shift_computed right s.cpu.flags (value Four l) (value Four f) (value One k) in
      subst (λ (o : SizedOperand). Meets (sized 4 l ∷ sized 4 f ∷ o ∷ []) (sized 4 l ∷ []) (double_shift_computed right s.cpu.flags (value Four l) (value Four f) (value_in o s.cpu.regs s.memory)) (performs turn (double_shift_ops right to from n) u)) (sym (count_is n))
      (target_then turn Four to l s u (read_ops 1 Four (target Four to) ++ (read_ops 2 Four (field_operand Four from) ++ last)) (λ y. Meets (sized 4 l ∷ sized 4 f ∷ sized 1 k ∷ []) (sized 4 l ∷ []) c y) h e
      (λ t0 k0 there. read_then turn memories s 1 Four (target Four to) l (accesses_of Load (sized 4 f ∷ sized 1 k ∷ [])) _ _ (s.eip + len) (way.On (wrapped (s.eip + len))) (with_temps t0 u) (read_ops 2 Four (field_operand Four from) ++ last) (temps_match s u t0 h) there
      (λ t1 k1 c1. read_then turn memories s 2 Four (field_operand Four from) f (accesses_of Load (sized 1 k ∷ [])) _ _ (s.eip + len) (way.On (wrapped (s.eip + len))) (with_temps t1 u) last (temps_match s u t1 h) (field_stands Four from (with_temps t1 u))
      (λ t2 k2 c2. read_then turn memories s 3 One (count_of n) k [] _ _ (s.eip + len) (way.On (wrapped (s.eip + len))) (with_temps t2 u) rest (temps_match s u t2 h) (count_stands n (with_temps t2 u))
      (λ t3 k3 c3. one_written turn laws memories len s (double_shift_core right) 4 c (with_temps t3 u) (temps_match s u t3 h)
      ((cores.double right).computes turn (value Four l) (value Four f) (value One k) s.cpu.flags (with_temps t3 u) (subst (CutMatches 4 (value Four l)) (sym (k3 1 refl ∙ k2 1 refl)) c1) (subst (CutMatches 4 (value Four f)) (sym (k3 2 refl)) c2) c3 h.flags)
      Four (target Four to) l refl (record { value = _; flags = _; is = refl }) (λ z kept. target_again Four to l (with_temps t0 u) z (kept 0 (lit< tt) ∙ k3 0 refl ∙ k2 0 refl ∙ k1 0 refl) there))))))

  -- ---- SETcc
  pub set_meets : CoreLaws → (c : Cond) (to : Rm) (l : Location) → location_of machine_naming s.cpu.regs One to ≡ Some l →
      Meets [] (sized 1 l ∷ []) (set_computed (condition c s.cpu.flags) s.cpu.flags) (performs turn (target_ops to ++ (set_core c ++ write_ops 4 One (target One to))) u)
  set_meets cores c to l e =
      target_then turn One to l s u (set_core c ++ write_ops 4 One (target One to)) (λ y. Meets [] (sized 1 l ∷ []) (set_computed (condition c s.cpu.flags) s.cpu.flags) y) h e
      (λ t0 k0 there. one_written turn laws memories len s (set_core c) 1 _ (with_temps t0 u) (temps_match s u t0 h) ((cores.set c).computes turn no_word s.cpu.flags (with_temps t0 u) (nothing_cut (t0 1)) h.flags)
      One (target One to) l refl (record { value = _; flags = _; is = refl }) (λ z kept. target_again One to l (with_temps t0 u) z (kept 0 (lit< tt)) there))

  -- ---- XCHG
  pub exchange_meets : (w : Width) (to : Rm) (from : Reg) (l : Location) → location_of machine_naming s.cpu.regs w to ≡ Some l →
      Meets (sized (size_of w) l ∷ sized (size_of w) (field machine_naming w from) ∷ []) (sized (size_of w) l ∷ sized (size_of w) (field machine_naming w from) ∷ []) (exchange_computed s.cpu.flags (value w l) (value w (field machine_naming w from)))
      (performs turn (target_ops to ++ (read_ops 5 w (target w to) ++ (read_ops 4 w (field_operand w from) ++ (write_ops 4 w (target w to) ++ write_ops 5 w (field_operand w from))))) u)
  exchange_meets w to from l e =
      let f = field machine_naming w from in
      let x = value w l in
      let y = value w f in
      let c = exchange_computed s.cpu.flags x y in
      let d : Computed = record { values = y ∷ x ∷ []; flags = s.cpu.flags; way = Falls } in
      let writes = write_ops 4 w (target w to) ++ write_ops 5 w (field_operand w from) in
      target_then turn w to l s u (read_ops 5 w (target w to) ++ (read_ops 4 w (field_operand w from) ++ writes)) (λ z. Meets (sized (size_of w) l ∷ sized (size_of w) f ∷ []) (sized (size_of w) l ∷ sized (size_of w) f ∷ []) c z) h e
      (λ t0 k0 there. read_then turn memories s 5 w (target w to) l (accesses_of Load (sized (size_of w) f ∷ [])) _ _ (s.eip + len) (way.On (wrapped (s.eip + len))) (with_temps t0 u) (read_ops 4 w (field_operand w from) ++ writes) (temps_match s u t0 h) there
      (λ t1 k1 c1. read_then turn memories s 4 w (field_operand w from) f [] _ _ (s.eip + len) (way.On (wrapped (s.eip + len))) (with_temps t1 u) writes (temps_match s u t1 h) (field_stands w from (with_temps t1 u))
      (λ t2 k2 c2. write_then turn laws memories s 4 w (target w to) l _ (begun d s) _ (s.eip + len) (way.On (wrapped (s.eip + len))) y (with_temps t2 u) (write_ops 5 w (field_operand w from)) (begun_matches d s (with_temps t2 u) (temps_match s u t2 h) h.flags)
      (target_again w to l (with_temps t0 u) (with_temps t2 u) (k2 0 refl ∙ k1 0 refl) there) c2 refl
      (λ z g kept. last_write turn laws memories s 5 w (field_operand w from) f _ (s.eip + len) x z (way_kept (size_of w) l y (begun d s)) g (field_stands w from z) (subst (CutMatches (size_of w) x) (sym (kept 5 refl refl ∙ k2 5 refl)) c1) refl))))
