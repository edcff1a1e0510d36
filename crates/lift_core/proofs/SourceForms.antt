-- Instructions that read operands alone and write registers.
use Rattle.std.proofs.Common.{◌≡◌, ℕ, ◌+◌, Bool, List, [], ◌∷◌, ◌++◌, Some, Result, refl, sym, ◌∙◌, subst, lit<, append_assoc}
use Rattle.x86_values.specs.declared.word.Word.{Word}
use Rattle.x86_values.specs.declared.word.Flags.{Flags}
use Rattle.x86_values.specs.declared.divided.Divided.{Divided}
use Rattle.x86_values.specs.declared.divided.Divided.TheVariants as divided
use Rattle.x86_values.specs.Divisions.{divide}
use Rattle.traces.specs.Trace.{End}
use Rattle.memory.specs.Memory.{wrapped, Load}
use Rattle.memory.specs.MemoryLaws.{MemoryLaws}
use Rattle.memory.specs.LessSpecifiedLaws.{LessSpecifiedMemoryLaws}
use Rattle.x86_types.specs.declared.operand.Reg.{Reg}
use Rattle.x86_types.specs.declared.operand.Rm.{Rm}
use Rattle.x86_types.specs.declared.operand.Rm.TheVariants as rm
use Rattle.x86_types.specs.declared.operand.Src.{Src}
use Rattle.x86_types.specs.declared.width.Width.{Width}
use Rattle.x86_types.specs.declared.width.Width.TheVariants.{One, Two, Four}
use Rattle.x86_types.specs.Numbers.{size_of}
use Rattle.x86_meaning.specs.declared.stop.Stop.TheVariants as stop
use Rattle.x86_meaning.specs.Registers.{machine_naming}
use Rattle.x86_meaning.specs.Operands.{Location, InRegister, Constant, SizedOperand, operand as sized, accesses_of, field, location_of, source_of, value_in}
use Rattle.x86_meaning.specs.TransferShapes.{accumulator, upper_accumulator, constant}
use Rattle.x86_meaning.specs.Outcomes.{Computation, mul_computed, div_computed, quotient_and_remainder}
use Rattle.x86_meaning.specs.Step.{State}
use Rattle.flag_ir.specs.declared.operation.Op.{Op}
use Rattle.flag_ir.specs.Storage.{Storage}
use Rattle.flag_ir.specs.Operations.{performs}
use Rattle.lift_relation.specs.Matching.{StateMatches}
use Rattle.lift_relation.specs.Cores.{CutMatches, ComputesOne, ComputesTwo, ComputationMatches}
use Rattle.lift_values.specs.CoreLaws.{CoreLaws}
use Rattle.lift_values.specs.Products.{mul_core}
use Rattle.lift_values.specs.Divisions.{div_core}
use Rattle.lift_core.specs.declared.way.Way.TheVariants as way
use Rattle.lift_core.specs.declared.operand.Operand.{Operand}
use Rattle.lift_core.specs.declared.operand.Operand.TheVariants as operand
use Rattle.lift_core.specs.Pieces.{field_operand, read_ops, write_ops, source_ops, source_of_rm}
use Rattle.lift_core.specs.Lists.{accumulator_operand, upper_operand, both_writes, multiply_ops, divide_ops}
use Rattle.lift_core.proofs.Addresses.{with_temps, temps_match}
use Rattle.lift_core.proofs.Reading.{Stands, field_stands, read_then, source_then}
use Rattle.lift_core.proofs.Cores.{core_stops}
use Rattle.lift_core.proofs.Written.{OneValue, Written, ReadAndWritten, one_written, two_written}

-- an operand of the rm field that is read alone
pub rm_source : (s : State) (w : Width) (from : Rm) → source_of machine_naming s.cpu.regs w (source_of_rm from) ≡ location_of machine_naming s.cpu.regs w from
rm_source s w (rm.Reg r) = refl
rm_source s w (rm.Mem a) = refl

-- the accumulator and what stands above it
pub accumulator_stands : (w : Width) (u : Storage) → Stands w accumulator_operand (InRegister 0 0) u
accumulator_stands One u = record { is = refl; small = lit< tt; index = tt }
accumulator_stands Two u = record { is = refl; small = lit< tt; index = tt }
accumulator_stands Four u = record { is = refl; small = lit< tt; index = tt }

upper_stands : (w : Width) (u : Storage) → Stands w (upper_operand w) (upper_accumulator w).location u
upper_stands One u = record { is = refl; small = lit< tt; index = tt }
upper_stands Two u = record { is = refl; small = lit< tt; index = tt }
upper_stands Four u = record { is = refl; small = lit< tt; index = tt }

upper_is : (w : Width) → upper_accumulator w ≡ sized (size_of w) (upper_accumulator w).location
upper_is One = refl
upper_is Two = refl
upper_is Four = refl

module _ (turn : ℕ) (laws : MemoryLaws) (memories : LessSpecifiedMemoryLaws) (len : ℕ) (s : State) (u : Storage) (h : StateMatches s u) where
  abbrev value : Width → Location → Word
  value w l = value_in (sized (size_of w) l) s.cpu.regs s.memory

  abbrev Meets : List SizedOperand → List SizedOperand → Computation → Result Storage End → Type 0
  Meets reads writes c y = ReadAndWritten turn laws memories len s reads writes c y

  -- ---- one operand: a source, or one that stands wherever the storage is
  pub source_meets : (w wide : Width) (from : Src) (to : Reg) (k : Location) (make : Flags → Word → Computation) (core : List Op) → ComputesOne (size_of w) (size_of wide) make core → OneValue (make s.cpu.flags (value w k)) → source_of machine_naming s.cpu.regs w from ≡ Some k →
      Meets (sized (size_of w) k ∷ []) (sized (size_of wide) (field machine_naming wide to) ∷ []) (make s.cpu.flags (value w k)) (performs turn (source_ops 1 w from ++ (core ++ write_ops 4 wide (field_operand wide to))) u)
  source_meets w wide from to k make core computes one e =
      source_then turn memories s 1 w from k [] _ _ (s.eip + len) (way.On (wrapped (s.eip + len))) u (core ++ write_ops 4 wide (field_operand wide to)) h e
      (λ t k1 c. one_written turn laws memories len s core (size_of wide) _ (with_temps t u) (temps_match s u t h) (computes.computes turn (value w k) s.cpu.flags (with_temps t u) c h.flags) wide (field_operand wide to) (field machine_naming wide to) refl one (λ z kept. field_stands wide to z))

  pub operand_meets : (w wide : Width) (o p : Operand) (l k : Location) (make : Flags → Word → Computation) (core : List Op) → ComputesOne (size_of w) (size_of wide) make core → OneValue (make s.cpu.flags (value w l)) → ((z : Storage) → Stands w o l z) → ((z : Storage) → Stands wide p k z) →
      Meets (sized (size_of w) l ∷ []) (sized (size_of wide) k ∷ []) (make s.cpu.flags (value w l)) (performs turn (read_ops 1 w o ++ (core ++ write_ops 4 wide p)) u)
  operand_meets w wide o p l k make core computes one from to =
      read_then turn memories s 1 w o l [] _ _ (s.eip + len) (way.On (wrapped (s.eip + len))) u (core ++ write_ops 4 wide p) h (from u)
      (λ t k1 c. one_written turn laws memories len s core (size_of wide) _ (with_temps t u) (temps_match s u t h) (computes.computes turn (value w l) s.cpu.flags (with_temps t u) c h.flags) wide p k refl one (λ z kept. to z))

  -- ---- two operands: that of a register and a source, and a source and a constant
  pub combine_meets : (w : Width) (from : Src) (to : Reg) (k : Location) (make : Flags → Word → Word → Computation) (core : List Op) → ComputesTwo (size_of w) (size_of w) (size_of w) make core →
      OneValue (make s.cpu.flags (value w (field machine_naming w to)) (value w k)) → source_of machine_naming s.cpu.regs w from ≡ Some k →
      Meets (sized (size_of w) (field machine_naming w to) ∷ sized (size_of w) k ∷ []) (sized (size_of w) (field machine_naming w to) ∷ []) (make s.cpu.flags (value w (field machine_naming w to)) (value w k))
      (performs turn ((read_ops 1 w (field_operand w to) ++ source_ops 2 w from) ++ (core ++ write_ops 4 w (field_operand w to))) u)
  combine_meets w from to k make core computes one e =
      let l = field machine_naming w to in
      let rest = core ++ write_ops 4 w (field_operand w to) in
      let c = make s.cpu.flags (value w l) (value w k) in
      subst (λ (ops : List Op). Meets (sized (size_of w) l ∷ sized (size_of w) k ∷ []) (sized (size_of w) l ∷ []) c (performs turn ops u)) (sym (append_assoc (read_ops 1 w (field_operand w to)) (source_ops 2 w from) rest))
      (read_then turn memories s 1 w (field_operand w to) l (accesses_of Load (sized (size_of w) k ∷ [])) _ _ (s.eip + len) (way.On (wrapped (s.eip + len))) u (source_ops 2 w from ++ rest) h (field_stands w to u)
      (λ t1 k1 c1. source_then turn memories s 2 w from k [] _ _ (s.eip + len) (way.On (wrapped (s.eip + len))) (with_temps t1 u) rest (temps_match s u t1 h) e
      (λ t2 k2 c2. one_written turn laws memories len s core (size_of w) c (with_temps t2 u) (temps_match s u t2 h) (computes.computes turn (value w l) (value w k) s.cpu.flags (with_temps t2 u) (subst (CutMatches (size_of w) (value w l)) (sym (k2 1 refl)) c1) c2 h.flags) w (field_operand w to) l refl one (λ z kept. field_stands w to z))))

  pub constant_meets : (w : Width) (from : Src) (to : Reg) (by : ℕ) (k : Location) (make : Flags → Word → Word → Computation) (core : List Op) → ComputesTwo (size_of w) (size_of w) (size_of w) make core →
      OneValue (make s.cpu.flags (value w k) (value w (Constant (Some by)))) → source_of machine_naming s.cpu.regs w from ≡ Some k →
      Meets (sized (size_of w) k ∷ constant (size_of w) by ∷ []) (sized (size_of w) (field machine_naming w to) ∷ []) (make s.cpu.flags (value w k) (value w (Constant (Some by))))
      (performs turn ((source_ops 1 w from ++ read_ops 2 w (operand.Constant by)) ++ (core ++ write_ops 4 w (field_operand w to))) u)
  constant_meets w from to by k make core computes one e =
      let l = field machine_naming w to in
      let rest = core ++ write_ops 4 w (field_operand w to) in
      let y = value w (Constant (Some by)) in
      let c = make s.cpu.flags (value w k) y in
      subst (λ (ops : List Op). Meets (sized (size_of w) k ∷ constant (size_of w) by ∷ []) (sized (size_of w) l ∷ []) c (performs turn ops u)) (sym (append_assoc (source_ops 1 w from) (read_ops 2 w (operand.Constant by)) rest))
      (source_then turn memories s 1 w from k [] _ _ (s.eip + len) (way.On (wrapped (s.eip + len))) u (read_ops 2 w (operand.Constant by) ++ rest) h e
      (λ t1 k1 c1. read_then turn memories s 2 w (operand.Constant by) (Constant (Some by)) [] _ _ (s.eip + len) (way.On (wrapped (s.eip + len))) (with_temps t1 u) rest (temps_match s u t1 h) refl
      (λ t2 k2 c2. one_written turn laws memories len s core (size_of w) c (with_temps t2 u) (temps_match s u t2 h) (computes.computes turn (value w k) y s.cpu.flags (with_temps t2 u) (subst (CutMatches (size_of w) (value w k)) (sym (k2 1 refl)) c1) c2 h.flags) w (field_operand w to) l refl one (λ z kept. field_stands w to z))))

  -- ---- MUL and IMUL
  pub multiply_meets : CoreLaws → (signed : Bool) (w : Width) (from : Rm) (k : Location) → location_of machine_naming s.cpu.regs w from ≡ Some k →
      Meets (accumulator w ∷ sized (size_of w) k ∷ []) (accumulator w ∷ upper_accumulator w ∷ []) (mul_computed signed (size_of w) (value w (InRegister 0 0)) (value w k)) (performs turn (multiply_ops signed w from) u)
  multiply_meets cores signed w from k e =
      let rest = mul_core signed w ++ both_writes w in
      let x = value w (InRegister 0 0) in
      let c = mul_computed signed (size_of w) x (value w k) in
      subst (λ (o : SizedOperand). Meets (accumulator w ∷ sized (size_of w) k ∷ []) (accumulator w ∷ o ∷ []) c (performs turn (multiply_ops signed w from) u)) (sym (upper_is w))
      (read_then turn memories s 1 w accumulator_operand (InRegister 0 0) (accesses_of Load (sized (size_of w) k ∷ [])) _ _ (s.eip + len) (way.On (wrapped (s.eip + len))) u (source_ops 2 w (source_of_rm from) ++ rest) h (accumulator_stands w u)
      (λ t1 k1 c1. source_then turn memories s 2 w (source_of_rm from) k [] _ _ (s.eip + len) (way.On (wrapped (s.eip + len))) (with_temps t1 u) rest (temps_match s u t1 h) (rm_source s w from ∙ e)
      (λ t2 k2 c2. two_written turn laws memories len s (mul_core signed w) (size_of w) c (with_temps t2 u) (temps_match s u t2 h) ((cores.mul signed w).computes turn x (value w k) s.cpu.flags (with_temps t2 u) (subst (CutMatches (size_of w) x) (sym (k2 1 refl)) c1) c2 h.flags)
      w accumulator_operand (upper_operand w) (InRegister 0 0) (upper_accumulator w).location refl (record { first = _; second = _; flags = _; is = refl }) (accumulator_stands w) (upper_stands w))))

  -- ---- DIV and IDIV
  divided_meets : (signed : Bool) (w : Width) (x y z : Word) (v : Storage) → StateMatches s v → ComputationMatches (size_of w) (div_computed signed (size_of w) x y z) v (performs turn (div_core signed w) v) →
      Written turn laws memories len s (sized (size_of w) (InRegister 0 0) ∷ sized (size_of w) (upper_accumulator w).location ∷ []) (div_computed signed (size_of w) x y z) (performs turn (div_core signed w ++ both_writes w) v)
  divided_meets signed w x y z v g m = go (divide signed (size_of w) x y z) m
    where
      go : (d : Divided) → ComputationMatches (size_of w) (quotient_and_remainder d) v (performs turn (div_core signed w) v) →
          Written turn laws memories len s (sized (size_of w) (InRegister 0 0) ∷ sized (size_of w) (upper_accumulator w).location ∷ []) (quotient_and_remainder d) (performs turn (div_core signed w ++ both_writes w) v)
      go (divided.Got q r) m = two_written turn laws memories len s (div_core signed w) (size_of w) (quotient_and_remainder (divided.Got q r)) v g m w accumulator_operand (upper_operand w) (InRegister 0 0) (upper_accumulator w).location refl (record { first = _; second = _; flags = _; is = refl }) (accumulator_stands w) (upper_stands w)
      go divided.Fault m = core_stops turn s stop.DivideFault (div_core signed w) (both_writes w) (size_of w) v m
      go divided.Unspecified m = tt

  pub divide_meets : CoreLaws → (signed : Bool) (w : Width) (from : Rm) (k : Location) → location_of machine_naming s.cpu.regs w from ≡ Some k →
      Meets (upper_accumulator w ∷ accumulator w ∷ sized (size_of w) k ∷ []) (accumulator w ∷ upper_accumulator w ∷ []) (div_computed signed (size_of w) (value_in (upper_accumulator w) s.cpu.regs s.memory) (value w (InRegister 0 0)) (value w k)) (performs turn (divide_ops signed w from) u)
  divide_meets cores signed w from k e =
      let rest = div_core signed w ++ both_writes w in
      let x = value w (upper_accumulator w).location in
      let y = value w (InRegister 0 0) in
      let c = div_computed signed (size_of w) x y (value w k) in
      subst (λ (o : SizedOperand). Meets (o ∷ accumulator w ∷ sized (size_of w) k ∷ []) (accumulator w ∷ o ∷ []) (div_computed signed (size_of w) (value_in o s.cpu.regs s.memory) y (value w k)) (performs turn (divide_ops signed w from) u)) (sym (upper_is w))
      (read_then turn memories s 1 w (upper_operand w) (upper_accumulator w).location (accesses_of Load (accumulator w ∷ sized (size_of w) k ∷ [])) _ _ (s.eip + len) (way.On (wrapped (s.eip + len))) u (read_ops 2 w accumulator_operand ++ (source_ops 3 w (source_of_rm from) ++ rest)) h (upper_stands w u)
      (λ t1 k1 c1. read_then turn memories s 2 w accumulator_operand (InRegister 0 0) (accesses_of Load (sized (size_of w) k ∷ [])) _ _ (s.eip + len) (way.On (wrapped (s.eip + len))) (with_temps t1 u) (source_ops 3 w (source_of_rm from) ++ rest) (temps_match s u t1 h) (accumulator_stands w (with_temps t1 u))
      (λ t2 k2 c2. source_then turn memories s 3 w (source_of_rm from) k [] _ _ (s.eip + len) (way.On (wrapped (s.eip + len))) (with_temps t2 u) rest (temps_match s u t2 h) (rm_source s w from ∙ e)
      (λ t3 k3 c3. divided_meets signed w x y (value w k) (with_temps t3 u) (temps_match s u t3 h)
      ((cores.div signed w).computes turn x y (value w k) s.cpu.flags (with_temps t3 u) (subst (CutMatches (size_of w) x) (sym (k3 1 refl ∙ k2 1 refl)) c1) (subst (CutMatches (size_of w) y) (sym (k3 2 refl)) c2) c3 h.flags)))))
