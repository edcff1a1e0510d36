-- Instructions that read a target and another operand.
use Rattle.std.proofs.Common.{◌≡◌, ℕ, ◌+◌, ◌&&◌, Bool, true, false, cond, List, [], ◌∷◌, ◌++◌, Option, Some, refl, sym, ◌∙◌, subst, lit<, append_assoc, append-nil}
use Rattle.x86_values.specs.declared.word.Word.{Word}
use Rattle.memory.specs.Memory.{wrapped, Load}
use Rattle.memory.specs.MemoryLaws.{MemoryLaws}
use Rattle.memory.specs.LessSpecifiedLaws.{LessSpecifiedMemoryLaws}
use Rattle.x86_types.specs.declared.operand.Reg.{Reg}
use Rattle.x86_types.specs.declared.operand.Rm.{Rm}
use Rattle.x86_types.specs.declared.operand.Rm.TheVariants as rm
use Rattle.x86_types.specs.declared.operand.Src.{Src}
use Rattle.x86_types.specs.declared.operand.Src.TheVariants as src
use Rattle.x86_types.specs.declared.operation.AluOp.{AluOp}
use Rattle.x86_types.specs.declared.operation.AluOp.TheVariants as alu
use Rattle.x86_types.specs.declared.width.Width.{Width}
use Rattle.x86_types.specs.declared.width.Width.TheVariants.{One, Two, Four}
use Rattle.x86_types.specs.Numbers.{size_of}
use Rattle.x86_meaning.specs.Registers.{machine_naming}
use Rattle.x86_meaning.specs.Operands.{Location, InMemory, Constant, SizedOperand, operand as sized, accesses_of, field, effective_address, location_of, source_of, value_in, values_in}
use Rattle.x86_meaning.specs.TransferShapes.{cancels, constant, is_same_register, alu_reads, alu_writes}
use Rattle.x86_meaning.specs.Outcomes.{Computation, on_two, alu_computed, test_computed, move_computed}
use Rattle.x86_meaning.specs.Step.{State}
use Rattle.flag_ir.specs.declared.operation.Op.{Op}
use Rattle.flag_ir.specs.Storage.{Storage}
use Rattle.flag_ir.specs.Operations.{performs}
use Rattle.lift_relation.specs.Matching.{StateMatches}
use Rattle.lift_relation.specs.Cores.{CutMatches, ComputationMatches}
use Rattle.lift_values.specs.CoreLaws.{CoreLaws}
use Rattle.lift_values.specs.Logic.{alu_core, test_core}
use Rattle.lift_core.specs.declared.way.Way.TheVariants as way
use Rattle.lift_core.specs.declared.operand.Operand.TheVariants as operand
use Rattle.lift_core.specs.Pieces.{target, target_ops, field_operand, read_ops, write_ops, source_ops}
use Rattle.lift_core.specs.Lists.{is_same_operand, is_same, alu_reads_ops, alu_writes_ops}
use Rattle.lift_core.proofs.Addresses.{with_temps, temps_match}
use Rattle.lift_core.proofs.Reading.{Stands, some_location, in_memory, target_then, target_again, read_then, source_then}
use Rattle.lift_core.proofs.Written.{OneValue, Written, ReadAndWritten, moved, one_written, none_written}

-- ---- the same register, for the list and for the machine
same_fields : (w : Width) (r q : Reg) → is_same_operand (field_operand w r) (field_operand w q) ≡ is_same_register (field machine_naming w r) (field machine_naming w q)
same_fields One r q = refl
same_fields Two r q = refl
same_fields Four r q = refl

field_and_memory : (w : Width) (r : Reg) (at : ℕ) → is_same_register (field machine_naming w r) (InMemory at) ≡ false
field_and_memory One r at = refl
field_and_memory Two r at = refl
field_and_memory Four r at = refl

field_and_constant : (w : Width) (r : Reg) (n : Option ℕ) → is_same_register (field machine_naming w r) (Constant n) ≡ false
field_and_constant One r n = refl
field_and_constant Two r n = refl
field_and_constant Four r n = refl

same_is : (s : State) (w : Width) (to : Rm) (from : Src) (l k : Location) → location_of machine_naming s.cpu.regs w to ≡ Some l → source_of machine_naming s.cpu.regs w from ≡ Some k → is_same w to from ≡ is_same_register l k
same_is s w (rm.Reg r) (src.Reg q) l k e g = rw (some_location _ _ e, some_location _ _ g) (same_fields w r q)
same_is s w (rm.Reg r) (src.Imm n) l k e g = rw (some_location _ _ e, some_location _ _ g) (sym (field_and_constant w r (Some n)))
same_is s w (rm.Reg r) (src.Mem a) l k e g =
    let m = in_memory (effective_address machine_naming s.cpu.regs a) k g in
    rw (some_location _ _ e, m.2) (sym (field_and_memory w r m.0))
same_is s w (rm.Mem a) from l k e g =
    let m = in_memory (effective_address machine_naming s.cpu.regs a) l e in
    rw m.2 refl

module _ (turn : ℕ) (laws : MemoryLaws) (memories : LessSpecifiedMemoryLaws) (len : ℕ) (s : State) (u : Storage) (h : StateMatches s u) where
  -- a target is read to temporary 1 and another operand to temporary 2
  two_read : (w : Width) (to : Rm) (from : Src) (l k : Location) (writes : List SizedOperand) (c : Computation) (u0 : Storage) (rest : List Op) → StateMatches s u0 → Stands w (target w to) l u0 → source_of machine_naming s.cpu.regs w from ≡ Some k →
      ((t : ℕ → Word) → t 0 ≡ u0.temps 0 → CutMatches (size_of w) (value_in (sized (size_of w) l) s.cpu.regs s.memory) (t 1) → CutMatches (size_of w) (value_in (sized (size_of w) k) s.cpu.regs s.memory) (t 2) → Written turn laws memories len s writes c (performs turn rest (with_temps t u0))) →
      ReadAndWritten turn laws memories len s (sized (size_of w) l ∷ sized (size_of w) k ∷ []) writes c (performs turn (read_ops 1 w (target w to) ++ (source_ops 2 w from ++ rest)) u0)
  two_read w to from l k writes c u0 rest h0 there e f =
      read_then turn memories s 1 w (target w to) l (accesses_of Load (sized (size_of w) k ∷ [])) _ _ (s.eip + len) (way.On (wrapped (s.eip + len))) u0 (source_ops 2 w from ++ rest) h0 there
      (λ t1 k1 c1. source_then turn memories s 2 w from k [] _ _ (s.eip + len) (way.On (wrapped (s.eip + len))) (with_temps t1 u0) rest (temps_match s u0 t1 h0) e
      (λ t2 k2 c2. f t2 (k2 0 refl ∙ k1 0 refl) (subst (CutMatches (size_of w) (value_in (sized (size_of w) l) s.cpu.regs s.memory)) (sym (k2 1 refl)) c1) c2))

  -- MOV
  pub mov_meets : (w : Width) (to : Rm) (from : Src) (l k : Location) → location_of machine_naming s.cpu.regs w to ≡ Some l → source_of machine_naming s.cpu.regs w from ≡ Some k →
      ReadAndWritten turn laws memories len s (sized (size_of w) k ∷ []) (sized (size_of w) l ∷ []) (move_computed s.cpu.flags (value_in (sized (size_of w) k) s.cpu.regs s.memory)) (performs turn (target_ops to ++ (source_ops 4 w from ++ write_ops 4 w (target w to))) u)
  mov_meets w to from l k e g =
      target_then turn w to l s u (source_ops 4 w from ++ write_ops 4 w (target w to))
      (λ y. ReadAndWritten turn laws memories len s (sized (size_of w) k ∷ []) (sized (size_of w) l ∷ []) (move_computed s.cpu.flags (value_in (sized (size_of w) k) s.cpu.regs s.memory)) y) h e
      (λ t0 k0 there. source_then turn memories s 4 w from k [] _ _ (s.eip + len) (way.On (wrapped (s.eip + len))) (with_temps t0 u) (write_ops 4 w (target w to)) (temps_match s u t0 h) g
      (λ t1 k1 c. moved turn laws memories len s w (target w to) l _ (with_temps t1 u) (temps_match s u t1 h) (target_again w to l (with_temps t0 u) (with_temps t1 u) (k1 0 refl) there) c))

  -- TEST
  pub test_meets : CoreLaws → (w : Width) (to : Rm) (from : Src) (l k : Location) → location_of machine_naming s.cpu.regs w to ≡ Some l → source_of machine_naming s.cpu.regs w from ≡ Some k →
      ReadAndWritten turn laws memories len s (sized (size_of w) l ∷ sized (size_of w) k ∷ []) [] (test_computed (size_of w) (value_in (sized (size_of w) l) s.cpu.regs s.memory) (value_in (sized (size_of w) k) s.cpu.regs s.memory))
      (performs turn (target_ops to ++ (read_ops 1 w (target w to) ++ (source_ops 2 w from ++ test_core w))) u)
  test_meets cores w to from l k e g =
      let x = value_in (sized (size_of w) l) s.cpu.regs s.memory in
      let y = value_in (sized (size_of w) k) s.cpu.regs s.memory in
      target_then turn w to l s u (read_ops 1 w (target w to) ++ (source_ops 2 w from ++ test_core w))
      (λ z. ReadAndWritten turn laws memories len s (sized (size_of w) l ∷ sized (size_of w) k ∷ []) [] (test_computed (size_of w) x y) z) h e
      (λ t0 k0 there. two_read w to from l k [] (test_computed (size_of w) x y) (with_temps t0 u) (test_core w) (temps_match s u t0 h) there g
      (λ t z c1 c2. none_written turn laws memories len s (test_core w) (size_of w) _ (with_temps t u) (temps_match s u t h) ((cores.test w).computes turn x y s.cpu.flags (with_temps t u) c1 c2 h.flags) (record { flags = _; is = refl })))

  -- ADD to CMP
  alu_written : (op : AluOp) (w : Width) (to : Rm) (l : Location) (x y : Word) (v : Storage) → StateMatches s v → Stands w (target w to) l v → ComputationMatches (size_of w) (alu_computed op (size_of w) s.cpu.flags x y) v (performs turn (alu_core op w) v) →
      Written turn laws memories len s (alu_writes op (size_of w) l) (alu_computed op (size_of w) s.cpu.flags x y) (performs turn (alu_core op w ++ alu_writes_ops op w to) v)
  alu_written op w to l x y v g there m = by_op op m
    where
      one : (op : AluOp) → OneValue (alu_computed op (size_of w) s.cpu.flags x y) → ComputationMatches (size_of w) (alu_computed op (size_of w) s.cpu.flags x y) v (performs turn (alu_core op w) v) →
          Written turn laws memories len s (sized (size_of w) l ∷ []) (alu_computed op (size_of w) s.cpu.flags x y) (performs turn (alu_core op w ++ write_ops 4 w (target w to)) v)
      one op o m = one_written turn laws memories len s (alu_core op w) (size_of w) _ v g m w (target w to) l refl o (λ z kept. target_again w to l v z (kept 0 (lit< tt)) there)

      by_op : (op : AluOp) → ComputationMatches (size_of w) (alu_computed op (size_of w) s.cpu.flags x y) v (performs turn (alu_core op w) v) →
          Written turn laws memories len s (alu_writes op (size_of w) l) (alu_computed op (size_of w) s.cpu.flags x y) (performs turn (alu_core op w ++ alu_writes_ops op w to) v)
      by_op alu.Add m = one alu.Add (record { value = _; flags = _; is = refl }) m
      by_op alu.Or m = one alu.Or (record { value = _; flags = _; is = refl }) m
      by_op alu.Adc m = one alu.Adc (record { value = _; flags = _; is = refl }) m
      by_op alu.Sbb m = one alu.Sbb (record { value = _; flags = _; is = refl }) m
      by_op alu.And m = one alu.And (record { value = _; flags = _; is = refl }) m
      by_op alu.Sub m = one alu.Sub (record { value = _; flags = _; is = refl }) m
      by_op alu.Xor m = one alu.Xor (record { value = _; flags = _; is = refl }) m
      by_op alu.Cmp m =
          subst (λ (ops : List Op). Written turn laws memories len s [] (alu_computed alu.Cmp (size_of w) s.cpu.flags x y) (performs turn ops v)) (sym (append-nil (alu_core alu.Cmp w)))
          (none_written turn laws memories len s (alu_core alu.Cmp w) (size_of w) _ v g m (record { flags = _; is = refl }))

  pub alu_meets : CoreLaws → (op : AluOp) (w : Width) (to : Rm) (from : Src) (l k : Location) → location_of machine_naming s.cpu.regs w to ≡ Some l → source_of machine_naming s.cpu.regs w from ≡ Some k →
      ReadAndWritten turn laws memories len s (alu_reads op (size_of w) l k) (alu_writes op (size_of w) l) (on_two (alu_computed op (size_of w) s.cpu.flags) (values_in (alu_reads op (size_of w) l k) s.cpu.regs s.memory))
      (performs turn (target_ops to ++ (alu_reads_ops op w to from ++ (alu_core op w ++ alu_writes_ops op w to))) u)
  alu_meets cores op w to from l k e g =
      subst (λ (b : Bool). ReadAndWritten turn laws memories len s (alu_reads op (size_of w) l k) (alu_writes op (size_of w) l) (on_two (alu_computed op (size_of w) s.cpu.flags) (values_in (alu_reads op (size_of w) l k) s.cpu.regs s.memory))
      (performs turn (target_ops to ++ (cond (cancels op && b) (read_ops 1 w (operand.Constant 0) ++ read_ops 2 w (operand.Constant 0)) (read_ops 1 w (target w to) ++ source_ops 2 w from) ++ (alu_core op w ++ alu_writes_ops op w to))) u)) (sym (same_is s w to from l k e g))
      (by_test (cancels op && is_same_register l k))
    where
      computes : (x y : Word) (t : ℕ → Word) → Stands w (target w to) l (with_temps t u) → CutMatches (size_of w) x (t 1) → CutMatches (size_of w) y (t 2) → Written turn laws memories len s (alu_writes op (size_of w) l) (alu_computed op (size_of w) s.cpu.flags x y) (performs turn (alu_core op w ++ alu_writes_ops op w to) (with_temps t u))
      computes x y t there c1 c2 = alu_written op w to l x y (with_temps t u) (temps_match s u t h) there ((cores.alu op w).computes turn x y s.cpu.flags (with_temps t u) c1 c2 h.flags)

      zeros : List SizedOperand
      zeros = constant (size_of w) 0 ∷ constant (size_of w) 0 ∷ []

      both : List SizedOperand
      both = sized (size_of w) l ∷ sized (size_of w) k ∷ []

      by_test : (b : Bool) → ReadAndWritten turn laws memories len s (cond b zeros both) (alu_writes op (size_of w) l) (on_two (alu_computed op (size_of w) s.cpu.flags) (values_in (cond b zeros both) s.cpu.regs s.memory))
          (performs turn (target_ops to ++ (cond b (read_ops 1 w (operand.Constant 0) ++ read_ops 2 w (operand.Constant 0)) (read_ops 1 w (target w to) ++ source_ops 2 w from) ++ (alu_core op w ++ alu_writes_ops op w to))) u)
      by_test true =
          let z = value_in (constant (size_of w) 0) s.cpu.regs s.memory in
          let way' = way.On (wrapped (s.eip + len)) in
          let rest = alu_core op w ++ alu_writes_ops op w to in
          let c = alu_computed op (size_of w) s.cpu.flags z z in
          target_then turn w to l s u (read_ops 1 w (operand.Constant 0) ++ (read_ops 2 w (operand.Constant 0) ++ rest)) (λ y. ReadAndWritten turn laws memories len s zeros (alu_writes op (size_of w) l) c y) h e
          (λ t0 k0 there. read_then turn memories s 1 w (operand.Constant 0) (Constant (Some 0)) [] _ _ (s.eip + len) way' (with_temps t0 u) (read_ops 2 w (operand.Constant 0) ++ rest) (temps_match s u t0 h) refl
          (λ t1 k1 c1. read_then turn memories s 2 w (operand.Constant 0) (Constant (Some 0)) [] _ _ (s.eip + len) way' (with_temps t1 u) rest (temps_match s u t1 h) refl
          (λ t2 k2 c2. computes z z t2 (target_again w to l (with_temps t0 u) (with_temps t2 u) (k2 0 refl ∙ k1 0 refl) there) (subst (CutMatches (size_of w) z) (sym (k2 1 refl)) c1) c2)))
      by_test false =
          let x = value_in (sized (size_of w) l) s.cpu.regs s.memory in
          let y = value_in (sized (size_of w) k) s.cpu.regs s.memory in
          let rest = alu_core op w ++ alu_writes_ops op w to in
          subst (λ (ops : List Op). ReadAndWritten turn laws memories len s both (alu_writes op (size_of w) l) (alu_computed op (size_of w) s.cpu.flags x y) (performs turn (target_ops to ++ ops) u)) (sym (append_assoc (read_ops 1 w (target w to)) (source_ops 2 w from) rest))
          (target_then turn w to l s u (read_ops 1 w (target w to) ++ (source_ops 2 w from ++ rest)) (λ z. ReadAndWritten turn laws memories len s both (alu_writes op (size_of w) l) (alu_computed op (size_of w) s.cpu.flags x y) z) h e
          (λ t0 k0 there. two_read w to from l k (alu_writes op (size_of w) l) (alu_computed op (size_of w) s.cpu.flags x y) (with_temps t0 u) rest (temps_match s u t0 h) there g
          (λ t z c1 c2. computes x y t (target_again w to l (with_temps t0 u) (with_temps t u) z there) c1 c2)))
