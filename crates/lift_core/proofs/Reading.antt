-- Operands that are read: where they stand for the list, and what follows a read of one.
use Rattle.std.proofs.Common.{◌≡◌, ℕ, zero, suc, ◌<◌, ◌&&◌, Bool, true, false, cond, List, [], ◌∷◌, ◌++◌, take, Option, Some, None, Result, Ok, Err, refl, sym, ◌∙◌, ap, subst, append_assoc}
use Rattle.std.specs.Option.{option_map}
use Rattle.x86_values.specs.declared.word.Word.{Word}
use Rattle.x86_values.specs.Words.{word_of, word_list, padded}
use Rattle.x86_values.specs.Sizes.{cut}
use Rattle.x86_values.specs.LessSpecified.{WordLessSpecified, BytesLessSpecified}
use Rattle.traces.specs.Trace.{End, MemoryFault}
use Rattle.memory.specs.Memory.{Memory, Load, allows_all, bytes_at}
use Rattle.memory.specs.LessSpecifiedLaws.{LessSpecifiedMemoryLaws}
use Rattle.x86_types.specs.declared.operand.Reg.{Reg}
use Rattle.x86_types.specs.declared.operand.Reg.TheVariants as register
use Rattle.x86_types.specs.declared.operand.Rm.{Rm}
use Rattle.x86_types.specs.declared.operand.Rm.TheVariants as rm
use Rattle.x86_types.specs.declared.operand.Src.{Src}
use Rattle.x86_types.specs.declared.operand.Src.TheVariants as src
use Rattle.x86_types.specs.declared.width.Width.{Width}
use Rattle.x86_types.specs.declared.width.Width.TheVariants.{One, Two, Four}
use Rattle.x86_types.specs.declared.operation.ShiftOp.TheVariants as shiftop
use Rattle.x86_types.specs.Numbers.{size_of}
use Rattle.x86_types.specs.Registers.{byte_register}
use Rattle.x86_meaning.specs.declared.stop.Stop.{Stop}
use Rattle.x86_meaning.specs.Registers.{machine_naming}
use Rattle.x86_meaning.specs.Operands.{Location, InRegister, InMemory, Constant, operand as sized, Access, access, field, effective_address, location_of, source_of, value_in}
use Rattle.x86_meaning.specs.Effect.{Effect}
use Rattle.x86_meaning.specs.Step.{State, all_allowed}
use Rattle.flag_ir.specs.declared.variable.Term.{Term}
use Rattle.flag_ir.specs.declared.operation.Op.{Op}
use Rattle.flag_ir.specs.Calculations.{and_of, shifted_of}
use Rattle.flag_ir.specs.Storage.{Storage, put_word, term_in}
use Rattle.flag_ir.specs.Operations.{and_then, needed, load, perform, performs}
use Rattle.lift_relation.specs.Matching.{StateMatches}
use Rattle.lift_relation.specs.Cores.{CutMatches}
use Rattle.lift_core.specs.declared.way.Way.{Way as Going}
use Rattle.lift_core.specs.declared.operand.Operand.{Operand}
use Rattle.lift_core.specs.declared.operand.Operand.TheVariants as operand
use Rattle.lift_values.specs.Terms.{temp}
use Rattle.lift_core.specs.Pieces.{number_of, address_ops, read_ops, field_operand, target_ops, target, source_ops}
use Rattle.lift_core.proofs.Words.{IsNumber, known_in, mask_cuts, zero_byte, cut_word}
use Rattle.lift_core.proofs.Parts.{second_read}
use Rattle.lift_core.proofs.Addresses.{with_temps, Kept, put_there, put_elsewhere, temps_match, number_small, NumberIf, address_then}
use Rattle.lift_core.proofs.Meeting.{LoadsMeet}

-- ---- where an operand stands for the list and for the machine
-- the second byte is read and written at one byte alone
abbrev pub IsIndex : Width → ℕ → Type 0
IsIndex One zero = Unit {0}
IsIndex One (suc zero) = Unit {0}
IsIndex One (suc (suc i)) = ⊥
IsIndex Two zero = Unit {0}
IsIndex Two (suc i) = ⊥
IsIndex Four zero = Unit {0}
IsIndex Four (suc i) = ⊥

pub record StandsInRegister (w : Width) (p i : ℕ) (l : Location) : Type 0 where
  pub is : l ≡ InRegister p i
  pub small : p < 8
  pub index : IsIndex w i

pub record StandsInMemory (y : Word) (l : Location) : Type 0 where
  pub at : ℕ
  pub is : l ≡ InMemory at
  pub number : IsNumber at y

abbrev pub Stands : Width → Operand → Location → Storage → Type 0
Stands w (operand.Register p i) l u = StandsInRegister w p i l
Stands w (operand.Memory x) l u = StandsInMemory (term_in x u) l
Stands w (operand.Constant n) l u = l ≡ Constant (Some n)

second_index : (r : Reg) → IsIndex One (byte_register r).byte
second_index register.Eax = tt
second_index register.Ecx = tt
second_index register.Edx = tt
second_index register.Ebx = tt
second_index register.Esp = tt
second_index register.Ebp = tt
second_index register.Esi = tt
second_index register.Edi = tt

pub field_stands : (w : Width) (r : Reg) (u : Storage) → Stands w (field_operand w r) (field machine_naming w r) u
field_stands One r u = record { is = refl; small = number_small (byte_register r).reg; index = second_index r }
field_stands Two r u = record { is = refl; small = number_small r; index = tt }
field_stands Four r u = record { is = refl; small = number_small r; index = tt }

-- the target stands where it stood, as long as temporary 0 is kept
pub target_again : (w : Width) (to : Rm) (l : Location) (u v : Storage) → v.temps 0 ≡ u.temps 0 → Stands w (target w to) l u → Stands w (target w to) l v
target_again One (rm.Reg r) l u v e h = h
target_again Two (rm.Reg r) l u v e h = h
target_again Four (rm.Reg r) l u v e h = h
target_again w (rm.Mem a) l u v e h = record { at = h.at; is = h.is; number = subst (IsNumber h.at) (sym e) h.number }

pub in_memory : (o : Option ℕ) (l : Location) → option_map InMemory o ≡ Some l → (at : ℕ) × (o ≡ Some at) × (l ≡ InMemory at)
in_memory None l e = absurd cc
in_memory (Some at) l e = (at, refl, cc)

pub some_location : (a b : Location) → Some a ≡ Some b → b ≡ a
some_location a b e = cc

-- what follows the address of the target is done with the target where it stands
pub target_then : (turn : ℕ) (w : Width) (to : Rm) (l : Location) (s : State) (u : Storage) (rest : List Op) (P : Result Storage End → Type 0) → StateMatches s u → location_of machine_naming s.cpu.regs w to ≡ Some l →
    ((temps : ℕ → Word) → Kept 0 temps u.temps → Stands w (target w to) l (with_temps temps u) → P (performs turn rest (with_temps temps u))) → P (performs turn (target_ops to ++ rest) u)
target_then turn w (rm.Reg r) l s u rest P h e next =
    next u.temps (λ j q. refl) (subst (λ (k : Location). Stands w (field_operand w r) k u) (sym (some_location _ _ e)) (field_stands w r u))
target_then turn w (rm.Mem a) l s u rest P h e next =
    let m = in_memory (effective_address machine_naming s.cpu.regs a) l e in
    address_then turn 0 s u rest P h a (λ temps kept n. next temps kept (record { at = m.0; is = m.2; number = subst (λ (o : Option ℕ). NumberIf o (temps 0)) m.1 n }))

-- ---- the value of a part of a register
four_read : (x y : Word) → WordLessSpecified x y → CutMatches 4 x y
unfolding cut
four_read x y h = record { b0 = h.b0; b1 = h.b1; b2 = h.b2; b3 = h.b3 }

two_read : (x y : Word) → WordLessSpecified x y → CutMatches 2 (padded (x.b0 ∷ x.b1 ∷ [])) (and_of y (word_of 0xFFFF))
unfolding cut
two_read x y h = mask_cuts Two x y h

low_read : (x y : Word) → WordLessSpecified x y → CutMatches 1 (padded (x.b0 ∷ [])) (and_of y (word_of 0xFF))
unfolding cut
low_read x y h = mask_cuts One x y h

high_read : (x y : Word) → WordLessSpecified x y → CutMatches 1 (padded (x.b1 ∷ [])) (and_of (shifted_of shiftop.Shr (and_of y (word_of 0xFF00)) (word_of 8)) (word_of 0xFF))
unfolding cut
high_read x y h = second_read x.b1 y h.b1

-- a number is its word, and 0 above a width
number_read : (w : Width) (n : ℕ) → CutMatches (size_of w) (padded (take (size_of w) (word_list (word_of n)))) (word_of (number_of w n))
unfolding cut
number_read One n = cut_word One n
number_read Two n = cut_word Two n
number_read Four n = cut_word Four n

-- the bytes of memory
bytes_read : (w : Width) (m n : Memory) (at : ℕ) → BytesLessSpecified (bytes_at m at (size_of w)) (bytes_at n at (size_of w)) → CutMatches (size_of w) (padded (bytes_at m at (size_of w))) (padded (bytes_at n at (size_of w)))
unfolding cut bytes_at
bytes_read One m n at h = record { b0 = h.0; b1 = zero_byte; b2 = zero_byte; b3 = zero_byte }
bytes_read Two m n at h = record { b0 = h.0; b1 = h.1.0; b2 = zero_byte; b3 = zero_byte }
bytes_read Four m n at h = record { b0 = h.0; b1 = h.1.0; b2 = h.1.1.0; b3 = h.1.1.1.0 }

module _ (turn : ℕ) (memories : LessSpecifiedMemoryLaws) (s : State) where
  -- what a read of an operand asks of what follows: that it is done with the value in the temporary
  abbrev pub After : ℕ → Width → Location → Bool → Bool → Result Effect Stop → ℕ → Going → Storage → List Op → Type 0
  After k w l loads stores r next way u rest =
      (temps : ℕ → Word) → Kept k temps u.temps → CutMatches (size_of w) (value_in (sized (size_of w) l) s.cpu.regs s.memory) (temps k) → LoadsMeet loads stores r next s way (performs turn rest (with_temps temps u))

  module _ (k : ℕ) (loads stores : Bool) (r : Result Effect Stop) (next : ℕ) (way : Going) (rest : List Op) where
    register_then : (w : Width) (p i : ℕ) (u : Storage) → StateMatches s u → p < 8 → IsIndex w i → After k w (InRegister p i) loads stores r next way u rest → LoadsMeet loads stores r next s way (performs turn (read_ops k w (operand.Register p i) ++ rest) u)
    unfolding performs perform
    register_then Four p zero u h l x f = f (put_word k (u.regs p) u.temps) (put_elsewhere k _ _) (subst (λ (y : Word). CutMatches 4 (s.cpu.regs p) y) (sym (put_there k (u.regs p) u.temps)) (four_read _ _ (h.regs p l)))
    register_then Four p (suc i) u h l x f = absurd x
    register_then Two p zero u h l x f =
        let y = and_of (u.regs p) (word_of 0xFFFF) in
        f (put_word k y u.temps) (put_elsewhere k _ _) (subst (λ (z : Word). CutMatches 2 (padded ((s.cpu.regs p).b0 ∷ (s.cpu.regs p).b1 ∷ [])) z) (sym (put_there k y u.temps)) (two_read _ _ (h.regs p l)))
    register_then Two p (suc i) u h l x f = absurd x
    register_then One p zero u h l x f =
        let y = and_of (u.regs p) (word_of 0xFF) in
        f (put_word k y u.temps) (put_elsewhere k _ _) (subst (λ (z : Word). CutMatches 1 (padded ((s.cpu.regs p).b0 ∷ [])) z) (sym (put_there k y u.temps)) (low_read _ _ (h.regs p l)))
    register_then One p (suc zero) u h l x f =
        let w1 = and_of (u.regs p) (word_of 0xFF00) in
        let t1 = put_word k w1 u.temps in
        let w2 = shifted_of shiftop.Shr (t1 k) (word_of 8) in
        let t2 = put_word k w2 t1 in
        let w3 = and_of (t2 k) (word_of 0xFF) in
        let e : put_word k w3 t2 k ≡ and_of (shifted_of shiftop.Shr w1 (word_of 8)) (word_of 0xFF) =
        put_there k w3 t2 ∙ ap (λ z. and_of z (word_of 0xFF)) (put_there k w2 t1 ∙ ap (λ z. shifted_of shiftop.Shr z (word_of 8)) (put_there k w1 u.temps)) in
        f (put_word k w3 t2) (λ j q. put_elsewhere k w3 t2 j q ∙ put_elsewhere k w2 t1 j q ∙ put_elsewhere k w1 u.temps j q) (subst (λ (z : Word). CutMatches 1 (padded ((s.cpu.regs p).b1 ∷ [])) z) (sym e) (high_read _ _ (h.regs p l)))
    register_then One p (suc (suc i)) u h l x f = absurd x

    -- a load where a term is
    loaded : (w : Width) (at : ℕ) (u : Storage) (b c : Bool) → b ≡ c → CutMatches (size_of w) (padded (bytes_at s.memory at (size_of w))) (padded (bytes_at u.memory at (size_of w))) → After k w (InMemory at) loads stores r next way u rest →
        LoadsMeet (b && loads) stores r next s way (and_then (and_then (cond c (Ok (padded (bytes_at u.memory at (size_of w)))) (Err MemoryFault)) (λ w. Ok (with_temps (put_word k w u.temps) u))) (performs turn rest))
    loaded w at u true true e v f =
        let y = padded (bytes_at u.memory at (size_of w)) in
        f (put_word k y u.temps) (put_elsewhere k _ _) (subst (λ (z : Word). CutMatches (size_of w) (padded (bytes_at s.memory at (size_of w))) z) (sym (put_there k y u.temps)) v)
    loaded w at u true false e v f = absurd cc
    loaded w at u false true e v f = absurd cc
    loaded w at u false false e v f = refl

    memory_then : (w : Width) (x : Term) (at : ℕ) (u : Storage) → StateMatches s u → IsNumber at (term_in x u) → After k w (InMemory at) loads stores r next way u rest → LoadsMeet (allows_all Load s.memory at (size_of w) && loads) stores r next s way (performs turn (read_ops k w (operand.Memory x) ++ rest) u)
    unfolding performs perform
    memory_then w x at u h n f =
        subst (λ (o : Option ℕ). LoadsMeet (allows_all Load s.memory at (size_of w) && loads) stores r next s way (and_then (and_then (needed o) (λ a. and_then (load (size_of w) u.memory a) (λ y. Ok (with_temps (put_word k y u.temps) u)))) (performs turn rest))) (sym (known_in at (term_in x u) n))
        (loaded w at u (allows_all Load s.memory at (size_of w)) (allows_all Load u.memory at (size_of w)) (memories.allows Load s.memory u.memory at (size_of w) h.memory) (bytes_read w s.memory u.memory at (memories.bytes s.memory u.memory at (size_of w) h.memory)) f)

    constant_then : (w : Width) (n : ℕ) (u : Storage) → After k w (Constant (Some n)) loads stores r next way u rest → LoadsMeet loads stores r next s way (performs turn (read_ops k w (operand.Constant n) ++ rest) u)
    unfolding performs perform
    constant_then w n u f =
        let y = word_of (number_of w n) in
        f (put_word k y u.temps) (put_elsewhere k _ _) (subst (λ (z : Word). CutMatches (size_of w) (padded (take (size_of w) (word_list (word_of n)))) z) (sym (put_there k y u.temps)) (number_read w n))

  -- what follows a read of an operand that stands somewhere
  pub read_then : (k : ℕ) (w : Width) (o : Operand) (l : Location) (more : List Access) (stores : Bool) (r : Result Effect Stop) (next : ℕ) (way : Going) (u : Storage) (rest : List Op) → StateMatches s u → Stands w o l u →
      After k w l (all_allowed Load more s.memory) stores r next way u rest → LoadsMeet (all_allowed Load (access Load (size_of w) l more) s.memory) stores r next s way (performs turn (read_ops k w o ++ rest) u)
  read_then k w (operand.Register p i) l more stores r next way u rest h e f =
      subst (λ (l : Location). After k w l (all_allowed Load more s.memory) stores r next way u rest → LoadsMeet (all_allowed Load (access Load (size_of w) l more) s.memory) stores r next s way (performs turn (read_ops k w (operand.Register p i) ++ rest) u)) (sym e.is)
      (λ f. register_then k (all_allowed Load more s.memory) stores r next way rest w p i u h e.small e.index f) f
  read_then k w (operand.Memory x) l more stores r next way u rest h e f =
      subst (λ (l : Location). After k w l (all_allowed Load more s.memory) stores r next way u rest → LoadsMeet (all_allowed Load (access Load (size_of w) l more) s.memory) stores r next s way (performs turn (read_ops k w (operand.Memory x) ++ rest) u)) (sym e.is)
      (λ f. memory_then k (all_allowed Load more s.memory) stores r next way rest w x e.at u h e.number f) f
  read_then k w (operand.Constant n) l more stores r next way u rest h e f =
      subst (λ (l : Location). After k w l (all_allowed Load more s.memory) stores r next way u rest → LoadsMeet (all_allowed Load (access Load (size_of w) l more) s.memory) stores r next s way (performs turn (read_ops k w (operand.Constant n) ++ rest) u)) (sym e)
      (λ f. constant_then k (all_allowed Load more s.memory) stores r next way rest w n u f) f

  -- what follows a source, which is read alone
  pub source_then : (k : ℕ) (w : Width) (from : Src) (l : Location) (more : List Access) (stores : Bool) (r : Result Effect Stop) (next : ℕ) (way : Going) (u : Storage) (rest : List Op) → StateMatches s u → source_of machine_naming s.cpu.regs w from ≡ Some l →
      After k w l (all_allowed Load more s.memory) stores r next way u rest → LoadsMeet (all_allowed Load (access Load (size_of w) l more) s.memory) stores r next s way (performs turn (source_ops k w from ++ rest) u)
  source_then k w (src.Reg q) l more stores r next way u rest h e f =
      read_then k w (field_operand w q) l more stores r next way u rest h (subst (λ (l : Location). Stands w (field_operand w q) l u) (sym (some_location _ _ e)) (field_stands w q u)) f
  source_then k w (src.Imm n) l more stores r next way u rest h e f = read_then k w (operand.Constant n) l more stores r next way u rest h (some_location _ _ e) f
  source_then k w (src.Mem a) l more stores r next way u rest h e f =
      let m = in_memory (effective_address machine_naming s.cpu.regs a) l e in
      subst (λ (ops : List Op). LoadsMeet (all_allowed Load (access Load (size_of w) l more) s.memory) stores r next s way (performs turn ops u)) (sym (append_assoc (address_ops k a) (read_ops k w (operand.Memory (temp k))) rest))
      (address_then turn k s u (read_ops k w (operand.Memory (temp k)) ++ rest) (λ (y : Result Storage End). LoadsMeet (all_allowed Load (access Load (size_of w) l more) s.memory) stores r next s way y) h a
      (λ temps kept n. read_then k w (operand.Memory (temp k)) l more stores r next way (with_temps temps u) rest (temps_match s u temps h) (record { at = m.0; is = m.2; number = subst (λ (o : Option ℕ). NumberIf o (temps k)) m.1 n })
      (λ t kept' v. f t (λ j q. kept' j q ∙ kept j q) v)))
