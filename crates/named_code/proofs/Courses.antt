-- The way of an effect is as the text of its instruction says.
use Rattle.std.proofs.Common.{◌≡◌, ◌⊎◌, inl, inr, ℕ, Bool, true, false, List, [], ◌∷◌, Option, Some, None, Result, Ok, Err, refl, sym, ap, ◌∙◌, subst}
use Rattle.x86_values.specs.declared.word.Word.{Word}
use Rattle.x86_values.specs.declared.word.Flags.{Flags}
use Rattle.x86_values.specs.declared.divided.Divided.{Divided}
use Rattle.x86_values.specs.declared.divided.Divided.TheVariants as divided
use Rattle.x86_values.specs.Words.{known}
use Rattle.x86_values.specs.Divisions.{divide}
use Rattle.x86_values.specs.Conditions.{condition}
use Rattle.memory.specs.Memory.{Memory}
use Rattle.x86_types.specs.declared.operation.AluOp.{AluOp}
use Rattle.x86_types.specs.declared.operation.AluOp.TheVariants as alu
use Rattle.x86_types.specs.declared.width.Width.{Width}
use Rattle.x86_types.specs.declared.instr.Instr.{Instr}
use Rattle.x86_types.specs.declared.instr.Instr.TheVariants as instr
use Rattle.x86_types.specs.Numbers.{size_of}
use Rattle.x86_meaning.specs.declared.stop.Stop.{Stop}
use Rattle.x86_meaning.specs.Registers.{Registers, Processor, Naming}
use Rattle.x86_meaning.specs.Operands.{Location, InRegister, InMemory, Constant, SizedOperand, values_in}
use Rattle.x86_meaning.specs.TransferShapes.{Transfer, movs_transfer, stos_transfer}
use Rattle.x86_meaning.specs.Transfers.{transfer}
use Rattle.x86_meaning.specs.Outcomes.{Way, Calls, Computation, on_one, on_two, on_three, alu_computed, quotient_and_remainder, goes_to, jump_computed}
use Rattle.x86_meaning.specs.Effect.{Effect, written_to, all_written, effect_of, effect_by, effect}
use Rattle.x86_meaning.specs.Computing.{compute}
use Rattle.named_code.specs.Weight.{Course, Next, ToBlock, Either, ToOld, Again, course_of, IsWayOf}

-- the next instruction alone follows, and no call
abbrev IsQuiet : Course → Way → Type 0
IsQuiet Next Calls = ⊥
IsQuiet _ _ = Unit {0}

abbrev IsExactWay : Course → Way → Type 0
IsExactWay k w = IsWayOf k w × IsQuiet k w

abbrev IsComputedBy : Course → Computation → Type 0
IsComputedBy k (Ok c) = IsExactWay k c.way
IsComputedBy k (Err e) = Unit {0}

abbrev IsMadeBy : Course → Result Effect Stop → Type 0
IsMadeBy k (Ok e) = IsExactWay k e.way
IsMadeBy k (Err e) = Unit {0}

-- ---- what is written keeps the way
written_way : (size : ℕ) (l : Location) (w : Word) (e : Effect) → (written_to size l w e).way ≡ e.way
written_way size (InRegister p i) w e = refl
written_way size (InMemory at) w e = refl
written_way size (Constant n) w e = refl

all_written_way : (os : List SizedOperand) (ws : List Word) (e : Effect) → (all_written os ws e).way ≡ e.way
all_written_way [] ws e = refl
all_written_way (o ∷ os) [] e = refl
all_written_way (o ∷ os) (w ∷ ws) e = all_written_way os ws (written_to o.size o.location w e) ∙ written_way o.size o.location w e

of_computed : (k : Course) (os : List SizedOperand) (regs : Registers) (c : Computation) → IsComputedBy k c → IsMadeBy k (effect_of os regs c)
of_computed k os regs (Ok c) h = subst (IsExactWay k) (sym (all_written_way os c.values (record { cpu = record { regs = regs; flags = c.flags }; stores = []; way = c.way }))) h
of_computed k os regs (Err e) h = tt

by_transfer : (k : Course) (i : Instr) (t : Option Transfer) (n : ℕ) (cpu : Processor) (m : Memory) → ((xs : List Word) → IsComputedBy k (compute i n cpu.flags xs)) → IsMadeBy k (effect_by t i n cpu m)
by_transfer k i None n cpu m h = tt
by_transfer k i (Some t) n cpu m h = of_computed k t.writes cpu.regs _ (h (values_in t.reads cpu.regs m))

-- ---- by how many operands were read
one_by : (k : Course) (f : Word → Computation) → ((x : Word) → IsComputedBy k (f x)) → (xs : List Word) → IsComputedBy k (on_one f xs)
one_by k f h [] = tt
one_by k f h (x ∷ []) = h x
one_by k f h (x ∷ y ∷ xs) = tt

two_by : (k : Course) (f : Word → Word → Computation) → ((x y : Word) → IsComputedBy k (f x y)) → (xs : List Word) → IsComputedBy k (on_two f xs)
two_by k f h [] = tt
two_by k f h (x ∷ []) = tt
two_by k f h (x ∷ y ∷ []) = h x y
two_by k f h (x ∷ y ∷ z ∷ xs) = tt

three_by : (k : Course) (f : Word → Word → Word → Computation) → ((x y z : Word) → IsComputedBy k (f x y z)) → (xs : List Word) → IsComputedBy k (on_three f xs)
three_by k f h [] = tt
three_by k f h (x ∷ []) = tt
three_by k f h (x ∷ y ∷ []) = tt
three_by k f h (x ∷ y ∷ z ∷ []) = h x y z
three_by k f h (x ∷ y ∷ z ∷ u ∷ xs) = tt

-- ---- computations by cases
alu_by : (op : AluOp) (size : ℕ) (f : Flags) (x y : Word) → IsComputedBy Next (alu_computed op size f x y)
alu_by alu.Add size f x y = (tt, tt)
alu_by alu.Or size f x y = (tt, tt)
alu_by alu.Adc size f x y = (tt, tt)
alu_by alu.Sbb size f x y = (tt, tt)
alu_by alu.And size f x y = (tt, tt)
alu_by alu.Sub size f x y = (tt, tt)
alu_by alu.Xor size f x y = (tt, tt)
alu_by alu.Cmp size f x y = (tt, tt)

divided_by : (d : Divided) → IsComputedBy Next (quotient_and_remainder d)
divided_by (divided.Got q r) = (tt, tt)
divided_by divided.Fault = tt
divided_by divided.Unspecified = tt

target_by : (ws : List Word) (o : Option ℕ) (f : Flags) → IsComputedBy ToOld (goes_to ws o f)
target_by ws None f = tt
target_by ws (Some a) f = (tt, tt)

jump_by : (o : Option Bool) (n : ℕ) (f : Flags) → IsComputedBy (Either n) (jump_computed o n f)
jump_by None n f = tt
jump_by (Some true) n f = (refl, tt)
jump_by (Some false) n f = (tt, tt)

module _ (v : Naming) (n : ℕ) (cpu : Processor) (m : Memory) where
  -- a string instruction without a repeat
  movs_by : (w : Width) (from to : Option ℕ) → IsMadeBy Next (effect_by (movs_transfer (size_of w) from to []) (instr.Movs w false) n cpu m)
  unfolding compute
  movs_by w (Some a) (Some b) = (tt, tt)
  movs_by w (Some a) None = tt
  movs_by w None b = tt

  stos_by : (w : Width) (to : Option ℕ) → IsMadeBy Next (effect_by (stos_transfer w to []) (instr.Stos w false) n cpu m)
  unfolding compute
  stos_by w (Some a) = (tt, tt)
  stos_by w None = tt

  by : (k : Course) (i : Instr) → ((xs : List Word) → IsComputedBy k (compute i n cpu.flags xs)) → IsMadeBy k (effect v i n cpu m)
  unfolding effect
  by k i h = by_transfer k i (transfer v i cpu.regs) n cpu m h

  plain_movs : (w : Width) → IsMadeBy Next (effect v (instr.Movs w false) n cpu m)
  unfolding effect transfer
  plain_movs w = movs_by w (known (cpu.regs 6)) (known (cpu.regs 7))

  plain_stos : (w : Width) → IsMadeBy Next (effect v (instr.Stos w false) n cpu m)
  unfolding effect transfer
  plain_stos w = stos_by w (known (cpu.regs 7))

  again : (r : Result Effect Stop) → IsMadeBy Again r
  again (Ok e) = (tt, tt)
  again (Err e) = tt

  made_by : (i : Instr) → IsMadeBy (course_of i) (effect v i n cpu m) ⊎ (i ≡ instr.Int80)
  unfolding compute
  made_by (instr.Alu op w to from) = inl (by Next _ (two_by Next _ (λ x y. alu_by op (size_of w) cpu.flags x y)))
  made_by (instr.Test w left right) = inl (by Next _ (two_by Next _ (λ x y. (tt, tt))))
  made_by (instr.Mov w to from) = inl (by Next _ (one_by Next _ (λ x. (tt, tt))))
  made_by (instr.Lea w to at) = inl (by Next _ (one_by Next _ (λ x. (tt, tt))))
  made_by (instr.Inc w to) = inl (by Next _ (one_by Next _ (λ x. (tt, tt))))
  made_by (instr.Dec w to) = inl (by Next _ (one_by Next _ (λ x. (tt, tt))))
  made_by (instr.Not w to) = inl (by Next _ (one_by Next _ (λ x. (tt, tt))))
  made_by (instr.Neg w to) = inl (by Next _ (one_by Next _ (λ x. (tt, tt))))
  made_by (instr.Mul w from) = inl (by Next _ (two_by Next _ (λ x y. (tt, tt))))
  made_by (instr.ImulWide w from) = inl (by Next _ (two_by Next _ (λ x y. (tt, tt))))
  made_by (instr.Div w from) = inl (by Next _ (three_by Next _ (λ x y z. divided_by (divide false (size_of w) x y z))))
  made_by (instr.Idiv w from) = inl (by Next _ (three_by Next _ (λ x y z. divided_by (divide true (size_of w) x y z))))
  made_by (instr.Imul w to from) = inl (by Next _ (two_by Next _ (λ x y. (tt, tt))))
  made_by (instr.ImulBy w to from b) = inl (by Next _ (two_by Next _ (λ x y. (tt, tt))))
  made_by (instr.Shift op w to k) = inl (by Next _ (two_by Next _ (λ x y. (tt, tt))))
  made_by (instr.Shld to from k) = inl (by Next _ (three_by Next _ (λ x y z. (tt, tt))))
  made_by (instr.Shrd to from k) = inl (by Next _ (three_by Next _ (λ x y z. (tt, tt))))
  made_by (instr.Push from) = inl (by Next _ (two_by Next _ (λ x y. (tt, tt))))
  made_by (instr.Pop to) = inl (by Next _ (two_by Next _ (λ x y. (tt, tt))))
  made_by (instr.Xchg w left right) = inl (by Next _ (two_by Next _ (λ x y. (tt, tt))))
  made_by (instr.Movzx wide w to from) = inl (by Next _ (one_by Next _ (λ x. (tt, tt))))
  made_by (instr.Movsx wide w to from) = inl (by Next _ (one_by Next _ (λ x. (tt, tt))))
  made_by (instr.Cmov c w to from) = inl (by Next _ (two_by Next _ (λ x y. (tt, tt))))
  made_by (instr.Setcc c to) = inl (by Next _ (λ xs. (tt, tt)))
  made_by (instr.Extend w) = inl (by Next _ (one_by Next _ (λ x. (tt, tt))))
  made_by (instr.Spread w) = inl (by Next _ (one_by Next _ (λ x. (tt, tt))))
  made_by (instr.Bsf w to from) = inl (by Next _ (one_by Next _ (λ x. (tt, tt))))
  made_by (instr.Bsr w to from) = inl (by Next _ (one_by Next _ (λ x. (tt, tt))))
  made_by (instr.Bswap to) = inl (by Next _ (one_by Next _ (λ x. (tt, tt))))
  made_by (instr.Movs w true) = inl (again _)
  made_by (instr.Movs w false) = inl (plain_movs w)
  made_by (instr.Stos w true) = inl (again _)
  made_by (instr.Stos w false) = inl (plain_stos w)
  made_by (instr.Jmp b) = inl (by (ToBlock b) _ (λ xs. (refl, tt)))
  made_by (instr.JmpTo to) = inl (by ToOld _ (one_by ToOld _ (λ x. target_by [] (known x) cpu.flags)))
  made_by (instr.CallTo to) = inl (by ToOld _ (two_by ToOld _ (λ x y. target_by _ (known y) cpu.flags)))
  made_by (instr.Jcc c b) = inl (by (Either b) _ (λ xs. jump_by (condition c cpu.flags) b cpu.flags))
  made_by (instr.Call b) = inl (by (ToBlock b) _ (one_by (ToBlock b) _ (λ x. (refl, tt))))
  made_by (instr.Ret drop) = inl (by ToOld _ (two_by ToOld _ (λ x y. target_by _ (known y) cpu.flags)))
  made_by instr.Leave = inl (by Next _ (two_by Next _ (λ x y. (tt, tt))))
  made_by instr.Int80 = inr refl
  made_by instr.Cld = inl (by Next _ (λ xs. (tt, tt)))
  made_by instr.Nop = inl (by Next _ (λ xs. (tt, tt)))

-- a system call goes on through the call
call_effect : (v : Naming) (n : ℕ) (cpu : Processor) (m : Memory) → effect v instr.Int80 n cpu m ≡ Ok (record { cpu = cpu; stores = []; way = Calls })
unfolding effect transfer compute
call_effect v n cpu m = refl

way_made : Result Effect Stop → Way
way_made (Ok e) = e.way
way_made (Err e) = Calls

-- an effect's way is one of the course of its instruction
pub way_is : (v : Naming) (i : Instr) (n : ℕ) (cpu : Processor) (m : Memory) (e : Effect) → effect v i n cpu m ≡ Ok e → IsWayOf (course_of i) e.way
unfolding way_made
way_is v i n cpu m e h = by (made_by v n cpu m i)
  where
    by : IsMadeBy (course_of i) (effect v i n cpu m) ⊎ (i ≡ instr.Int80) → IsWayOf (course_of i) e.way
    by (inl made) = (subst (IsMadeBy (course_of i)) h made).0
    by (inr is) =
        let calls : Calls ≡ e.way = ap way_made (sym (call_effect v n cpu m) ∙ (ap (λ j. effect v j n cpu m) (sym is) ∙ h)) in
        subst (IsWayOf (course_of i)) calls (subst (λ j. IsWayOf (course_of j) Calls) (sym is) tt)

-- the next instruction follows through a call behind INT 80h alone
pub calls_is : (v : Naming) (i : Instr) (n : ℕ) (cpu : Processor) (m : Memory) (e : Effect) → effect v i n cpu m ≡ Ok e → course_of i ≡ Next → e.way ≡ Calls → i ≡ instr.Int80
calls_is v i n cpu m e h next calls = by (made_by v n cpu m i)
  where
    by : IsMadeBy (course_of i) (effect v i n cpu m) ⊎ (i ≡ instr.Int80) → i ≡ instr.Int80
    by (inl made) = let quiet : IsQuiet (course_of i) e.way = (subst (IsMadeBy (course_of i)) h made).1 in absurd (subst (λ w. IsQuiet Next w) calls (subst (λ k. IsQuiet k e.way) next quiet))
    by (inr is) = is
