-- INT 80h alone makes a system call.
use Rattle.std.proofs.Common.{◌≡◌, ℕ, ◌+◌, Bool, true, false, List, [], ◌∷◌, Option, Some, None, Result, Ok, Err, refl, ◌∙◌}
use Rattle.x86_values.specs.declared.word.Word.{Word}
use Rattle.x86_values.specs.declared.word.Flags.{Flags}
use Rattle.x86_values.specs.declared.divided.Divided.{Divided}
use Rattle.x86_values.specs.declared.divided.Divided.TheVariants as divided
use Rattle.x86_values.specs.Words.{word_of, known}
use Rattle.x86_values.specs.Divisions.{divide}
use Rattle.x86_values.specs.Conditions.{condition}
use Rattle.memory.specs.Memory.{Memory}
use Rattle.x86_types.specs.declared.instr.Instr.{Instr}
use Rattle.x86_types.specs.declared.instr.Instr.TheVariants as instr
use Rattle.x86_types.specs.declared.operation.AluOp.{AluOp}
use Rattle.x86_types.specs.declared.operation.AluOp.TheVariants as alu
use Rattle.x86_types.specs.Numbers.{size_of}
use Rattle.x86_meaning.specs.declared.stop.Stop.{Stop}
use Rattle.x86_meaning.specs.Registers.{Processor}
use Rattle.x86_meaning.specs.Operands as operands
use Rattle.x86_meaning.specs.Operands.{SizedOperand, InRegister, InMemory, Constant}
use Rattle.x86_meaning.specs.TransferShapes.{Transfer}
use Rattle.x86_meaning.specs.Outcomes.{Computation, alu_computed, goes_to, jump_computed, lowered_by, movs_computed, on_one, on_three, on_two, quotient_and_remainder, raised_by, stos_computed}
use Rattle.x86_meaning.specs.Computing.{compute}
use Rattle.x86_meaning.specs.Effect.{Effect, all_written, effect_of, written_to}
use Rattle.x86_step.specs.Finishing.{is_call}
use Rattle.x86_step.specs.Judged.{effect_from, effect_read, values_read}

-- an outcome goes through no system call
abbrev pub CallsNone : Computation → Type 0
CallsNone (Err x) = Unit {0}
CallsNone (Ok c) = is_call c.way ≡ false

one : (f : Word → Computation) → ((x : Word) → CallsNone (f x)) → (xs : List Word) → CallsNone (on_one f xs)
one f h [] = tt
one f h (x ∷ []) = h x
one f h (x ∷ y ∷ xs) = tt

two : (f : Word → Word → Computation) → ((x y : Word) → CallsNone (f x y)) → (xs : List Word) → CallsNone (on_two f xs)
two f h [] = tt
two f h (x ∷ []) = tt
two f h (x ∷ y ∷ []) = h x y
two f h (x ∷ y ∷ z ∷ xs) = tt

three : (f : Word → Word → Word → Computation) → ((x y z : Word) → CallsNone (f x y z)) → (xs : List Word) → CallsNone (on_three f xs)
three f h [] = tt
three f h (x ∷ []) = tt
three f h (x ∷ y ∷ []) = tt
three f h (x ∷ y ∷ z ∷ []) = h x y z
three f h (x ∷ y ∷ z ∷ t ∷ xs) = tt

target : (values : List Word) (o : Option ℕ) (f : Flags) → CallsNone (goes_to values o f)
target values None f = tt
target values (Some a) f = refl

alu_none : (op : AluOp) (size : ℕ) (f : Flags) (x y : Word) → CallsNone (alu_computed op size f x y)
alu_none alu.Add size f x y = refl
alu_none alu.Or size f x y = refl
alu_none alu.Adc size f x y = refl
alu_none alu.Sbb size f x y = refl
alu_none alu.And size f x y = refl
alu_none alu.Sub size f x y = refl
alu_none alu.Xor size f x y = refl
alu_none alu.Cmp size f x y = refl

quotient : (d : Divided) → CallsNone (quotient_and_remainder d)
quotient (divided.Got q r) = refl
quotient divided.Fault = tt
quotient divided.Unspecified = tt

jump : (o : Option Bool) (by : ℕ) (f : Flags) → CallsNone (jump_computed o by f)
jump None by f = tt
jump (Some true) by f = refl
jump (Some false) by f = refl

movs_none : (size : ℕ) (f : Flags) (xs : List Word) → CallsNone (movs_computed size f xs)
movs_none size f [] = refl
movs_none size f (x ∷ []) = refl
movs_none size f (x ∷ y ∷ []) = refl
movs_none size f (x ∷ y ∷ z ∷ []) = refl
movs_none size f (x ∷ y ∷ z ∷ t ∷ []) = refl
movs_none size f (x ∷ y ∷ z ∷ t ∷ u ∷ xs) = refl

stos_none : (size : ℕ) (f : Flags) (xs : List Word) → CallsNone (stos_computed size f xs)
stos_none size f [] = refl
stos_none size f (x ∷ []) = refl
stos_none size f (x ∷ y ∷ []) = refl
stos_none size f (x ∷ y ∷ z ∷ []) = refl
stos_none size f (x ∷ y ∷ z ∷ t ∷ xs) = refl

-- no other instruction does
compute_none : (i : Instr) → (i ≡ instr.Int80 → ⊥) → (n : ℕ) (f : Flags) (xs : List Word) → CallsNone (compute i n f xs)
unfolding compute
compute_none (instr.Alu op w to from) h n f xs = two _ (λ x y. alu_none op (size_of w) f x y) xs
compute_none (instr.Test w to from) h n f xs = two _ (λ x y. refl) xs
compute_none (instr.Mov w to from) h n f xs = one _ (λ x. refl) xs
compute_none (instr.Lea w to at) h n f xs = one _ (λ x. refl) xs
compute_none (instr.Inc w to) h n f xs = one _ (λ x. refl) xs
compute_none (instr.Dec w to) h n f xs = one _ (λ x. refl) xs
compute_none (instr.Not w to) h n f xs = one _ (λ x. refl) xs
compute_none (instr.Neg w to) h n f xs = one _ (λ x. refl) xs
compute_none (instr.Mul w from) h n f xs = two _ (λ x y. refl) xs
compute_none (instr.ImulWide w from) h n f xs = two _ (λ x y. refl) xs
compute_none (instr.Div w from) h n f xs = three _ (λ x y z. quotient (divide false (size_of w) x y z)) xs
compute_none (instr.Idiv w from) h n f xs = three _ (λ x y z. quotient (divide true (size_of w) x y z)) xs
compute_none (instr.Imul w to from) h n f xs = two _ (λ x y. refl) xs
compute_none (instr.ImulBy w to from by) h n f xs = two _ (λ x y. refl) xs
compute_none (instr.Shift op w to k) h n f xs = two _ (λ x y. refl) xs
compute_none (instr.Shld to from k) h n f xs = three _ (λ x y z. refl) xs
compute_none (instr.Shrd to from k) h n f xs = three _ (λ x y z. refl) xs
compute_none (instr.Push from) h n f xs = two _ (λ x y. refl) xs
compute_none (instr.Pop to) h n f xs = two _ (λ x y. refl) xs
compute_none (instr.Xchg w to from) h n f xs = two _ (λ x y. refl) xs
compute_none (instr.Movzx wide w to from) h n f xs = one _ (λ x. refl) xs
compute_none (instr.Movsx wide w to from) h n f xs = one _ (λ x. refl) xs
compute_none (instr.Cmov c w to from) h n f xs = two _ (λ x y. refl) xs
compute_none (instr.Setcc c to) h n f xs = refl
compute_none (instr.Extend w) h n f xs = one _ (λ x. refl) xs
compute_none (instr.Spread w) h n f xs = one _ (λ x. refl) xs
compute_none (instr.Bsf w to from) h n f xs = one _ (λ x. refl) xs
compute_none (instr.Bsr w to from) h n f xs = one _ (λ x. refl) xs
compute_none (instr.Bswap to) h n f xs = one _ (λ x. refl) xs
compute_none (instr.Movs w repeat) h n f xs = movs_none (size_of w) f xs
compute_none (instr.Stos w repeat) h n f xs = stos_none (size_of w) f xs
compute_none (instr.Jmp by) h n f xs = refl
compute_none (instr.JmpTo to) h n f xs = one _ (λ x. target [] (known x) f) xs
compute_none (instr.CallTo to) h n f xs = two _ (λ e x. target (word_of n ∷ lowered_by 4 e ∷ []) (known x) f) xs
compute_none (instr.Jcc c by) h n f xs = jump (condition c f) by f
compute_none (instr.Call by) h n f xs = one _ (λ x. refl) xs
compute_none (instr.Ret drop) h n f xs = two _ (λ e x. target (raised_by (4 + drop) e ∷ []) (known x) f) xs
compute_none instr.Leave h n f xs = two _ (λ x y. refl) xs
compute_none instr.Int80 h n f xs = absurd (h refl)
compute_none instr.Cld h n f xs = refl
compute_none instr.Nop h n f xs = refl

-- what is written changes no way
way_after : (size : ℕ) (l : operands.Location) (w : Word) (e : Effect) → (written_to size l w e).way ≡ e.way
way_after size (InRegister p i) w e = refl
way_after size (InMemory at) w e = refl
way_after size (Constant n) w e = refl

way_after_all : (os : List SizedOperand) (ws : List Word) (e : Effect) → (all_written os ws e).way ≡ e.way
way_after_all [] ws e = refl
way_after_all (o ∷ os) [] e = refl
way_after_all (o ∷ os) (w ∷ ws) e = way_after_all os ws (written_to o.size o.location w e) ∙ way_after o.size o.location w e

-- an effect goes through no system call
abbrev pub EffectCallsNone : Result Effect Stop → Type 0
EffectCallsNone (Err x) = Unit {0}
EffectCallsNone (Ok e) = is_call e.way ≡ false

of_computation : (writes : List SizedOperand) (cpu : Processor) (c : Computation) → CallsNone c → EffectCallsNone (effect_of writes cpu.regs c)
of_computation writes cpu (Err x) h = tt
of_computation writes cpu (Ok c) h = rw way_after_all h

of_values : (t : Transfer) (i : Instr) → (i ≡ instr.Int80 → ⊥) → (n : ℕ) (cpu : Processor) (o : Option (List Word)) → EffectCallsNone (effect_from t i n cpu o)
of_values t i h n cpu None = tt
of_values t i h n cpu (Some xs) = of_computation t.writes cpu (compute i n cpu.flags xs) (compute_none i h n cpu.flags xs)

pub effect_calls_none : (o : Option Transfer) (i : Instr) → (i ≡ instr.Int80 → ⊥) → (n : ℕ) (cpu : Processor) (m : Memory) → EffectCallsNone (effect_read o i n cpu m)
effect_calls_none None i h n cpu m = tt
effect_calls_none (Some t) i h n cpu m = of_values t i h n cpu (values_read t.reads cpu.regs m)
