-- Where the next instruction follows.
use Rattle.std.proofs.Common.{◌≡◌, ℕ, true, false, List, [], ◌∷◌, Option, Some, None, Ok, Err, refl, sym, ap, ◌∙◌}
use Rattle.x86_values.specs.declared.word.Word.{Word}
use Rattle.x86_values.specs.declared.word.Flags.{Flags}
use Rattle.x86_values.specs.declared.divided.Divided.{Divided}
use Rattle.x86_values.specs.declared.divided.Divided.TheVariants as divided
use Rattle.x86_values.specs.Divisions.{divide}
use Rattle.x86_types.specs.declared.operation.AluOp.{AluOp}
use Rattle.x86_types.specs.declared.operation.AluOp.TheVariants as alu
use Rattle.x86_types.specs.declared.instr.Instr.{Instr}
use Rattle.x86_types.specs.declared.instr.Instr.TheVariants as instr
use Rattle.x86_types.specs.Numbers.{size_of}
use Rattle.memory.specs.Memory.{Memory}
use Rattle.x86_meaning.specs.Registers.{Registers, Processor, Naming}
use Rattle.x86_meaning.specs.Operands.{Location, InRegister, InMemory, Constant, SizedOperand, values_in}
use Rattle.x86_meaning.specs.TransferShapes.{Transfer}
use Rattle.x86_meaning.specs.Transfers.{transfer}
use Rattle.x86_meaning.specs.Outcomes.{Falls, Computation, on_one, on_two, on_three, alu_computed, quotient_and_remainder}
use Rattle.x86_meaning.specs.Computing.{compute}
use Rattle.x86_meaning.specs.Effect.{Effect, written_to, all_written, effect_of, effect_by, effect}
use Rattle.name_cells.specs.CanBePlaced.{IsFalling}

abbrev FallsOn : Computation → Type 0
FallsOn (Err x) = Unit {0}
FallsOn (Ok c) = c.way ≡ Falls

one : (g : Word → Computation) → ((x : Word) → FallsOn (g x)) → (xs : List Word) → FallsOn (on_one g xs)
one g h [] = tt
one g h (x ∷ []) = h x
one g h (x ∷ y ∷ xs) = tt

two : (g : Word → Word → Computation) → ((x y : Word) → FallsOn (g x y)) → (xs : List Word) → FallsOn (on_two g xs)
two g h [] = tt
two g h (x ∷ []) = tt
two g h (x ∷ y ∷ []) = h x y
two g h (x ∷ y ∷ z ∷ xs) = tt

three : (g : Word → Word → Word → Computation) → ((x y z : Word) → FallsOn (g x y z)) → (xs : List Word) → FallsOn (on_three g xs)
three g h [] = tt
three g h (x ∷ []) = tt
three g h (x ∷ y ∷ []) = tt
three g h (x ∷ y ∷ z ∷ []) = h x y z
three g h (x ∷ y ∷ z ∷ w ∷ xs) = tt

by_alu : (op : AluOp) (size : ℕ) (f : Flags) (x y : Word) → FallsOn (alu_computed op size f x y)
by_alu alu.Add size f x y = refl
by_alu alu.Or size f x y = refl
by_alu alu.Adc size f x y = refl
by_alu alu.Sbb size f x y = refl
by_alu alu.And size f x y = refl
by_alu alu.Sub size f x y = refl
by_alu alu.Xor size f x y = refl
by_alu alu.Cmp size f x y = refl

by_divided : (d : Divided) → FallsOn (quotient_and_remainder d)
by_divided (divided.Got q r) = refl
by_divided divided.Fault = tt
by_divided divided.Unspecified = tt

compute_falls : (i : Instr) (next : ℕ) (f : Flags) (xs : List Word) → IsFalling i → FallsOn (compute i next f xs)
unfolding compute
compute_falls (instr.Alu op w to from) next f xs h = two _ (by_alu op (size_of w) f) xs
compute_falls (instr.Test w to from) next f xs h = two _ (λ x y. refl) xs
compute_falls (instr.Mov w to from) next f xs h = one _ (λ x. refl) xs
compute_falls (instr.Lea w to at) next f xs h = one _ (λ x. refl) xs
compute_falls (instr.Inc w to) next f xs h = one _ (λ x. refl) xs
compute_falls (instr.Dec w to) next f xs h = one _ (λ x. refl) xs
compute_falls (instr.Not w to) next f xs h = one _ (λ x. refl) xs
compute_falls (instr.Neg w to) next f xs h = one _ (λ x. refl) xs
compute_falls (instr.Mul w from) next f xs h = two _ (λ x y. refl) xs
compute_falls (instr.ImulWide w from) next f xs h = two _ (λ x y. refl) xs
compute_falls (instr.Div w from) next f xs h = three _ (λ x y z. by_divided (divide false (size_of w) x y z)) xs
compute_falls (instr.Idiv w from) next f xs h = three _ (λ x y z. by_divided (divide true (size_of w) x y z)) xs
compute_falls (instr.Imul w to from) next f xs h = two _ (λ x y. refl) xs
compute_falls (instr.ImulBy w to from by) next f xs h = two _ (λ x y. refl) xs
compute_falls (instr.Shift op w to n) next f xs h = two _ (λ x y. refl) xs
compute_falls (instr.Shld to from n) next f xs h = three _ (λ x y z. refl) xs
compute_falls (instr.Shrd to from n) next f xs h = three _ (λ x y z. refl) xs
compute_falls (instr.Push from) next f xs h = two _ (λ x y. refl) xs
compute_falls (instr.Pop to) next f xs h = two _ (λ x y. refl) xs
compute_falls (instr.Xchg w left right) next f xs h = two _ (λ x y. refl) xs
compute_falls (instr.Movzx wide w to from) next f xs h = one _ (λ x. refl) xs
compute_falls (instr.Movsx wide w to from) next f xs h = one _ (λ x. refl) xs
compute_falls (instr.Cmov c w to from) next f xs h = two _ (λ x y. refl) xs
compute_falls (instr.Setcc c to) next f xs h = refl
compute_falls (instr.Extend w) next f xs h = one _ (λ x. refl) xs
compute_falls (instr.Spread w) next f xs h = one _ (λ x. refl) xs
compute_falls (instr.Bsf w to from) next f xs h = one _ (λ x. refl) xs
compute_falls (instr.Bsr w to from) next f xs h = one _ (λ x. refl) xs
compute_falls (instr.Bswap to) next f xs h = one _ (λ x. refl) xs
compute_falls (instr.Movs w repeat) next f xs h = absurd h
compute_falls (instr.Stos w repeat) next f xs h = absurd h
compute_falls (instr.Jmp by) next f xs h = absurd h
compute_falls (instr.JmpTo to) next f xs h = absurd h
compute_falls (instr.CallTo to) next f xs h = absurd h
compute_falls (instr.Jcc c by) next f xs h = absurd h
compute_falls (instr.Call by) next f xs h = absurd h
compute_falls (instr.Ret drop) next f xs h = absurd h
compute_falls instr.Leave next f xs h = two _ (λ x y. refl) xs
compute_falls instr.Int80 next f xs h = absurd h
compute_falls instr.Cld next f xs h = refl
compute_falls instr.Nop next f xs h = refl

written_way : (size : ℕ) (l : Location) (w : Word) (e : Effect) → (written_to size l w e).way ≡ e.way
written_way size (InRegister p i) w e = refl
written_way size (InMemory at) w e = refl
written_way size (Constant n) w e = refl

pub all_way : (os : List SizedOperand) (ws : List Word) (e : Effect) → (all_written os ws e).way ≡ e.way
all_way [] ws e = refl
all_way (o ∷ os) [] e = refl
all_way (o ∷ os) (w ∷ ws) e = all_way os ws (written_to o.size o.location w e) ∙ written_way o.size o.location w e

of_falls : (writes : List SizedOperand) (regs : Registers) (c : Computation) (e : Effect) → FallsOn c → effect_of writes regs c ≡ Ok e → e.way ≡ Falls
of_falls writes regs (Err x) e h k = absurd cc
of_falls writes regs (Ok c) e h k =
    let made : Effect = all_written writes c.values (record { cpu = record { regs = regs; flags = c.flags }; stores = []; way = c.way }) in
    let same : made ≡ e = cc in
    ap (λ (d : Effect). d.way) (sym same) ∙ all_way writes c.values _ ∙ h

by_falls : (o : Option Transfer) (i : Instr) (next : ℕ) (cpu : Processor) (m : Memory) (e : Effect) → IsFalling i → effect_by o i next cpu m ≡ Ok e → e.way ≡ Falls
by_falls None i next cpu m e h k = absurd cc
by_falls (Some t) i next cpu m e h k = of_falls t.writes cpu.regs _ e (compute_falls i next cpu.flags (values_in t.reads cpu.regs m) h) k

pub effect_falls : (v : Naming) (i : Instr) (next : ℕ) (cpu : Processor) (m : Memory) (e : Effect) → IsFalling i → effect v i next cpu m ≡ Ok e → e.way ≡ Falls
unfolding effect
effect_falls v i next cpu m e h k = by_falls (transfer v i cpu.regs) i next cpu m e h k
