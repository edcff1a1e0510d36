-- A system call is the one instruction that goes on through a call.
use Rattle.std.proofs.Common.{◌≡◌, ℕ, ◌+◌, Bool, true, false, List, [], ◌∷◌, Option, Some, None, Ok, Err, refl, sym, ap, ◌∙◌}
use Rattle.x86_values.specs.declared.word.Word.{Word}
use Rattle.x86_values.specs.declared.word.Flags.{Flags}
use Rattle.x86_values.specs.Words.{word_of, known}
use Rattle.x86_values.specs.Conditions.{condition}
use Rattle.x86_types.specs.declared.instr.Instr.{Instr}
use Rattle.x86_types.specs.declared.instr.Instr.TheVariants as instr
use Rattle.x86_types.specs.Numbers.{size_of}
use Rattle.memory.specs.Memory.{Memory}
use Rattle.x86_meaning.specs.Registers.{Registers, Processor, Naming}
use Rattle.x86_meaning.specs.Operands.{SizedOperand, values_in}
use Rattle.x86_meaning.specs.TransferShapes.{Transfer}
use Rattle.x86_meaning.specs.Transfers.{transfer}
use Rattle.x86_meaning.specs.Outcomes.{Falls, Calls, Computation, on_one, on_two, goes_to, lowered_by, raised_by, movs_computed, stos_computed, jump_computed, jump_to_computed, call_computed, call_to_computed, ret_computed}
use Rattle.x86_meaning.specs.Computing.{compute}
use Rattle.x86_meaning.specs.Effect.{Effect, all_written, effect_of, effect_by, effect}
use Rattle.flag_ir.specs.Accesses.{buffer_accessed}
use Rattle.named_code.specs.Running.{CodeState, performed}
use Rattle.named_code.specs.TestedRun.{call_buffer}
use Rattle.name_cells.specs.CanBePlaced.{IsFalling}
use Rattle.name_cells.proofs.Falling.{all_way, effect_falls}

-- ---- computations that go on by no call
abbrev StaysHere : Computation → Type 0
StaysHere (Err x) = Unit {0}
StaysHere (Ok c) = c.way ≡ Calls → ⊥

on_one_stays : (g : Word → Computation) → ((x : Word) → StaysHere (g x)) → (xs : List Word) → StaysHere (on_one g xs)
on_one_stays g h [] = tt
on_one_stays g h (x ∷ []) = h x
on_one_stays g h (x ∷ y ∷ xs) = tt

on_two_stays : (g : Word → Word → Computation) → ((x y : Word) → StaysHere (g x y)) → (xs : List Word) → StaysHere (on_two g xs)
on_two_stays g h [] = tt
on_two_stays g h (x ∷ []) = tt
on_two_stays g h (x ∷ y ∷ []) = h x y
on_two_stays g h (x ∷ y ∷ z ∷ xs) = tt

goes_on : (values : List Word) (f : Flags) (o : Option ℕ) → StaysHere (goes_to values o f)
goes_on values f None = tt
goes_on values f (Some at) = λ e. absurd cc

jump_stays : (o : Option Bool) (by : ℕ) (f : Flags) → StaysHere (jump_computed o by f)
jump_stays None by f = tt
jump_stays (Some true) by f = λ e. absurd cc
jump_stays (Some false) by f = λ e. absurd cc

movs_stays : (size : ℕ) (f : Flags) (xs : List Word) → StaysHere (movs_computed size f xs)
movs_stays size f [] = λ e. absurd cc
movs_stays size f (x ∷ []) = λ e. absurd cc
movs_stays size f (x ∷ si ∷ []) = λ e. absurd cc
movs_stays size f (x ∷ si ∷ di ∷ []) = λ e. absurd cc
movs_stays size f (x ∷ si ∷ di ∷ cx ∷ []) = λ e. absurd cc
movs_stays size f (x ∷ si ∷ di ∷ cx ∷ y ∷ ys) = λ e. absurd cc

stos_stays : (size : ℕ) (f : Flags) (xs : List Word) → StaysHere (stos_computed size f xs)
stos_stays size f [] = λ e. absurd cc
stos_stays size f (x ∷ []) = λ e. absurd cc
stos_stays size f (x ∷ di ∷ []) = λ e. absurd cc
stos_stays size f (x ∷ di ∷ cx ∷ []) = λ e. absurd cc
stos_stays size f (x ∷ di ∷ cx ∷ y ∷ ys) = λ e. absurd cc

-- ---- effects
of_stays : (writes : List SizedOperand) (regs : Registers) (c : Computation) (e : Effect) → StaysHere c → effect_of writes regs c ≡ Ok e → e.way ≡ Calls → ⊥
of_stays writes regs (Err x) e h k w = absurd cc
of_stays writes regs (Ok c) e h k w =
    let made : Effect = all_written writes c.values (record { cpu = record { regs = regs; flags = c.flags }; stores = []; way = c.way }) in
    let same : made ≡ e = cc in
    h (sym (all_way writes c.values _) ∙ (ap (λ (d : Effect). d.way) same ∙ w))

by_stays : (o : Option Transfer) (i : Instr) (next : ℕ) (cpu : Processor) (m : Memory) (e : Effect) → ((xs : List Word) → StaysHere (compute i next cpu.flags xs)) → effect_by o i next cpu m ≡ Ok e → e.way ≡ Calls → ⊥
by_stays None i next cpu m e h k w = absurd cc
by_stays (Some t) i next cpu m e h k w = of_stays t.writes cpu.regs _ e (h (values_in t.reads cpu.regs m)) k w

abbrev IsTheCall : Instr → Type 0
IsTheCall i = (v : Naming) (next : ℕ) (cpu : Processor) (m : Memory) (e : Effect) → effect v i next cpu m ≡ Ok e → e.way ≡ Calls → i ≡ instr.Int80

other : (i : Instr) → ((next : ℕ) (f : Flags) (xs : List Word) → StaysHere (compute i next f xs)) → IsTheCall i
unfolding effect
other i h v next cpu m e k w = absurd (by_stays (transfer v i cpu.regs) i next cpu m e (h next cpu.flags) k w)

falling : (i : Instr) → IsFalling i → IsTheCall i
falling i h v next cpu m e k w = absurd (let f : Falls ≡ Calls = sym (effect_falls v i next cpu m e h k) ∙ w in cc)

pub call_is : (i : Instr) → IsTheCall i
unfolding compute
call_is (instr.Alu op w to from) = falling (instr.Alu op w to from) tt
call_is (instr.Test w left right) = falling (instr.Test w left right) tt
call_is (instr.Mov w to from) = falling (instr.Mov w to from) tt
call_is (instr.Lea w to at) = falling (instr.Lea w to at) tt
call_is (instr.Inc w to) = falling (instr.Inc w to) tt
call_is (instr.Dec w to) = falling (instr.Dec w to) tt
call_is (instr.Not w to) = falling (instr.Not w to) tt
call_is (instr.Neg w to) = falling (instr.Neg w to) tt
call_is (instr.Mul w from) = falling (instr.Mul w from) tt
call_is (instr.ImulWide w from) = falling (instr.ImulWide w from) tt
call_is (instr.Div w from) = falling (instr.Div w from) tt
call_is (instr.Idiv w from) = falling (instr.Idiv w from) tt
call_is (instr.Imul w to from) = falling (instr.Imul w to from) tt
call_is (instr.ImulBy w to from by) = falling (instr.ImulBy w to from by) tt
call_is (instr.Shift op w to n) = falling (instr.Shift op w to n) tt
call_is (instr.Shld to from n) = falling (instr.Shld to from n) tt
call_is (instr.Shrd to from n) = falling (instr.Shrd to from n) tt
call_is (instr.Push from) = falling (instr.Push from) tt
call_is (instr.Pop to) = falling (instr.Pop to) tt
call_is (instr.Xchg w left right) = falling (instr.Xchg w left right) tt
call_is (instr.Movzx wide w to from) = falling (instr.Movzx wide w to from) tt
call_is (instr.Movsx wide w to from) = falling (instr.Movsx wide w to from) tt
call_is (instr.Cmov c w to from) = falling (instr.Cmov c w to from) tt
call_is (instr.Setcc c to) = falling (instr.Setcc c to) tt
call_is (instr.Extend w) = falling (instr.Extend w) tt
call_is (instr.Spread w) = falling (instr.Spread w) tt
call_is (instr.Bsf w to from) = falling (instr.Bsf w to from) tt
call_is (instr.Bsr w to from) = falling (instr.Bsr w to from) tt
call_is (instr.Bswap to) = falling (instr.Bswap to) tt
call_is (instr.Movs w repeat) = other (instr.Movs w repeat) (λ next f xs. movs_stays (size_of w) f xs)
call_is (instr.Stos w repeat) = other (instr.Stos w repeat) (λ next f xs. stos_stays (size_of w) f xs)
call_is (instr.Jmp by) = other (instr.Jmp by) (λ next f xs e. absurd cc)
call_is (instr.JmpTo to) = other (instr.JmpTo to) (λ next f xs. on_one_stays (jump_to_computed f) (λ x. goes_on [] f (known x)) xs)
call_is (instr.CallTo to) = other (instr.CallTo to) (λ next f xs. on_two_stays (call_to_computed next f) (λ e x. goes_on (word_of next ∷ lowered_by 4 e ∷ []) f (known x)) xs)
call_is (instr.Jcc c by) = other (instr.Jcc c by) (λ next f xs. jump_stays (condition c f) by f)
call_is (instr.Call by) = other (instr.Call by) (λ next f xs. on_one_stays (call_computed by next f) (λ e h. absurd cc) xs)
call_is (instr.Ret drop) = other (instr.Ret drop) (λ next f xs. on_two_stays (ret_computed drop f) (λ e x. goes_on (raised_by (4 + drop) e ∷ []) f (known x)) xs)
call_is instr.Leave = falling instr.Leave tt
call_is instr.Int80 = λ v next cpu m e h w. refl
call_is instr.Cld = falling instr.Cld tt
call_is instr.Nop = falling instr.Nop tt

-- it changes nothing by itself
call_effect : (v : Naming) (next : ℕ) (cpu : Processor) (m : Memory) → effect v instr.Int80 next cpu m ≡ Ok (record { cpu = cpu; stores = []; way = Calls })
unfolding effect transfer compute
call_effect v next cpu m = refl

pub call_stays : (v : Naming) (i : Instr) (s : CodeState) (e : Effect) → effect v i 0 s.cpu s.memory ≡ Ok e → e.way ≡ Calls → performed e s ≡ s
call_stays v i s e h w =
    let is : i ≡ instr.Int80 = call_is i v 0 s.cpu s.memory e h w in
    let both : Ok e ≡ Ok (record { cpu = s.cpu; stores = []; way = Calls }) = sym h ∙ (ap (λ (j : Instr). effect v j 0 s.cpu s.memory) is ∙ call_effect v 0 s.cpu s.memory) in
    let made : e ≡ record { cpu = s.cpu; stores = []; way = Calls } = cc in
    ap (λ (d : Effect). performed d s) made

-- and its buffer is that of what is asked
pub call_asks : (v : Naming) (i : Instr) (s : CodeState) (e : Effect) → effect v i 0 s.cpu s.memory ≡ Ok e → e.way ≡ Calls
    → call_buffer i s ≡ buffer_accessed (known (s.cpu.regs 0)) (known (s.cpu.regs 3)) (known (s.cpu.regs 1)) (known (s.cpu.regs 2))
call_asks v i s e h w = ap (λ (j : Instr). call_buffer j s) (call_is i v 0 s.cpu s.memory e h w)
