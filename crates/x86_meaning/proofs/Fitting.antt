-- Each instruction computes a value for each operand that it writes.
use Rattle.std.proofs.Common.{ℕ, ◌+◌, ◌≤◌, Bool, true, false, cond, List, [], ◌∷◌, Option, Some, None, Ok, Err, arith}
use Rattle.x86_values.specs.declared.word.Word.{Word}
use Rattle.x86_values.specs.declared.word.Flags.{Flags}
use Rattle.x86_values.specs.declared.product.Product.{Product}
use Rattle.x86_values.specs.declared.divided.Divided.{Divided}
use Rattle.x86_values.specs.declared.divided.Divided.TheVariants as divided
use Rattle.x86_values.specs.Words.{word_of, known}
use Rattle.x86_values.specs.Products.{multiply}
use Rattle.x86_values.specs.Conditions.{condition}
use Rattle.memory.specs.Memory.{Memory}
use Rattle.x86_types.specs.declared.instr.Instr.{Instr}
use Rattle.x86_types.specs.declared.instr.Instr.TheVariants as instr
use Rattle.x86_types.specs.declared.operation.AluOp.{AluOp}
use Rattle.x86_types.specs.declared.operation.AluOp.TheVariants as alu
use Rattle.x86_types.specs.declared.width.Width.{Width}
use Rattle.x86_types.specs.declared.width.Width.TheVariants.{One, Two, Four}
use Rattle.x86_types.specs.Numbers.{size_of}
use Rattle.x86_meaning.specs.Registers.{Registers, Naming}
use Rattle.x86_meaning.specs.Operands.{Location, SizedOperand, operand, field, value_in, values_in}
use Rattle.x86_meaning.specs.TransferShapes.{Transfer, esp, down, register, constant, stack_word, accumulator, upper_accumulator, move_transfer, combine_transfer, compare_transfer, update_transfer, set_transfer, read_transfer, is_same_register, alu_reads, alu_writes, alu_transfer, multiply_transfer, divide_transfer, multiply_by_transfer, shift_transfer, double_shift_transfer, exchange_transfer, movs_transfer, stos_transfer}
use Rattle.x86_meaning.specs.Transfers.{transfer}
use Rattle.x86_meaning.specs.Outcomes.{Computation, raised_by, lowered_by, on_two, alu_computed, both_halves, goes_to, quotient_and_remainder, jump_computed}
use Rattle.x86_meaning.specs.Computing.{compute}
use Rattle.x86_meaning.proofs.TransferCases.{one, two, push, push_from, pop, pop_at, leave, movs, stos, string}

-- as many values as operands, each operand of at most four bytes
abbrev pub Fits : List SizedOperand → List Word → Type 0
Fits [] [] = Unit {0}
Fits [] (w ∷ ws) = ⊥
Fits (o ∷ os) [] = ⊥
Fits (o ∷ os) (w ∷ ws) = (o.size ≤ 4) × Fits os ws

-- so does an outcome, where it is one of values
abbrev pub OutcomeFits : List SizedOperand → Computation → Type 0
OutcomeFits writes (Err x) = Unit {0}
OutcomeFits writes (Ok c) = Fits writes c.values

abbrev pub TransferFits : Option Transfer → Instr → ℕ → Flags → Registers → Memory → Type 0
TransferFits None i next f regs m = Unit {0}
TransferFits (Some t) i next f regs m = OutcomeFits t.writes (compute i next f (values_in t.reads regs m))

small : (w : Width) → size_of w ≤ 4
small One = omega arith
small Two = omega arith
small Four = omega arith

four : 4 ≤ 4
four = omega arith

target_fits : (writes : List SizedOperand) (values : List Word) (o : Option ℕ) (f : Flags) → Fits writes values → OutcomeFits writes (goes_to values o f)
target_fits writes values None f h = tt
target_fits writes values (Some a) f h = h

jump_fits : (o : Option Bool) (by : ℕ) (f : Flags) → OutcomeFits [] (jump_computed o by f)
jump_fits None by f = tt
jump_fits (Some true) by f = tt
jump_fits (Some false) by f = tt

either_reads : (P : List SizedOperand → Type 0) (b : Bool) (xs ys : List SizedOperand) → P xs → P ys → P (cond b xs ys)
either_reads P true xs ys h k = h
either_reads P false xs ys h k = k

-- both operands of an operation that cancels may be constants
cancelled_fits : (op : AluOp) (w : Width) (to from : Location) (f : Flags) (regs : Registers) (m : Memory) (b : Bool) (writes : List SizedOperand) → ((x y : Word) → OutcomeFits writes (alu_computed op (size_of w) f x y))
    → OutcomeFits writes (on_two (alu_computed op (size_of w) f) (values_in (cond b (constant (size_of w) 0 ∷ constant (size_of w) 0 ∷ []) (operand (size_of w) to ∷ operand (size_of w) from ∷ [])) regs m))
cancelled_fits op w to from f regs m b writes h = either_reads (λ xs. OutcomeFits writes (on_two (alu_computed op (size_of w) f) (values_in xs regs m))) b _ _ (h _ _) (h _ _)

alu_fits : (op : AluOp) (w : Width) (to from : Location) (f : Flags) (regs : Registers) (m : Memory) → OutcomeFits (alu_writes op (size_of w) to) (on_two (alu_computed op (size_of w) f) (values_in (alu_reads op (size_of w) to from) regs m))
alu_fits alu.Add w to from f regs m = (small w, tt)
alu_fits alu.Or w to from f regs m = (small w, tt)
alu_fits alu.Adc w to from f regs m = (small w, tt)
alu_fits alu.And w to from f regs m = (small w, tt)
alu_fits alu.Sbb w to from f regs m = cancelled_fits alu.Sbb w to from f regs m (is_same_register to from) (operand (size_of w) to ∷ []) (λ x y. (small w, tt))
alu_fits alu.Sub w to from f regs m = cancelled_fits alu.Sub w to from f regs m (is_same_register to from) (operand (size_of w) to ∷ []) (λ x y. (small w, tt))
alu_fits alu.Xor w to from f regs m = cancelled_fits alu.Xor w to from f regs m (is_same_register to from) (operand (size_of w) to ∷ []) (λ x y. (small w, tt))
alu_fits alu.Cmp w to from f regs m = cancelled_fits alu.Cmp w to from f regs m (is_same_register to from) [] (λ x y. tt)

upper_fits : (w : Width) (a b : Word) → Fits (accumulator w ∷ upper_accumulator w ∷ []) (a ∷ b ∷ [])
upper_fits One a b = (omega arith, (omega arith, tt))
upper_fits Two a b = (omega arith, (omega arith, tt))
upper_fits Four a b = (omega arith, (omega arith, tt))

halves_fit : (w : Width) (p : Product) → OutcomeFits (accumulator w ∷ upper_accumulator w ∷ []) (both_halves p)
halves_fit w p = upper_fits w p.low p.high

quotient_fits : (w : Width) (d : Divided) → OutcomeFits (accumulator w ∷ upper_accumulator w ∷ []) (quotient_and_remainder d)
quotient_fits w (divided.Got q r) = upper_fits w q r
quotient_fits w divided.Fault = tt
quotient_fits w divided.Unspecified = tt

pub transfer_fits : (v : Naming) (i : Instr) (n : ℕ) (f : Flags) (regs : Registers) (m : Memory) → TransferFits (transfer v i regs) i n f regs m
unfolding transfer compute
transfer_fits v (instr.Alu op w to from) n f regs m = two (λ t. TransferFits t (instr.Alu op w to from) n f regs m) tt (alu_transfer op (size_of w)) _ _ (λ a b. alu_fits op w a b f regs m)
transfer_fits v (instr.Test w to from) n f regs m = two (λ t. TransferFits t (instr.Test w to from) n f regs m) tt (compare_transfer (size_of w)) _ _ (λ a b. tt)
transfer_fits v (instr.Mov w to from) n f regs m = two (λ t. TransferFits t (instr.Mov w to from) n f regs m) tt (move_transfer (size_of w) (size_of w)) _ _ (λ a b. (small w, tt))
transfer_fits v (instr.Lea w to at) n f regs m = (small w, tt)
transfer_fits v (instr.Inc w to) n f regs m = one (λ t. TransferFits t (instr.Inc w to) n f regs m) tt (update_transfer (size_of w)) _ (λ a. (small w, tt))
transfer_fits v (instr.Dec w to) n f regs m = one (λ t. TransferFits t (instr.Dec w to) n f regs m) tt (update_transfer (size_of w)) _ (λ a. (small w, tt))
transfer_fits v (instr.Not w to) n f regs m = one (λ t. TransferFits t (instr.Not w to) n f regs m) tt (update_transfer (size_of w)) _ (λ a. (small w, tt))
transfer_fits v (instr.Neg w to) n f regs m = one (λ t. TransferFits t (instr.Neg w to) n f regs m) tt (update_transfer (size_of w)) _ (λ a. (small w, tt))
transfer_fits v (instr.Mul w from) n f regs m = one (λ t. TransferFits t (instr.Mul w from) n f regs m) tt (multiply_transfer w) _ (λ a. halves_fit w (multiply false (size_of w) (value_in (accumulator w) regs m) (value_in (operand (size_of w) a) regs m)))
transfer_fits v (instr.ImulWide w from) n f regs m = one (λ t. TransferFits t (instr.ImulWide w from) n f regs m) tt (multiply_transfer w) _ (λ a. halves_fit w (multiply true (size_of w) (value_in (accumulator w) regs m) (value_in (operand (size_of w) a) regs m)))
transfer_fits v (instr.Div w from) n f regs m = one (λ t. TransferFits t (instr.Div w from) n f regs m) tt (divide_transfer w) _ (λ a. quotient_fits w _)
transfer_fits v (instr.Idiv w from) n f regs m = one (λ t. TransferFits t (instr.Idiv w from) n f regs m) tt (divide_transfer w) _ (λ a. quotient_fits w _)
transfer_fits v (instr.Imul w to from) n f regs m = one (λ t. TransferFits t (instr.Imul w to from) n f regs m) tt (combine_transfer (size_of w) (field v w to)) _ (λ a. (small w, tt))
transfer_fits v (instr.ImulBy w to from by) n f regs m = one (λ t. TransferFits t (instr.ImulBy w to from by) n f regs m) tt (multiply_by_transfer (size_of w) by (field v w to)) _ (λ a. (small w, tt))
transfer_fits v (instr.Shift op w to k) n f regs m = one (λ t. TransferFits t (instr.Shift op w to k) n f regs m) tt (shift_transfer (size_of w) k) _ (λ a. (small w, tt))
transfer_fits v (instr.Shld to from k) n f regs m = two (λ t. TransferFits t (instr.Shld to from k) n f regs m) tt (double_shift_transfer k) _ _ (λ a b. (four, tt))
transfer_fits v (instr.Shrd to from k) n f regs m = two (λ t. TransferFits t (instr.Shrd to from k) n f regs m) tt (double_shift_transfer k) _ _ (λ a b. (four, tt))
transfer_fits v (instr.Push from) n f regs m = push_from (λ t. TransferFits t (instr.Push from) n f regs m) tt _ _ (λ a at. (four, (four, tt)))
transfer_fits v (instr.Pop to) n f regs m = pop_at (λ t. TransferFits t (instr.Pop to) n f regs m) tt _ _ (λ a at. (four, (four, tt)))
transfer_fits v (instr.Xchg w to from) n f regs m = one (λ t. TransferFits t (instr.Xchg w to from) n f regs m) tt (exchange_transfer (size_of w) (field v w from)) _ (λ a. (small w, (small w, tt)))
transfer_fits v (instr.Movzx wide w to from) n f regs m = one (λ t. TransferFits t (instr.Movzx wide w to from) n f regs m) tt (move_transfer (size_of wide) (size_of w) (field v wide to)) _ (λ a. (small wide, tt))
transfer_fits v (instr.Movsx wide w to from) n f regs m = one (λ t. TransferFits t (instr.Movsx wide w to from) n f regs m) tt (move_transfer (size_of wide) (size_of w) (field v wide to)) _ (λ a. (small wide, tt))
transfer_fits v (instr.Cmov c w to from) n f regs m = one (λ t. TransferFits t (instr.Cmov c w to from) n f regs m) tt (combine_transfer (size_of w) (field v w to)) _ (λ a. (small w, tt))
transfer_fits v (instr.Setcc c to) n f regs m = one (λ t. TransferFits t (instr.Setcc c to) n f regs m) tt (set_transfer 1) _ (λ a. (omega arith, tt))
transfer_fits v (instr.Extend w) n f regs m = (small w, tt)
transfer_fits v (instr.Spread w) n f regs m = (small w, tt)
transfer_fits v (instr.Bsf w to from) n f regs m = one (λ t. TransferFits t (instr.Bsf w to from) n f regs m) tt (move_transfer (size_of w) (size_of w) (field v w to)) _ (λ a. (small w, tt))
transfer_fits v (instr.Bsr w to from) n f regs m = one (λ t. TransferFits t (instr.Bsr w to from) n f regs m) tt (move_transfer (size_of w) (size_of w) (field v w to)) _ (λ a. (small w, tt))
transfer_fits v (instr.Bswap to) n f regs m = (four, tt)
transfer_fits v (instr.Movs w repeat) n f regs m =
    let P : Option Transfer → Type 0 = λ t. TransferFits t (instr.Movs w repeat) n f regs m in
    string P tt repeat _ (movs_transfer (size_of w) (known (regs 6)) (known (regs 7))) (movs P tt (size_of w) _ _ [] (λ a b. (small w, (four, (four, tt))))) tt (movs P tt (size_of w) _ _ (register 4 1 ∷ []) (λ a b. (small w, (four, (four, (four, tt))))))
transfer_fits v (instr.Stos w repeat) n f regs m =
    let P : Option Transfer → Type 0 = λ t. TransferFits t (instr.Stos w repeat) n f regs m in
    string P tt repeat _ (stos_transfer w (known (regs 7))) (stos P tt w _ [] (λ a. (small w, (four, tt)))) tt (stos P tt w _ (register 4 1 ∷ []) (λ a. (small w, (four, (four, tt)))))
transfer_fits v (instr.Jmp by) n f regs m = tt
transfer_fits v (instr.JmpTo to) n f regs m = one (λ t. TransferFits t (instr.JmpTo to) n f regs m) tt (read_transfer 4) _ (λ a. target_fits [] [] (known (value_in (operand 4 a) regs m)) f tt)
transfer_fits v (instr.CallTo to) n f regs m = push_from (λ t. TransferFits t (instr.CallTo to) n f regs m) tt _ _ (λ a at. target_fits (stack_word (down 4 at) ∷ esp ∷ []) (word_of n ∷ lowered_by 4 (value_in esp regs m) ∷ []) (known (value_in (operand 4 a) regs m)) f (four, (four, tt)))
transfer_fits v (instr.Jcc c by) n f regs m = jump_fits (condition c f) by f
transfer_fits v (instr.Call by) n f regs m = push (λ t. TransferFits t (instr.Call by) n f regs m) tt [] _ (λ at. (four, (four, tt)))
transfer_fits v (instr.Ret drop) n f regs m = pop (λ t. TransferFits t (instr.Ret drop) n f regs m) tt [] _ (λ at. target_fits (esp ∷ []) (raised_by (4 + drop) (value_in esp regs m) ∷ []) (known (value_in (stack_word at) regs m)) f (four, tt))
transfer_fits v instr.Leave n f regs m = leave (λ t. TransferFits t instr.Leave n f regs m) tt _ (λ at. (four, (four, tt)))
transfer_fits v instr.Int80 n f regs m = tt
transfer_fits v instr.Cld n f regs m = tt
transfer_fits v instr.Nop n f regs m = tt
