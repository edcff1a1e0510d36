-- The effects of jumps, calls, the stack and LEA, whose values and outcome are known.
use Rattle.std.proofs.Common.{◌≡◌, ℕ, true, false, List, [], ◌∷◌, Some, refl, ap, ◌∙◌}
use Rattle.x86_values.specs.declared.word.Word.{Word}
use Rattle.x86_values.specs.Words.{known}
use Rattle.x86_values.specs.Conditions.{condition}
use Rattle.memory.specs.Memory.{Memory}
use Rattle.x86_types.specs.declared.instr.Instr.TheVariants as instr
use Rattle.x86_types.specs.declared.operand.Rm.TheVariants as rm
use Rattle.x86_types.specs.declared.operand.Reg.{Reg}
use Rattle.x86_types.specs.declared.operand.Address.{Address}
use Rattle.x86_types.specs.declared.operand.Src.{Src}
use Rattle.x86_types.specs.declared.operation.Cond.{Cond}
use Rattle.x86_types.specs.declared.width.Width.{Width}
use Rattle.x86_types.specs.declared.width.Width.TheVariants.{Four}
use Rattle.x86_types.specs.Numbers.{number_of_reg, size_of}
use Rattle.x86_meaning.specs.declared.state.Cpu.{Cpu}
use Rattle.x86_meaning.specs.Registers.{machine_naming}
use Rattle.x86_meaning.specs.Operands.{Location, Constant, InRegister, effective_address, field, operand, source_of}
use Rattle.x86_meaning.specs.TransferShapes.{down, esp, leave_transfer, move_transfer, pop_to, pop_transfer, push_of, push_transfer, register, stack_word, transfer_of}
use Rattle.x86_meaning.specs.Transfers.{transfer}
use Rattle.x86_meaning.specs.Outcomes.{Computation, Falls, JumpsBy, call_computed, computed, jump_computed, move_computed, on_one, on_two, pop_computed, push_computed, ret_computed}
use Rattle.x86_meaning.specs.Computing.{compute}
use Rattle.x86_meaning.specs.Effect.{effect_of}
use Rattle.x86_step.specs.Judged.{effect_read, processor_of, values_read}
use Rattle.x86_step.specs.Steps.{registers_of}
use Rattle.x86_step.proofs.Made.{effect_is}

pub jmp_form : (by : ℕ) (next : ℕ) (c : Cpu) (m : Memory) → effect_of [] (registers_of c.regs) (computed [] c.flags (JumpsBy by)) ≡ effect_read (transfer machine_naming (instr.Jmp by) (registers_of c.regs)) (instr.Jmp by) next (processor_of c) m
unfolding transfer compute
jmp_form by next c m = effect_is (instr.Jmp by) (transfer_of [] []) [] (computed [] c.flags (JumpsBy by)) next c m refl refl refl

pub jumps_form : (cond : Cond) (by : ℕ) (next : ℕ) (c : Cpu) (m : Memory) → Some true ≡ condition cond c.flags → effect_of [] (registers_of c.regs) (computed [] c.flags (JumpsBy by)) ≡ effect_read (transfer machine_naming (instr.Jcc cond by) (registers_of c.regs)) (instr.Jcc cond by) next (processor_of c) m
unfolding transfer compute
jumps_form cond by next c m h = effect_is (instr.Jcc cond by) (transfer_of [] []) [] (computed [] c.flags (JumpsBy by)) next c m refl refl (ap (λ o. jump_computed o by c.flags) h)

pub falls_form : (cond : Cond) (by : ℕ) (next : ℕ) (c : Cpu) (m : Memory) → Some false ≡ condition cond c.flags → effect_of [] (registers_of c.regs) (computed [] c.flags Falls) ≡ effect_read (transfer machine_naming (instr.Jcc cond by) (registers_of c.regs)) (instr.Jcc cond by) next (processor_of c) m
unfolding transfer compute
falls_form cond by next c m h = effect_is (instr.Jcc cond by) (transfer_of [] []) [] (computed [] c.flags Falls) next c m refl refl (ap (λ o. jump_computed o by c.flags) h)

pub ret_form : (drop : ℕ) (next : ℕ) (c : Cpu) (m : Memory) (at : ℕ) (xs : List Word) (k : Computation) → Some at ≡ known (registers_of c.regs 4) → Some xs ≡ values_read (esp ∷ stack_word at ∷ []) (registers_of c.regs) m → k ≡ on_two (ret_computed drop c.flags) xs
    → effect_of (esp ∷ []) (registers_of c.regs) k ≡ effect_read (transfer machine_naming (instr.Ret drop) (registers_of c.regs)) (instr.Ret drop) next (processor_of c) m
unfolding transfer compute
ret_form drop next c m at xs k g v e = effect_is (instr.Ret drop) (transfer_of (esp ∷ stack_word at ∷ []) (esp ∷ [])) xs k next c m (ap (pop_transfer []) g) v e

pub call_form : (by : ℕ) (next : ℕ) (c : Cpu) (m : Memory) (at : ℕ) (xs : List Word) (k : Computation) → Some at ≡ known (registers_of c.regs 4) → Some xs ≡ values_read (esp ∷ []) (registers_of c.regs) m → k ≡ on_one (call_computed by next c.flags) xs
    → effect_of (stack_word (down 4 at) ∷ esp ∷ []) (registers_of c.regs) k ≡ effect_read (transfer machine_naming (instr.Call by) (registers_of c.regs)) (instr.Call by) next (processor_of c) m
unfolding transfer compute
call_form by next c m at xs k g v e = effect_is (instr.Call by) (transfer_of (esp ∷ []) (stack_word (down 4 at) ∷ esp ∷ [])) xs k next c m (ap (push_transfer []) g) v e

pub pop_form : (to : Reg) (next : ℕ) (c : Cpu) (m : Memory) (at : ℕ) (xs : List Word) (k : Computation) → Some at ≡ known (registers_of c.regs 4) → Some xs ≡ values_read (esp ∷ stack_word at ∷ []) (registers_of c.regs) m → k ≡ on_two (pop_computed c.flags) xs
    → effect_of (esp ∷ register 4 (number_of_reg to) ∷ []) (registers_of c.regs) k ≡ effect_read (transfer machine_naming (instr.Pop (rm.Reg to)) (registers_of c.regs)) (instr.Pop (rm.Reg to)) next (processor_of c) m
unfolding transfer compute
pop_form to next c m at xs k g v e = effect_is (instr.Pop (rm.Reg to)) (transfer_of (esp ∷ stack_word at ∷ []) (esp ∷ register 4 (number_of_reg to) ∷ [])) xs k next c m (ap (pop_to (Some (InRegister (number_of_reg to) 0))) g) v e

pub leave_form : (next : ℕ) (c : Cpu) (m : Memory) (at : ℕ) (xs : List Word) (k : Computation) → Some at ≡ known (registers_of c.regs 5) → Some xs ≡ values_read (register 4 5 ∷ stack_word at ∷ []) (registers_of c.regs) m → k ≡ on_two (pop_computed c.flags) xs
    → effect_of (esp ∷ register 4 5 ∷ []) (registers_of c.regs) k ≡ effect_read (transfer machine_naming (instr.Leave) (registers_of c.regs)) (instr.Leave) next (processor_of c) m
unfolding transfer compute
leave_form next c m at xs k g v e = effect_is (instr.Leave) (transfer_of (register 4 5 ∷ stack_word at ∷ []) (esp ∷ register 4 5 ∷ [])) xs k next c m (ap leave_transfer g) v e

pub lea_form : (w : Width) (to : Reg) (a : Address) (next : ℕ) (c : Cpu) (m : Memory) (at : ℕ) (xs : List Word) (k : Computation) → Some at ≡ effective_address machine_naming (registers_of c.regs) a → Some xs ≡ values_read (operand (size_of w) (Constant (Some at)) ∷ []) (registers_of c.regs) m → k ≡ on_one (move_computed c.flags) xs
    → effect_of (operand (size_of w) (field machine_naming w to) ∷ []) (registers_of c.regs) k ≡ effect_read (transfer machine_naming (instr.Lea w to a) (registers_of c.regs)) (instr.Lea w to a) next (processor_of c) m
unfolding transfer compute
lea_form w to a next c m at xs k g v e = effect_is (instr.Lea w to a) (transfer_of (operand (size_of w) (Constant (Some at)) ∷ []) (operand (size_of w) (field machine_naming w to) ∷ [])) xs k next c m (ap (λ o. Some (move_transfer (size_of w) (size_of w) (field machine_naming w to) (Constant o))) g) v e

pub push_form : (from : Src) (next : ℕ) (c : Cpu) (m : Memory) (l : Location) (at : ℕ) (xs : List Word) (k : Computation) → Some l ≡ source_of machine_naming (registers_of c.regs) Four from → Some at ≡ known (registers_of c.regs 4)
    → Some xs ≡ values_read (esp ∷ operand 4 l ∷ []) (registers_of c.regs) m → k ≡ on_two (push_computed c.flags) xs
    → effect_of (stack_word (down 4 at) ∷ esp ∷ []) (registers_of c.regs) k ≡ effect_read (transfer machine_naming (instr.Push from) (registers_of c.regs)) (instr.Push from) next (processor_of c) m
unfolding transfer compute
push_form from next c m l at xs k f g v e = effect_is (instr.Push from) (transfer_of (esp ∷ operand 4 l ∷ []) (stack_word (down 4 at) ∷ esp ∷ [])) xs k next c m (ap (push_of (Some l)) g ∙ ap (λ o. push_of o (known (registers_of c.regs 4))) f) v e
