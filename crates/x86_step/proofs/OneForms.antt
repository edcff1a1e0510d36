-- The effects of instructions of one operand with a field, whose values and outcome are known.
use Rattle.std.proofs.Common.{◌≡◌, ℕ, List, [], ◌∷◌, Some, ap}
use Rattle.x86_values.specs.declared.word.Word.{Word}
use Rattle.memory.specs.Memory.{Memory}
use Rattle.x86_types.specs.declared.instr.Instr.TheVariants as instr
use Rattle.x86_types.specs.declared.operand.Rm.{Rm}
use Rattle.x86_types.specs.declared.operand.Reg.{Reg}
use Rattle.x86_types.specs.declared.operation.ShiftOp.{ShiftOp}
use Rattle.x86_types.specs.declared.operation.Count.{Count}
use Rattle.x86_types.specs.declared.width.Width.{Width}
use Rattle.x86_types.specs.Numbers.{size_of}
use Rattle.x86_meaning.specs.declared.state.Cpu.{Cpu}
use Rattle.x86_meaning.specs.Registers.{machine_naming}
use Rattle.x86_meaning.specs.Operands.{Location, field, operand, location_of}
use Rattle.x86_meaning.specs.TransferShapes.{by_one, combine_transfer, count_operand, move_transfer, shift_transfer, update_transfer}
use Rattle.x86_meaning.specs.Transfers.{transfer}
use Rattle.x86_meaning.specs.Outcomes.{Computation, dec_computed, extend_computed, imul_computed, inc_computed, move_computed, on_one, on_two, shift_computed}
use Rattle.x86_meaning.specs.Computing.{compute}
use Rattle.x86_meaning.specs.Effect.{effect_of}
use Rattle.x86_step.specs.Judged.{effect_read, processor_of, values_read}
use Rattle.x86_step.specs.Steps.{registers_of}
use Rattle.x86_step.proofs.Made.{effect_is}

pub inc_form : (w : Width) (to : Rm) (next : ℕ) (c : Cpu) (m : Memory) (a : Location) (xs : List Word) (k : Computation) → Some a ≡ location_of machine_naming (registers_of c.regs) w to
    → Some xs ≡ values_read (operand (size_of w) a ∷ []) (registers_of c.regs) m → k ≡ on_one (inc_computed (size_of w) c.flags) xs
    → effect_of (operand (size_of w) a ∷ []) (registers_of c.regs) k ≡ effect_read (transfer machine_naming (instr.Inc w to) (registers_of c.regs)) (instr.Inc w to) next (processor_of c) m
unfolding transfer compute
inc_form w to next c m a xs k g v e = effect_is (instr.Inc w to) (update_transfer (size_of w) a) xs k next c m (ap (by_one (update_transfer (size_of w))) g) v e

pub dec_form : (w : Width) (to : Rm) (next : ℕ) (c : Cpu) (m : Memory) (a : Location) (xs : List Word) (k : Computation) → Some a ≡ location_of machine_naming (registers_of c.regs) w to
    → Some xs ≡ values_read (operand (size_of w) a ∷ []) (registers_of c.regs) m → k ≡ on_one (dec_computed (size_of w) c.flags) xs
    → effect_of (operand (size_of w) a ∷ []) (registers_of c.regs) k ≡ effect_read (transfer machine_naming (instr.Dec w to) (registers_of c.regs)) (instr.Dec w to) next (processor_of c) m
unfolding transfer compute
dec_form w to next c m a xs k g v e = effect_is (instr.Dec w to) (update_transfer (size_of w) a) xs k next c m (ap (by_one (update_transfer (size_of w))) g) v e

pub shift_form : (op : ShiftOp) (w : Width) (to : Rm) (n : Count) (next : ℕ) (c : Cpu) (m : Memory) (a : Location) (xs : List Word) (k : Computation) → Some a ≡ location_of machine_naming (registers_of c.regs) w to
    → Some xs ≡ values_read (operand (size_of w) a ∷ count_operand n ∷ []) (registers_of c.regs) m → k ≡ on_two (shift_computed op (size_of w) c.flags) xs
    → effect_of (operand (size_of w) a ∷ []) (registers_of c.regs) k ≡ effect_read (transfer machine_naming (instr.Shift op w to n) (registers_of c.regs)) (instr.Shift op w to n) next (processor_of c) m
unfolding transfer compute
shift_form op w to n next c m a xs k g v e = effect_is (instr.Shift op w to n) (shift_transfer (size_of w) n a) xs k next c m (ap (by_one (shift_transfer (size_of w) n)) g) v e

pub movzx_form : (wide w : Width) (r : Reg) (to : Rm) (next : ℕ) (c : Cpu) (m : Memory) (a : Location) (xs : List Word) (k : Computation) → Some a ≡ location_of machine_naming (registers_of c.regs) w to
    → Some xs ≡ values_read (operand (size_of w) a ∷ []) (registers_of c.regs) m → k ≡ on_one (move_computed c.flags) xs
    → effect_of (operand (size_of wide) (field machine_naming wide r) ∷ []) (registers_of c.regs) k ≡ effect_read (transfer machine_naming (instr.Movzx wide w r to) (registers_of c.regs)) (instr.Movzx wide w r to) next (processor_of c) m
unfolding transfer compute
movzx_form wide w r to next c m a xs k g v e = effect_is (instr.Movzx wide w r to) (move_transfer (size_of wide) (size_of w) (field machine_naming wide r) a) xs k next c m (ap (by_one (move_transfer (size_of wide) (size_of w) (field machine_naming wide r))) g) v e

pub movsx_form : (wide w : Width) (r : Reg) (to : Rm) (next : ℕ) (c : Cpu) (m : Memory) (a : Location) (xs : List Word) (k : Computation) → Some a ≡ location_of machine_naming (registers_of c.regs) w to
    → Some xs ≡ values_read (operand (size_of w) a ∷ []) (registers_of c.regs) m → k ≡ on_one (extend_computed (size_of wide) (size_of w) c.flags) xs
    → effect_of (operand (size_of wide) (field machine_naming wide r) ∷ []) (registers_of c.regs) k ≡ effect_read (transfer machine_naming (instr.Movsx wide w r to) (registers_of c.regs)) (instr.Movsx wide w r to) next (processor_of c) m
unfolding transfer compute
movsx_form wide w r to next c m a xs k g v e = effect_is (instr.Movsx wide w r to) (move_transfer (size_of wide) (size_of w) (field machine_naming wide r) a) xs k next c m (ap (by_one (move_transfer (size_of wide) (size_of w) (field machine_naming wide r))) g) v e

pub imul_form : (w : Width) (r : Reg) (to : Rm) (next : ℕ) (c : Cpu) (m : Memory) (a : Location) (xs : List Word) (k : Computation) → Some a ≡ location_of machine_naming (registers_of c.regs) w to
    → Some xs ≡ values_read (operand (size_of w) (field machine_naming w r) ∷ operand (size_of w) a ∷ []) (registers_of c.regs) m → k ≡ on_two (imul_computed (size_of w)) xs
    → effect_of (operand (size_of w) (field machine_naming w r) ∷ []) (registers_of c.regs) k ≡ effect_read (transfer machine_naming (instr.Imul w r to) (registers_of c.regs)) (instr.Imul w r to) next (processor_of c) m
unfolding transfer compute
imul_form w r to next c m a xs k g v e = effect_is (instr.Imul w r to) (combine_transfer (size_of w) (field machine_naming w r) a) xs k next c m (ap (by_one (combine_transfer (size_of w) (field machine_naming w r))) g) v e
