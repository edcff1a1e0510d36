-- The effects of instructions whose operands, values and outcomes are known.
use Rattle.std.proofs.Common.{◌≡◌, ℕ, List, [], ◌∷◌, Option, Some, refl, ap, ◌∙◌}
use Rattle.x86_values.specs.declared.word.Word.{Word}
use Rattle.x86_values.specs.declared.word.Flags.{Flags}
use Rattle.memory.specs.Memory.{Memory}
use Rattle.x86_types.specs.declared.instr.Instr.TheVariants as instr
use Rattle.x86_types.specs.declared.operand.Rm.{Rm}
use Rattle.x86_types.specs.declared.operand.Src.{Src}
use Rattle.x86_types.specs.declared.operation.AluOp.{AluOp}
use Rattle.x86_types.specs.declared.operation.AluOp.TheVariants as alu
use Rattle.x86_types.specs.declared.width.Width.{Width}
use Rattle.x86_types.specs.Numbers.{size_of}
use Rattle.x86_meaning.specs.declared.state.Cpu.{Cpu}
use Rattle.x86_meaning.specs.Registers.{Registers, machine_naming}
use Rattle.x86_meaning.specs.Operands.{Location, operand, location_of, source_of}
use Rattle.x86_meaning.specs.TransferShapes.{Transfer, alu_reads, alu_transfer, alu_writes, by_two, compare_transfer, move_transfer}
use Rattle.x86_meaning.specs.Transfers.{transfer}
use Rattle.x86_meaning.specs.Outcomes.{Computation, alu_computed, move_computed, on_one, on_two, test_computed}
use Rattle.x86_meaning.specs.Computing.{compute}
use Rattle.x86_meaning.specs.Effect.{effect_of}
use Rattle.x86_step.specs.Judged.{effect_read, processor_of, values_read}
use Rattle.x86_step.specs.Steps.{registers_of}
use Rattle.x86_step.proofs.Made.{effect_is}

-- two operands that stand somewhere
both_there : (f : Location → Location → Transfer) (o p : Option Location) (a b : Location) → Some a ≡ o → Some b ≡ p → Some (f a b) ≡ by_two f o p
both_there f o p a b g h = ap (λ x. by_two f x (Some b)) g ∙ ap (λ x. by_two f o x) h

-- CMP and TEST write nothing
no_value : (size : ℕ) (a : Location) (regs : Registers) (f : Word → Word → Computation) (xs : List Word) → ((x y : Word) → effect_of (operand size a ∷ []) regs (f x y) ≡ effect_of [] regs (f x y)) → effect_of (operand size a ∷ []) regs (on_two f xs) ≡ effect_of [] regs (on_two f xs)
no_value size a regs f [] h = refl
no_value size a regs f (x ∷ []) h = refl
no_value size a regs f (x ∷ y ∷ []) h = h x y
no_value size a regs f (x ∷ y ∷ z ∷ xs) h = refl

alu_written : (op : AluOp) (size : ℕ) (a : Location) (f : Flags) (regs : Registers) (xs : List Word) → effect_of (operand size a ∷ []) regs (on_two (alu_computed op size f) xs) ≡ effect_of (alu_writes op size a) regs (on_two (alu_computed op size f) xs)
alu_written alu.Add size a f regs xs = refl
alu_written alu.Or size a f regs xs = refl
alu_written alu.Adc size a f regs xs = refl
alu_written alu.Sbb size a f regs xs = refl
alu_written alu.And size a f regs xs = refl
alu_written alu.Sub size a f regs xs = refl
alu_written alu.Xor size a f regs xs = refl
alu_written alu.Cmp size a f regs xs = no_value size a regs (alu_computed alu.Cmp size f) xs (λ x y. refl)

pub alu_form : (op : AluOp) (w : Width) (to : Rm) (from : Src) (next : ℕ) (c : Cpu) (m : Memory) (a b : Location) (xs : List Word) (k : Computation) → Some a ≡ location_of machine_naming (registers_of c.regs) w to → Some b ≡ source_of machine_naming (registers_of c.regs) w from
    → Some xs ≡ values_read (alu_reads op (size_of w) a b) (registers_of c.regs) m → k ≡ on_two (alu_computed op (size_of w) c.flags) xs
    → effect_of (operand (size_of w) a ∷ []) (registers_of c.regs) k ≡ effect_read (transfer machine_naming (instr.Alu op w to from) (registers_of c.regs)) (instr.Alu op w to from) next (processor_of c) m
unfolding transfer compute
alu_form op w to from next c m a b xs k g h v e =
    ap (effect_of (operand (size_of w) a ∷ []) (registers_of c.regs)) e ∙ (alu_written op (size_of w) a c.flags (registers_of c.regs) xs
    ∙ effect_is (instr.Alu op w to from) (alu_transfer op (size_of w) a b) xs (on_two (alu_computed op (size_of w) c.flags) xs) next c m (both_there (alu_transfer op (size_of w)) _ _ a b g h) v refl)

pub test_form : (w : Width) (to : Rm) (from : Src) (next : ℕ) (c : Cpu) (m : Memory) (a b : Location) (xs : List Word) (k : Computation) → Some a ≡ location_of machine_naming (registers_of c.regs) w to → Some b ≡ source_of machine_naming (registers_of c.regs) w from
    → Some xs ≡ values_read (operand (size_of w) a ∷ operand (size_of w) b ∷ []) (registers_of c.regs) m → k ≡ on_two (test_computed (size_of w)) xs
    → effect_of (operand (size_of w) a ∷ []) (registers_of c.regs) k ≡ effect_read (transfer machine_naming (instr.Test w to from) (registers_of c.regs)) (instr.Test w to from) next (processor_of c) m
unfolding transfer compute
test_form w to from next c m a b xs k g h v e =
    ap (effect_of (operand (size_of w) a ∷ []) (registers_of c.regs)) e ∙ (no_value (size_of w) a (registers_of c.regs) (test_computed (size_of w)) xs (λ x y. refl)
    ∙ effect_is (instr.Test w to from) (compare_transfer (size_of w) a b) xs (on_two (test_computed (size_of w)) xs) next c m (both_there (compare_transfer (size_of w)) _ _ a b g h) v refl)

pub mov_form : (w : Width) (to : Rm) (from : Src) (next : ℕ) (c : Cpu) (m : Memory) (a b : Location) (xs : List Word) (k : Computation) → Some a ≡ location_of machine_naming (registers_of c.regs) w to → Some b ≡ source_of machine_naming (registers_of c.regs) w from
    → Some xs ≡ values_read (operand (size_of w) b ∷ []) (registers_of c.regs) m → k ≡ on_one (move_computed c.flags) xs
    → effect_of (operand (size_of w) a ∷ []) (registers_of c.regs) k ≡ effect_read (transfer machine_naming (instr.Mov w to from) (registers_of c.regs)) (instr.Mov w to from) next (processor_of c) m
unfolding transfer compute
mov_form w to from next c m a b xs k g h v e = effect_is (instr.Mov w to from) (move_transfer (size_of w) (size_of w) a b) xs k next c m (both_there (move_transfer (size_of w) (size_of w)) _ _ a b g h) v e
