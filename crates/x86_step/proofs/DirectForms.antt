-- What is made directly is what the step does.
use Rattle.std.proofs.Common.{◌≡◌, ℕ, ◌+◌, Bool, false, [], ◌∷◌, Some, None, refl}
use Rattle.x86_values.specs.declared.word.Word.{Word}
use Rattle.x86_values.specs.declared.word.Flags.{Flags}
use Rattle.memory.specs.Memory.{Memory, wrapped}
use Rattle.x86_types.specs.declared.instr.Instr.{Instr}
use Rattle.x86_types.specs.declared.operand.Reg.{Reg}
use Rattle.x86_types.specs.declared.operand.Reg.TheVariants as reg
use Rattle.x86_types.specs.declared.operation.AluOp.{AluOp}
use Rattle.x86_types.specs.declared.operation.AluOp.TheVariants as alu
use Rattle.x86_values.specs.declared.answered.Answered.{Answered}
use Rattle.x86_step.specs.Direct.{answer_of}
use Rattle.x86_types.specs.Numbers.{number_of_reg}
use Rattle.x86_meaning.specs.declared.state.Cpu.{Cpu}
use Rattle.x86_meaning.specs.Registers.{machine_naming, with_register}
use Rattle.x86_meaning.specs.Operands.{InMemory, InRegister, operand}
use Rattle.x86_meaning.specs.Transfers.{transfer}
use Rattle.x86_meaning.specs.TransferShapes.{esp, register, stack_word}
use Rattle.x86_meaning.specs.Outcomes.{computed}
use Rattle.x86_meaning.specs.Effect.{effect_of}
use Rattle.x86_meaning.specs.StepLaws.{StepLaws}
use Rattle.x86_step.specs.declared.operand.Size.{Size}
use Rattle.x86_step.specs.declared.operand.Size.TheVariants as size
use Rattle.x86_step.specs.declared.operand.Place.TheVariants.{Lowest}
use Rattle.x86_step.specs.declared.operand.Location.TheVariants as location
use Rattle.x86_step.specs.declared.outcome.Way.{Way}
use Rattle.x86_step.specs.declared.outcome.Way.TheVariants.{Falls}
use Rattle.x86_step.specs.Computed.{way_of}
use Rattle.x86_step.specs.Finishing.{is_call}
use Rattle.x86_step.specs.Judged.{effect_read, processor_of}
use Rattle.x86_step.specs.Making.{MadeOrStays, FastOrStays, PerformsOrStays}
use Rattle.x86_step.specs.Steps.{registers_of}
use Rattle.x86_step.specs.Transferred.{bytes_in_size}
use Rattle.x86_step.proofs.Made.{made_performs, performs}
use Rattle.x86_step.proofs.Performing.{lowest_written, memory_written}

-- a register has another word, and the flags are others
pub register_performs : (r : Reg) (w : Word) (f : Flags) (len : ℕ) (b : Bool) (c d : Cpu) (m n : Memory) → MadeOrStays (with_register (number_of_reg r) w (registers_of c.regs)) f None Falls len b c m d n
    → PerformsOrStays (operand 4 (InRegister (number_of_reg r) 0) ∷ []) (computed (w ∷ []) f (way_of Falls)) len b c m d n
register_performs r w f len b c d m n h = made_performs (operand 4 (InRegister (number_of_reg r) 0) ∷ []) (computed (w ∷ []) f (way_of Falls)) (with_register (number_of_reg r) w (registers_of c.regs)) f None Falls len b c d m n h refl (lowest_written size.Four r (Lowest r) w (registers_of c.regs (number_of_reg r)) w f Falls (registers_of c.regs) refl refl refl)

-- flags are others, and nothing is written
pub flags_perform : (r : Reg) (f : Flags) (len : ℕ) (b : Bool) (c d : Cpu) (m n : Memory) → MadeOrStays (registers_of c.regs) f None Falls len b c m d n
    → PerformsOrStays (operand 4 (InRegister (number_of_reg r) 0) ∷ []) (computed [] f (way_of Falls)) len b c m d n
flags_perform r f len b c d m n h = made_performs (operand 4 (InRegister (number_of_reg r) 0) ∷ []) (computed [] f (way_of Falls)) (registers_of c.regs) f None Falls len b c d m n h refl refl

pub register_made : (laws : StepLaws) (i : Instr) (r : Reg) (w : Word) (f : Flags) (len : ℕ) (b : Bool) (c d : Cpu) (m n : Memory) → MadeOrStays (with_register (number_of_reg r) w (registers_of c.regs)) f None Falls len b c m d n
    → effect_of (operand 4 (InRegister (number_of_reg r) 0) ∷ []) (registers_of c.regs) (computed (w ∷ []) f (way_of Falls)) ≡ effect_read (transfer machine_naming i (registers_of c.regs)) i (wrapped (c.eip + len)) (processor_of c) m → FastOrStays i len b c m d n
register_made laws i r w f len b c d m n h e = performs laws i (operand 4 (InRegister (number_of_reg r) 0) ∷ []) (computed (w ∷ []) f (way_of Falls)) len b c d m n (register_performs r w f len b c d m n h) e

pub stored_made : (laws : StepLaws) (i : Instr) (at : ℕ) (s : Size) (w : Word) (len : ℕ) (b : Bool) (c d : Cpu) (m n : Memory) → MadeOrStays (registers_of c.regs) c.flags (Some (record { at = at; size = s; word = w })) Falls len b c m d n
    → effect_of (operand (bytes_in_size s) (InMemory at) ∷ []) (registers_of c.regs) (computed (w ∷ []) c.flags (way_of Falls)) ≡ effect_read (transfer machine_naming i (registers_of c.regs)) i (wrapped (c.eip + len)) (processor_of c) m → FastOrStays i len b c m d n
stored_made laws i at s w len b c d m n h e = performs laws i (operand (bytes_in_size s) (InMemory at) ∷ []) (computed (w ∷ []) c.flags (way_of Falls)) len b c d m n (made_performs (operand (bytes_in_size s) (InMemory at) ∷ []) (computed (w ∷ []) c.flags (way_of Falls)) (registers_of c.regs) c.flags (Some (record { at = at; size = s; word = w })) Falls len b c d m n h refl (memory_written s at (location.Memory at) w c.flags Falls (registers_of c.regs) refl)) e

pub way_made : (laws : StepLaws) (i : Instr) (way : Way) (len : ℕ) (b : Bool) (c d : Cpu) (m n : Memory) → is_call (way_of way) ≡ false → MadeOrStays (registers_of c.regs) c.flags None way len b c m d n
    → effect_of [] (registers_of c.regs) (computed [] c.flags (way_of way)) ≡ effect_read (transfer machine_naming i (registers_of c.regs)) i (wrapped (c.eip + len)) (processor_of c) m → FastOrStays i len b c m d n
way_made laws i way len b c d m n p h e = performs laws i [] (computed [] c.flags (way_of way)) len b c d m n (made_performs [] (computed [] c.flags (way_of way)) (registers_of c.regs) c.flags None way len b c d m n h p refl) e

-- any other operation than CMP writes its result
writes : (op : AluOp) (a : Answered) → (op ≡ alu.Cmp → ⊥) → answer_of op a ≡ computed (a.value ∷ []) a.flags (way_of Falls)
writes alu.Add a h = refl
writes alu.Or a h = refl
writes alu.Adc a h = refl
writes alu.Sbb a h = refl
writes alu.And a h = refl
writes alu.Sub a h = refl
writes alu.Xor a h = refl
writes alu.Cmp a h = absurd (h refl)

pub register_answers : (op : AluOp) (r : Reg) (a : Answered) (len : ℕ) (b : Bool) (c d : Cpu) (m n : Memory) → (op ≡ alu.Cmp → ⊥) → MadeOrStays (with_register (number_of_reg r) a.value (registers_of c.regs)) a.flags None Falls len b c m d n
    → PerformsOrStays (operand 4 (InRegister (number_of_reg r) 0) ∷ []) (answer_of op a) len b c m d n
register_answers op r a len b c d m n other h = rw (writes op a other) (register_performs r a.value a.flags len b c d m n h)

-- a word is pushed, and the run goes on there
pub push_made : (laws : StepLaws) (i : Instr) (at : ℕ) (w e : Word) (way : Way) (len : ℕ) (b : Bool) (c d : Cpu) (m n : Memory) → is_call (way_of way) ≡ false → MadeOrStays (with_register 4 e (registers_of c.regs)) c.flags (Some (record { at = at; size = size.Four; word = w })) way len b c m d n
    → effect_of (stack_word at ∷ esp ∷ []) (registers_of c.regs) (computed (w ∷ e ∷ []) c.flags (way_of way)) ≡ effect_read (transfer machine_naming i (registers_of c.regs)) i (wrapped (c.eip + len)) (processor_of c) m → FastOrStays i len b c m d n
push_made laws i at w e way len b c d m n p h k = performs laws i (stack_word at ∷ esp ∷ []) (computed (w ∷ e ∷ []) c.flags (way_of way)) len b c d m n (made_performs (stack_word at ∷ esp ∷ []) (computed (w ∷ e ∷ []) c.flags (way_of way)) (with_register 4 e (registers_of c.regs)) c.flags (Some (record { at = at; size = size.Four; word = w })) way len b c d m n h p refl) k

-- a word is popped
pub pop_made : (laws : StepLaws) (i : Instr) (r : Reg) (w e : Word) (len : ℕ) (b : Bool) (c d : Cpu) (m n : Memory) → MadeOrStays (with_register (number_of_reg r) w (with_register 4 e (registers_of c.regs))) c.flags None Falls len b c m d n
    → effect_of (esp ∷ register 4 (number_of_reg r) ∷ []) (registers_of c.regs) (computed (e ∷ w ∷ []) c.flags (way_of Falls)) ≡ effect_read (transfer machine_naming i (registers_of c.regs)) i (wrapped (c.eip + len)) (processor_of c) m → FastOrStays i len b c m d n
pop_made laws i r w e len b c d m n h k = performs laws i (esp ∷ register 4 (number_of_reg r) ∷ []) (computed (e ∷ w ∷ []) c.flags (way_of Falls)) len b c d m n (made_performs (esp ∷ register 4 (number_of_reg r) ∷ []) (computed (e ∷ w ∷ []) c.flags (way_of Falls)) (with_register (number_of_reg r) w (with_register 4 e (registers_of c.regs))) c.flags None Falls len b c d m n h refl refl) k

-- esp has another word, and the run goes on elsewhere
pub return_made : (laws : StepLaws) (i : Instr) (e : Word) (way : Way) (len : ℕ) (b : Bool) (c d : Cpu) (m n : Memory) → is_call (way_of way) ≡ false → MadeOrStays (with_register 4 e (registers_of c.regs)) c.flags None way len b c m d n
    → effect_of (esp ∷ []) (registers_of c.regs) (computed (e ∷ []) c.flags (way_of way)) ≡ effect_read (transfer machine_naming i (registers_of c.regs)) i (wrapped (c.eip + len)) (processor_of c) m → FastOrStays i len b c m d n
return_made laws i e way len b c d m n p h k = performs laws i (esp ∷ []) (computed (e ∷ []) c.flags (way_of way)) len b c d m n (made_performs (esp ∷ []) (computed (e ∷ []) c.flags (way_of way)) (with_register 4 e (registers_of c.regs)) c.flags None way len b c d m n h p (lowest_written size.Four reg.Esp (Lowest reg.Esp) e (registers_of c.regs 4) e c.flags way (registers_of c.regs) refl refl refl)) k
