-- What the commonest instructions read and compute, where they are made directly.
use Rattle.std.specs.Prelude.{◌≡◌, ℕ, ◌==◌, Bool, false, Option, Some}
use Rattle.x86_values.specs.declared.word.Word.{Word}
use Rattle.x86_values.specs.declared.answered.Answered.{Answered}
use Rattle.memory.specs.Memory.{Memory}
use Rattle.x86_types.specs.declared.operation.AluOp.{AluOp}
use Rattle.x86_types.specs.declared.operation.AluOp.TheVariants as alu
use Rattle.x86_types.specs.declared.operand.Reg.{Reg}
use Rattle.x86_types.specs.declared.operand.Src.{Src}
use Rattle.x86_types.specs.declared.operand.Src.TheVariants as src
use Rattle.x86_types.specs.Numbers.{number_of_reg}
use Rattle.x86_meaning.specs.Registers.{Registers}
use Rattle.x86_meaning.specs.Operands.{Location}
use Rattle.x86_meaning.specs.Outcomes.{Computation, flags_alone, value_and_flags}
use Rattle.x86_step.specs.Judged.{value_read}

-- an operand of so many bytes stands somewhere, and this is its value
pub record HasWord (size : ℕ) (o : Option Location) (w : Word) (regs : Registers) (m : Memory) : Type 0 where
  pub at : Location
  pub there : Some at ≡ o
  pub value : Some w ≡ value_read size at regs m

-- the outcome of a result and its flags; CMP writes no result
abbrev pub answer_of : AluOp → Answered → Computation
answer_of alu.Add a = value_and_flags a
answer_of alu.Or a = value_and_flags a
answer_of alu.Adc a = value_and_flags a
answer_of alu.Sbb a = value_and_flags a
answer_of alu.And a = value_and_flags a
answer_of alu.Sub a = value_and_flags a
answer_of alu.Xor a = value_and_flags a
answer_of alu.Cmp a = flags_alone a

-- an operand is this register
abbrev pub is_itself : Reg → Src → Bool
is_itself r (src.Reg s) = number_of_reg r == number_of_reg s
is_itself r (src.Mem a) = false
is_itself r (src.Imm n) = false
