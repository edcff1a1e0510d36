-- Worked best spellings, written by hand from the opcodes and tables of Intel SDM volume 2, and read beside what GNU
-- objdump says of them.
use Rattle.std.specs.Prelude.{◌≡◌, ℕ, true, List, [], ◌∷◌, Some, None}
use Rattle.std.specs.List.{AllByRecursion}
use Rattle.x86_types.specs.declared.operand.Reg.TheVariants as reg
use Rattle.x86_types.specs.declared.operand.Rm.TheVariants as rm
use Rattle.x86_types.specs.declared.operand.Src.TheVariants as src
use Rattle.x86_types.specs.declared.operation.AluOp.TheVariants as alu
use Rattle.x86_types.specs.declared.operation.Cond.TheVariants as cond
use Rattle.x86_types.specs.declared.width.Width.TheVariants.{One, Two, Four}
use Rattle.x86_types.specs.declared.instr.Instr.{Instr}
use Rattle.x86_types.specs.declared.instr.Instr.TheVariants as instr
use Rattle.x86_grammar.specs.Fields.{fields_fit}
use Rattle.x86_grammar.specs.Worked.{at}
use Rattle.x86_encode.specs.Choice.{best, best_wide}

-- an instruction and the bytes of its best spelling
abbrev pub worked_best : List (Instr × List ℕ)
worked_best =
    -- MOV of a constant, of a register, from memory and to memory
    (instr.Mov Four (rm.Reg reg.Ebx) (src.Imm 7), 0xBB ∷ 0x07 ∷ 0x00 ∷ 0x00 ∷ 0x00 ∷ []) ∷
    (instr.Mov Two (rm.Reg reg.Ecx) (src.Imm 7), 0x66 ∷ 0xB9 ∷ 0x07 ∷ 0x00 ∷ []) ∷
    (instr.Mov Four (rm.Reg reg.Ecx) (src.Reg reg.Edx), 0x89 ∷ 0xD1 ∷ []) ∷
    (instr.Mov Four (rm.Reg reg.Eax) (src.Mem (at None None 1 0x0804A010)), 0xA1 ∷ 0x10 ∷ 0xA0 ∷ 0x04 ∷ 0x08 ∷ []) ∷
    (instr.Mov Four (rm.Reg reg.Ecx) (src.Mem (at None None 1 0x0804A010)), 0x8B ∷ 0x0D ∷ 0x10 ∷ 0xA0 ∷ 0x04 ∷ 0x08 ∷ []) ∷
    (instr.Mov Four (rm.Reg reg.Ecx) (src.Mem (at (Some reg.Eax) None 1 0)), 0x8B ∷ 0x08 ∷ []) ∷
    (instr.Mov Four (rm.Reg reg.Ecx) (src.Mem (at (Some reg.Eax) None 1 0x7F)), 0x8B ∷ 0x48 ∷ 0x7F ∷ []) ∷
    (instr.Mov Four (rm.Reg reg.Ecx) (src.Mem (at (Some reg.Ebp) None 1 0)), 0x8B ∷ 0x4D ∷ 0x00 ∷ []) ∷
    (instr.Mov Four (rm.Reg reg.Ecx) (src.Mem (at (Some reg.Esp) None 1 0xFFFFFFFC)), 0x8B ∷ 0x4C ∷ 0x24 ∷ 0xFC ∷ []) ∷
    (instr.Mov Four (rm.Reg reg.Ecx) (src.Mem (at (Some reg.Edi) (Some reg.Ebp) 4 0x100)), 0x8B ∷ 0x8C ∷ 0xAF ∷ 0x00 ∷ 0x01 ∷ 0x00 ∷ 0x00 ∷ []) ∷
    (instr.Mov Four (rm.Mem (at None None 1 0x0804A010)) (src.Reg reg.Eax), 0xA3 ∷ 0x10 ∷ 0xA0 ∷ 0x04 ∷ 0x08 ∷ []) ∷
    (instr.Mov Four (rm.Mem (at None None 1 0x0804A010)) (src.Reg reg.Ecx), 0x89 ∷ 0x0D ∷ 0x10 ∷ 0xA0 ∷ 0x04 ∷ 0x08 ∷ []) ∷
    -- the greatest length
    (instr.Mov Four (rm.Mem (at (Some reg.Eax) (Some reg.Ecx) 4 0x12345678)) (src.Imm 0x9ABCDEF0), 0xC7 ∷ 0x84 ∷ 0x88 ∷ 0x78 ∷ 0x56 ∷ 0x34 ∷ 0x12 ∷ 0xF0 ∷ 0xDE ∷ 0xBC ∷ 0x9A ∷ []) ∷
    -- ADD of a constant of a byte, of one that goes with EAX alone, and of another; ADD of a register
    (instr.Alu alu.Add Four (rm.Reg reg.Eax) (src.Imm 5), 0x83 ∷ 0xC0 ∷ 0x05 ∷ []) ∷
    (instr.Alu alu.Add Four (rm.Reg reg.Eax) (src.Imm 0x12345678), 0x05 ∷ 0x78 ∷ 0x56 ∷ 0x34 ∷ 0x12 ∷ []) ∷
    (instr.Alu alu.Add Four (rm.Reg reg.Ecx) (src.Imm 0x80), 0x81 ∷ 0xC1 ∷ 0x80 ∷ 0x00 ∷ 0x00 ∷ 0x00 ∷ []) ∷
    (instr.Alu alu.Add Four (rm.Reg reg.Eax) (src.Reg reg.Ecx), 0x01 ∷ 0xC8 ∷ []) ∷
    -- JMP and Jcc at both ends of the short range and behind them
    (instr.Jmp 0x7F, 0xEB ∷ 0x7F ∷ []) ∷
    (instr.Jmp 0x80, 0xE9 ∷ 0x80 ∷ 0x00 ∷ 0x00 ∷ 0x00 ∷ []) ∷
    (instr.Jmp 0xFFFFFF80, 0xEB ∷ 0x80 ∷ []) ∷
    (instr.Jmp 0xFFFFFF7F, 0xE9 ∷ 0x7F ∷ 0xFF ∷ 0xFF ∷ 0xFF ∷ []) ∷
    (instr.Jcc cond.E 0, 0x74 ∷ 0x00 ∷ []) ∷
    (instr.Jcc cond.G 0x100, 0x0F ∷ 0x8F ∷ 0x00 ∷ 0x01 ∷ 0x00 ∷ 0x00 ∷ []) ∷
    -- SETcc
    (instr.Setcc cond.E (rm.Reg reg.Eax), 0x0F ∷ 0x94 ∷ 0xC0 ∷ []) ∷
    -- PUSH of a constant of a byte and of another, and of a register
    (instr.Push (src.Imm 0x7F), 0x6A ∷ 0x7F ∷ []) ∷
    (instr.Push (src.Imm 0x80), 0x68 ∷ 0x80 ∷ 0x00 ∷ 0x00 ∷ 0x00 ∷ []) ∷
    (instr.Push (src.Reg reg.Ebp), 0x55 ∷ []) ∷
    -- XCHG with EAX first and second, of a byte, and of EAX with itself, which isn't 90
    (instr.Xchg Four (rm.Reg reg.Eax) reg.Ecx, 0x91 ∷ []) ∷
    (instr.Xchg Four (rm.Reg reg.Ecx) reg.Eax, 0x87 ∷ 0xC1 ∷ []) ∷
    (instr.Xchg One (rm.Reg reg.Eax) reg.Ecx, 0x86 ∷ 0xC8 ∷ []) ∷
    (instr.Xchg Four (rm.Reg reg.Eax) reg.Eax, 0x87 ∷ 0xC0 ∷ []) ∷
    []

-- an instruction and the bytes of its best wide spelling
abbrev pub worked_wide : List (Instr × List ℕ)
worked_wide =
    (instr.Jmp 0, 0xE9 ∷ 0x00 ∷ 0x00 ∷ 0x00 ∷ 0x00 ∷ []) ∷
    (instr.Jmp 0xFFFFFFFE, 0xE9 ∷ 0xFE ∷ 0xFF ∷ 0xFF ∷ 0xFF ∷ []) ∷
    (instr.Jcc cond.E 0, 0x0F ∷ 0x84 ∷ 0x00 ∷ 0x00 ∷ 0x00 ∷ 0x00 ∷ []) ∷
    (instr.Jcc cond.No 0x100, 0x0F ∷ 0x81 ∷ 0x00 ∷ 0x01 ∷ 0x00 ∷ 0x00 ∷ []) ∷
    (instr.Mov Four (rm.Reg reg.Ebx) (src.Imm 7), 0xBB ∷ 0x07 ∷ 0x00 ∷ 0x00 ∷ 0x00 ∷ []) ∷
    []

-- each of the instructions has a spelling, and the bytes beside it are what is computed
pub record WorkedBest : Type 0 where
  pub fit : AllByRecursion (λ (row : Instr × List ℕ). fields_fit row.0 ≡ true) worked_best
  pub fit_wide : AllByRecursion (λ (row : Instr × List ℕ). fields_fit row.0 ≡ true) worked_wide
  pub computed : AllByRecursion (λ (row : Instr × List ℕ). best row.0 ≡ row.1) worked_best
  pub computed_wide : AllByRecursion (λ (row : Instr × List ℕ). best_wide row.0 ≡ row.1) worked_wide
