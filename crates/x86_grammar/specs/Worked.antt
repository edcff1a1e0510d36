-- In part written by tools/worked.py.
-- Worked spellings, two or more for each line of the list of instructions, and bytes that spell nothing.
use Rattle.std.specs.Prelude.{ℕ, List, [], ◌∷◌, Option, Some, None, true, false}
use Rattle.std.specs.List.{AllByRecursion}
use Rattle.x86_types.specs.declared.operand.Reg.{Reg}
use Rattle.x86_types.specs.declared.operand.Reg.TheVariants as reg
use Rattle.x86_types.specs.declared.operand.Address.{Address}
use Rattle.x86_types.specs.declared.operand.Rm.TheVariants as rm
use Rattle.x86_types.specs.declared.operand.Src.TheVariants as src
use Rattle.x86_types.specs.declared.operation.AluOp.TheVariants as alu
use Rattle.x86_types.specs.declared.operation.ShiftOp.TheVariants as shift
use Rattle.x86_types.specs.declared.operation.Count.TheVariants as count
use Rattle.x86_types.specs.declared.operation.Cond.TheVariants as cond
use Rattle.x86_types.specs.declared.width.Width.TheVariants.{One, Two, Four}
use Rattle.x86_types.specs.declared.instr.Instr.{Instr}
use Rattle.x86_types.specs.declared.instr.Instr.TheVariants as instr
use Rattle.x86_grammar.specs.Spells.{Spells}

-- an address by base, index, scale and displacement
abbrev pub at : Option Reg → Option Reg → ℕ → ℕ → Address
at b x s d = record { base = b; index = x; scale = s; disp = d }

-- ---- the tables, by tools/worked.py

-- bytes with the instruction that they spell
abbrev pub worked : List (List ℕ × Instr)
worked =
    (0x00 ∷ 0xC8 ∷ [], instr.Alu alu.Add One (rm.Reg reg.Eax) (src.Reg reg.Ecx)) ∷
    (0x66 ∷ 0x83 ∷ 0xC0 ∷ 0xFF ∷ [], instr.Alu alu.Add Two (rm.Reg reg.Eax) (src.Imm 0xFFFF)) ∷
    (0x2B ∷ 0x0C ∷ 0x24 ∷ [], instr.Alu alu.Sub Four (rm.Reg reg.Ecx) (src.Mem (at (Some reg.Esp) None 1 0))) ∷
    (0x3D ∷ 0x78 ∷ 0x56 ∷ 0x34 ∷ 0x12 ∷ [], instr.Alu alu.Cmp Four (rm.Reg reg.Eax) (src.Imm 0x12345678)) ∷
    (0x85 ∷ 0xC0 ∷ [], instr.Test Four (rm.Reg reg.Eax) (src.Reg reg.Eax)) ∷
    (0xA8 ∷ 0x01 ∷ [], instr.Test One (rm.Reg reg.Eax) (src.Imm 1)) ∷
    (0x66 ∷ 0xF7 ∷ 0x45 ∷ 0xFC ∷ 0x34 ∷ 0x12 ∷ [], instr.Test Two (rm.Mem (at (Some reg.Ebp) None 1 0xFFFFFFFC)) (src.Imm 0x1234)) ∷
    (0xB8 ∷ 0x01 ∷ 0x00 ∷ 0x00 ∷ 0x00 ∷ [], instr.Mov Four (rm.Reg reg.Eax) (src.Imm 1)) ∷
    (0x8A ∷ 0xA0 ∷ 0x00 ∷ 0x01 ∷ 0x00 ∷ 0x00 ∷ [], instr.Mov One (rm.Reg reg.Esp) (src.Mem (at (Some reg.Eax) None 1 0x100))) ∷
    (0xA1 ∷ 0x00 ∷ 0xA0 ∷ 0x04 ∷ 0x08 ∷ [], instr.Mov Four (rm.Reg reg.Eax) (src.Mem (at None None 1 0x804A000))) ∷
    (0x66 ∷ 0xA3 ∷ 0x00 ∷ 0xA0 ∷ 0x04 ∷ 0x08 ∷ [], instr.Mov Two (rm.Mem (at None None 1 0x804A000)) (src.Reg reg.Eax)) ∷
    (0x8B ∷ 0x44 ∷ 0x8D ∷ 0xFC ∷ [], instr.Mov Four (rm.Reg reg.Eax) (src.Mem (at (Some reg.Ebp) (Some reg.Ecx) 4 0xFFFFFFFC))) ∷
    (0x8B ∷ 0x04 ∷ 0x64 ∷ [], instr.Mov Four (rm.Reg reg.Eax) (src.Mem (at (Some reg.Esp) None 1 0))) ∷
    (0x66 ∷ 0xB8 ∷ 0x34 ∷ 0x12 ∷ [], instr.Mov Two (rm.Reg reg.Eax) (src.Imm 0x1234)) ∷
    (0xB4 ∷ 0x01 ∷ [], instr.Mov One (rm.Reg reg.Esp) (src.Imm 1)) ∷
    (0x88 ∷ 0xE9 ∷ [], instr.Mov One (rm.Reg reg.Ecx) (src.Reg reg.Ebp)) ∷
    (0x8A ∷ 0xFE ∷ [], instr.Mov One (rm.Reg reg.Edi) (src.Reg reg.Esi)) ∷
    (0x8D ∷ 0x04 ∷ 0x8D ∷ 0x00 ∷ 0x00 ∷ 0x00 ∷ 0x00 ∷ [], instr.Lea Four reg.Eax (at None (Some reg.Ecx) 4 0)) ∷
    (0x2E ∷ 0x66 ∷ 0x2E ∷ 0x8D ∷ 0x41 ∷ 0x01 ∷ [], instr.Lea Two reg.Eax (at (Some reg.Ecx) None 1 1)) ∷
    (0x40 ∷ [], instr.Inc Four (rm.Reg reg.Eax)) ∷
    (0xFE ∷ 0x00 ∷ [], instr.Inc One (rm.Mem (at (Some reg.Eax) None 1 0))) ∷
    (0x66 ∷ 0x4F ∷ [], instr.Dec Two (rm.Reg reg.Edi)) ∷
    (0xFF ∷ 0x0D ∷ 0x00 ∷ 0x00 ∷ 0x00 ∷ 0x10 ∷ [], instr.Dec Four (rm.Mem (at None None 1 0x10000000))) ∷
    (0xF6 ∷ 0xD4 ∷ [], instr.Not One (rm.Reg reg.Esp)) ∷
    (0x66 ∷ 0xF7 ∷ 0xD0 ∷ [], instr.Not Two (rm.Reg reg.Eax)) ∷
    (0xF7 ∷ 0xD8 ∷ [], instr.Neg Four (rm.Reg reg.Eax)) ∷
    (0xF6 ∷ 0x18 ∷ [], instr.Neg One (rm.Mem (at (Some reg.Eax) None 1 0))) ∷
    (0xF7 ∷ 0xE1 ∷ [], instr.Mul Four (rm.Reg reg.Ecx)) ∷
    (0x66 ∷ 0xF7 ∷ 0xE9 ∷ [], instr.ImulWide Two (rm.Reg reg.Ecx)) ∷
    (0xF6 ∷ 0xF1 ∷ [], instr.Div One (rm.Reg reg.Ecx)) ∷
    (0xF7 ∷ 0xF9 ∷ [], instr.Idiv Four (rm.Reg reg.Ecx)) ∷
    (0x0F ∷ 0xAF ∷ 0xC1 ∷ [], instr.Imul Four reg.Eax (rm.Reg reg.Ecx)) ∷
    (0x66 ∷ 0x0F ∷ 0xAF ∷ 0x01 ∷ [], instr.Imul Two reg.Eax (rm.Mem (at (Some reg.Ecx) None 1 0))) ∷
    (0x69 ∷ 0xC1 ∷ 0xE8 ∷ 0x03 ∷ 0x00 ∷ 0x00 ∷ [], instr.ImulBy Four reg.Eax (rm.Reg reg.Ecx) 0x3E8) ∷
    (0x66 ∷ 0x6B ∷ 0xC1 ∷ 0x80 ∷ [], instr.ImulBy Two reg.Eax (rm.Reg reg.Ecx) 0xFF80) ∷
    (0xC1 ∷ 0xE0 ∷ 0x05 ∷ [], instr.Shift shift.Shl Four (rm.Reg reg.Eax) (count.Imm 5)) ∷
    (0x66 ∷ 0xD1 ∷ 0xF8 ∷ [], instr.Shift shift.Sar Two (rm.Reg reg.Eax) (count.Imm 1)) ∷
    (0xD2 ∷ 0xC8 ∷ [], instr.Shift shift.Ror One (rm.Reg reg.Eax) count.Cl) ∷
    (0x0F ∷ 0xA4 ∷ 0xC8 ∷ 0x03 ∷ [], instr.Shld (rm.Reg reg.Eax) reg.Ecx (count.Imm 3)) ∷
    (0x0F ∷ 0xA5 ∷ 0xC8 ∷ [], instr.Shld (rm.Reg reg.Eax) reg.Ecx count.Cl) ∷
    (0x0F ∷ 0xAC ∷ 0xC8 ∷ 0x03 ∷ [], instr.Shrd (rm.Reg reg.Eax) reg.Ecx (count.Imm 3)) ∷
    (0x0F ∷ 0xAD ∷ 0xC8 ∷ [], instr.Shrd (rm.Reg reg.Eax) reg.Ecx count.Cl) ∷
    (0x55 ∷ [], instr.Push (src.Reg reg.Ebp)) ∷
    (0x6A ∷ 0xFF ∷ [], instr.Push (src.Imm 0xFFFFFFFF)) ∷
    (0xFF ∷ 0x74 ∷ 0x24 ∷ 0x08 ∷ [], instr.Push (src.Mem (at (Some reg.Esp) None 1 8))) ∷
    (0x5D ∷ [], instr.Pop (rm.Reg reg.Ebp)) ∷
    (0x8F ∷ 0x00 ∷ [], instr.Pop (rm.Mem (at (Some reg.Eax) None 1 0))) ∷
    (0x87 ∷ 0xC8 ∷ [], instr.Xchg Four (rm.Reg reg.Eax) reg.Ecx) ∷
    (0x66 ∷ 0x97 ∷ [], instr.Xchg Two (rm.Reg reg.Eax) reg.Edi) ∷
    (0x0F ∷ 0xB6 ∷ 0xC1 ∷ [], instr.Movzx Four One reg.Eax (rm.Reg reg.Ecx)) ∷
    (0x0F ∷ 0xB7 ∷ 0xC1 ∷ [], instr.Movzx Four Two reg.Eax (rm.Reg reg.Ecx)) ∷
    (0x66 ∷ 0x0F ∷ 0xBE ∷ 0xC1 ∷ [], instr.Movsx Two One reg.Eax (rm.Reg reg.Ecx)) ∷
    (0x0F ∷ 0xBF ∷ 0x00 ∷ [], instr.Movsx Four Two reg.Eax (rm.Mem (at (Some reg.Eax) None 1 0))) ∷
    (0x0F ∷ 0x44 ∷ 0xC1 ∷ [], instr.Cmov cond.E Four reg.Eax (rm.Reg reg.Ecx)) ∷
    (0x66 ∷ 0x0F ∷ 0x4F ∷ 0xC1 ∷ [], instr.Cmov cond.G Two reg.Eax (rm.Reg reg.Ecx)) ∷
    (0x0F ∷ 0x94 ∷ 0xC0 ∷ [], instr.Setcc cond.E (rm.Reg reg.Eax)) ∷
    (0x0F ∷ 0x92 ∷ 0x04 ∷ 0x24 ∷ [], instr.Setcc cond.B (rm.Mem (at (Some reg.Esp) None 1 0))) ∷
    (0x66 ∷ 0x98 ∷ [], instr.Extend Two) ∷
    (0x98 ∷ [], instr.Extend Four) ∷
    (0x66 ∷ 0x99 ∷ [], instr.Spread Two) ∷
    (0x99 ∷ [], instr.Spread Four) ∷
    (0x0F ∷ 0xBC ∷ 0xC1 ∷ [], instr.Bsf Four reg.Eax (rm.Reg reg.Ecx)) ∷
    (0x66 ∷ 0x0F ∷ 0xBD ∷ 0xC1 ∷ [], instr.Bsr Two reg.Eax (rm.Reg reg.Ecx)) ∷
    (0x0F ∷ 0xC8 ∷ [], instr.Bswap reg.Eax) ∷
    (0x0F ∷ 0xCF ∷ [], instr.Bswap reg.Edi) ∷
    (0xF3 ∷ 0x66 ∷ 0xA5 ∷ [], instr.Movs Two true) ∷
    (0x66 ∷ 0xF3 ∷ 0xA5 ∷ [], instr.Movs Two true) ∷
    (0xA4 ∷ [], instr.Movs One false) ∷
    (0xF3 ∷ 0xAB ∷ [], instr.Stos Four true) ∷
    (0xEB ∷ 0xFE ∷ [], instr.Jmp 0xFFFFFFFE) ∷
    (0xE9 ∷ 0x00 ∷ 0x01 ∷ 0x00 ∷ 0x00 ∷ [], instr.Jmp 0x100) ∷
    (0x3E ∷ 0xFF ∷ 0xE0 ∷ [], instr.JmpTo (rm.Reg reg.Eax)) ∷
    (0xFF ∷ 0x24 ∷ 0x85 ∷ 0x54 ∷ 0x90 ∷ 0x04 ∷ 0x08 ∷ [], instr.JmpTo (rm.Mem (at None (Some reg.Eax) 4 0x8049054))) ∷
    (0xFF ∷ 0xD0 ∷ [], instr.CallTo (rm.Reg reg.Eax)) ∷
    (0x70 ∷ 0x23 ∷ [], instr.Jcc cond.O 0x23) ∷
    (0x71 ∷ 0x23 ∷ [], instr.Jcc cond.No 0x23) ∷
    (0x72 ∷ 0x23 ∷ [], instr.Jcc cond.B 0x23) ∷
    (0x73 ∷ 0x23 ∷ [], instr.Jcc cond.Ae 0x23) ∷
    (0x74 ∷ 0x23 ∷ [], instr.Jcc cond.E 0x23) ∷
    (0x75 ∷ 0x23 ∷ [], instr.Jcc cond.Ne 0x23) ∷
    (0x76 ∷ 0x23 ∷ [], instr.Jcc cond.Be 0x23) ∷
    (0x77 ∷ 0x23 ∷ [], instr.Jcc cond.A 0x23) ∷
    (0x78 ∷ 0x23 ∷ [], instr.Jcc cond.S 0x23) ∷
    (0x79 ∷ 0x23 ∷ [], instr.Jcc cond.Ns 0x23) ∷
    (0x7A ∷ 0x23 ∷ [], instr.Jcc cond.P 0x23) ∷
    (0x7B ∷ 0x23 ∷ [], instr.Jcc cond.Np 0x23) ∷
    (0x7C ∷ 0x23 ∷ [], instr.Jcc cond.L 0x23) ∷
    (0x7D ∷ 0x23 ∷ [], instr.Jcc cond.Ge 0x23) ∷
    (0x7E ∷ 0x23 ∷ [], instr.Jcc cond.Le 0x23) ∷
    (0x7F ∷ 0x23 ∷ [], instr.Jcc cond.G 0x23) ∷
    (0x0F ∷ 0x84 ∷ 0xFA ∷ 0xFF ∷ 0xFF ∷ 0xFF ∷ [], instr.Jcc cond.E 0xFFFFFFFA) ∷
    (0xE8 ∷ 0x10 ∷ 0x00 ∷ 0x00 ∷ 0x00 ∷ [], instr.Call 0x10) ∷
    (0xE8 ∷ 0xFA ∷ 0xFF ∷ 0xFF ∷ 0xFF ∷ [], instr.Call 0xFFFFFFFA) ∷
    (0xC3 ∷ [], instr.Ret 0) ∷
    (0xF3 ∷ 0xC3 ∷ [], instr.Ret 0) ∷
    (0xC2 ∷ 0x08 ∷ 0x00 ∷ [], instr.Ret 8) ∷
    (0xC9 ∷ [], instr.Leave) ∷
    (0xCD ∷ 0x80 ∷ [], instr.Int80) ∷
    (0xFC ∷ [], instr.Cld) ∷
    (0x66 ∷ 0x66 ∷ 0x90 ∷ [], instr.Nop) ∷
    (0x66 ∷ 0x66 ∷ 0x66 ∷ 0x66 ∷ 0x66 ∷ 0x66 ∷ 0x66 ∷ 0x66 ∷ 0x66 ∷ 0x66 ∷ 0x66 ∷ 0x66 ∷ 0x66 ∷ 0x66 ∷ 0x90 ∷ [], instr.Nop) ∷
    (0x66 ∷ 0x66 ∷ 0x2E ∷ 0x0F ∷ 0x1F ∷ 0x84 ∷ 0x00 ∷ 0x00 ∷ 0x00 ∷ 0x00 ∷ 0x00 ∷ [], instr.Nop) ∷
    (0xF3 ∷ 0x0F ∷ 0x1E ∷ 0xFB ∷ [], instr.Nop) ∷
    []

-- bytes that spell nothing
abbrev pub in_vain : List (List ℕ)
in_vain =
    (0x82 ∷ 0xC0 ∷ 0x01 ∷ []) ∷
    (0xF6 ∷ 0xC8 ∷ 0x01 ∷ []) ∷
    (0xF7 ∷ 0xC8 ∷ 0x01 ∷ 0x00 ∷ 0x00 ∷ 0x00 ∷ []) ∷
    (0xC1 ∷ 0xD0 ∷ 0x01 ∷ []) ∷
    (0xD1 ∷ 0xD8 ∷ []) ∷
    (0xD3 ∷ 0xF0 ∷ []) ∷
    (0x66 ∷ 0x0F ∷ 0xC8 ∷ []) ∷
    (0xF3 ∷ 0x0F ∷ 0xBC ∷ 0xC1 ∷ []) ∷
    (0x0F ∷ 0x28 ∷ []) ∷
    (0xF3 ∷ 0x90 ∷ []) ∷
    (0x66 ∷ 0x8F ∷ 0xC0 ∷ []) ∷
    (0x3E ∷ 0xC3 ∷ []) ∷
    (0x66 ∷ 0x66 ∷ 0x05 ∷ 0x01 ∷ 0x00 ∷ []) ∷
    (0x8D ∷ 0xC0 ∷ []) ∷
    (0xCD ∷ 0x81 ∷ []) ∷
    (0xF3 ∷ 0x0F ∷ 0x1E ∷ 0xFA ∷ []) ∷
    (0x2E ∷ 0x90 ∷ []) ∷
    (0xF3 ∷ 0xF3 ∷ 0xA4 ∷ []) ∷
    (0x66 ∷ 0x66 ∷ 0x66 ∷ 0x66 ∷ 0x66 ∷ 0x66 ∷ 0x66 ∷ 0x66 ∷ 0x66 ∷ 0x66 ∷ 0x66 ∷ 0x66 ∷ 0x66 ∷ 0x66 ∷ 0x66 ∷ 0x90 ∷ []) ∷
    (0x2E ∷ 0x2E ∷ 0x2E ∷ 0x2E ∷ 0x2E ∷ 0x2E ∷ 0x2E ∷ 0x2E ∷ 0x2E ∷ 0x2E ∷ 0x2E ∷ 0x2E ∷ 0x2E ∷ 0x2E ∷ 0x2E ∷ 0x2E ∷ []) ∷
    []

-- each row's bytes spell its instruction
abbrev pub AllSpelled : Type 0
AllSpelled = AllByRecursion (λ (row : List ℕ × Instr). Spells row.0 row.1) worked

-- each row's bytes spell nothing
abbrev pub NoneSpelled : Type 0
NoneSpelled = AllByRecursion (λ (bytes : List ℕ). (i : Instr) → Spells bytes i → ⊥) in_vain
