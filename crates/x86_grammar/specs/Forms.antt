-- Each instruction's spellings: one form for each entry of the manual's list. Each group begins with the
-- pages of Intel SDM volume 2 that list its opcodes.
use Rattle.std.specs.Prelude.{◌≡◌, ℕ, zero, suc, Bool, true, if◌then◌else◌, ◌==◌, List, [], ◌∷◌, ◌++◌, Option, Some, None, ◌⊎◌}
use Rattle.x86_types.specs.declared.operand.Reg.{Reg}
use Rattle.x86_types.specs.declared.operand.Reg.TheVariants.{Eax}
use Rattle.x86_types.specs.declared.operation.AluOp.{AluOp}
use Rattle.x86_types.specs.declared.operation.ShiftOp.{ShiftOp}
use Rattle.x86_types.specs.declared.operation.Count.{Count}
use Rattle.x86_types.specs.declared.operation.Count.TheVariants as count
use Rattle.x86_types.specs.declared.width.Width.{Width}
use Rattle.x86_types.specs.declared.width.Width.TheVariants.{One, Two, Four}
use Rattle.x86_types.specs.declared.operand.Address.{Address}
use Rattle.x86_types.specs.declared.operand.Rm.{Rm}
use Rattle.x86_types.specs.declared.operand.Rm.TheVariants as rm
use Rattle.x86_types.specs.declared.operand.Src.{Src}
use Rattle.x86_types.specs.declared.operand.Src.TheVariants as src
use Rattle.x86_types.specs.declared.instr.Instr.{Instr}
use Rattle.x86_types.specs.declared.instr.Instr.TheVariants as instr
use Rattle.x86_types.specs.Numbers.{number_of_reg, number_of_alu, number_of_shift}
use Rattle.x86_grammar.specs.declared.row.Form.{Form}
use Rattle.x86_grammar.specs.declared.row.Row.{Row}
use Rattle.x86_grammar.specs.declared.row.Row.TheVariants as row
use Rattle.x86_grammar.specs.Parts.{w_bit, with_rm, plain, repeated, if_signed, if_reg, if_acc, not_one}

-- "ADC", "ADD", "AND", "CMP", "OR", "SBB", "SUB", "XOR"
abbrev pub alu_byte : Width → AluOp → Rm → ℕ → List Form
alu_byte w op to v = not_one w (if_signed w v (λ b. with_rm row.AluByte w (number_of_alu op) to b))

-- a register, a place in memory or a constant as the source
abbrev pub alu_forms : AluOp → Width → Rm → Src → List Form
alu_forms op w to (src.Reg r) = with_rm (row.AluToRm op (w_bit w)) w (number_of_reg r) to 0 ∷ if_reg to (λ t. with_rm (row.AluToReg op (w_bit w)) w (number_of_reg t) (rm.Reg r) 0 ∷ [])
alu_forms op w to (src.Mem a) = if_reg to (λ t. with_rm (row.AluToReg op (w_bit w)) w (number_of_reg t) (rm.Mem a) 0 ∷ [])
alu_forms op w to (src.Imm v) = with_rm (row.AluImm (w_bit w)) w (number_of_alu op) to v ∷ (if_acc to (plain (row.AluAcc op (w_bit w)) w v) ++ alu_byte w op to v)

-- "TEST"
abbrev pub test_forms : Width → Rm → Src → List Form
test_forms w left (src.Reg r) = with_rm (row.TestRm (w_bit w)) w (number_of_reg r) left 0 ∷ []
test_forms w left (src.Mem a) = []
test_forms w left (src.Imm v) = with_rm (row.TestImm (w_bit w)) w 0 left v ∷ if_acc left (plain (row.TestAcc (w_bit w)) w v)

-- "MOV"; the address of A0 to A3 is a number alone
abbrev pub number_only : Option Reg → Option Reg → ℕ → Form → List Form
number_only None None s f = if s == 1 then f ∷ [] else []
number_only None (Some r) s f = []
number_only (Some r) i s f = []

-- a place in memory that is a number alone
abbrev pub if_number : Rm → (ℕ → Form) → List Form
if_number (rm.Reg r) f = []
if_number (rm.Mem a) f = number_only a.base a.index a.scale (f a.disp)

-- A0 and A1 load the accumulator
abbrev pub mov_load : Width → Reg → Address → List Form
mov_load w Eax a = if_number (rm.Mem a) (λ d. plain (row.MovLoad (w_bit w)) w d)
mov_load w _ a = []

-- A2 and A3 store it
abbrev pub mov_store : Width → Rm → Reg → List Form
mov_store w to Eax = if_number to (λ d. plain (row.MovStore (w_bit w)) w d)
mov_store w to _ = []

-- "MOV": to or from a register, of a constant, and of the accumulator
abbrev pub mov_forms : Width → Rm → Src → List Form
mov_forms w to (src.Reg r) = with_rm (row.MovToRm (w_bit w)) w (number_of_reg r) to 0 ∷ (if_reg to (λ t. with_rm (row.MovToReg (w_bit w)) w (number_of_reg t) (rm.Reg r) 0 ∷ []) ++ mov_store w to r)
mov_forms w to (src.Mem a) = if_reg to (λ t. with_rm (row.MovToReg (w_bit w)) w (number_of_reg t) (rm.Mem a) 0 ∷ mov_load w t a)
mov_forms w to (src.Imm v) = with_rm (row.MovImm (w_bit w)) w 0 to v ∷ if_reg to (λ t. plain (row.MovReg t (w_bit w)) w v ∷ [])

-- "LEA"
abbrev pub lea_forms : Width → Reg → Address → List Form
lea_forms w to a = not_one w (with_rm row.Lea w (number_of_reg to) (rm.Mem a) 0 ∷ [])

-- "DEC", "INC": the short forms
abbrev pub short_step : (Reg → Row) → Width → Rm → List Form
short_step r w to = not_one w (if_reg to (λ t. plain (r t) w 0 ∷ []))

-- a row of one operand, by its reg field
abbrev pub unit : (Bool → Row) → ℕ → Width → Rm → List Form
unit r n w m = with_rm (r (w_bit w)) w n m 0 ∷ []

-- a row with a register in the reg field, widths Two and Four
abbrev pub to_reg : Row → Width → Reg → Rm → List Form
to_reg r w to from = not_one w (with_rm r w (number_of_reg to) from 0 ∷ [])

-- "IMUL", three operands
abbrev pub imul_by_forms : Width → Reg → Rm → ℕ → List Form
imul_by_forms w to from v = not_one w (with_rm row.ImulWord w (number_of_reg to) from v ∷ if_signed w v (λ b. with_rm row.ImulByte w (number_of_reg to) from b))

-- "SAL/SAR/SHL/SHR", "RCL/RCR/ROL/ROR"
abbrev pub shift_forms : ShiftOp → Width → Rm → Count → List Form
shift_forms op w to (count.Imm v) = with_rm (row.ShiftImm op (w_bit w)) w (number_of_shift op) to v ∷ (if v == 1 then with_rm (row.ShiftOne op (w_bit w)) w (number_of_shift op) to 0 ∷ [] else [])
shift_forms op w to count.Cl = with_rm (row.ShiftCl op (w_bit w)) w (number_of_shift op) to 0 ∷ []

-- "SHLD", "SHRD"
abbrev pub double_forms : Row → Row → Rm → Reg → Count → List Form
double_forms i c to from (count.Imm v) = with_rm i Four (number_of_reg from) to v ∷ []
double_forms i c to from count.Cl = with_rm c Four (number_of_reg from) to 0 ∷ []

-- "PUSH"
abbrev pub push_forms : Src → List Form
push_forms (src.Reg r) = with_rm row.Push Four 6 (rm.Reg r) 0 ∷ plain (row.PushReg r) Four 0 ∷ []
push_forms (src.Mem a) = with_rm row.Push Four 6 (rm.Mem a) 0 ∷ []
push_forms (src.Imm v) = plain row.PushWord Four v ∷ if_signed Four v (λ b. plain row.PushByte Four b)

-- "XCHG"; 90 is no exchange
abbrev pub other_reg : Reg → Form → List Form
other_reg Eax f = []
other_reg _ f = f ∷ []

-- 91 to 97
abbrev pub xchg_short : Width → Rm → Reg → List Form
xchg_short w (rm.Reg Eax) r = other_reg r (plain (row.XchgAcc r) w 0)
xchg_short w _ r = []

-- "XCHG": by ModRM, and with the accumulator
abbrev pub xchg_forms : Width → Rm → Reg → List Form
xchg_forms w left r = with_rm (row.Xchg (w_bit w)) w (number_of_reg r) left 0 ∷ not_one w (xchg_short w left r)

-- "MOVSX/MOVSXD", "MOVZX"
abbrev pub widen_forms : Row → Row → Width → Width → Reg → Rm → List Form
widen_forms b h Two One to from = with_rm b Two (number_of_reg to) from 0 ∷ []
widen_forms b h Four One to from = with_rm b Four (number_of_reg to) from 0 ∷ []
widen_forms b h Four Two to from = with_rm h Four (number_of_reg to) from 0 ∷ []
widen_forms b h _ _ to from = []

-- "RET"
abbrev pub ret_forms : ℕ → List Form
ret_forms zero = plain row.RetDrop Four 0 ∷ plain row.Ret Four 0 ∷ repeated row.Ret Four true 0 ∷ []
ret_forms (suc d) = plain row.RetDrop Four (suc d) ∷ []

-- The list. Beside the pages above: "POP", "NOT", "NEG", "MUL", "IMUL", "DIV", "IDIV", "CMOVcc", "SETcc",
-- "CBW/CWDE/CDQE", "CWD/CDQ/CQO", "BSF", "BSR", "BSWAP", "MOVS", "STOS", "REP", "JMP", "CALL", "Jcc",
-- "LEAVE", "INT n", "CLD", "NOP", "ENDBR32".
abbrev pub forms : Instr → List Form
forms (instr.Alu op w to from) = alu_forms op w to from
forms (instr.Test w left right) = test_forms w left right
forms (instr.Mov w to from) = mov_forms w to from
forms (instr.Lea w to a) = lea_forms w to a
forms (instr.Inc w to) = with_rm (row.Inc (w_bit w)) w 0 to 0 ∷ short_step row.IncReg w to
forms (instr.Dec w to) = with_rm (row.Dec (w_bit w)) w 1 to 0 ∷ short_step row.DecReg w to
forms (instr.Not w to) = unit row.Not 2 w to
forms (instr.Neg w to) = unit row.Neg 3 w to
forms (instr.Mul w from) = unit row.Mul 4 w from
forms (instr.ImulWide w from) = unit row.ImulWide 5 w from
forms (instr.Div w from) = unit row.Div 6 w from
forms (instr.Idiv w from) = unit row.Idiv 7 w from
forms (instr.Imul w to from) = to_reg row.Imul w to from
forms (instr.ImulBy w to from by) = imul_by_forms w to from by
forms (instr.Shift op w to n) = shift_forms op w to n
forms (instr.Shld to from n) = double_forms row.ShldImm row.ShldCl to from n
forms (instr.Shrd to from n) = double_forms row.ShrdImm row.ShrdCl to from n
forms (instr.Push from) = push_forms from
forms (instr.Pop to) = with_rm row.Pop Four 0 to 0 ∷ if_reg to (λ t. plain (row.PopReg t) Four 0 ∷ [])
forms (instr.Xchg w left right) = xchg_forms w left right
forms (instr.Movzx wide w to from) = widen_forms row.MovzxByte row.MovzxWord wide w to from
forms (instr.Movsx wide w to from) = widen_forms row.MovsxByte row.MovsxWord wide w to from
forms (instr.Cmov c w to from) = to_reg (row.Cmov c) w to from
forms (instr.Setcc c to) = with_rm (row.Setcc c) Four 0 to 0 ∷ []
forms (instr.Extend w) = not_one w (plain row.Extend w 0 ∷ [])
forms (instr.Spread w) = not_one w (plain row.Spread w 0 ∷ [])
forms (instr.Bsf w to from) = to_reg row.Bsf w to from
forms (instr.Bsr w to from) = to_reg row.Bsr w to from
forms (instr.Bswap to) = plain (row.BswapReg to) Four 0 ∷ []
forms (instr.Movs w repeat) = repeated (row.Movs (w_bit w)) w repeat 0 ∷ []
forms (instr.Stos w repeat) = repeated (row.Stos (w_bit w)) w repeat 0 ∷ []
forms (instr.Jmp by) = plain row.JmpNear Four by ∷ if_signed Four by (λ b. plain row.JmpShort Four b)
forms (instr.JmpTo to) = with_rm row.JmpTo Four 4 to 0 ∷ []
forms (instr.CallTo to) = with_rm row.CallTo Four 2 to 0 ∷ []
forms (instr.Jcc c by) = plain (row.JccNear c) Four by ∷ if_signed Four by (λ b. plain (row.JccShort c) Four b)
forms (instr.Call by) = plain row.CallNear Four by ∷ []
forms (instr.Ret drop) = ret_forms drop
forms instr.Leave = plain row.Leave Four 0 ∷ []
forms instr.Int80 = plain row.Int80 Four 0x80 ∷ []
forms instr.Cld = plain row.Cld Four 0 ∷ []
forms instr.Nop = plain row.Nop Four 0 ∷ plain row.NopLong Four 0 ∷ repeated row.NopEnd Four true 0xFB ∷ []

-- the form is in the list
abbrev pub In : Form → List Form → Type 0
In f [] = ⊥
In f (g ∷ gs) = (f ≡ g) ⊎ In f gs
