-- Written by tools/rows.py.
-- What the parts of a spelling mean: the row, whether 66 makes width Two, whether F3 stands, ModRM's
-- reg field, its operand, and the immediate.
use Rattle.std.specs.Prelude.{ℕ, Bool, true, Option, Some, None, if◌then◌else◌, ◌==◌}
use Rattle.x86_types.specs.declared.operand.Reg.{Reg}
use Rattle.x86_types.specs.declared.operand.Reg.TheVariants.{Eax}
use Rattle.x86_types.specs.declared.operand.Rm.{Rm}
use Rattle.x86_types.specs.declared.operand.Rm.TheVariants as rm
use Rattle.x86_types.specs.declared.operand.Src.{Src}
use Rattle.x86_types.specs.declared.operand.Src.TheVariants as src
use Rattle.x86_types.specs.declared.operand.Address.{Address}
use Rattle.x86_types.specs.declared.operation.Count.TheVariants as count
use Rattle.x86_types.specs.declared.width.Width.{Width}
use Rattle.x86_types.specs.declared.width.Width.TheVariants.{One, Two, Four}
use Rattle.x86_types.specs.declared.instr.Instr.{Instr}
use Rattle.x86_types.specs.declared.instr.Instr.TheVariants as instr
use Rattle.x86_types.specs.Numbers.{reg_of, alu_of}
use Rattle.x86_grammar.specs.declared.row.Row.{Row}
use Rattle.x86_grammar.specs.declared.row.Row.TheVariants as row
use Rattle.x86_grammar.specs.Attributes.{width_of}
use Rattle.x86_grammar.specs.Parts.{signed}

-- an operand as a source
abbrev pub src_of : Rm → Src
src_of (rm.Reg r) = src.Reg r
src_of (rm.Mem a) = src.Mem a

-- Lea takes a place in memory alone
abbrev pub lea : Width → Reg → Rm → Option Instr
lea w to (rm.Reg r) = None
lea w to (rm.Mem a) = Some (instr.Lea w to a)

-- an address without base and index
abbrev pub number_alone : ℕ → Address
number_alone d = record { base = None; index = None; scale = 1; disp = d }

-- the instruction of a row with those parts
abbrev pub build : Row → Bool → Bool → ℕ → Rm → ℕ → Option Instr
build (row.AluToRm op w) operand_size rep n m v = Some (instr.Alu op (width_of w operand_size) m (src.Reg (reg_of n)))
build (row.AluToReg op w) operand_size rep n m v = Some (instr.Alu op (width_of w operand_size) (rm.Reg (reg_of n)) (src_of m))
build (row.AluAcc op w) operand_size rep n m v = Some (instr.Alu op (width_of w operand_size) (rm.Reg Eax) (src.Imm v))
build (row.IncReg r) operand_size rep n m v = Some (instr.Inc (width_of true operand_size) (rm.Reg r))
build (row.DecReg r) operand_size rep n m v = Some (instr.Dec (width_of true operand_size) (rm.Reg r))
build (row.PushReg r) operand_size rep n m v = Some (instr.Push (src.Reg r))
build (row.PopReg r) operand_size rep n m v = Some (instr.Pop (rm.Reg r))
build row.PushWord operand_size rep n m v = Some (instr.Push (src.Imm v))
build row.ImulWord operand_size rep n m v = Some (instr.ImulBy (width_of true operand_size) (reg_of n) m v)
build row.PushByte operand_size rep n m v = Some (instr.Push (src.Imm (signed Four v)))
build row.ImulByte operand_size rep n m v = Some (instr.ImulBy (width_of true operand_size) (reg_of n) m (signed (width_of true operand_size) v))
build (row.JccShort c) operand_size rep n m v = Some (instr.Jcc c (signed Four v))
build (row.AluImm w) operand_size rep n m v = Some (instr.Alu (alu_of n) (width_of w operand_size) m (src.Imm v))
build row.AluByte operand_size rep n m v = Some (instr.Alu (alu_of n) (width_of true operand_size) m (src.Imm (signed (width_of true operand_size) v)))
build (row.TestRm w) operand_size rep n m v = Some (instr.Test (width_of w operand_size) m (src.Reg (reg_of n)))
build (row.Xchg w) operand_size rep n m v = Some (instr.Xchg (width_of w operand_size) m (reg_of n))
build (row.MovToRm w) operand_size rep n m v = Some (instr.Mov (width_of w operand_size) m (src.Reg (reg_of n)))
build (row.MovToReg w) operand_size rep n m v = Some (instr.Mov (width_of w operand_size) (rm.Reg (reg_of n)) (src_of m))
build row.Lea operand_size rep n m v = lea (width_of true operand_size) (reg_of n) m
build row.Pop operand_size rep n m v = Some (instr.Pop m)
build (row.XchgAcc r) operand_size rep n m v = Some (instr.Xchg (width_of true operand_size) (rm.Reg Eax) r)
build row.Nop operand_size rep n m v = Some instr.Nop
build row.Extend operand_size rep n m v = Some (instr.Extend (width_of true operand_size))
build row.Spread operand_size rep n m v = Some (instr.Spread (width_of true operand_size))
build (row.MovLoad w) operand_size rep n m v = Some (instr.Mov (width_of w operand_size) (rm.Reg Eax) (src.Mem (number_alone v)))
build (row.MovStore w) operand_size rep n m v = Some (instr.Mov (width_of w operand_size) (rm.Mem (number_alone v)) (src.Reg Eax))
build (row.Movs w) operand_size rep n m v = Some (instr.Movs (width_of w operand_size) rep)
build (row.TestAcc w) operand_size rep n m v = Some (instr.Test (width_of w operand_size) (rm.Reg Eax) (src.Imm v))
build (row.Stos w) operand_size rep n m v = Some (instr.Stos (width_of w operand_size) rep)
build (row.MovReg r w) operand_size rep n m v = Some (instr.Mov (width_of w operand_size) (rm.Reg r) (src.Imm v))
build (row.ShiftImm op w) operand_size rep n m v = Some (instr.Shift op (width_of w operand_size) m (count.Imm v))
build row.RetDrop operand_size rep n m v = Some (instr.Ret v)
build row.Ret operand_size rep n m v = Some (instr.Ret 0)
build (row.MovImm w) operand_size rep n m v = Some (instr.Mov (width_of w operand_size) m (src.Imm v))
build row.Leave operand_size rep n m v = Some instr.Leave
build row.Int80 operand_size rep n m v = if v == 0x80 then Some instr.Int80 else None
build (row.ShiftOne op w) operand_size rep n m v = Some (instr.Shift op (width_of w operand_size) m (count.Imm 1))
build (row.ShiftCl op w) operand_size rep n m v = Some (instr.Shift op (width_of w operand_size) m count.Cl)
build row.CallNear operand_size rep n m v = Some (instr.Call v)
build row.JmpNear operand_size rep n m v = Some (instr.Jmp v)
build row.JmpShort operand_size rep n m v = Some (instr.Jmp (signed Four v))
build (row.TestImm w) operand_size rep n m v = Some (instr.Test (width_of w operand_size) m (src.Imm v))
build (row.Not w) operand_size rep n m v = Some (instr.Not (width_of w operand_size) m)
build (row.Neg w) operand_size rep n m v = Some (instr.Neg (width_of w operand_size) m)
build (row.Mul w) operand_size rep n m v = Some (instr.Mul (width_of w operand_size) m)
build (row.ImulWide w) operand_size rep n m v = Some (instr.ImulWide (width_of w operand_size) m)
build (row.Div w) operand_size rep n m v = Some (instr.Div (width_of w operand_size) m)
build (row.Idiv w) operand_size rep n m v = Some (instr.Idiv (width_of w operand_size) m)
build row.Cld operand_size rep n m v = Some instr.Cld
build (row.Inc w) operand_size rep n m v = Some (instr.Inc (width_of w operand_size) m)
build (row.Dec w) operand_size rep n m v = Some (instr.Dec (width_of w operand_size) m)
build row.CallTo operand_size rep n m v = Some (instr.CallTo m)
build row.JmpTo operand_size rep n m v = Some (instr.JmpTo m)
build row.Push operand_size rep n m v = Some (instr.Push (src_of m))
build row.NopEnd operand_size rep n m v = if v == 0xFB then Some instr.Nop else None
build row.NopLong operand_size rep n m v = Some instr.Nop
build (row.Cmov c) operand_size rep n m v = Some (instr.Cmov c (width_of true operand_size) (reg_of n) m)
build (row.JccNear c) operand_size rep n m v = Some (instr.Jcc c v)
build (row.Setcc c) operand_size rep n m v = Some (instr.Setcc c m)
build row.ShldImm operand_size rep n m v = Some (instr.Shld m (reg_of n) (count.Imm v))
build row.ShldCl operand_size rep n m v = Some (instr.Shld m (reg_of n) count.Cl)
build row.ShrdImm operand_size rep n m v = Some (instr.Shrd m (reg_of n) (count.Imm v))
build row.ShrdCl operand_size rep n m v = Some (instr.Shrd m (reg_of n) count.Cl)
build row.Imul operand_size rep n m v = Some (instr.Imul (width_of true operand_size) (reg_of n) m)
build row.MovzxByte operand_size rep n m v = Some (instr.Movzx (width_of true operand_size) One (reg_of n) m)
build row.MovzxWord operand_size rep n m v = Some (instr.Movzx Four Two (reg_of n) m)
build row.Bsf operand_size rep n m v = Some (instr.Bsf (width_of true operand_size) (reg_of n) m)
build row.Bsr operand_size rep n m v = Some (instr.Bsr (width_of true operand_size) (reg_of n) m)
build row.MovsxByte operand_size rep n m v = Some (instr.Movsx (width_of true operand_size) One (reg_of n) m)
build row.MovsxWord operand_size rep n m v = Some (instr.Movsx Four Two (reg_of n) m)
build (row.BswapReg r) operand_size rep n m v = Some (instr.Bswap r)
