-- Which byte of which register a one-byte operand names, and the registers of an instruction's fields. Intel SDM volume 2,
-- section 2.1.5, table 2-2, and section 3.1.1.1, table 3-1.
use Rattle.std.specs.Prelude.{◌≡◌, ◌↔◌, ℕ, ◌/◌, ◌%◌, Option, Some, None}
use Rattle.x86_types.specs.declared.instr.Instr.{Instr}
use Rattle.x86_types.specs.declared.instr.Instr.TheVariants as instr
use Rattle.x86_types.specs.declared.operand.Address.{Address}
use Rattle.x86_types.specs.declared.operand.Reg.{Reg}
use Rattle.x86_types.specs.declared.operand.Reg.TheVariants as reg
use Rattle.x86_types.specs.declared.operand.ByteRegister.{ByteRegister}
use Rattle.x86_types.specs.declared.operand.Rm.{Rm}
use Rattle.x86_types.specs.declared.operand.Rm.TheVariants as rm
use Rattle.x86_types.specs.declared.operand.Src.{Src}
use Rattle.x86_types.specs.declared.operand.Src.TheVariants as src
use Rattle.x86_types.specs.declared.width.Width.{Width}
use Rattle.x86_types.specs.declared.width.Width.TheVariants.{One, Four}
use Rattle.x86_types.specs.Numbers.{number_of_reg, reg_of}

-- byte 0 of a register is the lowest
abbrev pub byte_in : Reg → ℕ → ByteRegister
byte_in r n = record { reg = r; byte = n }

-- AL, CL, DL, BL, AH, CH, DH and BH, in the order of their numbers
abbrev pub byte_register : Reg → ByteRegister
byte_register reg.Eax = byte_in reg.Eax 0
byte_register reg.Ecx = byte_in reg.Ecx 0
byte_register reg.Edx = byte_in reg.Edx 0
byte_register reg.Ebx = byte_in reg.Ebx 0
byte_register reg.Esp = byte_in reg.Eax 1
byte_register reg.Ebp = byte_in reg.Ecx 1
byte_register reg.Esi = byte_in reg.Edx 1
byte_register reg.Edi = byte_in reg.Ebx 1

-- by number: the lowest two bits name the register, the third its byte
abbrev pub ByteRegisterIsNumber : Type 0
ByteRegisterIsNumber = (r : Reg) → byte_register r ≡ byte_in (reg_of (number_of_reg r % 4)) (number_of_reg r / 4)

-- ---- other registers in the fields of an instruction

-- what a register field is: the index of an address, another whole register or its lower 16 bits, or one byte
pub data RegisterField : Type 0 where
  Index : RegisterField
  Whole : RegisterField
  Byte : RegisterField

-- the field of an operand of that width
abbrev pub field_of : Width → RegisterField
field_of One = Byte
field_of _ = Whole

-- another register for each, by what its field is
abbrev pub Renaming : Type 0
Renaming = RegisterField → Reg → Reg

-- another register where one is
abbrev pub renamed_option : (Reg → Reg) → Option Reg → Option Reg
renamed_option f None = None
renamed_option f (Some r) = Some (f r)

-- an address with other registers
abbrev pub renamed_address : Renaming → Address → Address
renamed_address f a = record { base = renamed_option (f Whole) a.base; index = renamed_option (f Index) a.index; scale = a.scale; disp = a.disp }

-- an operand of that width with other registers
abbrev pub renamed_rm : Renaming → Width → Rm → Rm
renamed_rm f w (rm.Reg r) = rm.Reg (f (field_of w) r)
renamed_rm f w (rm.Mem a) = rm.Mem (renamed_address f a)

-- a source of that width with other registers
abbrev pub renamed_src : Renaming → Width → Src → Src
renamed_src f w (src.Reg r) = src.Reg (f (field_of w) r)
renamed_src f w (src.Mem a) = src.Mem (renamed_address f a)
renamed_src f w (src.Imm v) = src.Imm v

-- The instruction with other registers in its fields. Registers that an instruction uses without a field stay: the
-- accumulator of MUL, CL of a shift, ESI and EDI of MOVS.
abbrev pub renamed : Renaming → Instr → Instr
renamed f (instr.Alu op w to from) = instr.Alu op w (renamed_rm f w to) (renamed_src f w from)
renamed f (instr.Test w left right) = instr.Test w (renamed_rm f w left) (renamed_src f w right)
renamed f (instr.Mov w to from) = instr.Mov w (renamed_rm f w to) (renamed_src f w from)
renamed f (instr.Lea w to a) = instr.Lea w (f (field_of w) to) (renamed_address f a)
renamed f (instr.Inc w to) = instr.Inc w (renamed_rm f w to)
renamed f (instr.Dec w to) = instr.Dec w (renamed_rm f w to)
renamed f (instr.Not w to) = instr.Not w (renamed_rm f w to)
renamed f (instr.Neg w to) = instr.Neg w (renamed_rm f w to)
renamed f (instr.Mul w from) = instr.Mul w (renamed_rm f w from)
renamed f (instr.ImulWide w from) = instr.ImulWide w (renamed_rm f w from)
renamed f (instr.Div w from) = instr.Div w (renamed_rm f w from)
renamed f (instr.Idiv w from) = instr.Idiv w (renamed_rm f w from)
renamed f (instr.Imul w to from) = instr.Imul w (f (field_of w) to) (renamed_rm f w from)
renamed f (instr.ImulBy w to from by) = instr.ImulBy w (f (field_of w) to) (renamed_rm f w from) by
renamed f (instr.Shift op w to n) = instr.Shift op w (renamed_rm f w to) n
renamed f (instr.Shld to from n) = instr.Shld (renamed_rm f Four to) (f Whole from) n
renamed f (instr.Shrd to from n) = instr.Shrd (renamed_rm f Four to) (f Whole from) n
renamed f (instr.Push from) = instr.Push (renamed_src f Four from)
renamed f (instr.Pop to) = instr.Pop (renamed_rm f Four to)
renamed f (instr.Xchg w left right) = instr.Xchg w (renamed_rm f w left) (f (field_of w) right)
renamed f (instr.Movzx wide w to from) = instr.Movzx wide w (f (field_of wide) to) (renamed_rm f w from)
renamed f (instr.Movsx wide w to from) = instr.Movsx wide w (f (field_of wide) to) (renamed_rm f w from)
renamed f (instr.Cmov c w to from) = instr.Cmov c w (f (field_of w) to) (renamed_rm f w from)
renamed f (instr.Setcc c to) = instr.Setcc c (renamed_rm f One to)
renamed f (instr.Extend w) = instr.Extend w
renamed f (instr.Spread w) = instr.Spread w
renamed f (instr.Bsf w to from) = instr.Bsf w (f (field_of w) to) (renamed_rm f w from)
renamed f (instr.Bsr w to from) = instr.Bsr w (f (field_of w) to) (renamed_rm f w from)
renamed f (instr.Bswap to) = instr.Bswap (f Whole to)
renamed f (instr.Movs w repeat) = instr.Movs w repeat
renamed f (instr.Stos w repeat) = instr.Stos w repeat
renamed f (instr.Jmp by) = instr.Jmp by
renamed f (instr.JmpTo to) = instr.JmpTo (renamed_rm f Four to)
renamed f (instr.CallTo to) = instr.CallTo (renamed_rm f Four to)
renamed f (instr.Jcc c by) = instr.Jcc c by
renamed f (instr.Call by) = instr.Call by
renamed f (instr.Ret drop) = instr.Ret drop
renamed f instr.Leave = instr.Leave
renamed f instr.Int80 = instr.Int80
renamed f instr.Cld = instr.Cld
renamed f instr.Nop = instr.Nop

-- no index but ESP becomes ESP
abbrev pub MakesNoEspIndex : Renaming → Type 0
MakesNoEspIndex f = (r : Reg) → f Index r ≡ reg.Esp → r ≡ reg.Esp

-- and ESP stays
abbrev pub KeepsEspIndex : Renaming → Type 0
KeepsEspIndex f = (r : Reg) → (f Index r ≡ reg.Esp) ↔ (r ≡ reg.Esp)

-- the same registers give the same instruction, and one renaming after another is one
pub record RenamingLaws : Type 0 where
  pub same : (i : Instr) → renamed (λ k r. r) i ≡ i
  pub twice : (f g : Renaming) (i : Instr) → renamed f (renamed g i) ≡ renamed (λ k r. f k (g k r)) i
