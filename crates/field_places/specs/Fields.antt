-- The register fields of instructions, and the registers that instructions use without a field (Intel SDM volume 2, section 2.1.5, and
-- "Operation" of each instruction). Each instruction has its line, so that one that is left out is seen.
use Rattle.std.specs.Prelude.{ℕ, Bool, true, false, List, [], ◌∷◌, ◌++◌, Option, Some, None}
use Rattle.x86_types.specs.declared.instr.Instr.{Instr}
use Rattle.x86_types.specs.declared.instr.Instr.TheVariants as instr
use Rattle.x86_types.specs.declared.operand.Address.{Address}
use Rattle.x86_types.specs.declared.operand.Reg.{Reg}
use Rattle.x86_types.specs.declared.operand.Rm.{Rm}
use Rattle.x86_types.specs.declared.operand.Rm.TheVariants as rm
use Rattle.x86_types.specs.declared.operand.Src.{Src}
use Rattle.x86_types.specs.declared.operand.Src.TheVariants as src
use Rattle.x86_types.specs.declared.operation.Count.{Count}
use Rattle.x86_types.specs.declared.operation.Count.TheVariants as count
use Rattle.x86_types.specs.declared.width.Width.{Width}
use Rattle.x86_types.specs.declared.width.Width.TheVariants.{One, Two, Four}
use Rattle.x86_types.specs.Registers.{RegisterField, Index, Whole, field_of}

-- ---- the register fields, in order, each with what it is: the index of an address, a whole register or its lower half, or one byte
pub record Field : Type 0 where
  pub kind : RegisterField
  pub register : Reg

abbrev pub as_field : RegisterField → Reg → Field
as_field k r = record { kind = k; register = r }

-- that of an operand of this width
abbrev pub sized_field : Width → Reg → Field
sized_field w r = as_field (field_of w) r

abbrev pub if_some : RegisterField → Option Reg → List Field
if_some k None = []
if_some k (Some r) = as_field k r ∷ []

abbrev pub address_fields : Address → List Field
address_fields a = if_some Whole a.base ++ if_some Index a.index

abbrev pub rm_fields : Width → Rm → List Field
rm_fields w (rm.Reg r) = sized_field w r ∷ []
rm_fields w (rm.Mem a) = address_fields a

abbrev pub src_fields : Width → Src → List Field
src_fields w (src.Reg r) = sized_field w r ∷ []
src_fields w (src.Mem a) = address_fields a
src_fields w (src.Imm n) = []

unfoldable pub fields : Instr → List Field
fields (instr.Alu op w to from) = rm_fields w to ++ src_fields w from
fields (instr.Test w left right) = rm_fields w left ++ src_fields w right
fields (instr.Mov w to from) = rm_fields w to ++ src_fields w from
fields (instr.Lea w to at) = sized_field w to ∷ address_fields at
fields (instr.Inc w to) = rm_fields w to
fields (instr.Dec w to) = rm_fields w to
fields (instr.Not w to) = rm_fields w to
fields (instr.Neg w to) = rm_fields w to
fields (instr.Mul w from) = rm_fields w from
fields (instr.ImulWide w from) = rm_fields w from
fields (instr.Div w from) = rm_fields w from
fields (instr.Idiv w from) = rm_fields w from
fields (instr.Imul w to from) = sized_field w to ∷ rm_fields w from
fields (instr.ImulBy w to from by) = sized_field w to ∷ rm_fields w from
fields (instr.Shift op w to n) = rm_fields w to
fields (instr.Shld to from n) = rm_fields Four to ++ as_field Whole from ∷ []
fields (instr.Shrd to from n) = rm_fields Four to ++ as_field Whole from ∷ []
fields (instr.Push from) = src_fields Four from
fields (instr.Pop to) = rm_fields Four to
fields (instr.Xchg w left right) = rm_fields w left ++ sized_field w right ∷ []
fields (instr.Movzx wide w to from) = sized_field wide to ∷ rm_fields w from
fields (instr.Movsx wide w to from) = sized_field wide to ∷ rm_fields w from
fields (instr.Cmov c w to from) = sized_field w to ∷ rm_fields w from
fields (instr.Setcc c to) = rm_fields One to
fields (instr.Extend w) = []
fields (instr.Spread w) = []
fields (instr.Bsf w to from) = sized_field w to ∷ rm_fields w from
fields (instr.Bsr w to from) = sized_field w to ∷ rm_fields w from
fields (instr.Bswap to) = as_field Whole to ∷ []
fields (instr.Movs w repeat) = []
fields (instr.Stos w repeat) = []
fields (instr.Jmp by) = []
fields (instr.JmpTo to) = rm_fields Four to
fields (instr.CallTo to) = rm_fields Four to
fields (instr.Jcc c by) = []
fields (instr.Call by) = []
fields (instr.Ret drop) = []
fields instr.Leave = []
fields instr.Int80 = []
fields instr.Cld = []
fields instr.Nop = []

-- ---- registers without a field, by number: EAX 0, ECX 1, EDX 2, EBX 3, ESP 4, EBP 5, ESI 6 and EDI 7
-- the accumulator, and what stands above it in a product or a dividend: AX has both of one byte
abbrev pub product_registers : Width → List ℕ
product_registers One = 0 ∷ []
product_registers Two = 0 ∷ 2 ∷ []
product_registers Four = 0 ∷ 2 ∷ []

abbrev pub count_registers : Count → List ℕ
count_registers (count.Imm n) = []
count_registers count.Cl = 1 ∷ []

-- the count of a repeat
abbrev pub repeat_registers : Bool → List ℕ
repeat_registers false = []
repeat_registers true = 1 ∷ []

-- those of a system call are the number and what is asked for
unfoldable pub implicit_registers : Instr → List ℕ
implicit_registers (instr.Alu op w to from) = []
implicit_registers (instr.Test w left right) = []
implicit_registers (instr.Mov w to from) = []
implicit_registers (instr.Lea w to at) = []
implicit_registers (instr.Inc w to) = []
implicit_registers (instr.Dec w to) = []
implicit_registers (instr.Not w to) = []
implicit_registers (instr.Neg w to) = []
implicit_registers (instr.Mul w from) = product_registers w
implicit_registers (instr.ImulWide w from) = product_registers w
implicit_registers (instr.Div w from) = product_registers w
implicit_registers (instr.Idiv w from) = product_registers w
implicit_registers (instr.Imul w to from) = []
implicit_registers (instr.ImulBy w to from by) = []
implicit_registers (instr.Shift op w to n) = count_registers n
implicit_registers (instr.Shld to from n) = count_registers n
implicit_registers (instr.Shrd to from n) = count_registers n
implicit_registers (instr.Push from) = 4 ∷ []
implicit_registers (instr.Pop to) = 4 ∷ []
implicit_registers (instr.Xchg w left right) = []
implicit_registers (instr.Movzx wide w to from) = []
implicit_registers (instr.Movsx wide w to from) = []
implicit_registers (instr.Cmov c w to from) = []
implicit_registers (instr.Setcc c to) = []
implicit_registers (instr.Extend w) = 0 ∷ []
implicit_registers (instr.Spread w) = 0 ∷ 2 ∷ []
implicit_registers (instr.Bsf w to from) = []
implicit_registers (instr.Bsr w to from) = []
implicit_registers (instr.Bswap to) = []
implicit_registers (instr.Movs w repeat) = 6 ∷ 7 ∷ repeat_registers repeat
implicit_registers (instr.Stos w repeat) = 0 ∷ 7 ∷ repeat_registers repeat
implicit_registers (instr.Jmp by) = []
implicit_registers (instr.JmpTo to) = []
implicit_registers (instr.CallTo to) = 4 ∷ []
implicit_registers (instr.Jcc c by) = []
implicit_registers (instr.Call by) = 4 ∷ []
implicit_registers (instr.Ret drop) = 4 ∷ []
implicit_registers instr.Leave = 4 ∷ 5 ∷ []
implicit_registers instr.Int80 = 0 ∷ 1 ∷ 2 ∷ 3 ∷ []
implicit_registers instr.Cld = []
implicit_registers instr.Nop = []
