-- Which register holds a name while an instruction uses it. All of this is own.
use Rattle.std.specs.Prelude.{ℕ, ◌==◌, ◌&&◌, ◌||◌, Bool, true, false, cond, is_some, List, fold, Option, Some, None}
use Rattle.x86_types.specs.declared.operand.Reg.{Reg}
use Rattle.x86_types.specs.declared.operand.Reg.TheVariants.{Eax, Ecx, Edx, Ebx, Ebp, Esi}
use Rattle.x86_types.specs.declared.operand.Rm.{Rm}
use Rattle.x86_types.specs.declared.operand.Rm.TheVariants as rm
use Rattle.x86_types.specs.declared.operand.Src.{Src}
use Rattle.x86_types.specs.declared.operand.Src.TheVariants as src
use Rattle.x86_types.specs.declared.width.Width.{Width}
use Rattle.x86_types.specs.declared.width.Width.TheVariants.{One, Two, Four}
use Rattle.x86_types.specs.declared.instr.Instr.{Instr}
use Rattle.x86_types.specs.declared.instr.Instr.TheVariants as instr
use Rattle.named_code.specs.declared.slot.Slot.{Slot}
use Rattle.named_code.specs.declared.slot.Slot.TheVariants.{Fixed, Name}
use Rattle.named_code.specs.declared.named.VInstr.{VInstr}
use Rattle.named_code.specs.Items.{slot_at}
use Rattle.name_cells.specs.declared.renaming.FieldRegisters.{FieldRegisters}

-- ---- the last name in slots
abbrev pub name_or : Option ℕ → Slot → Option ℕ
name_or last (Fixed r) = last
name_or last (Name n) = Some n

abbrev pub last_name : List Slot → Option ℕ
last_name slots = fold name_or None slots

abbrev pub is_last : Option ℕ → ℕ → Bool
is_last None n = false
is_last (Some m) n = m == n

-- ---- whether an instruction has a field of one byte
abbrev pub is_one : Width → Bool
is_one One = true
is_one Two = false
is_one Four = false

abbrev pub rm_has_byte : Width → Rm → Bool
rm_has_byte w (rm.Reg r) = is_one w
rm_has_byte w (rm.Mem a) = false

abbrev pub src_has_byte : Width → Src → Bool
src_has_byte w (src.Reg r) = is_one w
src_has_byte w (src.Mem a) = false
src_has_byte w (src.Imm n) = false

unfoldable pub has_byte_field : Instr → Bool
has_byte_field (instr.Alu op w to from) = rm_has_byte w to || src_has_byte w from
has_byte_field (instr.Test w left right) = rm_has_byte w left || src_has_byte w right
has_byte_field (instr.Mov w to from) = rm_has_byte w to || src_has_byte w from
has_byte_field (instr.Lea w to at) = is_one w
has_byte_field (instr.Inc w to) = rm_has_byte w to
has_byte_field (instr.Dec w to) = rm_has_byte w to
has_byte_field (instr.Not w to) = rm_has_byte w to
has_byte_field (instr.Neg w to) = rm_has_byte w to
has_byte_field (instr.Mul w from) = rm_has_byte w from
has_byte_field (instr.ImulWide w from) = rm_has_byte w from
has_byte_field (instr.Div w from) = rm_has_byte w from
has_byte_field (instr.Idiv w from) = rm_has_byte w from
has_byte_field (instr.Imul w to from) = is_one w || rm_has_byte w from
has_byte_field (instr.ImulBy w to from by) = is_one w || rm_has_byte w from
has_byte_field (instr.Shift op w to n) = rm_has_byte w to
has_byte_field (instr.Shld to from n) = false
has_byte_field (instr.Shrd to from n) = false
has_byte_field (instr.Push from) = false
has_byte_field (instr.Pop to) = false
has_byte_field (instr.Xchg w left right) = rm_has_byte w left || is_one w
has_byte_field (instr.Movzx wide w to from) = is_one wide || rm_has_byte w from
has_byte_field (instr.Movsx wide w to from) = is_one wide || rm_has_byte w from
has_byte_field (instr.Cmov c w to from) = is_one w || rm_has_byte w from
has_byte_field (instr.Setcc c to) = rm_has_byte One to
has_byte_field (instr.Extend w) = false
has_byte_field (instr.Spread w) = false
has_byte_field (instr.Bsf w to from) = is_one w || rm_has_byte w from
has_byte_field (instr.Bsr w to from) = is_one w || rm_has_byte w from
has_byte_field (instr.Bswap to) = false
has_byte_field (instr.Movs w repeat) = false
has_byte_field (instr.Stos w repeat) = false
has_byte_field (instr.Jmp by) = false
has_byte_field (instr.JmpTo to) = false
has_byte_field (instr.CallTo to) = false
has_byte_field (instr.Jcc c by) = false
has_byte_field (instr.Call by) = false
has_byte_field (instr.Ret drop) = false
has_byte_field instr.Leave = false
has_byte_field instr.Int80 = false
has_byte_field instr.Cld = false
has_byte_field instr.Nop = false

-- ---- the registers of slots: the last name has EBX where there is a field of one byte, and else ESI; each other one has EBP
abbrev pub holder : Bool → Option ℕ → ℕ → Reg
holder byte last n = cond (is_last last n) (cond byte Ebx Esi) Ebp

abbrev pub slot_register : Bool → Option ℕ → Slot → Reg
slot_register byte last (Fixed r) = r
slot_register byte last (Name n) = holder byte last n

-- those of the fields that hold EAX, ECX and EDX
abbrev pub field_registers : Bool → List Slot → FieldRegisters
field_registers byte slots =
    let last = last_name slots in
    record { first = slot_register byte last (slot_at slots Eax); second = slot_register byte last (slot_at slots Ecx); third = slot_register byte last (slot_at slots Edx) }

-- EBX is borrowed for a name
abbrev pub borrows_ebx : VInstr → Bool
borrows_ebx x = has_byte_field x.instr && is_some (last_name x.slots)
