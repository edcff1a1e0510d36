-- Which instructions are chosen for an operation. All of this is own.
use Rattle.std.specs.Prelude.{ℕ, ◌+◌, ◌==◌, Bool, true, false, cond, List, [], ◌∷◌, ◌++◌, Some, None}
use Rattle.x86_types.specs.declared.operand.Reg.{Reg}
use Rattle.x86_types.specs.declared.operand.Reg.TheVariants.{Eax, Ecx, Edx, Ebx}
use Rattle.x86_types.specs.declared.operand.Rm.TheVariants as rm
use Rattle.x86_types.specs.declared.operand.Src.{Src}
use Rattle.x86_types.specs.declared.operand.Src.TheVariants as src
use Rattle.x86_types.specs.declared.operand.Address.{Address}
use Rattle.x86_types.specs.declared.operation.AluOp.{AluOp}
use Rattle.x86_types.specs.declared.operation.AluOp.TheVariants as alu
use Rattle.x86_types.specs.declared.operation.ShiftOp.{ShiftOp}
use Rattle.x86_types.specs.declared.operation.ShiftOp.TheVariants as shiftop
use Rattle.x86_types.specs.declared.operation.Count.{Count}
use Rattle.x86_types.specs.declared.operation.Count.TheVariants as count
use Rattle.x86_types.specs.declared.operation.Cond.{Cond}
use Rattle.x86_types.specs.declared.operation.Cond.TheVariants as condition
use Rattle.x86_types.specs.declared.width.Width.{Width}
use Rattle.x86_types.specs.declared.width.Width.TheVariants.{One, Two, Four}
use Rattle.x86_types.specs.declared.instr.Instr.{Instr}
use Rattle.x86_types.specs.declared.instr.Instr.TheVariants as instr
use Rattle.flag_ir.specs.declared.variable.Var.{Var}
use Rattle.flag_ir.specs.declared.variable.Var.TheVariants as var
use Rattle.flag_ir.specs.declared.variable.Term.{Term}
use Rattle.flag_ir.specs.declared.variable.Term.TheVariants as term
use Rattle.flag_ir.specs.declared.operation.Calc.{Calc}
use Rattle.flag_ir.specs.declared.operation.Calc.TheVariants as calc
use Rattle.flag_ir.specs.declared.operation.Op.{Op}
use Rattle.flag_ir.specs.declared.operation.Op.TheVariants as op
use Rattle.named_code.specs.declared.slot.Slot.{Slot}
use Rattle.named_code.specs.declared.slot.Slot.TheVariants.{Fixed, Name}
use Rattle.named_code.specs.declared.named.VInstr.{VInstr}

-- ---- where variables live: registers are the names 0 to 7, flags 8 to 12, and temporaries follow; a lowered unit has no locals
abbrev pub name_of : Var → ℕ
name_of (var.Reg n) = n
name_of (var.Flag n) = 8 + n
name_of (var.Temp n) = 13 + n
name_of (var.Local n) = 0

abbrev pub slot_of : Var → Slot
slot_of v = Name (name_of v)

-- ---- instructions with slots: the first field is EAX, the second ECX
abbrev pub made : Instr → List Slot → VInstr
made i slots = record { instr = i; slots = slots }

-- a term as the second operand of an instruction whose first one is a slot
abbrev pub source_of : Term → Src
source_of (term.Var v) = src.Reg Ecx
source_of (term.Word n) = src.Imm n

abbrev pub with_source : Slot → Term → List Slot
with_source to (term.Var v) = to ∷ slot_of v ∷ []
with_source to (term.Word n) = to ∷ []

-- a term goes to a slot
abbrev pub put : Slot → Term → VInstr
put to t = made (instr.Mov Four (rm.Reg Eax) (source_of t)) (with_source to t)

-- a slot goes to another
abbrev pub copy : Slot → Slot → VInstr
copy to from = made (instr.Mov Four (rm.Reg Eax) (src.Reg Ecx)) (to ∷ from ∷ [])

-- the lowest bytes of a slot go to a slot, with zeros above them, or to its lowest byte alone
abbrev pub extend : Width → Slot → Slot → VInstr
extend w to from = made (instr.Movzx Four w Eax (rm.Reg Ecx)) (to ∷ from ∷ [])

abbrev pub copy_byte : Slot → Slot → VInstr
copy_byte to from = made (instr.Mov One (rm.Reg Eax) (src.Reg Ecx)) (to ∷ from ∷ [])

abbrev pub alu_by : AluOp → Slot → Term → VInstr
alu_by o to t = made (instr.Alu o Four (rm.Reg Eax) (source_of t)) (with_source to t)

abbrev pub set_if : Cond → Slot → VInstr
set_if c to = made (instr.Setcc c (rm.Reg Eax)) (to ∷ [])

abbrev pub move_if : Cond → Slot → Slot → VInstr
move_if c to from = made (instr.Cmov c Four Eax (rm.Reg Ecx)) (to ∷ from ∷ [])

abbrev pub shift_by : ShiftOp → Count → Slot → VInstr
shift_by o n to = made (instr.Shift o Four (rm.Reg Eax) n) (to ∷ [])

abbrev pub multiply_by : Bool → Slot → VInstr
multiply_by false from = made (instr.Mul Four (rm.Reg Eax)) (from ∷ [])
multiply_by true from = made (instr.ImulWide Four (rm.Reg Eax)) (from ∷ [])

abbrev pub divide_by : Bool → Width → Slot → VInstr
divide_by false w from = made (instr.Div w (rm.Reg Eax)) (from ∷ [])
divide_by true w from = made (instr.Idiv w (rm.Reg Eax)) (from ∷ [])

-- ---- memory at the address that a term is
abbrev pub based_on : Reg → Address
based_on r = record { base = Some r; index = None; scale = 1; disp = 0 }

abbrev pub at_word : ℕ → Address
at_word n = record { base = None; index = None; scale = 1; disp = n }

-- as the second operand
abbrev pub address_of : Term → Address
address_of (term.Var v) = based_on Ecx
address_of (term.Word n) = at_word n

abbrev pub load_by : Width → Slot → Term → VInstr
load_by One to at = made (instr.Movzx Four One Eax (rm.Mem (address_of at))) (with_source to at)
load_by Two to at = made (instr.Movzx Four Two Eax (rm.Mem (address_of at))) (with_source to at)
load_by Four to at = made (instr.Mov Four (rm.Reg Eax) (src.Mem (address_of at))) (with_source to at)

abbrev pub store_by : Width → Term → Slot → VInstr
store_by w (term.Var v) from = made (instr.Mov w (rm.Mem (based_on Eax)) (src.Reg Ecx)) (slot_of v ∷ from ∷ [])
store_by w (term.Word n) from = made (instr.Mov w (rm.Mem (at_word n)) (src.Reg Eax)) (from ∷ [])

-- the width of a size
abbrev pub width_of : ℕ → Width
width_of size = cond (size == 1) One (cond (size == 2) Two Four)

-- ---- calculations
-- whether a term is a variable
abbrev pub is_of : Var → Term → Bool
is_of v (term.Var w) = name_of w == name_of v
is_of v (term.Word n) = false

-- the result is written straight into its variable where that isn't read again
abbrev pub by_alu : AluOp → Var → Term → Term → List VInstr
by_alu o to x y = cond (is_of to y) (put (Fixed Eax) x ∷ alu_by o (Fixed Eax) y ∷ copy (slot_of to) (Fixed Eax) ∷ []) (put (slot_of to) x ∷ alu_by o (slot_of to) y ∷ [])

abbrev pub by_multiply : Bool → Reg → Var → Term → Term → List VInstr
by_multiply signed half to x y = put (Fixed Eax) x ∷ put (Fixed Ecx) y ∷ multiply_by signed (Fixed Ecx) ∷ copy (slot_of to) (Fixed half) ∷ []

abbrev pub by_shift : ShiftOp → Var → Term → Term → List VInstr
by_shift o to x y = put (Fixed Ecx) y ∷ put (slot_of to) x ∷ shift_by o count.Cl (slot_of to) ∷ []

abbrev pub by_compare : Cond → Var → Term → Term → List VInstr
by_compare c to x y = put (Fixed Eax) x ∷ alu_by alu.Cmp (Fixed Eax) y ∷ put (slot_of to) (term.Word 0) ∷ set_if c (slot_of to) ∷ []

abbrev pub choose_calc : Calc → Var → Term → Term → List VInstr
choose_calc calc.Add to x y = by_alu alu.Add to x y
choose_calc calc.Sub to x y = by_alu alu.Sub to x y
choose_calc calc.And to x y = by_alu alu.And to x y
choose_calc calc.Or to x y = by_alu alu.Or to x y
choose_calc calc.Xor to x y = by_alu alu.Xor to x y
choose_calc calc.Mul to x y = by_multiply false Eax to x y
choose_calc calc.Mulhu to x y = by_multiply false Edx to x y
choose_calc calc.Mulhs to x y = by_multiply true Edx to x y
choose_calc calc.Shl to x y = by_shift shiftop.Shl to x y
choose_calc calc.Shr to x y = by_shift shiftop.Shr to x y
choose_calc calc.Sar to x y = by_shift shiftop.Sar to x y
choose_calc calc.Eq to x y = by_compare condition.E to x y
choose_calc calc.Ltu to x y = by_compare condition.B to x y
choose_calc calc.Lts to x y = by_compare condition.L to x y

-- ---- divisions: of EDX:EAX, of DX:AX, or of AX, which is built of the lowest bytes of both halves
abbrev pub wide_operands : Term → Term → Term → List VInstr
wide_operands high low by = put (Fixed Ecx) by ∷ put (Fixed Edx) high ∷ put (Fixed Eax) low ∷ []

unfoldable pub byte_dividend : Term → Term → Term → List VInstr
byte_dividend high low by = put (Fixed Ecx) by ∷ put (Fixed Edx) high ∷ extend One (Fixed Eax) (Fixed Edx) ∷ shift_by shiftop.Shl (count.Imm 8) (Fixed Eax) ∷ put (Fixed Edx) low ∷ copy_byte (Fixed Eax) (Fixed Edx) ∷ []

-- quotient and remainder are the two bytes of AX
unfoldable pub byte_results : Var → Var → List VInstr
byte_results quotient remainder = extend One (slot_of quotient) (Fixed Eax) ∷ extend Two (Fixed Eax) (Fixed Eax) ∷ shift_by shiftop.Shr (count.Imm 8) (Fixed Eax) ∷ copy (slot_of remainder) (Fixed Eax) ∷ []

abbrev pub choose_divide : Width → Bool → Var → Var → Term → Term → Term → List VInstr
choose_divide Four signed quotient remainder high low by = wide_operands high low by ++ divide_by signed Four (Fixed Ecx) ∷ copy (slot_of quotient) (Fixed Eax) ∷ copy (slot_of remainder) (Fixed Edx) ∷ []
choose_divide Two signed quotient remainder high low by = wide_operands high low by ++ divide_by signed Two (Fixed Ecx) ∷ extend Two (slot_of quotient) (Fixed Eax) ∷ extend Two (slot_of remainder) (Fixed Edx) ∷ []
choose_divide One signed quotient remainder high low by = byte_dividend high low by ++ divide_by signed One (Fixed Ecx) ∷ byte_results quotient remainder

abbrev pub choose_pick : Var → Term → Term → Term → List VInstr
choose_pick to test x y = put (Fixed Eax) test ∷ alu_by alu.Cmp (Fixed Eax) (term.Word 0) ∷ put (Fixed Ecx) x ∷ put (slot_of to) y ∷ move_if condition.Ne (slot_of to) (Fixed Ecx) ∷ []

abbrev pub choose_store : Width → Term → Term → List VInstr
choose_store w at (term.Var v) = store_by w at (slot_of v) ∷ []
choose_store w at (term.Word n) = put (Fixed Eax) (term.Word n) ∷ store_by w at (Fixed Eax) ∷ []

-- a call is asked by the registers 0, 3, 1 and 2, and its result goes to register 0
abbrev pub choose_system : List VInstr
choose_system = copy (Fixed Eax) (Name 0) ∷ copy (Fixed Ebx) (Name 3) ∷ copy (Fixed Ecx) (Name 1) ∷ copy (Fixed Edx) (Name 2) ∷ made instr.Int80 [] ∷ copy (Name 0) (Fixed Eax) ∷ []

-- ---- the list of an operation; those that need an open frame don't stand in a lowered unit
unfoldable pub choose_op : Op → List VInstr
choose_op (op.Set to from) = put (slot_of to) from ∷ []
choose_op (op.Calc to c x y) = choose_calc c to x y
choose_op (op.Forget to) = []
choose_op (op.Pick to test x y) = choose_pick to test x y
choose_op (op.Need from) = []
choose_op (op.Divide quotient remainder high low by size signed) = choose_divide (width_of size) signed quotient remainder high low by
choose_op (op.Load to size at) = load_by (width_of size) (slot_of to) at ∷ []
choose_op (op.Store size at from) = choose_store (width_of size) at from
choose_op (op.NearLoad to size at) = []
choose_op (op.NearStore size at from) = []
choose_op (op.Get to size offset) = []
choose_op (op.Put size offset from) = []
choose_op op.System = choose_system
choose_op op.NearSystem = []

unfoldable pub choose_ops : List Op → List VInstr
choose_ops [] = []
choose_ops (o ∷ os) = choose_op o ++ choose_ops os
