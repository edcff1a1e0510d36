-- Operations that read an operand to_temp a temporary and that write one from it. Temporary 0 is the address of the target; the operands
-- are read to_temp the temporaries 1, 2 and 3, and the results stand in those from 4 on. A write may use the temporaries 2 and 3. All of
-- this is own.
use Rattle.std.specs.Prelude.{ℕ, zero, suc, ◌%◌, List, [], ◌∷◌, ◌++◌, Option, Some, None}
use Rattle.x86_types.specs.declared.operand.Reg.{Reg}
use Rattle.x86_types.specs.declared.operand.Address.{Address}
use Rattle.x86_types.specs.declared.operand.Rm.{Rm}
use Rattle.x86_types.specs.declared.operand.Rm.TheVariants as rm
use Rattle.x86_types.specs.declared.operand.Src.{Src}
use Rattle.x86_types.specs.declared.operand.Src.TheVariants as src
use Rattle.x86_types.specs.declared.width.Width.{Width}
use Rattle.x86_types.specs.declared.width.Width.TheVariants.{One, Two, Four}
use Rattle.x86_types.specs.Numbers.{number_of_reg, size_of}
use Rattle.x86_types.specs.Registers.{byte_register}
use Rattle.flag_ir.specs.declared.variable.Var.TheVariants as var
use Rattle.flag_ir.specs.declared.variable.Term.{Term}
use Rattle.flag_ir.specs.declared.variable.Term.TheVariants as term
use Rattle.flag_ir.specs.declared.operation.Calc.{Calc}
use Rattle.flag_ir.specs.declared.operation.Calc.TheVariants as calc
use Rattle.flag_ir.specs.declared.operation.Op.{Op}
use Rattle.flag_ir.specs.declared.operation.Op.TheVariants as op
use Rattle.lift_values.specs.Terms.{temp, to_temp}
use Rattle.lift_core.specs.declared.operand.Operand.{Operand}
use Rattle.lift_core.specs.declared.operand.Operand.TheVariants as operand

abbrev pub reg : ℕ → Term
reg n = term.Var (var.Reg n)

-- a calculation into a register
abbrev pub to_reg : ℕ → Calc → Term → Term → Op
to_reg n calc x y = op.Calc (var.Reg n) calc x y

-- ---- an address, to a temporary
abbrev pub sum_ops : ℕ → Option Reg → Option Reg → ℕ → ℕ → List Op
sum_ops k None None scale disp = op.Set (var.Temp k) (term.Word disp) ∷ []
sum_ops k (Some b) None scale disp = to_temp k calc.Add (reg (number_of_reg b)) (term.Word disp) ∷ []
sum_ops k None (Some i) scale disp = to_temp k calc.Mul (reg (number_of_reg i)) (term.Word scale) ∷ to_temp k calc.Add (temp k) (term.Word disp) ∷ []
sum_ops k (Some b) (Some i) scale disp =
    to_temp k calc.Mul (reg (number_of_reg i)) (term.Word scale) ∷ to_temp k calc.Add (temp k) (reg (number_of_reg b)) ∷ to_temp k calc.Add (temp k) (term.Word disp) ∷ []

abbrev pub address_ops : ℕ → Address → List Op
address_ops k a = sum_ops k a.base a.index a.scale a.disp

-- ---- reads: the lowest bytes of the temporary are the operand's, and 0 stands above them
-- a number that is cut to a width
abbrev pub number_of : Width → ℕ → ℕ
number_of One n = n % 256
number_of Two n = n % 65536
number_of Four n = n

-- the lowest byte of a register, and the second
abbrev pub byte_ops : ℕ → ℕ → ℕ → List Op
byte_ops k p zero = to_temp k calc.And (reg p) (term.Word 0xFF) ∷ []
byte_ops k p (suc i) = to_temp k calc.And (reg p) (term.Word 0xFF00) ∷ to_temp k calc.Shr (temp k) (term.Word 8) ∷ to_temp k calc.And (temp k) (term.Word 0xFF) ∷ []

abbrev pub register_ops : ℕ → Width → ℕ → ℕ → List Op
register_ops k One p i = byte_ops k p i
register_ops k Two p i = to_temp k calc.And (reg p) (term.Word 0xFFFF) ∷ []
register_ops k Four p i = op.Set (var.Temp k) (reg p) ∷ []

abbrev pub read_ops : ℕ → Width → Operand → List Op
read_ops k w (operand.Register p i) = register_ops k w p i
read_ops k w (operand.Memory at) = op.Load (var.Temp k) (size_of w) at ∷ []
read_ops k w (operand.Constant n) = op.Set (var.Temp k) (term.Word (number_of w n)) ∷ []

-- ---- writes of a temporary that holds the bytes of the width, and 0 above them
abbrev pub byte_write : ℕ → ℕ → ℕ → List Op
byte_write k p zero = to_temp 2 calc.And (reg p) (term.Word 0xFFFFFF00) ∷ to_reg p calc.Or (temp 2) (temp k) ∷ []
byte_write k p (suc i) =
    to_temp 2 calc.And (reg p) (term.Word 0xFFFF00FF) ∷ to_temp 3 calc.Shl (temp k) (term.Word 8) ∷ to_temp 3 calc.And (temp 3) (term.Word 0xFF00) ∷ to_reg p calc.Or (temp 2) (temp 3) ∷ []

abbrev pub register_write : ℕ → Width → ℕ → ℕ → List Op
register_write k One p i = byte_write k p i
register_write k Two p i = to_temp 2 calc.And (reg p) (term.Word 0xFFFF0000) ∷ to_reg p calc.Or (temp 2) (temp k) ∷ []
register_write k Four p i = op.Set (var.Reg p) (temp k) ∷ []

abbrev pub write_ops : ℕ → Width → Operand → List Op
write_ops k w (operand.Register p i) = register_write k w p i
write_ops k w (operand.Memory at) = op.Store (size_of w) at (temp k) ∷ []
write_ops k w (operand.Constant n) = []

-- ---- the operands of an instruction
-- that of a register field
abbrev pub field_operand : Width → Reg → Operand
field_operand One r = let b = byte_register r in operand.Register (number_of_reg b.reg) b.byte
field_operand Two r = operand.Register (number_of_reg r) 0
field_operand Four r = operand.Register (number_of_reg r) 0

-- the target, whose address goes to temporary 0 first
abbrev pub target_ops : Rm → List Op
target_ops (rm.Reg r) = []
target_ops (rm.Mem a) = address_ops 0 a

abbrev pub target : Width → Rm → Operand
target w (rm.Reg r) = field_operand w r
target w (rm.Mem a) = operand.Memory (temp 0)

-- an operand that is read alone, to_temp a temporary
abbrev pub source_ops : ℕ → Width → Src → List Op
source_ops k w (src.Reg r) = read_ops k w (field_operand w r)
source_ops k w (src.Mem a) = address_ops k a ++ (op.Load (var.Temp k) (size_of w) (temp k) ∷ [])
source_ops k w (src.Imm n) = read_ops k w (operand.Constant n)

abbrev pub source_of_rm : Rm → Src
source_of_rm (rm.Reg r) = src.Reg r
source_of_rm (rm.Mem a) = src.Mem a
