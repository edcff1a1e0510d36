-- The sizes of widths, and the numbers of registers, operations and conditions: Intel SDM volume 2,
-- sections 2.1.5 and 3.1.1.1 and appendix A, tables A-2 and A-6; volume 1, appendix B, table B-1.
use Rattle.std.specs.Prelude.{ℕ, zero, suc, Option, Some, None}
use Rattle.x86_types.specs.declared.operand.Reg.{Reg}
use Rattle.x86_types.specs.declared.operand.Reg.TheVariants as reg
use Rattle.x86_types.specs.declared.width.Width.{Width}
use Rattle.x86_types.specs.declared.width.Width.TheVariants as width
use Rattle.x86_types.specs.declared.operation.ShiftOp.{ShiftOp}
use Rattle.x86_types.specs.declared.operation.ShiftOp.TheVariants as shiftop
use Rattle.x86_types.specs.declared.operation.AluOp.{AluOp}
use Rattle.x86_types.specs.declared.operation.AluOp.TheVariants as aluop
use Rattle.x86_types.specs.declared.operation.Cond.{Cond}
use Rattle.x86_types.specs.declared.operation.Cond.TheVariants as cond

-- the bytes of a width
abbrev pub size_of : Width → ℕ
size_of width.One = 1
size_of width.Two = 2
size_of width.Four = 4

-- the number of a register, as ModRM and SIB have it
abbrev pub number_of_reg : Reg → ℕ
number_of_reg reg.Eax = 0
number_of_reg reg.Ecx = 1
number_of_reg reg.Edx = 2
number_of_reg reg.Ebx = 3
number_of_reg reg.Esp = 4
number_of_reg reg.Ebp = 5
number_of_reg reg.Esi = 6
number_of_reg reg.Edi = 7

-- the last one for each greater number
abbrev pub reg_of : ℕ → Reg
reg_of zero = reg.Eax
reg_of (suc zero) = reg.Ecx
reg_of (suc (suc zero)) = reg.Edx
reg_of (suc (suc (suc zero))) = reg.Ebx
reg_of (suc (suc (suc (suc zero)))) = reg.Esp
reg_of (suc (suc (suc (suc (suc zero))))) = reg.Ebp
reg_of (suc (suc (suc (suc (suc (suc zero)))))) = reg.Esi
reg_of (suc (suc (suc (suc (suc (suc (suc n))))))) = reg.Edi

-- the number of an operation: group 1
abbrev pub number_of_alu : AluOp → ℕ
number_of_alu aluop.Add = 0
number_of_alu aluop.Or = 1
number_of_alu aluop.Adc = 2
number_of_alu aluop.Sbb = 3
number_of_alu aluop.And = 4
number_of_alu aluop.Sub = 5
number_of_alu aluop.Xor = 6
number_of_alu aluop.Cmp = 7

-- the last one for each greater number
abbrev pub alu_of : ℕ → AluOp
alu_of zero = aluop.Add
alu_of (suc zero) = aluop.Or
alu_of (suc (suc zero)) = aluop.Adc
alu_of (suc (suc (suc zero))) = aluop.Sbb
alu_of (suc (suc (suc (suc zero)))) = aluop.And
alu_of (suc (suc (suc (suc (suc zero))))) = aluop.Sub
alu_of (suc (suc (suc (suc (suc (suc zero)))))) = aluop.Xor
alu_of (suc (suc (suc (suc (suc (suc (suc n))))))) = aluop.Cmp

-- the number of a shift: group 2
abbrev pub number_of_shift : ShiftOp → ℕ
number_of_shift shiftop.Rol = 0
number_of_shift shiftop.Ror = 1
number_of_shift shiftop.Shl = 4
number_of_shift shiftop.Shr = 5
number_of_shift shiftop.Sar = 7

-- 2, 3, 6 and each greater number name no shift
abbrev pub shift_of : ℕ → Option ShiftOp
shift_of zero = Some shiftop.Rol
shift_of (suc zero) = Some shiftop.Ror
shift_of (suc (suc zero)) = None
shift_of (suc (suc (suc zero))) = None
shift_of (suc (suc (suc (suc zero)))) = Some shiftop.Shl
shift_of (suc (suc (suc (suc (suc zero))))) = Some shiftop.Shr
shift_of (suc (suc (suc (suc (suc (suc zero)))))) = None
shift_of (suc (suc (suc (suc (suc (suc (suc zero))))))) = Some shiftop.Sar
shift_of (suc (suc (suc (suc (suc (suc (suc (suc n)))))))) = None

-- the number of a condition (tttn)
abbrev pub number_of_cond : Cond → ℕ
number_of_cond cond.O = 0
number_of_cond cond.No = 1
number_of_cond cond.B = 2
number_of_cond cond.Ae = 3
number_of_cond cond.E = 4
number_of_cond cond.Ne = 5
number_of_cond cond.Be = 6
number_of_cond cond.A = 7
number_of_cond cond.S = 8
number_of_cond cond.Ns = 9
number_of_cond cond.P = 10
number_of_cond cond.Np = 11
number_of_cond cond.L = 12
number_of_cond cond.Ge = 13
number_of_cond cond.Le = 14
number_of_cond cond.G = 15

-- the last one for each greater number
abbrev pub cond_of : ℕ → Cond
cond_of zero = cond.O
cond_of (suc zero) = cond.No
cond_of (suc (suc zero)) = cond.B
cond_of (suc (suc (suc zero))) = cond.Ae
cond_of (suc (suc (suc (suc zero)))) = cond.E
cond_of (suc (suc (suc (suc (suc zero))))) = cond.Ne
cond_of (suc (suc (suc (suc (suc (suc zero)))))) = cond.Be
cond_of (suc (suc (suc (suc (suc (suc (suc zero))))))) = cond.A
cond_of (suc (suc (suc (suc (suc (suc (suc (suc zero)))))))) = cond.S
cond_of (suc (suc (suc (suc (suc (suc (suc (suc (suc zero))))))))) = cond.Ns
cond_of (suc (suc (suc (suc (suc (suc (suc (suc (suc (suc zero)))))))))) = cond.P
cond_of (suc (suc (suc (suc (suc (suc (suc (suc (suc (suc (suc zero))))))))))) = cond.Np
cond_of (suc (suc (suc (suc (suc (suc (suc (suc (suc (suc (suc (suc zero)))))))))))) = cond.L
cond_of (suc (suc (suc (suc (suc (suc (suc (suc (suc (suc (suc (suc (suc zero))))))))))))) = cond.Ge
cond_of (suc (suc (suc (suc (suc (suc (suc (suc (suc (suc (suc (suc (suc (suc zero)))))))))))))) = cond.Le
cond_of (suc (suc (suc (suc (suc (suc (suc (suc (suc (suc (suc (suc (suc (suc (suc n))))))))))))))) = cond.G
