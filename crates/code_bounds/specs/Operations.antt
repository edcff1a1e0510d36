-- How many steps and bytes each operation and each exit of a unit becomes at most, with what guards it. All of this is own.
use Rattle.std.specs.Prelude.{ℕ}
use Rattle.x86_types.specs.declared.width.Width.{Width}
use Rattle.x86_types.specs.declared.width.Width.TheVariants.{One, Two, Four}
use Rattle.flag_ir.specs.declared.operation.Calc.{Calc}
use Rattle.flag_ir.specs.declared.operation.Calc.TheVariants as calc
use Rattle.flag_ir.specs.declared.operation.Op.{Op}
use Rattle.flag_ir.specs.declared.operation.Op.TheVariants as op
use Rattle.flag_ir.specs.declared.block.Exit.{Exit}
use Rattle.flag_ir.specs.declared.block.Exit.TheVariants as exit
use Rattle.instr_choose.specs.Lists.{width_of}

-- ---- steps: the most are those of a system call
abbrev pub op_steps : ℕ
op_steps = 59

abbrev pub exit_steps : ℕ
exit_steps = 9

abbrev pub store_steps : ℕ
store_steps = 2

-- ---- bytes, by the class of an operation
abbrev pub calc_bytes : Calc → ℕ
calc_bytes calc.Add = 52
calc_bytes calc.Sub = 52
calc_bytes calc.And = 52
calc_bytes calc.Or = 52
calc_bytes calc.Xor = 52
calc_bytes calc.Mul = 44
calc_bytes calc.Mulhu = 44
calc_bytes calc.Mulhs = 44
calc_bytes calc.Shl = 54
calc_bytes calc.Shr = 54
calc_bytes calc.Sar = 54
calc_bytes calc.Eq = 72
calc_bytes calc.Ltu = 72
calc_bytes calc.Lts = 72

abbrev pub divide_bytes : Width → ℕ
divide_bytes Four = 72
divide_bytes Two = 75
divide_bytes One = 99

-- those that need an open frame become nothing
abbrev pub op_bytes : Op → ℕ
op_bytes (op.Set to from) = 26
op_bytes (op.Calc to c x y) = calc_bytes c
op_bytes (op.Forget to) = 0
op_bytes (op.Pick to test x y) = 75
op_bytes (op.Need from) = 0
op_bytes (op.Divide quotient remainder high low by size signed) = divide_bytes (width_of size)
op_bytes (op.Load to size at) = 202
op_bytes (op.Store size at from) = 213
op_bytes (op.NearLoad to size at) = 0
op_bytes (op.NearStore size at from) = 0
op_bytes (op.Get to size offset) = 0
op_bytes (op.Put size offset from) = 0
op_bytes op.System = 298
op_bytes op.NearSystem = 0

abbrev pub exit_bytes : Exit → ℕ
exit_bytes (exit.Go n) = 5
exit_bytes (exit.Branch test m n) = 31
exit_bytes (exit.Jump to) = 54
exit_bytes (exit.CallProc entry back) = 0
exit_bytes exit.Return = 0
exit_bytes exit.Fault = 6
exit_bytes exit.Stop = 1

abbrev pub store_bytes : ℕ
store_bytes = 11
