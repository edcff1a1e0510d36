-- How many instructions an operation and an exit become.
use Rattle.std.proofs.Common.{ℕ, ◌≤◌, Bool, true, false, cond, List, length, arith}
use Rattle.x86_types.specs.declared.operation.AluOp.{AluOp}
use Rattle.x86_types.specs.declared.operation.AluOp.TheVariants as alu
use Rattle.x86_types.specs.declared.width.Width.{Width}
use Rattle.x86_types.specs.declared.width.Width.TheVariants.{One, Two, Four}
use Rattle.flag_ir.specs.declared.variable.Var.{Var}
use Rattle.flag_ir.specs.declared.variable.Term.{Term}
use Rattle.flag_ir.specs.declared.variable.Term.TheVariants as term
use Rattle.flag_ir.specs.declared.operation.Calc.{Calc}
use Rattle.flag_ir.specs.declared.operation.Calc.TheVariants as calc
use Rattle.flag_ir.specs.declared.operation.Op.{Op}
use Rattle.flag_ir.specs.declared.operation.Op.TheVariants as op
use Rattle.flag_ir.specs.declared.block.Exit.{Exit}
use Rattle.flag_ir.specs.declared.block.Exit.TheVariants as exit
use Rattle.named_code.specs.declared.named.VInstr.{VInstr}
use Rattle.instr_choose.specs.Lists.{width_of, is_of, by_alu, choose_calc, byte_dividend, byte_results, choose_divide, choose_store, choose_op}
use Rattle.instr_choose.specs.Blocks.{choose_exit}

either : (b : Bool) (xs ys : List VInstr) (n : ℕ) → length xs ≤ n → length ys ≤ n → length (cond b xs ys) ≤ n
either true xs ys n h k = h
either false xs ys n h k = k

by_alu_length : (o : AluOp) (to : Var) (x y : Term) → length (by_alu o to x y) ≤ 11
by_alu_length o to x y = either (is_of to y) _ _ 11 (omega arith) (omega arith)

calc_length : (c : Calc) (to : Var) (x y : Term) → length (choose_calc c to x y) ≤ 11
calc_length calc.Add to x y = by_alu_length alu.Add to x y
calc_length calc.Sub to x y = by_alu_length alu.Sub to x y
calc_length calc.And to x y = by_alu_length alu.And to x y
calc_length calc.Or to x y = by_alu_length alu.Or to x y
calc_length calc.Xor to x y = by_alu_length alu.Xor to x y
calc_length calc.Mul to x y = omega arith
calc_length calc.Mulhu to x y = omega arith
calc_length calc.Mulhs to x y = omega arith
calc_length calc.Shl to x y = omega arith
calc_length calc.Shr to x y = omega arith
calc_length calc.Sar to x y = omega arith
calc_length calc.Eq to x y = omega arith
calc_length calc.Ltu to x y = omega arith
calc_length calc.Lts to x y = omega arith

divide_length : (w : Width) (signed : Bool) (q r : Var) (high low by : Term) → length (choose_divide w signed q r high low by) ≤ 11
unfolding byte_dividend byte_results
divide_length Four signed q r high low by = omega arith
divide_length Two signed q r high low by = omega arith
divide_length One signed q r high low by = omega arith

store_length : (w : Width) (at from : Term) → length (choose_store w at from) ≤ 11
store_length w at (term.Var v) = omega arith
store_length w at (term.Word n) = omega arith

pub op_length : (o : Op) → length (choose_op o) ≤ 11
unfolding choose_op
op_length (op.Set to from) = omega arith
op_length (op.Calc to c x y) = calc_length c to x y
op_length (op.Forget to) = omega arith
op_length (op.Pick to test x y) = omega arith
op_length (op.Need from) = omega arith
op_length (op.Divide q r high low by size signed) = divide_length (width_of size) signed q r high low by
op_length (op.Load to size at) = omega arith
op_length (op.Store size at from) = store_length (width_of size) at from
op_length (op.NearLoad to size at) = omega arith
op_length (op.NearStore size at from) = omega arith
op_length (op.Get to size offset) = omega arith
op_length (op.Put size offset from) = omega arith
op_length op.System = omega arith
op_length op.NearSystem = omega arith

pub exit_length : (e : Exit) → length (choose_exit e) ≤ 4
unfolding choose_exit
exit_length (exit.Go n) = omega arith
exit_length (exit.Branch test m n) = omega arith
exit_length (exit.Jump to) = omega arith
exit_length (exit.CallProc entry back) = omega arith
exit_length exit.Return = omega arith
exit_length exit.Fault = omega arith
exit_length exit.Stop = omega arith
