-- What the instructions of each operation and of each exit cost.
use Rattle.std.proofs.Common.{ℕ, Bool, true, false, cond, [], ◌∷◌, refl, arith}
use Rattle.x86_types.specs.declared.operand.Reg.{Reg}
use Rattle.x86_types.specs.declared.operand.Reg.TheVariants.{Eax, Ecx, Edx, Ebx}
use Rattle.x86_types.specs.declared.operation.AluOp.{AluOp}
use Rattle.x86_types.specs.declared.operation.AluOp.TheVariants as alu
use Rattle.x86_types.specs.declared.operation.ShiftOp.{ShiftOp}
use Rattle.x86_types.specs.declared.operation.ShiftOp.TheVariants as shiftop
use Rattle.x86_types.specs.declared.operation.Cond.{Cond}
use Rattle.x86_types.specs.declared.operation.Cond.TheVariants as condition
use Rattle.x86_types.specs.declared.width.Width.{Width}
use Rattle.x86_types.specs.declared.width.Width.TheVariants.{One, Two, Four}
use Rattle.x86_types.specs.declared.instr.Instr.TheVariants as instr
use Rattle.flag_ir.specs.declared.variable.Var.{Var}
use Rattle.flag_ir.specs.declared.variable.Term.{Term}
use Rattle.flag_ir.specs.declared.variable.Term.TheVariants as term
use Rattle.flag_ir.specs.declared.operation.Calc.{Calc}
use Rattle.flag_ir.specs.declared.operation.Calc.TheVariants as calc
use Rattle.flag_ir.specs.declared.operation.Op.{Op}
use Rattle.flag_ir.specs.declared.operation.Op.TheVariants as op
use Rattle.flag_ir.specs.declared.block.Exit.{Exit}
use Rattle.flag_ir.specs.declared.block.Exit.TheVariants as exit
use Rattle.named_code.specs.declared.slot.Slot.TheVariants.{Fixed}
use Rattle.name_cells.specs.Holders.{has_byte_field}
use Rattle.instr_choose.specs.Lists.{name_of, slot_of, put, copy, alu_by, is_of, by_alu, by_multiply, by_shift, by_compare, choose_calc, wide_operands, byte_dividend, byte_results, choose_divide, choose_pick, choose_store, choose_system, width_of, choose_op}
use Rattle.instr_choose.specs.Blocks.{choose_exit}
use Rattle.code_bounds.specs.Operations.{calc_bytes, divide_bytes, op_bytes, exit_steps, exit_bytes}
use Rattle.code_bounds.proofs.Pricing.{IsPriced, none, both, then, within, put_fixed_word, put_fixed, put_name_word, put_name, alu_fixed_word, alu_fixed, alu_name, copy_out, copy_in, set_name, move_name, shift_name, shift_fixed, multiply_fixed, divide_fixed, extend_byte, extend_half, extend_byte_fixed, extend_half_fixed, copy_byte_fixed, plain_one, load_name, store_name, store_fixed, load_word, jump_fixed}

-- ---- calculations
alu_priced : (o : AluOp) (to : Var) (x y : Term) → IsPriced 10 52 (by_alu o to x y)
alu_priced o to x y = by (is_of to y)
  where
    by : (b : Bool) → IsPriced 10 52 (cond b (put (Fixed Eax) x ∷ alu_by o (Fixed Eax) y ∷ copy (slot_of to) (Fixed Eax) ∷ []) (put (slot_of to) x ∷ alu_by o (slot_of to) y ∷ []))
    by true = within _ _ _ _ _ (omega arith) (omega arith) (then (put_fixed Eax x) (then (alu_fixed o Eax y) (copy_out (name_of to) Eax)))
    by false = then (put_name (name_of to) x) (alu_name o (name_of to) y)

multiply_priced : (signed : Bool) (half : Reg) (to : Var) (x y : Term) → IsPriced 10 44 (by_multiply signed half to x y)
multiply_priced signed half to x y = then (put_fixed Eax x) (then (put_fixed Ecx y) (then (multiply_fixed signed Ecx) (copy_out (name_of to) half)))

shift_priced : (o : ShiftOp) (to : Var) (x y : Term) → IsPriced 11 54 (by_shift o to x y)
shift_priced o to x y = then (put_fixed Ecx y) (then (put_name (name_of to) x) (shift_name o (name_of to)))

compare_priced : (c : Cond) (to : Var) (x y : Term) → IsPriced 14 72 (by_compare c to x y)
compare_priced c to x y = then (put_fixed Eax x) (then (alu_fixed alu.Cmp Eax y) (then (put_name_word (name_of to) 0) (set_name c (name_of to))))

calc_priced : (c : Calc) (to : Var) (x y : Term) → IsPriced 14 (calc_bytes c) (choose_calc c to x y)
calc_priced calc.Add to x y = within _ _ _ _ _ (omega arith) (omega arith) (alu_priced alu.Add to x y)
calc_priced calc.Sub to x y = within _ _ _ _ _ (omega arith) (omega arith) (alu_priced alu.Sub to x y)
calc_priced calc.And to x y = within _ _ _ _ _ (omega arith) (omega arith) (alu_priced alu.And to x y)
calc_priced calc.Or to x y = within _ _ _ _ _ (omega arith) (omega arith) (alu_priced alu.Or to x y)
calc_priced calc.Xor to x y = within _ _ _ _ _ (omega arith) (omega arith) (alu_priced alu.Xor to x y)
calc_priced calc.Mul to x y = within _ _ _ _ _ (omega arith) (omega arith) (multiply_priced false Eax to x y)
calc_priced calc.Mulhu to x y = within _ _ _ _ _ (omega arith) (omega arith) (multiply_priced false Edx to x y)
calc_priced calc.Mulhs to x y = within _ _ _ _ _ (omega arith) (omega arith) (multiply_priced true Edx to x y)
calc_priced calc.Shl to x y = within _ _ _ _ _ (omega arith) (omega arith) (shift_priced shiftop.Shl to x y)
calc_priced calc.Shr to x y = within _ _ _ _ _ (omega arith) (omega arith) (shift_priced shiftop.Shr to x y)
calc_priced calc.Sar to x y = within _ _ _ _ _ (omega arith) (omega arith) (shift_priced shiftop.Sar to x y)
calc_priced calc.Eq to x y = compare_priced condition.E to x y
calc_priced calc.Ltu to x y = compare_priced condition.B to x y
calc_priced calc.Lts to x y = compare_priced condition.L to x y

-- ---- divisions
operands_priced : (high low by : Term) → IsPriced 9 42 (wide_operands high low by)
operands_priced high low by = then (put_fixed Ecx by) (then (put_fixed Edx high) (put_fixed Eax low))

dividend_priced : (high low by : Term) → IsPriced 12 50 (byte_dividend high low by)
unfolding byte_dividend
dividend_priced high low by =
    then (put_fixed Ecx by) (then (put_fixed Edx high) (then (extend_byte_fixed Eax Edx) (then (shift_fixed shiftop.Shl 8 Eax) (then (put_fixed Edx low) (copy_byte_fixed Eax Edx)))))

results_priced : (quotient remainder : Var) → IsPriced 10 47 (byte_results quotient remainder)
unfolding byte_results
results_priced quotient remainder =
    then (extend_byte (name_of quotient) Eax) (then (extend_half_fixed Eax Eax) (then (shift_fixed shiftop.Shr 8 Eax) (copy_out (name_of remainder) Eax)))

divide_priced : (w : Width) (signed : Bool) (quotient remainder : Var) (high low by : Term) → IsPriced 23 (divide_bytes w) (choose_divide w signed quotient remainder high low by)
divide_priced Four signed quotient remainder high low by =
    within _ _ _ _ _ (omega arith) (omega arith) (both _ _ _ _ _ _ (operands_priced high low by) (then (divide_fixed signed Four Ecx) (then (copy_out (name_of quotient) Eax) (copy_out (name_of remainder) Edx))))
divide_priced Two signed quotient remainder high low by =
    within _ _ _ _ _ (omega arith) (omega arith) (both _ _ _ _ _ _ (operands_priced high low by) (then (divide_fixed signed Two Ecx) (then (extend_half (name_of quotient) Eax) (extend_half (name_of remainder) Edx))))
divide_priced One signed quotient remainder high low by =
    within _ _ _ _ _ (omega arith) (omega arith) (both _ _ _ _ _ _ (dividend_priced high low by) (then (divide_fixed signed One Ecx) (results_priced quotient remainder)))

-- ---- the others
pick_priced : (to : Var) (test x y : Term) → IsPriced 15 75 (choose_pick to test x y)
pick_priced to test x y = then (put_fixed Eax test) (then (alu_fixed_word alu.Cmp Eax 0) (then (put_fixed Ecx x) (then (put_name (name_of to) y) (move_name condition.Ne (name_of to) Ecx))))

pub store_priced : (w : Width) (at from : Term) → IsPriced 7 39 (choose_store w at from)
store_priced w at (term.Var v) = store_name w at (name_of v)
store_priced w at (term.Word n) = within _ _ _ _ _ (omega arith) (omega arith) (then (put_fixed_word Eax n) (store_fixed w at Eax))

pub system_priced : IsPriced 16 72 choose_system
unfolding has_byte_field
system_priced = then (copy_in Eax 0) (then (copy_in Ebx 3) (then (copy_in Ecx 1) (then (copy_in Edx 2) (then (plain_one 1 2 instr.Int80 (omega arith) (omega arith) refl) (copy_out 0 Eax)))))

-- ---- exits
pub exit_priced : (e : Exit) → IsPriced exit_steps (exit_bytes e) (choose_exit e)
unfolding choose_exit has_byte_field
exit_priced (exit.Go n) = plain_one _ _ (instr.Jmp n) (omega arith) (omega arith) refl
exit_priced (exit.Branch test m n) =
    within _ _ _ _ _ (omega arith) (omega arith) (then (put_fixed Eax test) (then (alu_fixed_word alu.Cmp Eax 0) (then (plain_one 1 6 (instr.Jcc condition.Ne m) (omega arith) (omega arith) refl) (plain_one 1 5 (instr.Jmp n) (omega arith) (omega arith) refl))))
exit_priced (exit.Jump to) = then (put_fixed Eax to) (jump_fixed Eax)
exit_priced (exit.CallProc entry back) = within _ _ _ _ _ (omega arith) (omega arith) none
exit_priced exit.Return = within _ _ _ _ _ (omega arith) (omega arith) none
exit_priced exit.Fault = within _ _ _ _ _ (omega arith) (omega arith) (load_word Eax 0)
exit_priced exit.Stop = plain_one _ _ instr.Nop (omega arith) (omega arith) refl

-- ---- what an operation that guards leave alone costs, and what a load or a store costs behind its guards
abbrev pub alone_bytes : Op → ℕ
alone_bytes (op.Load to size at) = 28
alone_bytes (op.Store size at from) = 39
alone_bytes op.System = 72
alone_bytes o = op_bytes o

pub op_priced : (o : Op) → IsPriced 23 (alone_bytes o) (choose_op o)
unfolding choose_op
op_priced (op.Set to from) = within _ _ _ _ _ (omega arith) (omega arith) (put_name (name_of to) from)
op_priced (op.Calc to c x y) = within _ _ _ _ _ (omega arith) (omega arith) (calc_priced c to x y)
op_priced (op.Forget to) = within _ _ _ _ _ (omega arith) (omega arith) none
op_priced (op.Pick to test x y) = within _ _ _ _ _ (omega arith) (omega arith) (pick_priced to test x y)
op_priced (op.Need from) = within _ _ _ _ _ (omega arith) (omega arith) none
op_priced (op.Divide q r high low by size signed) = divide_priced (width_of size) signed q r high low by
op_priced (op.Load to size at) = within _ _ _ _ _ (omega arith) (omega arith) (load_name (width_of size) (name_of to) at)
op_priced (op.Store size at from) = within _ _ _ _ _ (omega arith) (omega arith) (store_priced (width_of size) at from)
op_priced (op.NearLoad to size at) = within _ _ _ _ _ (omega arith) (omega arith) none
op_priced (op.NearStore size at from) = within _ _ _ _ _ (omega arith) (omega arith) none
op_priced (op.Get to size offset) = within _ _ _ _ _ (omega arith) (omega arith) none
op_priced (op.Put size offset from) = within _ _ _ _ _ (omega arith) (omega arith) none
op_priced op.System = within _ _ _ _ _ (omega arith) (omega arith) system_priced
op_priced op.NearSystem = within _ _ _ _ _ (omega arith) (omega arith) none
