-- What operations cost with what guards them.
use Rattle.std.proofs.Common.{ℕ, ◌+◌, ◌≤◌, List, [], ◌∷◌, ◌++◌, arith}
use Rattle.x86_types.specs.declared.operand.Reg.TheVariants.{Eax, Ecx}
use Rattle.x86_types.specs.declared.operation.AluOp.TheVariants as alu
use Rattle.x86_types.specs.declared.operation.Cond.TheVariants as condition
use Rattle.flag_ir.specs.declared.variable.Var.{Var}
use Rattle.flag_ir.specs.declared.variable.Var.TheVariants as var
use Rattle.flag_ir.specs.declared.variable.Term.{Term}
use Rattle.flag_ir.specs.declared.variable.Term.TheVariants as term
use Rattle.flag_ir.specs.declared.operation.Calc.{Calc}
use Rattle.flag_ir.specs.declared.operation.Calc.TheVariants as calc
use Rattle.flag_ir.specs.declared.operation.Op.{Op}
use Rattle.flag_ir.specs.declared.operation.Op.TheVariants as op
use Rattle.guards.specs.Guarding.{tested, literal, guarded, turn_store, ops_cost}
use Rattle.instr_choose.specs.Lists.{name_of, width_of, choose_op}
use Rattle.code_bounds.specs.Operations.{op_steps, op_bytes}
use Rattle.code_bounds.specs.OperationLaws.{step_costing, byte_costing, OperationLaws}
use Rattle.code_bounds.proofs.Pricing.{IsPriced, then, put_fixed_word, put_fixed, put_name_word, put_name, alu_fixed_word, alu_name_word, set_name, move_name, load_name, store_word}
use Rattle.code_bounds.proofs.Chosen.{store_priced, system_priced, op_priced, exit_priced}

-- so many steps and bytes at most, all operations together
record AreCosted (s b : ℕ) (os : List Op) : Type 0 where
  pub in_steps : ops_cost step_costing os ≤ s
  pub in_bytes : ops_cost byte_costing os ≤ b

no_costs : AreCosted 0 0 []
no_costs = record { in_steps = omega arith; in_bytes = omega arith }

costed : (s t b c : ℕ) (o : Op) (os : List Op) → IsPriced s b (choose_op o) → AreCosted t c os → AreCosted (s + t) (b + c) (o ∷ os)
costed s t b c o os h k = record { in_steps = sum _ _ s t h.in_steps k.in_steps; in_bytes = sum _ _ b c h.in_bytes k.in_bytes }
  where
    sum : (m n s t : ℕ) → m ≤ s → n ≤ t → m + n ≤ s + t
    sum m n s t h k = omega (arith, h, k)

within_costs : (s t b c : ℕ) (os : List Op) → s ≤ t → b ≤ c → AreCosted s b os → AreCosted t c os
within_costs s t b c os h k p = record { in_steps = leq _ s t p.in_steps h; in_bytes = leq _ b c p.in_bytes k }
  where
    leq : (n s t : ℕ) → n ≤ s → s ≤ t → n ≤ t
    leq n s t h k = omega (arith, h, k)

alone : (s b : ℕ) (o : Op) → IsPriced s b (choose_op o) → AreCosted (s + 0) (b + 0) (o ∷ [])
alone s b o h = costed s 0 b 0 o [] h no_costs

-- ---- the test of an address
module _ (to : Var) (v : Var) where
  sub_priced : IsPriced 8 44 (choose_op (op.Calc (var.Temp 1399997) calc.Sub (term.Var v) (term.Word 0x60000000)))
  unfolding choose_op
  sub_priced = then (put_name 1400010 (term.Var v)) (alu_name_word alu.Sub 1400010 0x60000000)

  less_priced : IsPriced 12 64 (choose_op (op.Calc (var.Temp 1399998) calc.Ltu (term.Var (var.Temp 1399997)) (term.Word 0x1C000000)))
  unfolding choose_op
  less_priced = then (put_fixed Eax (term.Var (var.Temp 1399997))) (then (alu_fixed_word alu.Cmp Eax 0x1C000000) (then (put_name_word 1400011 0) (set_name condition.B 1400011)))

  pick_priced : IsPriced 13 66 (choose_op (op.Pick to (term.Var (var.Temp 1399998)) (term.Word 0) (term.Var v)))
  unfolding choose_op
  pick_priced = then (put_fixed Eax (term.Var (var.Temp 1399998))) (then (alu_fixed_word alu.Cmp Eax 0) (then (put_fixed_word Ecx 0) (then (put_name (name_of to) (term.Var v)) (move_name condition.Ne (name_of to) Ecx))))

  tested_with : (s b : ℕ) (os : List Op) → AreCosted s b os → AreCosted (8 + (12 + (13 + s))) (44 + (64 + (66 + b))) (tested to (term.Var v) ++ os)
  tested_with s b os h = costed _ _ _ _ _ _ sub_priced (costed _ _ _ _ _ _ less_priced (costed _ _ _ _ _ _ pick_priced h))

-- ---- each operation
load_priced : (to : Var) (size : ℕ) (at : Term) → IsPriced 5 28 (choose_op (op.Load to size at))
unfolding choose_op
load_priced to size at = load_name (width_of size) (name_of to) at

stored_priced : (size : ℕ) (at from : Term) → IsPriced 7 39 (choose_op (op.Store size at from))
unfolding choose_op
stored_priced size at from = store_priced (width_of size) at from

set_priced : (to from : Var) → IsPriced 5 26 (choose_op (op.Set to (term.Var from)))
unfolding choose_op
set_priced to from = put_name (name_of to) (term.Var from)

asked_priced : IsPriced 16 72 (choose_op op.System)
unfolding choose_op
asked_priced = system_priced

guarded_costed : (o : Op) → AreCosted op_steps (op_bytes o) (guarded o)
guarded_costed (op.Set to from) = within_costs _ _ _ _ _ (omega arith) (omega arith) (alone _ _ _ (op_priced (op.Set to from)))
guarded_costed (op.Calc to c x y) = calculated c
  where
    calculated : (c : Calc) → AreCosted op_steps (op_bytes (op.Calc to c x y)) (guarded (op.Calc to c x y))
    calculated c = within_costs _ _ _ _ _ (omega arith) (omega arith) (alone _ _ _ (op_priced (op.Calc to c x y)))
guarded_costed (op.Forget to) = within_costs _ _ _ _ _ (omega arith) (omega arith) (alone _ _ _ (op_priced (op.Forget to)))
guarded_costed (op.Pick to test x y) = within_costs _ _ _ _ _ (omega arith) (omega arith) (alone _ _ _ (op_priced (op.Pick to test x y)))
guarded_costed (op.Need from) = within_costs _ _ _ _ _ (omega arith) (omega arith) (alone _ _ _ (op_priced (op.Need from)))
guarded_costed (op.Divide q r high low by size signed) = within_costs _ _ _ _ _ (omega arith) (omega arith) (alone _ _ _ (op_priced (op.Divide q r high low by size signed)))
guarded_costed (op.Load to size (term.Var v)) = within_costs _ _ _ _ _ (omega arith) (omega arith) (tested_with (var.Temp 1399999) v _ _ _ (alone _ _ _ (load_priced to size (term.Var (var.Temp 1399999)))))
guarded_costed (op.Load to size (term.Word n)) = within_costs _ _ _ _ _ (omega arith) (omega arith) (alone _ _ _ (load_priced to size (literal n)))
guarded_costed (op.Store size (term.Var v) from) = within_costs _ _ _ _ _ (omega arith) (omega arith) (tested_with (var.Temp 1399999) v _ _ _ (alone _ _ _ (stored_priced size (term.Var (var.Temp 1399999)) from)))
guarded_costed (op.Store size (term.Word n) from) = within_costs _ _ _ _ _ (omega arith) (omega arith) (alone _ _ _ (stored_priced size (literal n) from))
guarded_costed (op.NearLoad to size at) = within_costs _ _ _ _ _ (omega arith) (omega arith) (alone _ _ _ (op_priced (op.NearLoad to size at)))
guarded_costed (op.NearStore size at from) = within_costs _ _ _ _ _ (omega arith) (omega arith) (alone _ _ _ (op_priced (op.NearStore size at from)))
guarded_costed (op.Get to size offset) = within_costs _ _ _ _ _ (omega arith) (omega arith) (alone _ _ _ (op_priced (op.Get to size offset)))
guarded_costed (op.Put size offset from) = within_costs _ _ _ _ _ (omega arith) (omega arith) (alone _ _ _ (op_priced (op.Put size offset from)))
guarded_costed op.System =
    within_costs _ _ _ _ _ (omega arith) (omega arith)
    (costed _ _ _ _ _ _ (set_priced (var.Temp 1399999) (var.Reg 1)) (tested_with (var.Reg 1) (var.Reg 1) _ _ _ (costed _ _ _ _ _ _ asked_priced (alone _ _ _ (set_priced (var.Reg 1) (var.Temp 1399999))))))
guarded_costed op.NearSystem = within_costs _ _ _ _ _ (omega arith) (omega arith) (alone _ _ _ (op_priced op.NearSystem))

-- ---- the store with which a turn begins
turn_priced : (at : ℕ) → IsPriced 2 11 (choose_op (turn_store at))
unfolding choose_op
turn_priced at = then (put_fixed_word Eax at) (store_word 0x75000004 Eax)

pub operation_laws : OperationLaws
operation_laws = record {
  op_in_steps = λ o. (guarded_costed o).in_steps;
  exit_in_steps = λ e. (exit_priced e).in_steps;
  store_in_steps = λ at. (turn_priced at).in_steps;
  op_in_bytes = λ o. (guarded_costed o).in_bytes;
  exit_in_bytes = λ e. (exit_priced e).in_bytes;
  store_in_bytes = λ at. (turn_priced at).in_bytes;
}
