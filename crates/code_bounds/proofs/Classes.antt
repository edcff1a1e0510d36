-- What an operation costs by its class: by which of its terms are variables, and not by their numbers.
use Rattle.std.proofs.Common.{◌≡◌, ℕ, ◌+◌, ◌≤◌, Bool, true, false, cond, [], ◌∷◌, refl, arith}
use Rattle.x86_types.specs.declared.operand.Reg.{Reg}
use Rattle.x86_types.specs.declared.operand.Reg.TheVariants.{Eax, Ecx, Edx}
use Rattle.x86_types.specs.declared.operation.AluOp.{AluOp}
use Rattle.x86_types.specs.declared.operation.AluOp.TheVariants as alu
use Rattle.x86_types.specs.declared.operation.ShiftOp.{ShiftOp}
use Rattle.x86_types.specs.declared.operation.ShiftOp.TheVariants as shiftop
use Rattle.x86_types.specs.declared.operation.Cond.{Cond}
use Rattle.x86_types.specs.declared.operation.Cond.TheVariants as condition
use Rattle.x86_types.specs.declared.width.Width.{Width}
use Rattle.flag_ir.specs.declared.variable.Var.{Var}
use Rattle.flag_ir.specs.declared.variable.Term.{Term}
use Rattle.flag_ir.specs.declared.variable.Term.TheVariants as term
use Rattle.flag_ir.specs.declared.operation.Calc.{Calc}
use Rattle.flag_ir.specs.declared.operation.Calc.TheVariants as calc
use Rattle.flag_ir.specs.declared.operation.Op.{Op}
use Rattle.flag_ir.specs.declared.operation.Op.TheVariants as op
use Rattle.flag_ir.specs.Costs.{Costing}
use Rattle.guards.specs.Renumbering.{renumbered_term, renumbered_op, IgnoresTemps}
use Rattle.guards.specs.Guarding.{literal, lowered_costing}
use Rattle.named_code.specs.declared.slot.Slot.TheVariants.{Fixed, Name}
use Rattle.instr_choose.specs.Lists.{name_of, slot_of, put, copy, alu_by, is_of, by_alu, by_multiply, by_shift, by_compare, choose_calc, choose_pick, choose_store, width_of, choose_op}
use Rattle.code_bounds.specs.Steps.{steps}
use Rattle.code_bounds.specs.Operations.{op_steps, exit_steps}
use Rattle.code_bounds.proofs.Pricing.{list_cost, IsPriced, then, within, put_fixed_word, put_fixed, put_name_word, put_name, alu_fixed_word, alu_fixed, alu_name_word, alu_name, copy_out, set_name, move_name, shift_name, multiply_fixed, load_name, store_fixed_at}
use Rattle.code_bounds.proofs.Chosen.{store_priced, system_priced, op_priced}

-- ---- the classes: a variable has a MOV from its cell and one back
abbrev term_steps : Term → ℕ
term_steps (term.Var v) = 2
term_steps (term.Word n) = 0

abbrev calc_steps : Calc → ℕ
calc_steps calc.Add = 6
calc_steps calc.Sub = 6
calc_steps calc.And = 6
calc_steps calc.Or = 6
calc_steps calc.Xor = 6
calc_steps calc.Mul = 6
calc_steps calc.Mulhu = 6
calc_steps calc.Mulhs = 6
calc_steps calc.Shl = 7
calc_steps calc.Shr = 7
calc_steps calc.Sar = 7
calc_steps calc.Eq = 10
calc_steps calc.Ltu = 10
calc_steps calc.Lts = 10

-- of a number at an address that is a number, and of others
abbrev stored_steps : Term → Term → ℕ
stored_steps (term.Word a) (term.Word n) = 2
stored_steps (term.Word a) (term.Var v) = 7
stored_steps (term.Var a) from = 7

abbrev class_steps : Op → ℕ
class_steps (op.Set to from) = 3 + term_steps from
class_steps (op.Calc to c x y) = calc_steps c + term_steps x + term_steps y
class_steps (op.Forget to) = 0
class_steps (op.Pick to test x y) = 9 + term_steps test + term_steps x + term_steps y
class_steps (op.Need from) = 0
class_steps (op.Divide quotient remainder high low by size signed) = 23
class_steps (op.Load to size at) = 5
class_steps (op.Store size at from) = stored_steps at from
class_steps (op.NearLoad to size at) = 0
class_steps (op.NearStore size at from) = 0
class_steps (op.Get to size offset) = 0
class_steps (op.Put size offset from) = 0
class_steps op.System = 16
class_steps op.NearSystem = 0

abbrev pub class_costing : Costing
class_costing = record { op = class_steps; exit = λ e. exit_steps }

-- ---- other numbers of temporaries leave the class
same_term : (f : ℕ → ℕ) (t : Term) → term_steps (renumbered_term f t) ≡ term_steps t
same_term f (term.Var v) = refl
same_term f (term.Word n) = refl

same_stored : (f : ℕ → ℕ) (at from : Term) → stored_steps (renumbered_term f at) (renumbered_term f from) ≡ stored_steps at from
same_stored f (term.Word a) (term.Word n) = refl
same_stored f (term.Word a) (term.Var v) = refl
same_stored f (term.Var a) from = refl

same_op : (f : ℕ → ℕ) (o : Op) → class_steps (renumbered_op f o) ≡ class_steps o
same_op f (op.Set to from) = omega (arith, same_term f from)
same_op f (op.Calc to c x y) = omega (arith, same_term f x, same_term f y)
same_op f (op.Forget to) = refl
same_op f (op.Pick to test x y) = omega (arith, same_term f test, same_term f x, same_term f y)
same_op f (op.Need from) = refl
same_op f (op.Divide quotient remainder high low by size signed) = refl
same_op f (op.Load to size at) = refl
same_op f (op.Store size at from) = same_stored f at from
same_op f (op.NearLoad to size at) = refl
same_op f (op.NearStore size at from) = refl
same_op f (op.Get to size offset) = refl
same_op f (op.Put size offset from) = refl
same_op f op.System = refl
same_op f op.NearSystem = refl

pub ignores_temps : IgnoresTemps class_costing
ignores_temps = record { op = same_op; exit = λ f e. refl }

-- ---- what is chosen for an operation costs no more than its class says
put_fixed_by : (r : Reg) (t : Term) → IsPriced (1 + term_steps t) 14 (put (Fixed r) t ∷ [])
put_fixed_by r (term.Var v) = put_fixed r (term.Var v)
put_fixed_by r (term.Word n) = within _ _ _ _ _ (omega arith) (omega arith) (put_fixed_word r n)

put_name_by : (k : ℕ) (t : Term) → IsPriced (3 + term_steps t) 26 (put (Name k) t ∷ [])
put_name_by k (term.Var v) = put_name k (term.Var v)
put_name_by k (term.Word n) = within _ _ _ _ _ (omega arith) (omega arith) (put_name_word k n)

alu_fixed_by : (o : AluOp) (r : Reg) (t : Term) → IsPriced (1 + term_steps t) 14 (alu_by o (Fixed r) t ∷ [])
alu_fixed_by o r (term.Var v) = alu_fixed o r (term.Var v)
alu_fixed_by o r (term.Word n) = within _ _ _ _ _ (omega arith) (omega arith) (alu_fixed_word o r n)

alu_name_by : (o : AluOp) (k : ℕ) (t : Term) → IsPriced (3 + term_steps t) 26 (alu_by o (Name k) t ∷ [])
alu_name_by o k (term.Var v) = alu_name o k (term.Var v)
alu_name_by o k (term.Word n) = within _ _ _ _ _ (omega arith) (omega arith) (alu_name_word o k n)

alu_within : (o : AluOp) (to : Var) (x y : Term) → list_cost steps (by_alu o to x y) ≤ 6 + term_steps x + term_steps y
alu_within o to x y = by (is_of to y)
  where
    by : (b : Bool) → list_cost steps (cond b (put (Fixed Eax) x ∷ alu_by o (Fixed Eax) y ∷ copy (slot_of to) (Fixed Eax) ∷ []) (put (slot_of to) x ∷ alu_by o (slot_of to) y ∷ [])) ≤ 6 + term_steps x + term_steps y
    by true = let p = then (put_fixed_by Eax x) (then (alu_fixed_by o Eax y) (copy_out (name_of to) Eax)) in omega (arith, p.in_steps)
    by false = let p = then (put_name_by (name_of to) x) (alu_name_by o (name_of to) y) in omega (arith, p.in_steps)

multiply_within : (signed : Bool) (half : Reg) (to : Var) (x y : Term) → list_cost steps (by_multiply signed half to x y) ≤ 6 + term_steps x + term_steps y
multiply_within signed half to x y =
    let p = then (put_fixed_by Eax x) (then (put_fixed_by Ecx y) (then (multiply_fixed signed Ecx) (copy_out (name_of to) half))) in omega (arith, p.in_steps)

shift_within : (o : ShiftOp) (to : Var) (x y : Term) → list_cost steps (by_shift o to x y) ≤ 7 + term_steps x + term_steps y
shift_within o to x y = let p = then (put_fixed_by Ecx y) (then (put_name_by (name_of to) x) (shift_name o (name_of to))) in omega (arith, p.in_steps)

compare_within : (c : Cond) (to : Var) (x y : Term) → list_cost steps (by_compare c to x y) ≤ 10 + term_steps x + term_steps y
compare_within c to x y =
    let p = then (put_fixed_by Eax x) (then (alu_fixed_by alu.Cmp Eax y) (then (put_name_word (name_of to) 0) (set_name c (name_of to)))) in omega (arith, p.in_steps)

calc_within : (c : Calc) (to : Var) (x y : Term) → list_cost steps (choose_calc c to x y) ≤ calc_steps c + term_steps x + term_steps y
calc_within calc.Add to x y = alu_within alu.Add to x y
calc_within calc.Sub to x y = alu_within alu.Sub to x y
calc_within calc.And to x y = alu_within alu.And to x y
calc_within calc.Or to x y = alu_within alu.Or to x y
calc_within calc.Xor to x y = alu_within alu.Xor to x y
calc_within calc.Mul to x y = multiply_within false Eax to x y
calc_within calc.Mulhu to x y = multiply_within false Edx to x y
calc_within calc.Mulhs to x y = multiply_within true Edx to x y
calc_within calc.Shl to x y = shift_within shiftop.Shl to x y
calc_within calc.Shr to x y = shift_within shiftop.Shr to x y
calc_within calc.Sar to x y = shift_within shiftop.Sar to x y
calc_within calc.Eq to x y = compare_within condition.E to x y
calc_within calc.Ltu to x y = compare_within condition.B to x y
calc_within calc.Lts to x y = compare_within condition.L to x y

pick_within : (to : Var) (test x y : Term) → list_cost steps (choose_pick to test x y) ≤ 9 + term_steps test + term_steps x + term_steps y
pick_within to test x y =
    let p = then (put_fixed_by Eax test) (then (alu_fixed_word alu.Cmp Eax 0) (then (put_fixed_by Ecx x) (then (put_name_by (name_of to) y) (move_name condition.Ne (name_of to) Ecx)))) in
    omega (arith, p.in_steps)

store_within : (w : Width) (at from : Term) → list_cost steps (choose_store w at from) ≤ stored_steps at from
store_within w (term.Word a) (term.Word n) = (then (put_fixed_word Eax n) (store_fixed_at w a Eax)).in_steps
store_within w (term.Word a) (term.Var v) = (store_priced w (term.Word a) (term.Var v)).in_steps
store_within w (term.Var a) from = (store_priced w (term.Var a) from).in_steps

pub op_within : (o : Op) → list_cost steps (choose_op o) ≤ class_steps o
unfolding choose_op
op_within (op.Set to from) = (put_name_by (name_of to) from).in_steps
op_within (op.Calc to c x y) = calc_within c to x y
op_within (op.Forget to) = omega arith
op_within (op.Pick to test x y) = pick_within to test x y
op_within (op.Need from) = omega arith
op_within (op.Divide q r high low by size signed) = (op_priced (op.Divide q r high low by size signed)).in_steps
op_within (op.Load to size at) = (load_name (width_of size) (name_of to) at).in_steps
op_within (op.Store size at from) = store_within (width_of size) at from
op_within (op.NearLoad to size at) = omega arith
op_within (op.NearStore size at from) = omega arith
op_within (op.Get to size offset) = omega arith
op_within (op.Put size offset from) = omega arith
op_within op.System = system_priced.in_steps
op_within op.NearSystem = omega arith

-- ---- by their classes operations cost no more than is said of them with what guards them
term_small : (t : Term) → term_steps t ≤ 2
term_small (term.Var v) = omega arith
term_small (term.Word n) = omega arith

calc_small : (c : Calc) → calc_steps c ≤ 10
calc_small c = elim c as (λ c. calc_steps c ≤ 10) [ calc.Add ↦ omega arith | _ ↦ omega arith ]

store_small : (at from : Term) → stored_steps at from ≤ 7
store_small (term.Word a) (term.Word n) = omega arith
store_small (term.Word a) (term.Var v) = omega arith
store_small (term.Var a) from = omega arith

pub lowered_within : (o : Op) → (lowered_costing class_costing).op o ≤ op_steps
lowered_within (op.Set to from) = omega (arith, term_small from)
lowered_within (op.Calc to c x y) = omega (arith, calc_small c, term_small x, term_small y)
lowered_within (op.Forget to) = omega arith
lowered_within (op.Pick to test x y) = omega (arith, term_small test, term_small x, term_small y)
lowered_within (op.Need from) = omega arith
lowered_within (op.Divide q r high low by size signed) = omega arith
lowered_within (op.Load to size (term.Var v)) = omega arith
lowered_within (op.Load to size (term.Word n)) = omega arith
lowered_within (op.Store size (term.Var v) from) = omega arith
lowered_within (op.Store size (term.Word n) from) = omega (arith, store_small (literal n) from)
lowered_within (op.NearLoad to size at) = omega arith
lowered_within (op.NearStore size at from) = omega arith
lowered_within (op.Get to size offset) = omega arith
lowered_within (op.Put size offset from) = omega arith
lowered_within op.System = omega arith
lowered_within op.NearSystem = omega arith
