-- Lists of operations on flags, temporaries and words are in form, and need no frame: by a test that computes.
use Rattle.std.proofs.Common.{◌≡◌, ◌≤◌, ◌&&◌, Bool, true, false, ltb, List, [], ◌∷◌, length, All}
use Rattle.std.proofs.lemmas.Bool.{and_parts, ltb-true}
use Rattle.std.proofs.lemmas.List.Elements.{All-nil, All-cons}
use Rattle.flag_ir.specs.declared.variable.Var.{Var}
use Rattle.flag_ir.specs.declared.variable.Var.TheVariants as var
use Rattle.flag_ir.specs.declared.variable.Term.{Term}
use Rattle.flag_ir.specs.declared.variable.Term.TheVariants as term
use Rattle.flag_ir.specs.declared.operation.Op.{Op}
use Rattle.flag_ir.specs.declared.operation.Op.TheVariants as op
use Rattle.flag_ir.specs.Form.{IsVar, IsTerm, IsOp, IsFrameless}
use Rattle.lift_values.specs.CoreForms.{IsCore}

-- of flags, temporaries and words alone
abbrev pub is_var : Var → Bool
is_var (var.Flag n) = ltb n 5
is_var (var.Temp n) = true
is_var _ = false

abbrev pub is_term : Term → Bool
is_term (term.Var v) = is_var v
is_term (term.Word n) = true

abbrev pub is_plain : Op → Bool
is_plain (op.Set to from) = is_var to && is_term from
is_plain (op.Calc to calc left right) = is_var to && (is_term left && is_term right)
is_plain (op.Pick to test x y) = is_var to && (is_term test && (is_term x && is_term y))
is_plain _ = false

abbrev pub are_plain : List Op → Bool
are_plain [] = true
are_plain (o ∷ os) = is_plain o && are_plain os

var_form : (v : Var) → is_var v ≡ true → IsVar 0 v
var_form (var.Flag n) e = ltb-true n 5 e
var_form (var.Temp n) e = tt
var_form (var.Reg n) e = cc
var_form (var.Local n) e = cc

term_form : (t : Term) → is_term t ≡ true → IsTerm 0 t
term_form (term.Var v) e = var_form v e
term_form (term.Word n) e = tt

op_form : (o : Op) → is_plain o ≡ true → IsOp 0 o × IsFrameless o
op_form (op.Set to from) e = let p = and_parts (is_var to) (is_term from) e in ((var_form to p.0, term_form from p.1), tt)
op_form (op.Calc to calc left right) e =
    let p = and_parts (is_var to) (is_term left && is_term right) e in
    let q = and_parts (is_term left) (is_term right) p.1 in
    ((var_form to p.0, term_form left q.0, term_form right q.1), tt)
op_form (op.Pick to test x y) e =
    let p = and_parts (is_var to) (is_term test && (is_term x && is_term y)) e in
    let q = and_parts (is_term test) (is_term x && is_term y) p.1 in
    let r = and_parts (is_term x) (is_term y) q.1 in
    ((var_form to p.0, term_form test q.0, term_form x r.0, term_form y r.1), tt)
op_form (op.Forget to) e = cc
op_form (op.Need from) e = cc
op_form (op.Divide quotient remainder high low by size signed) e = cc
op_form (op.Load to size at) e = cc
op_form (op.Store size at from) e = cc
op_form (op.NearLoad to size at) e = cc
op_form (op.NearStore size at from) e = cc
op_form (op.Get to size offset) e = cc
op_form (op.Put size offset from) e = cc
op_form op.System e = cc
op_form op.NearSystem e = cc

list_form : (os : List Op) → are_plain os ≡ true → All (IsOp 0) os × All IsFrameless os
list_form [] e = (All-nil (IsOp 0), All-nil IsFrameless)
list_form (o ∷ os) e =
    let p = and_parts (is_plain o) (are_plain os) e in
    let first = op_form o p.0 in
    let rest = list_form os p.1 in
    (All-cons (IsOp 0) o os first.0 rest.0, All-cons IsFrameless o os first.1 rest.1)

pub core_form : (os : List Op) → are_plain os ≡ true → length os ≤ 32 → IsCore os
core_form os e l = let h = list_form os e in record { ops = h.0; frameless = h.1; short = l }
