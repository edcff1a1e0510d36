-- What an operation's list costs doesn't depend on the numbers of its temporaries either.
use Rattle.std.proofs.Common.{◌≡◌, ℕ, ◌+◌, List, [], ◌∷◌, ◌++◌, map, refl, sym, ap, ◌∙◌}
use Rattle.flag_ir.specs.declared.variable.Var.{Var}
use Rattle.flag_ir.specs.declared.variable.Var.TheVariants as var
use Rattle.flag_ir.specs.declared.variable.Term.{Term}
use Rattle.flag_ir.specs.declared.variable.Term.TheVariants as term
use Rattle.flag_ir.specs.declared.operation.Calc.TheVariants as calc
use Rattle.flag_ir.specs.declared.operation.Op.{Op}
use Rattle.flag_ir.specs.declared.operation.Op.TheVariants as op
use Rattle.flag_ir.specs.Costs.{Costing}
use Rattle.guards.specs.Guarding.{guarded, literal, ops_cost, lowered_costing}
use Rattle.guards.specs.Renumbering.{renumbered_var, renumbered_term, renumbered_op, IgnoresTemps}

-- where every temporary gets one number, it doesn't matter which it had
abbrev one : ℕ → ℕ
one n = 0

one_var : (f : ℕ → ℕ) (x : Var) → renumbered_var one (renumbered_var f x) ≡ renumbered_var one x
one_var f (var.Reg n) = refl
one_var f (var.Flag n) = refl
one_var f (var.Temp n) = refl
one_var f (var.Local n) = refl

one_term : (f : ℕ → ℕ) (t : Term) → renumbered_term one (renumbered_term f t) ≡ renumbered_term one t
one_term f (term.Var x) = ap term.Var (one_var f x)
one_term f (term.Word n) = refl

one_op : (f : ℕ → ℕ) (o : Op) → renumbered_op one (renumbered_op f o) ≡ renumbered_op one o
one_op f (op.Set to from) = λ i. op.Set (one_var f to i) (one_term f from i)
one_op f (op.Calc to c left right) = λ i. op.Calc (one_var f to i) c (one_term f left i) (one_term f right i)
one_op f (op.Forget to) = λ i. op.Forget (one_var f to i)
one_op f (op.Pick to test x y) = λ i. op.Pick (one_var f to i) (one_term f test i) (one_term f x i) (one_term f y i)
one_op f (op.Need from) = λ i. op.Need (one_term f from i)
one_op f (op.Divide q r high low by size signed) = λ i. op.Divide (one_var f q i) (one_var f r i) (one_term f high i) (one_term f low i) (one_term f by i) size signed
one_op f (op.Load to size at) = λ i. op.Load (one_var f to i) size (one_term f at i)
one_op f (op.Store size at from) = λ i. op.Store size (one_term f at i) (one_term f from i)
one_op f (op.NearLoad to size at) = λ i. op.NearLoad (one_var f to i) size (one_term f at i)
one_op f (op.NearStore size at from) = λ i. op.NearStore size (one_term f at i) (one_term f from i)
one_op f (op.Get to size offset) = λ i. op.Get (one_var f to i) size offset
one_op f (op.Put size offset from) = λ i. op.Put size offset (one_term f from i)
one_op f op.System = refl
one_op f op.NearSystem = refl

module _ (c : Costing) (plain : IgnoresTemps c) where
  -- operations that are the same but for the numbers of temporaries cost the same
  alike_cost : (o p : Op) → renumbered_op one o ≡ renumbered_op one p → c.op o ≡ c.op p
  alike_cost o p e = sym (plain.op one o) ∙ (ap c.op e ∙ plain.op one p)

  alike_lists : (os ps : List Op) → map (renumbered_op one) os ≡ map (renumbered_op one) ps → ops_cost c os ≡ ops_cost c ps
  alike_lists os ps e = sym (ones_cost os) ∙ (ap (ops_cost c) e ∙ ones_cost ps)
    where
      ones_cost : (xs : List Op) → ops_cost c (map (renumbered_op one) xs) ≡ ops_cost c xs
      ones_cost [] = refl
      ones_cost (x ∷ xs) = λ i. plain.op one x i + ones_cost xs i

  -- ---- what an operation becomes is the same but for them
  abbrev test_list : Var → List Op
  test_list x = op.Calc (var.Temp 0) calc.Sub (term.Var x) (term.Word 0x60000000) ∷ op.Calc (var.Temp 0) calc.Ltu (term.Var (var.Temp 0)) (term.Word 0x1C000000) ∷ op.Pick (var.Temp 0) (term.Var (var.Temp 0)) (term.Word 0) (term.Var x) ∷ []

  abbrev load_list : Var → ℕ → Var → List Op
  load_list to size x = test_list x ++ (op.Load to size (term.Var (var.Temp 0)) ∷ [])

  abbrev store_list : ℕ → Var → Term → List Op
  store_list size x from = test_list x ++ (op.Store size (term.Var (var.Temp 0)) from ∷ [])

  guarded_alike : (f : ℕ → ℕ) (o : Op) → map (renumbered_op one) (guarded (renumbered_op f o)) ≡ map (renumbered_op one) (guarded o)
  guarded_alike f (op.Set to from) = ap (λ x. x ∷ []) (one_op f (op.Set to from))
  guarded_alike f (op.Calc to k left right) = ap (λ x. x ∷ []) (one_op f (op.Calc to k left right))
  guarded_alike f (op.Forget to) = ap (λ x. x ∷ []) (one_op f (op.Forget to))
  guarded_alike f (op.Pick to test x y) = ap (λ x. x ∷ []) (one_op f (op.Pick to test x y))
  guarded_alike f (op.Need from) = ap (λ x. x ∷ []) (one_op f (op.Need from))
  guarded_alike f (op.Divide q r high low by size signed) = ap (λ x. x ∷ []) (one_op f (op.Divide q r high low by size signed))
  guarded_alike f (op.Load to size (term.Var x)) = λ i. load_list (one_var f to i) size (one_var f x i)
  guarded_alike f (op.Load to size (term.Word n)) = λ i. op.Load (one_var f to i) size (renumbered_term one (literal n)) ∷ []
  guarded_alike f (op.Store size (term.Var x) from) = λ i. store_list size (one_var f x i) (one_term f from i)
  guarded_alike f (op.Store size (term.Word n) from) = λ i. op.Store size (renumbered_term one (literal n)) (one_term f from i) ∷ []
  guarded_alike f (op.NearLoad to size at) = ap (λ x. x ∷ []) (one_op f (op.NearLoad to size at))
  guarded_alike f (op.NearStore size at from) = ap (λ x. x ∷ []) (one_op f (op.NearStore size at from))
  guarded_alike f (op.Get to size offset) = ap (λ x. x ∷ []) (one_op f (op.Get to size offset))
  guarded_alike f (op.Put size offset from) = ap (λ x. x ∷ []) (one_op f (op.Put size offset from))
  guarded_alike f op.System = refl
  guarded_alike f op.NearSystem = refl

  pub lowered_plain : IgnoresTemps (lowered_costing c)
  lowered_plain = record { op = λ f o. alike_lists (guarded (renumbered_op f o)) (guarded o) (guarded_alike f o); exit = plain.exit }
