-- Lists that make no call, need no frame and name no local: by a test of each operation.
use Rattle.std.proofs.Common.{◌≡◌, ℕ, ◌+◌, ◌≤◌, ◌==◌, ◌&&◌, ◌||◌, Bool, true, false, ltb, List, [], ◌∷◌, ◌++◌, length, All, Result, Ok, Err, refl, arith, length-append}
use Rattle.std.proofs.lemmas.Bool.{ltb-true}
use Rattle.std.proofs.lemmas.List.Elements.{All-nil, All-cons}
use Rattle.traces.specs.Trace.{Label, End}
use Rattle.flag_ir.specs.declared.variable.Var.{Var}
use Rattle.flag_ir.specs.declared.variable.Var.TheVariants as var
use Rattle.flag_ir.specs.declared.variable.Term.{Term}
use Rattle.flag_ir.specs.declared.variable.Term.TheVariants as term
use Rattle.flag_ir.specs.declared.operation.Op.{Op}
use Rattle.flag_ir.specs.declared.operation.Op.TheVariants as op
use Rattle.flag_ir.specs.Form.{IsVar, IsTerm, IsOp, IsFrameless}
use Rattle.flag_ir.specs.Storage.{Storage}
use Rattle.flag_ir.specs.Operations.{perform, shown_by, shown_with, shown_by_all}

-- ---- the test
abbrev pub is_var : Var → Bool
is_var (var.Reg n) = ltb n 8
is_var (var.Flag n) = ltb n 5
is_var (var.Temp n) = true
is_var (var.Local n) = false

abbrev pub is_term : Term → Bool
is_term (term.Var v) = is_var v
is_term (term.Word n) = true

abbrev pub is_size : ℕ → Bool
is_size size = size == 1 || size == 2 || size == 4

abbrev pub is_plain : Op → Bool
is_plain (op.Set to from) = is_var to && is_term from
is_plain (op.Calc to calc left right) = is_var to && (is_term left && is_term right)
is_plain (op.Forget to) = is_var to
is_plain (op.Pick to test x y) = is_var to && (is_term test && (is_term x && is_term y))
is_plain (op.Need from) = is_term from
is_plain (op.Divide quotient remainder high low by size signed) = is_var quotient && (is_var remainder && (is_term high && (is_term low && (is_term by && is_size size))))
is_plain (op.Load to size at) = is_var to && (is_size size && is_term at)
is_plain (op.Store size at from) = is_size size && (is_term at && is_term from)
is_plain _ = false

abbrev pub all_plain : List Op → Bool
all_plain [] = true
all_plain (o ∷ os) = is_plain o && all_plain os

-- ---- conjunctions
pub both_true : (a b : Bool) → a ≡ true → b ≡ true → (a && b) ≡ true
both_true a b h k = rw (h, k) refl

pub first_true : (a b : Bool) → (a && b) ≡ true → a ≡ true
first_true true b h = refl
first_true false b h = absurd cc

pub second_true : (a b : Bool) → (a && b) ≡ true → b ≡ true
second_true true b h = h
second_true false b h = absurd cc

pub plain_append : (xs ys : List Op) → all_plain xs ≡ true → all_plain ys ≡ true → all_plain (xs ++ ys) ≡ true
plain_append [] ys h k = k
plain_append (x ∷ xs) ys h k = both_true (is_plain x) (all_plain (xs ++ ys)) (first_true (is_plain x) (all_plain xs) h) (plain_append xs ys (second_true (is_plain x) (all_plain xs) h) k)

-- ---- what it tells: the operation is in form
var_in_form : (v : Var) → is_var v ≡ true → IsVar 0 v
var_in_form (var.Reg n) h = ltb-true n 8 h
var_in_form (var.Flag n) h = ltb-true n 5 h
var_in_form (var.Temp n) h = tt
var_in_form (var.Local n) h = absurd cc

term_in_form : (x : Term) → is_term x ≡ true → IsTerm 0 x
term_in_form (term.Var v) h = var_in_form v h
term_in_form (term.Word n) h = tt

op_in_form : (o : Op) → is_plain o ≡ true → IsOp 0 o
op_in_form (op.Set to from) h = (var_in_form to (first_true (is_var to) (is_term from) h), term_in_form from (second_true (is_var to) (is_term from) h))
op_in_form (op.Calc to calc x y) h =
    let k = second_true (is_var to) (is_term x && is_term y) h in
    (var_in_form to (first_true (is_var to) (is_term x && is_term y) h), term_in_form x (first_true (is_term x) (is_term y) k), term_in_form y (second_true (is_term x) (is_term y) k))
op_in_form (op.Forget to) h = var_in_form to h
op_in_form (op.Pick to test x y) h =
    let k = second_true (is_var to) (is_term test && (is_term x && is_term y)) h in
    let l = second_true (is_term test) (is_term x && is_term y) k in
    (var_in_form to (first_true (is_var to) (is_term test && (is_term x && is_term y)) h), term_in_form test (first_true (is_term test) (is_term x && is_term y) k), term_in_form x (first_true (is_term x) (is_term y) l), term_in_form y (second_true (is_term x) (is_term y) l))
op_in_form (op.Need from) h = term_in_form from h
op_in_form (op.Divide q r high low by size signed) h =
    let a = is_term by && is_size size in
    let b = is_term low && a in
    let c = is_term high && b in
    let h1 = second_true (is_var q) (is_var r && c) h in
    let h2 = second_true (is_var r) c h1 in
    let h3 = second_true (is_term high) b h2 in
    let h4 = second_true (is_term low) a h3 in
    (var_in_form q (first_true (is_var q) (is_var r && c) h), var_in_form r (first_true (is_var r) c h1), term_in_form high (first_true (is_term high) b h2), term_in_form low (first_true (is_term low) a h3), term_in_form by (first_true (is_term by) (is_size size) h4), second_true (is_term by) (is_size size) h4)
op_in_form (op.Load to size at) h =
    let k = second_true (is_var to) (is_size size && is_term at) h in
    (var_in_form to (first_true (is_var to) (is_size size && is_term at) h), first_true (is_size size) (is_term at) k, term_in_form at (second_true (is_size size) (is_term at) k))
op_in_form (op.Store size at from) h =
    let k = second_true (is_size size) (is_term at && is_term from) h in
    (first_true (is_size size) (is_term at && is_term from) h, term_in_form at (first_true (is_term at) (is_term from) k), term_in_form from (second_true (is_term at) (is_term from) k))
op_in_form (op.NearLoad to size at) h = absurd cc
op_in_form (op.NearStore size at from) h = absurd cc
op_in_form (op.Get to size offset) h = absurd cc
op_in_form (op.Put size offset from) h = absurd cc
op_in_form op.System h = tt
op_in_form op.NearSystem h = tt

-- it needs no frame, and shows nothing
op_frameless : (o : Op) → is_plain o ≡ true → IsFrameless o
op_frameless (op.Set to from) h = tt
op_frameless (op.Calc to calc x y) h = tt
op_frameless (op.Forget to) h = tt
op_frameless (op.Pick to test x y) h = tt
op_frameless (op.Need from) h = tt
op_frameless (op.Divide q r high low by size signed) h = tt
op_frameless (op.Load to size at) h = tt
op_frameless (op.Store size at from) h = tt
op_frameless (op.NearLoad to size at) h = absurd cc
op_frameless (op.NearStore size at from) h = absurd cc
op_frameless (op.Get to size offset) h = absurd cc
op_frameless (op.Put size offset from) h = absurd cc
op_frameless op.System h = tt
op_frameless op.NearSystem h = absurd cc

op_shows_nothing : (o : Op) (u : Storage) → is_plain o ≡ true → shown_by o u ≡ []
op_shows_nothing (op.Set to from) u h = refl
op_shows_nothing (op.Calc to calc x y) u h = refl
op_shows_nothing (op.Forget to) u h = refl
op_shows_nothing (op.Pick to test x y) u h = refl
op_shows_nothing (op.Need from) u h = refl
op_shows_nothing (op.Divide q r high low by size signed) u h = refl
op_shows_nothing (op.Load to size at) u h = refl
op_shows_nothing (op.Store size at from) u h = refl
op_shows_nothing (op.NearLoad to size at) u h = refl
op_shows_nothing (op.NearStore size at from) u h = refl
op_shows_nothing (op.Get to size offset) u h = refl
op_shows_nothing (op.Put size offset from) u h = refl
op_shows_nothing op.System u h = absurd cc
op_shows_nothing op.NearSystem u h = absurd cc

-- ---- so with lists
pub list_in_form : (ops : List Op) → all_plain ops ≡ true → All (IsOp 0) ops
list_in_form [] h = All-nil (IsOp 0)
list_in_form (o ∷ os) h = All-cons (IsOp 0) o os (op_in_form o (first_true (is_plain o) (all_plain os) h)) (list_in_form os (second_true (is_plain o) (all_plain os) h))

pub list_frameless : (ops : List Op) → all_plain ops ≡ true → All IsFrameless ops
list_frameless [] h = All-nil IsFrameless
list_frameless (o ∷ os) h = All-cons IsFrameless o os (op_frameless o (first_true (is_plain o) (all_plain os) h)) (list_frameless os (second_true (is_plain o) (all_plain os) h))

nothing_more : (y : Result Storage End) (labels : List Label) (rest : Storage → List Label) → labels ≡ [] → ((v : Storage) → rest v ≡ []) → shown_with y labels rest ≡ []
nothing_more (Ok v) labels rest h k = rw (h, k v) refl
nothing_more (Err e) labels rest h k = refl

pub list_shows_nothing : (turn : ℕ) (ops : List Op) (u : Storage) → all_plain ops ≡ true → shown_by_all turn ops u ≡ []
unfolding shown_by_all
list_shows_nothing turn [] u h = refl
list_shows_nothing turn (o ∷ os) u h = nothing_more (perform turn o u) (shown_by o u) (shown_by_all turn os) (op_shows_nothing o u (first_true (is_plain o) (all_plain os) h)) (λ v. list_shows_nothing turn os v (second_true (is_plain o) (all_plain os) h))

-- ---- a list that is plain and has at most so many operations
pub record IsShort (most : ℕ) (ops : List Op) : Type 0 where
  pub plain : all_plain ops ≡ true
  pub length : length ops ≤ most

pub short_append : (n m : ℕ) (xs ys : List Op) → IsShort n xs → IsShort m ys → IsShort (n + m) (xs ++ ys)
short_append n m xs ys h k = record { plain = plain_append xs ys h.plain k.plain; length = let e : length (xs ++ ys) ≡ length xs + length ys = length-append xs ys in omega (arith, e, h.length, k.length) }

pub shorter : (n m : ℕ) (ops : List Op) → n ≤ m → IsShort n ops → IsShort m ops
shorter n m ops h k = record { plain = k.plain; length = omega (arith, h, k.length) }
