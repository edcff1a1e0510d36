-- Short lists write few temporaries.
use Rattle.std.proofs.Common.{◌≡◌, ℕ, zero, suc, ◌+◌, ◌*◌, ◌≤◌, ◌==◌, Bool, true, false, not, cond, List, [], ◌∷◌, ◌++◌, length, filter, flat_map, All, get_or, refl, sym, ap, ◌∙◌, subst, arith, length-append}
use Rattle.flag_ir.specs.declared.variable.Var.{Var}
use Rattle.flag_ir.specs.declared.variable.Var.TheVariants as var
use Rattle.flag_ir.specs.declared.operation.Op.{Op}
use Rattle.flag_ir.specs.declared.operation.Op.TheVariants as op
use Rattle.flag_ir.specs.declared.block.Block.{Block}
use Rattle.guards.specs.Renumbering.{temp_of, temps_written, without_repeats, written_temps, WritesFewTemps}

one_at_most : (v : Var) → length (temp_of v) ≤ 1
one_at_most (var.Reg n) = omega arith
one_at_most (var.Flag n) = omega arith
one_at_most (var.Temp n) = omega arith
one_at_most (var.Local n) = omega arith

two_at_most : (o : Op) → length (temps_written o) ≤ 2
two_at_most (op.Set to from) = let one = one_at_most to in omega (arith, one)
two_at_most (op.Calc to calc left right) = let one = one_at_most to in omega (arith, one)
two_at_most (op.Forget to) = let one = one_at_most to in omega (arith, one)
two_at_most (op.Pick to test x y) = let one = one_at_most to in omega (arith, one)
two_at_most (op.Need from) = omega arith
two_at_most (op.Divide quotient remainder high low by size signed) =
    let both = length-append (temp_of quotient) (temp_of remainder) in
    let one = one_at_most quotient in
    let other = one_at_most remainder in
    omega (arith, both, one, other)
two_at_most (op.Load to size at) = let one = one_at_most to in omega (arith, one)
two_at_most (op.Store size at from) = omega arith
two_at_most (op.NearLoad to size at) = let one = one_at_most to in omega (arith, one)
two_at_most (op.NearStore size at from) = omega arith
two_at_most (op.Get to size offset) = let one = one_at_most to in omega (arith, one)
two_at_most (op.Put size offset from) = omega arith
two_at_most op.System = omega arith
two_at_most op.NearSystem = omega arith

all_at_most : (ops : List Op) → length (flat_map temps_written ops) ≤ 2 * length ops
all_at_most [] = omega arith
all_at_most (o ∷ ops) =
    let whole = length-append (temps_written o) (flat_map temps_written ops) in
    let first = two_at_most o in
    let rest = all_at_most ops in
    omega (arith, whole, first, rest)

passed_at_most : (p : ℕ → Bool) (ns : List ℕ) → length (filter p ns) ≤ length ns
passed_at_most p [] = omega arith
passed_at_most p (n ∷ ns) = by (p n) refl (passed_at_most p ns)
  where
    by : (b : Bool) → p n ≡ b → length (filter p ns) ≤ length ns → length (filter p (n ∷ ns)) ≤ length (n ∷ ns)
    by true e rest = rw e (omega (arith, rest))
    by false e rest = rw e (omega (arith, rest))

without_at_most : (ns : List ℕ) → length (without_repeats ns) ≤ length ns
without_at_most [] = omega arith
without_at_most (n ∷ ns) =
    let passed = passed_at_most (λ k. not (k == n)) (without_repeats ns) in
    let rest = without_at_most ns in
    omega (arith, passed, rest)

pub writes_few : (b : Block) → length b.ops ≤ 262144 → WritesFewTemps b
writes_few b short =
    let once = without_at_most (flat_map temps_written b.ops) in
    let all = all_at_most b.ops in
    omega (arith, once, all, short)
