use Rattle.std.proofs.Common.{◌≡◌, ℕ, List, length, ap, arith}
use Rattle.std.proofs.lemmas.Bool.{leb-true, leb-false}
use Rattle.code_discovery.proofs.kept.Kept.has_table.Goals as goal

pub returns-in-Some-clause-kept : goal.returns-in-Some-clause-kept
returns-in-Some-clause-kept c = λ passes.
    let h = c.in-Some.ensures in
    let words : length c.as_slice.result.now ≡ length c.args.table.now.targets = ap (λ (xs : List ℕ). length xs) c.as_slice.ensures in
    record { kept = h.table; listed = h.listed; jump = h.at; longer = omega (arith, h.words, leb-true (length c.as_slice.result.now) c.in-Some.count passes) }

pub returns-in-Some-clause-longest : goal.returns-in-Some-clause-longest
returns-in-Some-clause-longest c = λ fails t there at.
    let h = c.in-Some.ensures in
    let words : length c.as_slice.result.now ≡ length c.args.table.now.targets = ap (λ (xs : List ℕ). length xs) c.as_slice.ensures in
    omega (arith, h.only t there at, leb-false (length c.as_slice.result.now) c.in-Some.count fails)
