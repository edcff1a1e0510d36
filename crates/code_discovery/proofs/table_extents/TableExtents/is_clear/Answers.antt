use Rattle.std.proofs.Common.{rules, ◌≡◌, ◌↔◌, ℕ, zero, suc, ◌+◌, ◌-◌, ◌≤◌, ltb, leb, nat_eq, true, false, List, length, IsTrue, get_or, refl, sym, ap, ◌∙◌, subst, arith}
use Rattle.std.specs.List.Sorted.{IsPartitionPoint, IsNonDecreasingBy}
use Rattle.std.proofs.lemmas.Bool.Decides.{nat_tests}
use Rattle.std.proofs.lemmas.List.Sorted.{IsPartitionPoint-from_clause, IsPartitionedBy-ltb}
use Rattle.code_discovery.specs.declared.table_extents.TableExtent.{TableExtent}
use Rattle.code_discovery.specs.Extents.{AreInOrder, IsClear, starts_before}
use Rattle.code_discovery.proofs.Extents.{none_before, last_before}
use Rattle.code_discovery.proofs.table_extents.TableExtents.is_clear.Goals as goal

pub returns-then-count-eq0 : goal.returns-then-count-eq0
returns-then-count-eq0 c =
    let items : List TableExtent = c.as_slice.result.now in
    let same : items ≡ c.args.self.now = cc in
    let whole : c.self.inside.extents.items ≡ c.args.self.now = cc in
    let starts : IsNonDecreasingBy (λ (e : TableExtent). e.start) c.args.self.now = subst (λ (es : List TableExtent). IsNonDecreasingBy (λ (e : TableExtent). e.start) es) whole c.self.invariant.starts in
    let none : c.partition_point-count.result ≡ 0 = c.if-count-eq0.true in
    let point = IsPartitionPoint-from_clause (starts_before c.args.at) items c.partition_point-count.result c.partition_point-count.ensures.partitioned
    (IsPartitionedBy-ltb (λ (e : TableExtent). e.start) items (c.args.at + 4) (subst (λ (es : List TableExtent). IsNonDecreasingBy (λ (e : TableExtent). e.start) es) (sym same) starts)) (λ a r f k. search rules) in (
      λ _. subst (λ (es : List TableExtent). IsClear es c.args.at) same
          (none_before items c.args.at (subst (λ n. IsPartitionPoint (λ e. starts_before c.args.at e ≡ true) (λ e. starts_before c.args.at e ≡ false) items n) none point)),
      λ _. ap (λ n. nat_eq n 0) none,
    )

pub returns-else-count-eq0 : goal.returns-else-count-eq0
returns-else-count-eq0 c =
    let items : List TableExtent = c.as_slice.result.now in
    let same : items ≡ c.args.self.now = cc in
    let again : items ≡ c.as_slice-else-count-eq0.result.now = cc in
    let count : ℕ = c.partition_point-count.result in
    let d : TableExtent = record { start = 0; end = 0 } in
    let whole : c.self.inside.extents.items ≡ c.args.self.now = cc in
    let starts : IsNonDecreasingBy (λ (e : TableExtent). e.start) c.args.self.now = subst (λ (es : List TableExtent). IsNonDecreasingBy (λ (e : TableExtent). e.start) es) whole c.self.invariant.starts in
    let some : suc (count - 1) ≡ count = grind (arith, nat_tests, c.if-count-eq0.false) in
    let point = IsPartitionPoint-from_clause (starts_before c.args.at) items count c.partition_point-count.ensures.partitioned
    (IsPartitionedBy-ltb (λ (e : TableExtent). e.start) items (c.args.at + 4) (subst (λ (es : List TableExtent). IsNonDecreasingBy (λ (e : TableExtent). e.start) es) (sym same) starts)) (λ a r f k. search rules) in
    let tells = last_before items c.args.at (count - 1) d (subst (λ (es : List TableExtent). AreInOrder es) (whole ∙ sym same) c.self.invariant)
    (subst (λ n. IsPartitionPoint (λ e. starts_before c.args.at e ≡ true) (λ e. starts_before c.args.at e ≡ false) items n) (sym some) point) (let most = c.partition_point-count.ensures.bound in omega arith) in
    let at : c.from-else-count-eq0.result ≡ c.args.at = cc in
    let end : (get_or c.as_slice-else-count-eq0.result.now (count - 1) d).end ≡ (get_or items (count - 1) d).end = ap (λ (es : List TableExtent). (get_or es (count - 1) d).end) (sym again) in (
      λ low. subst (λ (es : List TableExtent). IsClear es c.args.at) same (tells.0 (grind (arith, nat_tests, low, at, end))),
      λ clear. let low = tells.1 (subst (λ (es : List TableExtent). IsClear es c.args.at) (sym same) clear) in grind (arith, nat_tests, low, at, end),
    )
