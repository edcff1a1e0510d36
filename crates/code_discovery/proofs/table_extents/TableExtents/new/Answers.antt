use Rattle.std.proofs.Common.{rules, ◌≡◌, List, map, ap, ◌∙◌, subst, sym}
use Rattle.std.specs.List.Sorted.{IsPermutation, IsNonDecreasingBy}
use Rattle.std.proofs.lemmas.List.Sorted.{IsNonDecreasingBy-from_sort_by_key}
use Rattle.code_discovery.specs.declared.table_extents.TableExtent.{TableExtent}
use Rattle.code_discovery.specs.Extents.{AreInOrder, TellsOf, extent_of, raised}
use Rattle.code_discovery.proofs.Extents.{in_order, tells}
use Rattle.code_discovery.proofs.table_extents.TableExtents.new.Goals as goal

pub invariant_of-result : goal.invariant_of-result
invariant_of-result c =
    let ordered : List TableExtent = c.sort_unstable_by_key.new.self.items in
    let up : IsNonDecreasingBy (λ (e : TableExtent). e.start) ordered = IsNonDecreasingBy-from_sort_by_key (λ (e : TableExtent). e.start) ordered c.sort_unstable_by_key.ensures.sorted (λ a r q k. search rules) in
    let made : c.in_ok-extents.extents.items ≡ raised 0 ordered = c.in_ok-extents.ensures ∙ ap (raised 0) c.as_slice.ensures.value in
    subst (λ (es : List TableExtent). AreInOrder es) (sym made) (in_order ordered up)

pub returns : goal.returns
returns c =
    let ordered : List TableExtent = c.sort_unstable_by_key.new.self.items in
    let up : IsNonDecreasingBy (λ (e : TableExtent). e.start) ordered = IsNonDecreasingBy-from_sort_by_key (λ (e : TableExtent). e.start) ordered c.sort_unstable_by_key.ensures.sorted (λ a r q k. search rules) in
    let moved : IsPermutation (map extent_of c.args.tables.now) ordered = subst (λ (es : List TableExtent). IsPermutation es ordered) c.in_ok-ordered.ensures c.sort_unstable_by_key.ensures.permutation in
    let made : c.in_ok-extents.extents.items ≡ raised 0 ordered = c.in_ok-extents.ensures ∙ ap (raised 0) c.as_slice.ensures.value in
    subst (λ (es : List TableExtent). TellsOf c.args.tables.now es) (sym made) (tells c.args.tables.now ordered moved up)
