-- The first segment that has an address, found one by one.
use Rattle.std.proofs.Common.{◌≡◌, ℕ, ◌+◌, ◌<◌, ◌≤◌, Bool, cond, List, length, drop, get_or, find, Some, None, sym, ap, ◌∙◌}
use Rattle.std.proofs.lemmas.List.{at_drop_more, at_drop_all}
use Rattle.image.specs.declared.image.Segment.{Segment}

module _ (p : Segment → Bool) where
  pub find_more : (ss : List Segment) (i : ℕ) (s : Segment) → i < length ss → s ≡ get_or ss i s → find p (drop i ss) ≡ cond (p s) (Some s) (find p (drop (i + 1) ss))
  find_more ss i s within is = at_drop_more (find p) ss i s within ∙ ap (λ k. cond (p k) (Some k) (find p (drop (i + 1) ss))) (sym is)

  pub find_none : (ss : List Segment) (i : ℕ) → length ss ≤ i → find p (drop i ss) ≡ None
  find_none ss i past = at_drop_all (find p) ss i past
