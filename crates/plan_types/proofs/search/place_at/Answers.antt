use Rattle.std.proofs.Common.{◌≡◌, ℕ, ◌==◌, List, Some, position, slice_get, MatchOption, subst, ◌∙◌}
use Rattle.plan_types.specs.declared.place.Place.{Place}
use Rattle.plan_types.specs.Contents.{FoundContents}
use Rattle.plan_types.specs.Ascending.{addresses_of}
use Rattle.plan_types.specs.Body.{HasPlace}
use Rattle.plan_types.proofs.Searching.{says, only_at}
use Rattle.plan_types.proofs.search.place_at.Goals as goal

pub returns-clause-index : goal.returns-clause-index
returns-clause-index c =
    let is : c.index_of.result ≡ position (λ (p : Place). p.at == c.args.at) c.found.inside.code =
    subst (λ (places : List Place). c.index_of.result ≡ position (λ (p : Place). p.at == c.args.at) places) c.as_slice.ensures c.index_of.ensures in
    subst (λ (f : FoundContents). MatchOption c.index_of.result (HasPlace f c.args.at → ⊥) (λ k. slice_get (addresses_of f.code) k ≡ Some c.args.at)) c.found.view_is
    (says (λ (p : Place). p.at) c.found.inside.code c.args.at c.found.invariant.by_place c.index_of.result is)

pub returns-clause-only : goal.returns-clause-only
returns-clause-only c =
    let is : c.index_of.result ≡ position (λ (p : Place). p.at == c.args.at) c.found.inside.code =
    subst (λ (places : List Place). c.index_of.result ≡ position (λ (p : Place). p.at == c.args.at) places) c.as_slice.ensures c.index_of.ensures in
    subst (λ (f : FoundContents). (k : ℕ) → slice_get (addresses_of f.code) k ≡ Some c.args.at → c.index_of.result ≡ Some k) c.found.view_is
    (λ k e. is ∙ only_at (λ (p : Place). p.at) c.found.inside.code c.args.at c.found.invariant.by_place k e)
