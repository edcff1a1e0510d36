-- Between which addresses all bytes that can be run lie, segment by segment.
use Rattle.std.proofs.Common.{◌≡◌, ℕ, suc, ◌+◌, ◌<◌, ◌≤◌, Bool, true, false, cond, List, [], ◌∷◌, length, take, get_or, find, Option, Some, None, refl, subst, arith}
use Rattle.std.specs.List.{All}
use Rattle.std.specs.Option.{option_map_or}
use Rattle.std.proofs.lemmas.Bool.Decides.{nat_tests}
use Rattle.std.proofs.lemmas.List.Elements.{All-more}
use Rattle.image.specs.declared.image.Segment.{Segment}
use Rattle.image.specs.declared.image.Image.{Image}
use Rattle.image.specs.Addresses.{has, holds, segment_at}
use Rattle.image.specs.Wanted.{segment_end}
use Rattle.code_scan.specs.declared.span.CodeSpan.{CodeSpan}
use Rattle.code_scan.specs.Spans.{is_between, IsSpanned, IsCodeSpan}

wider : (old new : CodeSpan) (s : Segment) → new.start ≤ old.start → old.end ≤ new.end → IsSpanned old s → IsSpanned new s
wider old new s from to h runs = let both = h runs in (omega (arith, both.0), omega (arith, both.1))

-- one segment more
pub one_spanned : (old new : CodeSpan) (ss : List Segment) (i : ℕ) (s : Segment) → i < length ss → s ≡ get_or ss i s → new.start ≤ old.start → old.end ≤ new.end → IsSpanned new s → All (IsSpanned old) (take i ss) → All (IsSpanned new) (take (i + 1) ss)
one_spanned old new ss i s within is from to spanned each =
    All-more (IsSpanned new) ss i s within (λ k d low. wider old new (get_or (take i ss) k d) from to (each k d low)) (subst (IsSpanned new) is spanned)

-- the first of a list that passes a test is as they all are, and passes
found_is : (P : Segment → Type 0) (p : Segment → Bool) (ss : List Segment) (s : Segment) → All P ss → find p ss ≡ Some s → P s × (p s ≡ true)
found_is P p [] s each e = absurd cc
found_is P p (t ∷ ss) s each e =
    (elim (p t) as (λ b. p t ≡ b → cond b (Some t) (find p ss) ≡ Some s → P s × (p s ≡ true)) [
      | true ↦ λ passes e. let same : t ≡ s = cc in (subst P same (each 0 t (omega arith)), subst (λ u. p u ≡ true) same passes)
      | false ↦ λ fails e. found_is P p ss s (λ k d low. each (suc k) d (omega arith)) e
    ]) refl e

between : (a : ℕ) (span : CodeSpan) (s : Segment) → span.start ≤ s.start → segment_end s ≤ span.end → holds a s ≡ true → is_between a span ≡ true
between a span s from to h = grind (arith, nat_tests)

by_segment : (a : ℕ) (span : CodeSpan) (ss : List Segment) → All (IsSpanned span) ss → (o : Option Segment) → find (holds a) ss ≡ o → option_map_or (λ (s : Segment). has s.perm.0 1) o false ≡ true → is_between a span ≡ true
by_segment a span ss each None e runs = absurd cc
by_segment a span ss each (Some s) e runs =
    let found = found_is (IsSpanned span) (holds a) ss s each e in
    let both = found.0 runs in
    between a span s both.0 both.1 found.1

pub span_is : (image : Image) (span : CodeSpan) → 0 < span.start → All (IsSpanned span) image.segments → IsCodeSpan image span
unfolding segment_at
span_is image span above each = record {
  above = above;
  spans = λ a runs. by_segment a span image.segments each (find (holds a) image.segments) refl runs;
}
