-- The index of pages: what a segment adds to it, and that what is found has the address.
use Rattle.std.proofs.Common.{◌≡◌, ℕ, ◌+◌, ◌/◌, ◌<◌, Bool, true, false, cond, List, [], ◌∷◌, length, drop, replicate, get_or, slice_get, slice_index_or, find, Option, Some, None, MatchOption, IfSome, Bor, refl, sym, ap, ◌∙◌, arith, inl, inr}
use Rattle.std.proofs.lemmas.List.{at_drop_more, at_drop_all, get_or-replicate, get_or_past, length-replicate}
use Rattle.std.proofs.lemmas.Option.{slice_get_past, slice_get_read}
use Rattle.std.proofs.lemmas.Bool.{cases_lt}
use Rattle.image.specs.declared.image.Segment.{Segment}
use Rattle.image.specs.Addresses.{holds}
use Rattle.code_scan.specs.Pages.{IsPageIndex}

module _ (p : Segment → Bool) where
  first_holds : (t s : Segment) (rest : Option Segment) (b : Bool) → p t ≡ b → (rest ≡ Some s → p s ≡ true) → cond b (Some t) rest ≡ Some s → p s ≡ true
  first_holds t s rest true e more is = let same : t ≡ s = cc in ap p (sym same) ∙ e
  first_holds t s rest false e more is = more is

  -- what is found passes
  pub found_holds : (ss : List Segment) (s : Segment) → find p ss ≡ Some s → p s ≡ true
  found_holds [] s is = absurd cc
  found_holds (t ∷ ss) s is = first_holds t s (find p ss) (p t) refl (found_holds ss s) is

-- what is found, behind a reference
pub found_holds_there : (p : Segment → Bool) (ss : List Segment) (o : Option (Bor Segment)) → MatchOption o (find p ss ≡ None) (λ s. find p ss ≡ Some s.now) → IfSome o (λ s. p s.now ≡ true)
found_holds_there p ss None m = tt
found_holds_there p ss (Some s) m = found_holds p ss s.now m

-- an index of no segment
pub same_everywhere : (n v i : ℕ) → get_or (replicate n v) i v ≡ v
same_everywhere n v i = elim (cases_lt i n) [ inl low ↦ get_or-replicate n i v v low | inr past ↦ get_or_past (replicate n v) i v (omega (arith, length-replicate n v)) ]

pub none_listed : (ss : List Segment) (a index : ℕ) → index ≡ length ss → find (holds a) (drop (length ss) ss) ≡ slice_get ss index
none_listed ss a index is = at_drop_all (find (holds a)) ss (length ss) (omega arith) ∙ sym (slice_get_past ss index (omega arith))

by_test : (ss : List Segment) (k r : ℕ) (s : Segment) (rest : Option Segment) (b : Bool) → slice_get ss k ≡ Some s → rest ≡ slice_get ss r → cond b (Some s) rest ≡ slice_get ss (cond b k r)
by_test ss k r s rest true i h = sym i
by_test ss k r s rest false i h = h

-- one segment more, from the last to the first
pub one_listed : (ss : List Segment) (k old new a : ℕ) (s : Segment) → k < length ss → s ≡ get_or ss k s → new ≡ cond (holds a s) k old → find (holds a) (drop (k + 1) ss) ≡ slice_get ss old → find (holds a) (drop k ss) ≡ slice_get ss new
one_listed ss k old new a s within is e h =
    at_drop_more (find (holds a)) ss k s within ∙ ap (λ t. cond (holds a t) (Some t) (find (holds a) (drop (k + 1) ss))) (sym is) ∙ by_test ss k old s (find (holds a) (drop (k + 1) ss)) (holds a s) (slice_get_read ss (length ss) k s refl within is) h ∙ ap (slice_get ss) (sym e)

-- the addresses of a page have one segment
pub same_page : (ss : List Segment) (pages : List ℕ) → IsPageIndex ss pages → (a b : ℕ) → a / 4096 ≡ b / 4096 → find (holds a) ss ≡ find (holds b) ss
same_page ss pages index a b same = index a ∙ ap (λ page. slice_get ss (slice_index_or pages page (length ss))) same ∙ sym (index b)
