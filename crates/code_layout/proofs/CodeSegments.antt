-- The least start and the greatest end of the segments that can be run, one segment at a time.
use Rattle.std.proofs.Common.{◌≡◌, ℕ, ◌+◌, ◌<◌, ◌≤◌, ◌∙◌, true, false, max, min, List, [], ◌∷◌, length, map, filter, drop, get_or, Option, Some, None, ap, refl, arith, sym}
use Rattle.std.proofs.lemmas.List.{at_drop_more, at_drop_all}
use Rattle.image.specs.declared.image.Segment.{Segment}
use Rattle.image.specs.Rooms.{greatest, least}
use Rattle.image.specs.Wanted.{is_code, segment_end}
use Rattle.code_layout.specs.Layouts.{start_of}

-- the least start of what has been looked at, and that of what has not
abbrev pub least_with : Option ℕ → List Segment → ℕ
least_with None ss = least (map start_of (filter is_code ss))
least_with (Some a) ss = least (a ∷ map start_of (filter is_code ss))

abbrev pub greatest_with : ℕ → List Segment → ℕ
greatest_with a ss = max a (greatest (map segment_end (filter is_code ss)))

-- the first two of a list in one
least_joined : (x y : ℕ) (ys : List ℕ) → least (x ∷ y ∷ ys) ≡ least (min x y ∷ ys)
least_joined x y [] = refl
least_joined x y (z ∷ zs) = omega arith

-- ---- one more segment, which can be run or not
first_least : (a : ℕ) (s : Segment) (ss : List Segment) → is_code s ≡ true → least_with (Some a) (s ∷ ss) ≡ least_with (Some (min a s.start)) ss
first_least a s ss e = rw e (least_joined a s.start (map start_of (filter is_code ss)))

first_only : (s : Segment) (ss : List Segment) → is_code s ≡ true → least_with None (s ∷ ss) ≡ least_with (Some s.start) ss
first_only s ss e = rw e refl

first_data : (a : Option ℕ) (s : Segment) (ss : List Segment) → is_code s ≡ false → least_with a (s ∷ ss) ≡ least_with a ss
first_data None s ss e = rw e refl
first_data (Some a) s ss e = rw e refl

first_greatest : (a : ℕ) (s : Segment) (ss : List Segment) → is_code s ≡ true → greatest_with a (s ∷ ss) ≡ greatest_with (max a (segment_end s)) ss
first_greatest a s ss e = rw e (omega arith)

data_greatest : (a : ℕ) (s : Segment) (ss : List Segment) → is_code s ≡ false → greatest_with a (s ∷ ss) ≡ greatest_with a ss
data_greatest a s ss e = rw e refl

-- ---- along a list
module _ (ss : List Segment) (i : ℕ) (s : Segment) (within : i < length ss) (is : s ≡ get_or ss i s) where
  next : {Y : Type 0} (F : List Segment → Y) → F (drop i ss) ≡ F (s ∷ drop (i + 1) ss)
  next F = at_drop_more F ss i s within ∙ ap (λ (t : Segment). F (t ∷ drop (i + 1) ss)) (sym is)

  pub least_code : (a : ℕ) → is_code s ≡ true → least_with (Some a) (drop i ss) ≡ least_with (Some (min a s.start)) (drop (i + 1) ss)
  least_code a e = next (least_with (Some a)) ∙ first_least a s (drop (i + 1) ss) e

  pub only_code : is_code s ≡ true → least_with None (drop i ss) ≡ least_with (Some s.start) (drop (i + 1) ss)
  only_code e = next (least_with None) ∙ first_only s (drop (i + 1) ss) e

  pub least_data : (a : Option ℕ) → is_code s ≡ false → least_with a (drop i ss) ≡ least_with a (drop (i + 1) ss)
  least_data a e = next (least_with a) ∙ first_data a s (drop (i + 1) ss) e

  pub greatest_code : (a : ℕ) → is_code s ≡ true → greatest_with a (drop i ss) ≡ greatest_with (max a (segment_end s)) (drop (i + 1) ss)
  greatest_code a e = next (greatest_with a) ∙ first_greatest a s (drop (i + 1) ss) e

  pub greatest_data : (a : ℕ) → is_code s ≡ false → greatest_with a (drop i ss) ≡ greatest_with a (drop (i + 1) ss)
  greatest_data a e = next (greatest_with a) ∙ data_greatest a s (drop (i + 1) ss) e

-- ---- past the last one
pub least_end : (ss : List Segment) (i : ℕ) (a : Option ℕ) → length ss ≤ i → least_with a (drop i ss) ≡ least_with a []
least_end ss i a past = at_drop_all (least_with a) ss i past

pub greatest_end : (ss : List Segment) (i a : ℕ) → length ss ≤ i → greatest_with a (drop i ss) ≡ a
greatest_end ss i a past = at_drop_all (greatest_with a) ss i past ∙ omega arith
