-- The span of the old code.
use Rattle.std.proofs.Common.{◌≡◌, ℕ, ◌+◌, ◌<◌, ◌≤◌, Bool, true, false, List, [], ◌∷◌, map, filter, All, refl, arith}
use Rattle.std.proofs.lemmas.List.Elements.{All-head, All-tail, All-filter}
use Rattle.std.specs.List.{AllByRecursion, list_any}
use Rattle.image.specs.declared.image.Segment.{Segment}
use Rattle.image.specs.declared.room.Room.TheVariants.{Source}
use Rattle.image.specs.Rooms.{greatest, least, room_end}
use Rattle.image.specs.Wanted.{HasItsPlace, segment_end, is_code, is_code_at, span_of_code}
use Rattle.laid_image.specs.NewImage.{FitsSourceRoom}
use Rattle.code_layout.specs.Layouts.{span_start, start_of}

abbrev codes : List Segment → List Segment
codes segments = filter is_code segments

-- ---- it ends below 2^32
module _ (segments : List Segment) (entry : ℕ) (fits : FitsSourceRoom segments entry) where
  end_below : All (λ (s : Segment). segment_end s ≤ room_end Source) (codes segments)
  end_below = All-filter is_code (λ (s : Segment). segment_end s ≤ room_end Source) segments fits.to

  ends_below : (ss : List Segment) → All (λ (s : Segment). segment_end s ≤ room_end Source) ss → greatest (map segment_end ss) ≤ room_end Source
  ends_below [] h = omega arith
  ends_below (s ∷ ss) h =
      let first = All-head (λ (t : Segment). segment_end t ≤ room_end Source) s ss h in
      let rest = ends_below ss (All-tail (λ (t : Segment). segment_end t ≤ room_end Source) s ss h) in
      omega (arith, first, rest)

  starts_below : (ss : List Segment) → All (λ (s : Segment). segment_end s ≤ room_end Source) ss → least (map start_of ss) ≤ room_end Source
  starts_below [] h = omega arith
  starts_below (s ∷ []) h = let first = All-head (λ (t : Segment). segment_end t ≤ room_end Source) s [] h in omega (arith, first)
  starts_below (s ∷ t ∷ ss) h = let first = All-head (λ (u : Segment). segment_end u ≤ room_end Source) s (t ∷ ss) h in omega (arith, first)

  pub span_fits : span_start segments + span_of_code segments < 4294967296
  span_fits =
      let ends = ends_below (codes segments) end_below in
      let starts = starts_below (codes segments) end_below in
      omega (arith, ends, starts)

-- ---- it has an address
first_spans : (s : Segment) (ss : List Segment) → 0 < s.size → least (map start_of (s ∷ ss)) < greatest (map segment_end (s ∷ ss))
first_spans s [] some = omega (arith, some)
first_spans s (t ∷ ss) some = omega (arith, some)

some_spans : (entry : ℕ) (ss : List Segment) → AllByRecursion HasItsPlace ss → list_any (is_code_at entry) ss ≡ true → least (map start_of (codes ss)) < greatest (map segment_end (codes ss))
some_spans entry [] each some = absurd (cc some)
some_spans entry (s ∷ ss) each some = by (is_code s) refl (λ held. some_spans entry ss each.1 held)
  where
    by : (b : Bool) → is_code s ≡ b → (list_any (is_code_at entry) ss ≡ true → least (map start_of (codes ss)) < greatest (map segment_end (codes ss))) → least (map start_of (codes (s ∷ ss))) < greatest (map segment_end (codes (s ∷ ss)))
    by true e rest = rw e (first_spans s (codes ss) each.0.sized)
    by false e rest = rw e (rest (rw e at some))

pub span_is_some : (segments : List Segment) (entry : ℕ) → FitsSourceRoom segments entry → 0 < span_of_code segments
span_is_some segments entry fits = let some = some_spans entry segments fits.wide.each fits.wide.entered in omega (arith, some)
