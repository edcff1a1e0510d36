-- Other bytes in the same pages have their places too.
use Rattle.std.proofs.Common.{◌≡◌, ℕ, ◌+◌, ◌%◌, ◌≤◌, ◌||◌, Bool, true, false, cond, List, [], ◌∷◌, length, map, refl, sym, ap, ◌∙◌, subst, arith}
use Rattle.std.proofs.lemmas.List.Elements.{All-from_recursion, recursion_from_All}
use Rattle.std.proofs.lemmas.List.Sums.{sum_by-cons}
use Rattle.std.specs.List.{AllByRecursion, filter, list_any, sum_by}
use Rattle.image.specs.declared.image.Segment.{Segment}
use Rattle.image.specs.Wanted.{HasItsPlace, segment_end, meets, NoneMeet, is_code, is_code_at, span_of_code}
use Rattle.laid_image.specs.NewImage.{PagesOf, pages_of, FitsSourceRoom, HasPagesOf}
use Rattle.laid_image.proofs.Lists.{each_weaker, each_both, each_map, each_mapped}

-- ---- the pages without bytes
abbrev without_bytes : PagesOf → Segment
without_bytes p = record { start = p.0; size = p.1.0; perm = p.1.1; bytes = [] }

abbrev bare : Segment → Segment
bare s = without_bytes (pages_of s)

bares_of : (ss : List Segment) → map bare ss ≡ map without_bytes (map pages_of ss)
bares_of [] = refl
bares_of (s ∷ ss) = ap (λ xs. bare s ∷ xs) (bares_of ss)

same_bares : (old others : List Segment) → HasPagesOf old others → map bare old ≡ map bare others
same_bares old others h = bares_of old ∙ (sym (ap (map without_bytes) h.pages) ∙ sym (bares_of others))

-- ---- what goes by the pages alone
place_bare : (s : Segment) → HasItsPlace s → HasItsPlace (bare s)
place_bare s h = record {
  start_in_pages = h.start_in_pages;
  size_in_pages = h.size_in_pages;
  bytes_in_pages = refl;
  sized = h.sized;
  within = omega arith;
  from = h.from;
  to = h.to;
  perm = h.perm;
  readable = h.readable;
  not_both = h.not_both;
}

place_with : (s : Segment) → HasItsPlace (bare s) → length s.bytes % 4096 ≡ 0 → length s.bytes ≤ s.size → HasItsPlace s
place_with s h pages within = record {
  start_in_pages = h.start_in_pages;
  size_in_pages = h.size_in_pages;
  bytes_in_pages = pages;
  sized = h.sized;
  within = within;
  from = h.from;
  to = h.to;
  perm = h.perm;
  readable = h.readable;
  not_both = h.not_both;
}

apart_bare : (ss : List Segment) → NoneMeet ss → NoneMeet (map bare ss)
apart_bare [] h = tt
apart_bare (s ∷ ss) h = (each_map bare (λ (t : Segment). meets s t ≡ false) ss h.0, apart_bare ss h.1)

apart_with : (ss : List Segment) → NoneMeet (map bare ss) → NoneMeet ss
apart_with [] h = tt
apart_with (s ∷ ss) h = (each_mapped bare (λ (t : Segment). meets s t ≡ false) ss h.0, apart_with ss h.1)

entered_bare : (entry : ℕ) (ss : List Segment) → list_any (is_code_at entry) (map bare ss) ≡ list_any (is_code_at entry) ss
entered_bare entry [] = refl
entered_bare entry (s ∷ ss) = ap (λ b. is_code_at entry s || b) (entered_bare entry ss)

code_bare : (ss : List Segment) → filter is_code (map bare ss) ≡ map bare (filter is_code ss)
code_bare [] = refl
code_bare (s ∷ ss) = more (is_code s) (filter is_code (map bare ss)) (filter is_code ss) (code_bare ss)
  where
    more : (b : Bool) (xs ys : List Segment) → xs ≡ map bare ys → cond b (bare s ∷ xs) xs ≡ map bare (cond b (s ∷ ys) ys)
    more true xs ys e = ap (λ zs. bare s ∷ zs) e
    more false xs ys e = e

ends_bare : (ss : List Segment) → map segment_end (map bare ss) ≡ map segment_end ss
ends_bare [] = refl
ends_bare (s ∷ ss) = ap (λ ns. segment_end s ∷ ns) (ends_bare ss)

starts_bare : (ss : List Segment) → map (λ (s : Segment). s.start) (map bare ss) ≡ map (λ (s : Segment). s.start) ss
starts_bare [] = refl
starts_bare (s ∷ ss) = ap (λ ns. s.start ∷ ns) (starts_bare ss)

span_bare : (ss : List Segment) → span_of_code (map bare ss) ≡ span_of_code ss
span_bare ss = rw (code_bare ss, ends_bare (filter is_code ss), starts_bare (filter is_code ss)) refl

size_bare : (ss : List Segment) → sum_by (λ (s : Segment). s.size) (map bare ss) ≡ sum_by (λ (s : Segment). s.size) ss
size_bare [] = refl
size_bare (s ∷ ss) = sum_by-cons (λ (t : Segment). t.size) (bare s) (map bare ss) ∙ (ap (λ n. s.size + n) (size_bare ss) ∙ sym (sum_by-cons (λ (t : Segment). t.size) s ss))

-- ---- all of it
module _ (old others : List Segment) (entry : ℕ) (fits : FitsSourceRoom old entry) (has : HasPagesOf old others) where
  bares : map bare old ≡ map bare others
  bares = same_bares old others has

  -- a number or a test that goes by the pages alone is the same
  same_by : {A : Type 0} (f : List Segment → A) → ((ss : List Segment) → f (map bare ss) ≡ f ss) → f old ≡ f others
  same_by f by = sym (by old) ∙ (ap f bares ∙ by others)

  each : AllByRecursion HasItsPlace others
  each =
      let pages = subst (AllByRecursion HasItsPlace) bares (each_map bare HasItsPlace old (each_weaker HasItsPlace (λ (s : Segment). HasItsPlace (bare s)) place_bare old fits.wide.each)) in
      let bytes = recursion_from_All (λ (s : Segment). length s.bytes % 4096 ≡ 0) others has.bytes_in_pages in
      let within = recursion_from_All (λ (s : Segment). length s.bytes ≤ s.size) others has.within in
      each_weaker (λ (s : Segment). HasItsPlace (bare s) × ((length s.bytes % 4096 ≡ 0) × (length s.bytes ≤ s.size))) HasItsPlace (λ s h. place_with s h.0 h.1.0 h.1.1) others
      (each_both (λ (s : Segment). HasItsPlace (bare s)) (λ (s : Segment). (length s.bytes % 4096 ≡ 0) × (length s.bytes ≤ s.size)) others (each_mapped bare HasItsPlace others pages)
      (each_both (λ (s : Segment). length s.bytes % 4096 ≡ 0) (λ (s : Segment). length s.bytes ≤ s.size) others bytes within))

  to : AllByRecursion (λ (s : Segment). segment_end s ≤ 0x50000000) others
  to =
      each_mapped bare (λ (s : Segment). segment_end s ≤ 0x50000000) others
      (subst (AllByRecursion (λ (s : Segment). segment_end s ≤ 0x50000000)) bares
      (each_map bare (λ (s : Segment). segment_end s ≤ 0x50000000) old (recursion_from_All (λ (s : Segment). segment_end s ≤ 0x50000000) old fits.to)))

  pub other_bytes : FitsSourceRoom others entry
  other_bytes = record {
    wide = record {
      each = each;
      apart = apart_with others (subst NoneMeet bares (apart_bare old fits.wide.apart));
      entered = sym (same_by (list_any (is_code_at entry)) (entered_bare entry)) ∙ fits.wide.entered;
      span = subst (λ n. n ≤ 0x14000000) (same_by span_of_code span_bare) fits.wide.span;
      total = subst (λ n. n ≤ 0x20000000) (same_by (sum_by (λ (s : Segment). s.size)) size_bare) fits.wide.total;
    };
    to = All-from_recursion (λ (s : Segment). segment_end s ≤ 0x50000000) others to;
    span = subst (λ n. n ≤ 0x400000) (same_by span_of_code span_bare) fits.span;
    total = subst (λ n. n ≤ 0x4000000) (same_by (sum_by (λ (s : Segment). s.size)) size_bare) fits.total;
  }
