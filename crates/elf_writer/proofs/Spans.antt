-- The span of the code, the size of all pages and the size of all bytes.
use Rattle.std.proofs.Common.{◌≡◌, ℕ, ◌+◌, ◌-◌, ◌*◌, ◌/◌, ◌≤◌, Bool, true, false, cond, List, [], ◌∷◌, ◌++◌, length, map, filter, refl, ap, sym, ◌∙◌, arith, length-append}
use Rattle.std.specs.Prelude.{max, min}
use Rattle.std.specs.List.{AllByRecursion, sum_by}
use Rattle.std.proofs.lemmas.List.Sums.{sum-map, sum_by-cons}
use Rattle.elf_image.specs.declared.header.ProgramHeader.{ProgramHeader}
use Rattle.image.specs.declared.image.Segment.{Segment}
use Rattle.elf_image.specs.Pages.{first_page, end_page}
use Rattle.elf_image.specs.Refusals.{has_code, code_span, pages_size}
use Rattle.image.specs.Rooms.{greatest, least}
use Rattle.image.specs.Wanted.{HasItsPlace, segment_end, is_code, span_of_code}
use Rattle.elf_writer.specs.Written.{header_for, headers_for, data_of}

abbrev page_end : Segment → ℕ
page_end s = (segment_end s + 4095) / 4096

abbrev page_start : Segment → ℕ
page_start s = s.start / 4096

-- what is said of the headers that can be run, as of the segments that can
kept_alike : (f : ProgramHeader → ℕ) (g : Segment → ℕ) → ((offset : ℕ) (s : Segment) → f (header_for offset s) ≡ g s) → (offset : ℕ) (ss : List Segment)
    → map f (filter has_code (headers_for offset ss)) ≡ map g (filter is_code ss)
kept_alike f g same offset [] = refl
kept_alike f g same offset (s ∷ ss) = step (is_code s) _ _ (kept_alike f g same (offset + length s.bytes) ss)
  where
    step : (b : Bool) (hs : List ProgramHeader) (rs : List Segment) → map f hs ≡ map g rs → map f (cond b (header_for offset s ∷ hs) hs) ≡ map g (cond b (s ∷ rs) rs)
    step true hs rs e = let now = same offset s in cc
    step false hs rs e = e

kept_each : (ss : List Segment) → AllByRecursion HasItsPlace ss → AllByRecursion HasItsPlace (filter is_code ss)
kept_each [] each = tt
kept_each (s ∷ ss) each = step (is_code s) _ (kept_each ss each.1)
  where
    step : (b : Bool) (rs : List Segment) → AllByRecursion HasItsPlace rs → AllByRecursion HasItsPlace (cond b (s ∷ rs) rs)
    step true rs e = (each.0, e)
    step false rs e = e

greatest_in_pages : (ss : List Segment) → AllByRecursion HasItsPlace ss → 4096 * greatest (map page_end ss) ≡ greatest (map segment_end ss)
greatest_in_pages [] each = refl
greatest_in_pages (s ∷ ss) each =
    let a = each.0.start_in_pages in
    let b = each.0.size_in_pages in
    let this : 4096 * page_end s ≡ segment_end s = omega arith in
    let more : 4096 * greatest (map page_end ss) ≡ greatest (map segment_end ss) = greatest_in_pages ss each.1 in
    scaled _ _ _ _ this more
  where
    scaled : (x y z w : ℕ) → 4096 * x ≡ y → 4096 * z ≡ w → 4096 * max x z ≡ max y w
    scaled x y z w p q = omega arith

least_in_pages : (ss : List Segment) → AllByRecursion HasItsPlace ss → 4096 * least (map page_start ss) ≡ least (map (λ s. s.start) ss)
least_in_pages [] each = refl
least_in_pages (s ∷ []) each = let a = each.0.start_in_pages in let this : 4096 * page_start s ≡ s.start = omega arith in this
least_in_pages (s ∷ t ∷ ss) each =
    let a = each.0.start_in_pages in
    let this : 4096 * page_start s ≡ s.start = omega arith in
    let more : 4096 * least (map page_start (t ∷ ss)) ≡ least (map (λ s. s.start) (t ∷ ss)) = least_in_pages (t ∷ ss) each.1 in
    scaled _ _ _ _ this more
  where
    scaled : (x y z w : ℕ) → 4096 * x ≡ y → 4096 * z ≡ w → 4096 * min x z ≡ min y w
    scaled x y z w p q = omega arith

pub code_span_is : (offset : ℕ) (ss : List Segment) → AllByRecursion HasItsPlace ss → code_span (headers_for offset ss) ≡ span_of_code ss
code_span_is offset ss each =
    let ends : map end_page (filter has_code (headers_for offset ss)) ≡ map page_end (filter is_code ss) = kept_alike end_page page_end (λ o s. refl) offset ss in
    let starts : map first_page (filter has_code (headers_for offset ss)) ≡ map page_start (filter is_code ss) = kept_alike first_page page_start (λ o s. refl) offset ss in
    let kept = kept_each ss each in
    rw (ends, starts) (scaled _ _ _ _ (greatest_in_pages (filter is_code ss) kept) (least_in_pages (filter is_code ss) kept))
  where
    scaled : (x y z w : ℕ) → 4096 * x ≡ y → 4096 * z ≡ w → 4096 * (x - z) ≡ y - w
    scaled x y z w p q = omega arith

abbrev pages : ProgramHeader → ℕ
pages h = end_page h - first_page h

pages_are : (offset : ℕ) (ss : List Segment) → AllByRecursion HasItsPlace ss → 4096 * sum_by pages (headers_for offset ss) ≡ sum_by (λ s. s.size) ss
pages_are offset [] each = refl
pages_are offset (s ∷ ss) each =
    let a = each.0.start_in_pages in
    let b = each.0.size_in_pages in
    let this : 4096 * pages (header_for offset s) ≡ s.size = omega arith in
    let more : 4096 * sum_by pages (headers_for (offset + length s.bytes) ss) ≡ sum_by (λ s. s.size) ss = pages_are (offset + length s.bytes) ss each.1 in
    ap (λ (n : ℕ). 4096 * n) (sum_by-cons pages (header_for offset s) (headers_for (offset + length s.bytes) ss)) ∙ scaled _ _ _ _ this more ∙ sym (sum_by-cons (λ s. s.size) s ss)
  where
    scaled : (x y z w : ℕ) → 4096 * x ≡ y → 4096 * z ≡ w → 4096 * (x + z) ≡ y + w
    scaled x y z w p q = omega arith

pub pages_size_is : (offset : ℕ) (ss : List Segment) → AllByRecursion HasItsPlace ss → pages_size (headers_for offset ss) ≡ sum_by (λ s. s.size) ss
pages_size_is offset ss each = ap (λ (n : ℕ). 4096 * n) (sum-map pages (headers_for offset ss)) ∙ pages_are offset ss each

-- the bytes are no more than the pages
pub data_within : (ss : List Segment) → AllByRecursion HasItsPlace ss → length (data_of ss) ≤ sum_by (λ s. s.size) ss
data_within [] each = omega arith
data_within (s ∷ ss) each =
    let here = each.0.within in
    let more : length (data_of ss) ≤ sum_by (λ s. s.size) ss = data_within ss each.1 in
    let sizes : sum_by (λ s. s.size) (s ∷ ss) ≡ s.size + sum_by (λ s. s.size) ss = sum_by-cons (λ s. s.size) s ss in
    let long : length (s.bytes ++ data_of ss) ≡ length s.bytes + length (data_of ss) = length-append s.bytes (data_of ss) in
    omega (arith, here, more, sizes, long)
