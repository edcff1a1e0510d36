-- The image of an accepted file is as the wide room wants it.
use Rattle.std.proofs.Common.{◌≡◌, ℕ, ◌+◌, ◌-◌, ◌*◌, ◌/◌, ◌<◌, ◌≤◌, Bool, true, false, cond, leb, ltb, List, [], ◌∷◌, length, map, filter, Option, None, Some, IfOk, refl, ap, sym, ◌∙◌, arith, ⊎_elim}
use Rattle.std.specs.Prelude.{max, min}
use Rattle.std.specs.List.{list_any, AllByRecursion, sum_by}
use Rattle.std.proofs.lemmas.List.Sums.{sum-map, sum_by-cons}
use Rattle.std.proofs.lemmas.Result.{IfOk-at_ok}
use Rattle.std.proofs.lemmas.Bool.{ltb-false, ltb-true, leb-true, le-leb, lt-ltb, and_parts, and_from, or_parts, or_cases, or_left, or_right, not-false}
use Rattle.std.proofs.lemmas.Bool.Decides.{nat_tests}
use Rattle.elf_image.specs.declared.header.ProgramHeader.{ProgramHeader}
use Rattle.image.specs.declared.image.Segment.{Segment}
use Rattle.image.specs.declared.image.Image.{Image}
use Rattle.elf_image.specs.declared.refusal.Refusal.{Refusal}
use Rattle.image.specs.declared.room.Room.{Room}
use Rattle.image.specs.declared.room.Room.TheVariants.{Any}
use Rattle.elf_image.specs.Fields.{e_entry, headers_of}
use Rattle.elf_image.specs.Pages.{is_segment, first_page, end_page}
use Rattle.image.specs.Rooms.{room_span, room_size, greatest, least}
use Rattle.elf_image.specs.Refusals.{shares_page, any_shares_page, has_code, has_address, code_span, pages_size, segments_of, refusal_of}
use Rattle.image.specs.Addresses.{holds}
use Rattle.elf_image.specs.Image.{segment_of, image_if, image_of}
use Rattle.image.specs.Wanted.{FitsWideRoom, HasItsPlace, segment_end, meets, NoneMeet, is_code, is_code_at, span_of_code}
use Rattle.elf_image.specs.Sound.{IsSound}
use Rattle.elf_image.specs.Laws.{AcceptedFits}
use Rattle.elf_image.proofs.SoundHeaders.{all_sound, filter_each, code_low, has_place}
use Rattle.elf_image.proofs.Passed.{has_passed, passes_any}

abbrev segments : List ℕ → List ProgramHeader → List Segment
segments file hs = map (segment_of file) hs

all_have_places : (file : List ℕ) (hs : List ProgramHeader) → AllByRecursion IsSound hs → AllByRecursion HasItsPlace (segments file hs)
all_have_places file [] each = tt
all_have_places file (h ∷ hs) each = (has_place file h each.0, all_have_places file hs each.1)

-- ---- no two meet
scaled_order : (x f e : ℕ) → f ≤ e → ltb (4096 * x) (4096 * f + 4096 * (e - f)) ≡ ltb x e
scaled_order x f e h = grind (arith, nat_tests)

meets_if_shares : (file : List ℕ) (h k : ProgramHeader) → meets (segment_of file h) (segment_of file k) ≡ shares_page h k
meets_if_shares file h k =
    rw (scaled_order (first_page h) (first_page k) (end_page k) (omega arith), scaled_order (first_page k) (first_page h) (end_page h) (omega arith)) refl

none_meets : (file : List ℕ) (h : ProgramHeader) (hs : List ProgramHeader) → list_any (shares_page h) hs ≡ false → AllByRecursion (λ t. meets (segment_of file h) t ≡ false) (segments file hs)
none_meets file h [] e = tt
none_meets file h (k ∷ hs) e =
    let parts = or_parts (shares_page h k) (list_any (shares_page h) hs) e in
    (meets_if_shares file h k ∙ parts.0, none_meets file h hs parts.1)

none_meet : (file : List ℕ) (hs : List ProgramHeader) → any_shares_page hs ≡ false → NoneMeet (segments file hs)
none_meet file [] e = tt
none_meet file (h ∷ hs) e =
    let parts = or_parts (list_any (shares_page h) hs) (any_shares_page hs) e in
    (none_meets file h hs parts.0, none_meet file hs parts.1)

-- ---- the entry
holds_address : (file : List ℕ) (a : ℕ) (h : ProgramHeader) → has_address a h ≡ true → holds a (segment_of file h) ≡ true
holds_address file a h e =
    let parts = and_parts (leb (first_page h) (a / 4096)) (ltb (a / 4096) (end_page h)) e in
    let from : first_page h ≤ a / 4096 = leb-true (first_page h) (a / 4096) parts.0 in
    let to : a / 4096 < end_page h = ltb-true (a / 4096) (end_page h) parts.1 in
    and_from _ _ (le-leb (4096 * first_page h) a (omega (arith, from))) (lt-ltb a (4096 * first_page h + 4096 * (end_page h - first_page h)) (omega (arith, from, to)))

code_there : (file : List ℕ) (a : ℕ) (hs : List ProgramHeader) → list_any (has_address a) (filter has_code hs) ≡ true → list_any (is_code_at a) (segments file hs) ≡ true
code_there file a [] e = e
code_there file a (h ∷ hs) e = step (has_code h) refl (code_there file a hs) e
  where
    step : (b : Bool) → has_code h ≡ b → (list_any (has_address a) (filter has_code hs) ≡ true → list_any (is_code_at a) (segments file hs) ≡ true)
        → list_any (has_address a) (cond b (h ∷ filter has_code hs) (filter has_code hs)) ≡ true → list_any (is_code_at a) (segments file (h ∷ hs)) ≡ true
    step true r more e =
        let low : is_code (segment_of file h) ≡ true = code_low h.p_flags ∙ r in
        ⊎_elim (λ x. or_left (is_code_at a (segment_of file h)) (list_any (is_code_at a) (segments file hs)) (and_from (is_code (segment_of file h)) (holds a (segment_of file h)) low (holds_address file a h x)))
        (λ x. or_right (is_code_at a (segment_of file h)) (list_any (is_code_at a) (segments file hs)) (more x)) (or_cases (has_address a h) (list_any (has_address a) (filter has_code hs)) e)
    step false r more e = or_right (is_code_at a (segment_of file h)) (list_any (is_code_at a) (segments file hs)) (more e)

-- ---- the span of the code, and the size of all pages
kept_alike : (file : List ℕ) (hs : List ProgramHeader) → filter is_code (segments file hs) ≡ segments file (filter has_code hs)
kept_alike file [] = refl
kept_alike file (h ∷ hs) = ap (λ (b : Bool). cond b (segment_of file h ∷ filter is_code (segments file hs)) (filter is_code (segments file hs))) (code_low h.p_flags) ∙ step (has_code h) _ (kept_alike file hs)
  where
    step : (b : Bool) (ss : List Segment) → ss ≡ segments file (filter has_code hs) → cond b (segment_of file h ∷ ss) ss ≡ segments file (cond b (h ∷ filter has_code hs) (filter has_code hs))
    step true ss e = ap (λ (rs : List Segment). segment_of file h ∷ rs) e
    step false ss e = e

greatest_scaled : (file : List ℕ) (hs : List ProgramHeader) → greatest (map segment_end (segments file hs)) ≡ 4096 * greatest (map end_page hs)
greatest_scaled file [] = refl
greatest_scaled file (h ∷ hs) =
    let this : segment_end (segment_of file h) ≡ 4096 * end_page h = omega arith in
    scaled _ _ _ _ this (greatest_scaled file hs)
  where
    scaled : (x y z w : ℕ) → y ≡ 4096 * x → w ≡ 4096 * z → max y w ≡ 4096 * max x z
    scaled x y z w p q = omega arith

least_scaled : (file : List ℕ) (hs : List ProgramHeader) → least (map (λ s. s.start) (segments file hs)) ≡ 4096 * least (map first_page hs)
least_scaled file [] = refl
least_scaled file (h ∷ []) = refl
least_scaled file (h ∷ k ∷ hs) = scaled _ _ _ (least_scaled file (k ∷ hs))
  where
    scaled : (x z w : ℕ) → w ≡ 4096 * z → min (4096 * x) w ≡ 4096 * min x z
    scaled x z w q = omega arith

span_of_code_is : (file : List ℕ) (hs : List ProgramHeader) → span_of_code (segments file hs) ≡ code_span hs
span_of_code_is file hs = rw (kept_alike file hs) (scaled _ _ _ _ (greatest_scaled file (filter has_code hs)) (least_scaled file (filter has_code hs)))
  where
    scaled : (x y z w : ℕ) → y ≡ 4096 * x → w ≡ 4096 * z → y - w ≡ 4096 * (x - z)
    scaled x y z w p q = omega arith

abbrev pages : ProgramHeader → ℕ
pages h = end_page h - first_page h

sizes_are : (file : List ℕ) (hs : List ProgramHeader) → sum_by (λ s. s.size) (segments file hs) ≡ 4096 * sum_by pages hs
sizes_are file [] = refl
sizes_are file (h ∷ hs) =
    sum_by-cons (λ s. s.size) (segment_of file h) (segments file hs) ∙ scaled _ _ _ (sizes_are file hs) ∙ sym (ap (λ (n : ℕ). 4096 * n) (sum_by-cons pages h hs))
  where
    scaled : (x z w : ℕ) → w ≡ 4096 * z → 4096 * x + w ≡ 4096 * (x + z)
    scaled x z w q = omega arith

-- ---- the image
segments_fit : (file : List ℕ) (room : Room) → refusal_of file room ≡ None → FitsWideRoom (segments file (segments_of file)) (e_entry file)
segments_fit file room e =
    let hs : List ProgramHeader = segments_of file in
    let p = passes_any (length file) (e_entry file) room hs (has_passed file room e).segments in
    record {
      each = all_have_places file hs (all_sound hs (filter_each is_segment (headers_of file)) p.small p.forbidden p.range);
      apart = none_meet file hs p.apart;
      entered = code_there file (e_entry file) hs (not-false (list_any (has_address (e_entry file)) (filter has_code hs)) p.entered);
      span = rw (span_of_code_is file hs) (ltb-false (room_span Any) (code_span hs) p.span);
      total = rw (sizes_are file hs ∙ sym (ap (λ (n : ℕ). 4096 * n) (sum-map pages hs))) (ltb-false (room_size Any) (pages_size hs) p.size);
    }

pub accepted_fits : AcceptedFits
unfolding image_of
accepted_fits file room image e = IfOk-at_ok (λ (i : Image). FitsWideRoom i.segments i.entry) e (go (refusal_of file room) refl)
  where
    go : (r : Option Refusal) → refusal_of file room ≡ r → IfOk (image_if file r) (λ (i : Image). FitsWideRoom i.segments i.entry)
    go None none = segments_fit file room none
    go (Some r) some = tt
