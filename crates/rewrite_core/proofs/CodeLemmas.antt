-- The bytes of the stated image that can be run are those of the new code.
use Rattle.std.proofs.Common.{◌≡◌, ◌⊎◌, ℕ, zero, suc, ◌+◌, ◌-◌, ◌<◌, ◌≤◌, Bool, true, false, cond, List, [], ◌∷◌, ◌++◌, length, take, drop, replicate, find, Option, Some, None, slice_index, refl, sym, ap, ◌∙◌, inl, inr, add_assoc, add-one, arith, length-append, drop-cons}
use Rattle.std.proofs.lemmas.List.{length-replicate, length-take-le, take-take, take-replicate, drop-append-le, take-append-le, drop_all, get_or-take, get_or_append_left}
use Rattle.std.proofs.Math.Seq.{take-append-add}
use Rattle.std.proofs.lemmas.Bool.Decides.{nat_tests}
use Rattle.image.specs.declared.image.Segment.{Segment}
use Rattle.image.specs.Addresses.{holds, segment_at, code_byte_in, code_byte_at, code_bytes, then_code}
use Rattle.elf_image.specs.Plain.{room_segment}
use Rattle.rewrite_core.specs.Places.{stop}
use Rattle.rewrite_core.specs.Layout.{code_start, whole_pages, in_pages, kept_segment, code_segment, new_image, NewCodeIsThere, NewCodeIsAll, NewCodeIsInPages, row_list, row_text, RowIsWritten}

-- ---- the segment at an address
holds_past : (a : ℕ) (s : Segment) → s.start + s.size ≤ a → holds a s ≡ false
holds_past a s h = grind (arith, nat_tests)

holds_before : (a : ℕ) (s : Segment) → a < s.start → holds a s ≡ false
holds_before a s h = grind (arith, nat_tests)

holds_within : (a : ℕ) (s : Segment) → s.start ≤ a → a < s.start + s.size → holds a s ≡ true
holds_within a s h k = grind (arith, nat_tests)

third_found : (a : ℕ) (s t u : Segment) → holds a s ≡ false → holds a t ≡ false → holds a u ≡ true → find (holds a) (s ∷ t ∷ u ∷ []) ≡ Some u
third_found a s t u p q r = rw (p, q, r)

-- the old page and the page of zeros can't be run
not_run : (a : ℕ) (text : List ℕ) (b c : Bool) → code_byte_in a (cond b (Some (kept_segment text)) (cond c (Some room_segment) None)) ≡ None
not_run a text true c = refl
not_run a text false true = refl
not_run a text false false = refl

third_missed : (a : ℕ) (s t u : Segment) → holds a u ≡ false → find (holds a) (s ∷ t ∷ u ∷ []) ≡ cond (holds a s) (Some s) (cond (holds a t) (Some t) None)
third_missed a s t u p = rw p

code_byte_missed : (text code : List ℕ) (a : ℕ) → holds a (code_segment code) ≡ false → code_byte_at (new_image text code) a ≡ None
unfolding segment_at
code_byte_missed text code a h =
    ap (code_byte_in a) (third_missed a (kept_segment text) room_segment (code_segment code) h)
    ∙ not_run a text (holds a (kept_segment text)) (holds a room_segment)

code_byte_found : (text code : List ℕ) (k : ℕ) → k < whole_pages (length code) → code_byte_at (new_image text code) (code_start + k) ≡ Some (slice_index (in_pages code) k)
unfolding segment_at
code_byte_found text code k h =
    let kept : holds (code_start + k) (kept_segment text) ≡ false = holds_past (code_start + k) (kept_segment text) (omega arith) in
    let room : holds (code_start + k) room_segment ≡ false = holds_past (code_start + k) room_segment (omega arith) in
    let here : holds (code_start + k) (code_segment code) ≡ true = holds_within (code_start + k) (code_segment code) (omega arith) (omega arith) in
    let place : (code_start + k) - code_start ≡ k = omega arith in
    ap (code_byte_in (code_start + k)) (third_found (code_start + k) (kept_segment text) room_segment (code_segment code) kept room here)
    ∙ ap (λ (i : ℕ). Some (slice_index (in_pages code) i)) place

-- ---- whole pages
code_fits : (n : ℕ) → n ≤ whole_pages n
code_fits n = omega arith

pub length_in_pages : (bytes : List ℕ) → length (in_pages bytes) ≡ whole_pages (length bytes)
length_in_pages bytes =
    let w : ℕ = whole_pages (length bytes) in
    length-take-le w (bytes ++ replicate w 0) (omega (arith, length-append bytes (replicate w 0), length-replicate {A = ℕ} w 0))

pub front_in_pages : (bytes : List ℕ) (n : ℕ) → n ≤ length bytes → take n (in_pages bytes) ≡ take n bytes
front_in_pages bytes n h =
    let w : ℕ = whole_pages (length bytes) in
    take-take n w (bytes ++ replicate w 0) (omega (arith, code_fits (length bytes))) ∙ take-append-le n bytes (replicate w 0) h

byte_in_pages : (bytes : List ℕ) (k : ℕ) → k < length bytes → slice_index (in_pages bytes) k ≡ slice_index bytes k
byte_in_pages bytes k h =
    let w : ℕ = whole_pages (length bytes) in
    get_or-take w (bytes ++ replicate w 0) k 0 (omega (arith, code_fits (length bytes))) ∙ get_or_append_left bytes (replicate w 0) 0 k h

-- in the pages the code is followed by zeros
pub in_pages_is : (bytes : List ℕ) → in_pages bytes ≡ bytes ++ replicate (whole_pages (length bytes) - length bytes) 0
in_pages_is bytes =
    let w : ℕ = whole_pages (length bytes) in
    let room : ℕ = w - length bytes in
    let whole : w ≡ length bytes + room = omega (arith, code_fits (length bytes)) in
    ap (λ (n : ℕ). take n (bytes ++ replicate w 0)) whole
    ∙ take-append-add bytes (replicate w 0) room
    ∙ ap (λ (zs : List ℕ). bytes ++ zs) (take-replicate room w 0 (omega arith))

pub left_in_pages : (bytes : List ℕ) (k : ℕ) → k ≤ length bytes → drop k (in_pages bytes) ≡ drop k bytes ++ replicate (whole_pages (length bytes) - length bytes) 0
left_in_pages bytes k h =
    ap (drop k) (in_pages_is bytes) ∙ drop-append-le k bytes (replicate (whole_pages (length bytes) - length bytes) 0) h

-- ---- the laws
pub new_code_there : NewCodeIsThere
new_code_there text code k h =
    code_byte_found text code k (omega (arith, code_fits (length code))) ∙ ap Some (byte_in_pages code k h)

pub new_code_all : NewCodeIsAll
new_code_all text code a (inl h) = code_byte_missed text code a (holds_before a (code_segment code) h)
new_code_all text code a (inr h) = code_byte_missed text code a (holds_past a (code_segment code) h)

-- one byte more, within the pages and at their end
more : (text code : List ℕ) (n k : ℕ) → k < whole_pages (length code)
    → code_bytes (new_image text code) (code_start + (k + 1)) n ≡ take n (drop (k + 1) (in_pages code))
    → code_bytes (new_image text code) (code_start + k) (suc n) ≡ take (suc n) (drop k (in_pages code))
unfolding code_bytes
more text code n k h rest =
    let xs : List ℕ = in_pages code in
    let inside : k < length xs = omega (arith, length_in_pages code) in
    let split : drop k xs ≡ slice_index xs k ∷ drop (suc k) xs = drop-cons xs k 0 inside in
    let next : code_bytes (new_image text code) (code_start + k + 1) n ≡ take n (drop (suc k) xs) =
    ap (λ (a : ℕ). code_bytes (new_image text code) a n) (add_assoc code_start k 1) ∙ rest ∙ ap (λ (i : ℕ). take n (drop i xs)) (add-one k) in
    ap (λ (b : Option ℕ). then_code b (code_bytes (new_image text code) (code_start + k + 1) n)) (code_byte_found text code k h)
    ∙ ap (λ (bs : List ℕ). slice_index xs k ∷ bs) next
    ∙ ap (take (suc n)) (sym split)

none_more : (text code : List ℕ) (n k : ℕ) → whole_pages (length code) ≤ k → code_bytes (new_image text code) (code_start + k) (suc n) ≡ take (suc n) (drop k (in_pages code))
unfolding code_bytes
none_more text code n k h =
    let past : length (in_pages code) ≤ k = omega (arith, length_in_pages code) in
    let none : code_byte_at (new_image text code) (code_start + k) ≡ None =
    code_byte_missed text code (code_start + k) (holds_past (code_start + k) (code_segment code) (omega arith)) in
    ap (λ (b : Option ℕ). then_code b (code_bytes (new_image text code) (code_start + k + 1) n)) none
    ∙ ap (take (suc n)) (sym (drop_all k (in_pages code) past))

below_or_past : (k w : ℕ) → (k < w) ⊎ (w ≤ k)
below_or_past k w = grind arith

pub new_code_in_pages : NewCodeIsInPages
unfolding code_bytes
new_code_in_pages text code zero k h = refl
new_code_in_pages text code (suc n) k h =
    elim (below_or_past k (whole_pages (length code))) [
      | inl below ↦ more text code n k below (new_code_in_pages text code n (k + 1) (omega arith))
      | inr past ↦ none_more text code n k past
    ]

pub row_written : RowIsWritten
row_written rest =
    let code : List ℕ = row_list ++ stop in
    let size : 14 ≤ length code = omega arith in
    new_code_in_pages (row_text rest) code 14 0 (omega arith) ∙ front_in_pages code 14 size
