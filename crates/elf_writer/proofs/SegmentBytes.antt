-- The segments of a written file, read again.
use Rattle.std.proofs.Common.{◌≡◌, ℕ, ◌+◌, ◌-◌, ◌*◌, ◌%◌, ◌&&◌, Bool, true, false, cond, ltb, List, [], ◌∷◌, ◌++◌, length, map, take, drop, replicate, refl, ap, sym, ◌∙◌, append_assoc, append-nil, arith}
use Rattle.std.specs.List.{AllByRecursion}
use Rattle.std.proofs.lemmas.List.{take_at, take_all, drop_at, drop-drop}
use Rattle.image.specs.declared.image.Segment.{Segment}
use Rattle.image.specs.declared.perm.Perm.{Perm}
use Rattle.image.specs.Addresses.{has}
use Rattle.elf_image.specs.Pages.{first_page, file_end_page, window, zeroed_from, page_bytes}
use Rattle.elf_image.specs.Image.{segment_of}
use Rattle.image.specs.Wanted.{HasItsPlace}
use Rattle.elf_writer.specs.Written.{header_for, headers_for, data_of}

-- the bytes at a place, if there are so many
window_front : (file front rest : List ℕ) (from n : ℕ) → drop from file ≡ front ++ rest → length front ≡ n → window file from n ≡ front
window_front file front rest from n at size =
    ap (λ (bs : List ℕ). take n (bs ++ replicate n 0)) at ∙ ap (take n) (append_assoc front rest (replicate n 0)) ∙ take_at front (rest ++ replicate n 0) n size

-- no zeros are put in the place of bytes where the bytes fill their pages
zeroed_none : (k n : ℕ) (bytes : List ℕ) → k ≡ n → length bytes ≡ n → zeroed_from k n bytes ≡ bytes
zeroed_none k n bytes e size =
    let none : n - k ≡ 0 = omega arith in
    let all : take k bytes ≡ bytes = take_all k bytes (omega arith) in
    rw (none, all) (append-nil bytes)

either : {A : Type 0} (b : Bool) (x y z : A) → x ≡ z → y ≡ z → cond b x y ≡ z
either true x y z p q = p
either false x y z p q = q

bytes_again : (file : List ℕ) (offset : ℕ) (s : Segment) (rest : List ℕ) → HasItsPlace s → drop offset file ≡ s.bytes ++ rest → page_bytes file (header_for offset s) ≡ s.bytes
bytes_again file offset s rest place at =
    let a = place.start_in_pages in
    let b = place.bytes_in_pages in
    let n : ℕ = 4096 * (file_end_page (header_for offset s) - first_page (header_for offset s)) in
    let many : length s.bytes ≡ 4096 * (file_end_page (header_for offset s) - first_page (header_for offset s)) = omega arith in
    let from : offset - s.start % 4096 ≡ offset = omega arith in
    let filled : s.start % 4096 + length s.bytes ≡ 4096 * (file_end_page (header_for offset s) - first_page (header_for offset s)) = omega (arith, many) in
    let there : window file (offset - s.start % 4096) n ≡ s.bytes = ap (λ (i : ℕ). window file i n) from ∙ window_front file s.bytes rest offset n at many in
    either (ltb (length s.bytes) s.size && has s.perm.0 2) _ _ s.bytes
    (ap (λ (bs : List ℕ). zeroed_from (s.start % 4096 + length s.bytes) n bs) there ∙ zeroed_none (s.start % 4096 + length s.bytes) n s.bytes filled many) there

abbrev segment : ℕ → ℕ → Perm → List ℕ → Segment
segment s z p b = record { start = s; size = z; perm = p; bytes = b }

same_segment : {s z s' z' : ℕ} {p p' : ℕ} {b b' : List ℕ} → s ≡ s' → z ≡ z' → p ≡ p' → b ≡ b' → segment s z (record { 0 = p }) b ≡ segment s' z' (record { 0 = p' }) b'
same_segment p q r s = cc

segment_again : (file : List ℕ) (offset : ℕ) (s : Segment) (rest : List ℕ) → HasItsPlace s → drop offset file ≡ s.bytes ++ rest → segment_of file (header_for offset s) ≡ s
segment_again file offset s rest place at =
    let a = place.start_in_pages in
    let b = place.size_in_pages in
    let perm = place.perm in
    same_segment (omega arith) (omega arith) (omega arith) (bytes_again file offset s rest place at)

pub segments_again : (file : List ℕ) (offset : ℕ) (ss : List Segment) → AllByRecursion HasItsPlace ss → drop offset file ≡ data_of ss → map (segment_of file) (headers_for offset ss) ≡ ss
segments_again file offset [] each at = refl
segments_again file offset (s ∷ ss) each at =
    let this : segment_of file (header_for offset s) ≡ s = segment_again file offset s (data_of ss) each.0 at in
    let then : drop (offset + length s.bytes) file ≡ data_of ss =
    sym (drop-drop (length s.bytes) offset file) ∙ ap (drop (length s.bytes)) at ∙ drop_at s.bytes (data_of ss) (length s.bytes) refl in
    let more : map (segment_of file) (headers_for (offset + length s.bytes) ss) ≡ ss = segments_again file (offset + length s.bytes) ss each.1 then in
    cc
