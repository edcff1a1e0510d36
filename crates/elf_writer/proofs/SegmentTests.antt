-- The headers of segments that have their places pass the tests of a segment.
use Rattle.std.proofs.Common.{◌≡◌, ℕ, ◌+◌, ◌/◌, ◌%◌, ◌<◌, ◌≤◌, ◌==◌, ◌&&◌, ◌||◌, Bool, true, false, cond, not, leb, ltb, List, [], ◌∷◌, ◌++◌, length, filter, refl, ap, arith, length-append, ⊎_elim}
use Rattle.std.specs.List.{list_any, AllByRecursion}
use Rattle.std.proofs.lemmas.Bool.{le-ltb, lt-ltb, le-leb, ltb-true, leb-true, ne_eqb, and_parts, or_cases, or_left, or_right, false≢true}
use Rattle.std.proofs.lemmas.Bool.Decides.{nat_tests}
use Rattle.elf_image.specs.declared.header.ProgramHeader.{ProgramHeader}
use Rattle.image.specs.declared.image.Segment.{Segment}
use Rattle.image.specs.declared.room.Room.TheVariants.{Any}
use Rattle.elf_image.specs.Pages.{is_segment}
use Rattle.elf_image.specs.Refusals.{is_dynamic, past_file, is_too_small, is_misaligned, is_forbidden, is_out_of_room, shares_page, any_shares_page, has_code, has_address}
use Rattle.image.specs.Rooms.{room_end}
use Rattle.image.specs.Addresses.{holds}
use Rattle.image.specs.Wanted.{HasItsPlace, segment_end, meets, NoneMeet, is_code, is_code_at}
use Rattle.elf_writer.specs.Written.{header_for, headers_for, data_of}

offset_then : (offset : ℕ) (s : Segment) → HasItsPlace s → offset % 4096 ≡ 0 → (offset + length s.bytes) % 4096 ≡ 0
offset_then offset s place even = let bytes = place.bytes_in_pages in omega arith

-- a test that no header fails
pub none_of : (test : ProgramHeader → Bool) → ((offset : ℕ) (s : Segment) → HasItsPlace s → offset % 4096 ≡ 0 → test (header_for offset s) ≡ false) → (offset : ℕ) (ss : List Segment)
    → offset % 4096 ≡ 0 → AllByRecursion HasItsPlace ss → list_any test (headers_for offset ss) ≡ false
none_of test one offset [] even each = refl
none_of test one offset (s ∷ ss) even each =
    rw (one offset s each.0 even) (none_of test one (offset + length s.bytes) ss (offset_then offset s each.0 even) each.1)

pub not_dynamic : (offset : ℕ) (s : Segment) → HasItsPlace s → offset % 4096 ≡ 0 → is_dynamic (header_for offset s) ≡ false
not_dynamic offset s place even = refl

pub not_too_small : (offset : ℕ) (s : Segment) → HasItsPlace s → offset % 4096 ≡ 0 → is_too_small (header_for offset s) ≡ false
not_too_small offset s place even = le-ltb s.size (length s.bytes) place.within

pub not_misaligned : (offset : ℕ) (s : Segment) → HasItsPlace s → offset % 4096 ≡ 0 → is_misaligned (header_for offset s) ≡ false
not_misaligned offset s place even = rw (even, place.start_in_pages) refl

pub not_forbidden : (offset : ℕ) (s : Segment) → HasItsPlace s → offset % 4096 ≡ 0 → is_forbidden (header_for offset s) ≡ false
not_forbidden offset s place even = rw (place.readable, place.not_both) refl

pub not_out_of_room : (offset : ℕ) (s : Segment) → HasItsPlace s → offset % 4096 ≡ 0 → is_out_of_room (room_end Any) (header_for offset s) ≡ false
not_out_of_room offset s place even = rw (le-ltb s.start 4096 place.from, le-ltb (room_end Any) (s.start + s.size) place.to) refl

pub none_past_file : (size offset : ℕ) (ss : List Segment) → offset + length (data_of ss) ≤ size → list_any (past_file size) (headers_for offset ss) ≡ false
none_past_file size offset [] fits = refl
none_past_file size offset (s ∷ ss) fits =
    let long : length (s.bytes ++ data_of ss) ≡ length s.bytes + length (data_of ss) = length-append s.bytes (data_of ss) in
    rw (le-ltb size (offset + length s.bytes) (omega (arith, long))) (none_past_file size (offset + length s.bytes) ss (omega (arith, long)))

pub all_segments : (offset : ℕ) (ss : List Segment) → AllByRecursion HasItsPlace ss → filter is_segment (headers_for offset ss) ≡ headers_for offset ss
all_segments offset [] each = refl
all_segments offset (s ∷ ss) each =
    let some : (s.size == 0) ≡ false = ne_eqb s.size 0 (λ e. let sized = each.0.sized in omega arith) in
    let is : is_segment (header_for offset s) ≡ true = sized (length s.bytes == 0) (s.size == 0) some in
    rw is (ap (λ (hs : List ProgramHeader). header_for offset s ∷ hs) (all_segments (offset + length s.bytes) ss each.1))
  where
    sized : (a b : Bool) → b ≡ false → not (a && b) ≡ true
    sized a b e = grind arith

-- pages are in the order of the addresses where they begin
page_order : (a e : ℕ) → a % 4096 ≡ 0 → e % 4096 ≡ 0 → ltb (a / 4096) ((e + 4095) / 4096) ≡ ltb a e
page_order a e p q = grind (arith, nat_tests)

shares_if_meets : (o p : ℕ) (s t : Segment) → HasItsPlace s → HasItsPlace t → shares_page (header_for o s) (header_for p t) ≡ meets s t
shares_if_meets o p s t h k =
    let a = h.start_in_pages in
    let b = h.size_in_pages in
    let c = k.start_in_pages in
    let d = k.size_in_pages in
    rw (page_order s.start (t.start + t.size) a (omega arith), page_order t.start (s.start + s.size) c (omega arith)) refl

none_shares_page_with : (o p : ℕ) (s : Segment) (ss : List Segment) → HasItsPlace s → AllByRecursion HasItsPlace ss → AllByRecursion (λ t. meets s t ≡ false) ss
    → list_any (shares_page (header_for o s)) (headers_for p ss) ≡ false
none_shares_page_with o p s [] place each apart = refl
none_shares_page_with o p s (t ∷ ss) place each apart =
    rw (shares_if_meets o p s t place each.0, apart.0) (none_shares_page_with o (p + length t.bytes) s ss place each.1 apart.1)

pub none_shares_page : (offset : ℕ) (ss : List Segment) → AllByRecursion HasItsPlace ss → NoneMeet ss → any_shares_page (headers_for offset ss) ≡ false
none_shares_page offset [] each apart = refl
none_shares_page offset (s ∷ ss) each apart =
    rw (none_shares_page_with offset (offset + length s.bytes) s ss each.0 each.1 apart.0) (none_shares_page (offset + length s.bytes) ss each.1 apart.1)

holds_page : (offset a : ℕ) (s : Segment) → holds a s ≡ true → has_address a (header_for offset s) ≡ true
holds_page offset a s e =
    let parts = and_parts (leb s.start a) (ltb a (s.start + s.size)) e in
    let from : s.start ≤ a = leb-true s.start a parts.0 in
    let to : a < s.start + s.size = ltb-true a (s.start + s.size) parts.1 in
    rw (le-leb (s.start / 4096) (a / 4096) (omega arith), lt-ltb (a / 4096) ((s.start + s.size + 4095) / 4096) (omega arith)) refl

pub entry_can_run : (offset a : ℕ) (ss : List Segment) → list_any (is_code_at a) ss ≡ true → list_any (has_address a) (filter has_code (headers_for offset ss)) ≡ true
entry_can_run offset a [] e = e
entry_can_run offset a (s ∷ ss) e = step (is_code s) (holds a s) _ _ (holds_page offset a s) (entry_can_run (offset + length s.bytes) a ss) e
  where
    step : (b c later : Bool) (hs : List ProgramHeader) → (c ≡ true → has_address a (header_for offset s) ≡ true) → (later ≡ true → list_any (has_address a) hs ≡ true) → ((b && c) || later) ≡ true
        → list_any (has_address a) (cond b (header_for offset s ∷ hs) hs) ≡ true
    step true c later hs h k e =
        ⊎_elim (λ x. or_left (has_address a (header_for offset s)) _ (h x)) (λ x. or_right (has_address a (header_for offset s)) _ (k x)) (or_cases c later e)
    step false c later hs h k e = k e

-- the entry lies in the room
pub entry_within : (a : ℕ) (ss : List Segment) → AllByRecursion HasItsPlace ss → list_any (is_code_at a) ss ≡ true → a < room_end Any
entry_within a [] each e = absurd (false≢true e)
entry_within a (s ∷ ss) each e =
    ⊎_elim (λ h. within (and_parts (is_code s) (holds a s) h).1) (entry_within a ss each.1) (or_cases (is_code_at a s) (list_any (is_code_at a) ss) e)
  where
    within : holds a s ≡ true → a < room_end Any
    within h =
        let below : a < segment_end s = ltb-true a (segment_end s) (and_parts (leb s.start a) (ltb a (segment_end s)) h).1 in
        let to = each.0.to in
        omega arith
