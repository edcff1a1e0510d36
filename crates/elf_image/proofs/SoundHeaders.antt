-- A header that passes the tests is that of a segment that has its place.
use Rattle.std.proofs.Common.{◌≡◌, ℕ, ◌+◌, ◌-◌, ◌*◌, ◌%◌, ◌<◌, ◌≤◌, ◌==◌, ◌&&◌, Bool, true, false, cond, not, ltb, List, [], ◌∷◌, length, take, replicate, filter, refl, ap, sym, subst, zero, suc, get_or, ◌∙◌, arith, length-append}
use Rattle.std.specs.Prelude.{min}
use Rattle.std.specs.List.{list_any, AllByRecursion}
use Rattle.std.proofs.lemmas.List.{length-take, length-replicate}
use Rattle.std.proofs.lemmas.Bool.{ltb-false, and_parts, or_parts, not-true, not-false}
use Rattle.std.proofs.lemmas.Bool.Decides.{nat_tests}
use Rattle.elf_image.specs.declared.header.ProgramHeader.{ProgramHeader}
use Rattle.image.specs.declared.room.Room.TheVariants.{Any}
use Rattle.image.specs.Addresses.{has}
use Rattle.elf_image.specs.Pages.{is_segment, first_page, file_end_page, window, zeroed_from, page_bytes}
use Rattle.image.specs.Rooms.{room_end}
use Rattle.elf_image.specs.Refusals.{is_too_small, is_forbidden, is_out_of_room}
use Rattle.elf_image.specs.Sound.{IsSound}
use Rattle.elf_image.specs.Image.{segment_of}
use Rattle.image.specs.Wanted.{HasItsPlace}
use Rattle.elf_image.proofs.Windows.{length_window}

-- ---- the length of a segment's bytes
length_zeroed : (k n : ℕ) (bytes : List ℕ) → length bytes ≡ n → length (zeroed_from k n bytes) ≡ n
length_zeroed k n bytes e =
    let kept : length (take k bytes) ≡ min k (length bytes) = length-take k bytes in
    let zeros : length {A = ℕ} (replicate (n - k) 0) ≡ n - k = length-replicate (n - k) 0 in
    length-append (take k bytes) (replicate (n - k) 0) ∙ omega (arith, kept, zeros)

length_either : (b : Bool) (x y : List ℕ) (n : ℕ) → length x ≡ n → length y ≡ n → length (cond b x y) ≡ n
length_either true x y n p q = p
length_either false x y n p q = q

length_page_bytes : (file : List ℕ) (h : ProgramHeader) → length (page_bytes file h) ≡ 4096 * (file_end_page h - first_page h)
length_page_bytes file h =
    let n : ℕ = 4096 * (file_end_page h - first_page h) in
    let window_long : length (window file (h.p_offset - h.p_vaddr % 4096) n) ≡ n = length_window file (h.p_offset - h.p_vaddr % 4096) n in
    length_either (ltb h.p_filesz h.p_memsz && has h.p_flags 2) _ _ n (length_zeroed (h.p_vaddr % 4096 + h.p_filesz) n _ window_long) window_long

-- ---- a header that passes
pub all_sound : (hs : List ProgramHeader) → AllByRecursion (λ h. is_segment h ≡ true) hs → list_any is_too_small hs ≡ false → list_any is_forbidden hs ≡ false
    → list_any (is_out_of_room (room_end Any)) hs ≡ false → AllByRecursion IsSound hs
all_sound [] each a b c = tt
all_sound (h ∷ hs) each a b c =
    let p = or_parts (is_too_small h) (list_any is_too_small hs) a in
    let q = or_parts (is_forbidden h) (list_any is_forbidden hs) b in
    let r = or_parts (is_out_of_room (room_end Any) h) (list_any (is_out_of_room (room_end Any)) hs) c in
    (record { segment = each.0; small = p.0; forbidden = q.0; room = r.0 }, all_sound hs each.1 p.1 q.1 r.1)

pub filter_each : (test : ProgramHeader → Bool) (hs : List ProgramHeader) → AllByRecursion (λ h. test h ≡ true) (filter test hs)
filter_each test [] = tt
filter_each test (h ∷ hs) = step (test h) refl (filter_each test hs)
  where
    step : (b : Bool) → test h ≡ b → AllByRecursion (λ k. test k ≡ true) (filter test hs) → AllByRecursion (λ k. test k ≡ true) (cond b (h ∷ filter test hs) (filter test hs))
    step true e more = (e, more)
    step false e more = more

pub sound_at : (hs : List ProgramHeader) (i : ℕ) (h : ProgramHeader) → AllByRecursion IsSound hs → i < length hs → h ≡ get_or hs i h → IsSound h
sound_at hs i h each within is = subst IsSound (sym is) (at_place hs i h each within)
  where
    at_place : (hs : List ProgramHeader) (i : ℕ) (d : ProgramHeader) → AllByRecursion IsSound hs → i < length hs → IsSound (get_or hs i d)
    at_place [] i d each within = absurd (omega arith)
    at_place (h ∷ hs) zero d each within = each.0
    at_place (h ∷ hs) (suc i) d each within = at_place hs i d each.1 (omega arith)

-- ---- its segment
has_low : (n : ℕ) → (has (n % 8) 1 ≡ has n 1) × (has (n % 8) 2 ≡ has n 2) × (has (n % 8) 4 ≡ has n 4)
has_low n = (
  ap (λ (k : ℕ). k == 1) (omega arith),
  ap (λ (k : ℕ). k == 1) (omega arith),
  ap (λ (k : ℕ). k == 1) (omega arith),
)

pub code_low : (n : ℕ) → has (n % 8) 1 ≡ has n 1
code_low n = (has_low n).0

some_memory : (file memory : ℕ) → (file == 0 && memory == 0) ≡ false → file ≤ memory → 0 < memory
some_memory file memory e h = grind (arith, nat_tests)

pub has_place : (file : List ℕ) (h : ProgramHeader) → IsSound h → HasItsPlace (segment_of file h)
has_place file h s =
    let long : length (page_bytes file h) ≡ 4096 * (file_end_page h - first_page h) = length_page_bytes file h in
    let small : h.p_filesz ≤ h.p_memsz = ltb-false h.p_memsz h.p_filesz s.small in
    let room = or_parts (ltb h.p_vaddr 4096) (ltb (room_end Any) (h.p_vaddr + h.p_memsz)) s.room in
    let from : 4096 ≤ h.p_vaddr = ltb-false h.p_vaddr 4096 room.0 in
    let to : h.p_vaddr + h.p_memsz ≤ room_end Any = ltb-false (room_end Any) (h.p_vaddr + h.p_memsz) room.1 in
    let kinds = and_parts (h.p_type == 1) (not (h.p_filesz == 0 && h.p_memsz == 0)) s.segment in
    let some : 0 < h.p_memsz = some_memory h.p_filesz h.p_memsz (not-true (h.p_filesz == 0 && h.p_memsz == 0) kinds.1) small in
    let perms = or_parts (not (has h.p_flags 4)) (has h.p_flags 2 && has h.p_flags 1) s.forbidden in
    let low = has_low h.p_flags in
    record {
      start_in_pages = omega arith;
      size_in_pages = omega arith;
      bytes_in_pages = rw long (omega arith);
      sized = omega (arith, some);
      within = rw long (omega (arith, small));
      from = omega (arith, from);
      to = omega (arith, to);
      perm = omega arith;
      readable = low.2 ∙ not-false (has h.p_flags 4) perms.0;
      not_both = rw (low.0, low.1) perms.1;
    }
