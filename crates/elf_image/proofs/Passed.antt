-- What the tests of an accepted file say of its segments, and that the wide room takes what the source room takes.
use Rattle.std.proofs.Common.{◌≡◌, ℕ, ◌∙◌, ◌≤◌, Bool, true, false, cond, not, ltb, List, [], ◌∷◌, ◌++◌, length, filter, Option, Some, None, Ok, refl, ap, sym, subst, arith}
use Rattle.std.specs.List.{list_any, AllByRecursion}
use Rattle.std.proofs.lemmas.Bool.{ltb-false, le-ltb}
use Rattle.image.specs.declared.image.Image.{Image}
use Rattle.image.specs.declared.room.Room.{Room}
use Rattle.image.specs.declared.room.Room.TheVariants.{Source, Any}
use Rattle.image.specs.Rooms.{room_end, room_span, room_size}
use Rattle.elf_image.specs.declared.header.ProgramHeader.{ProgramHeader}
use Rattle.elf_image.specs.declared.refusal.Refusal.{Refusal}
use Rattle.elf_image.specs.declared.refusal.Refusal.TheVariants.{Dynamic}
use Rattle.elf_image.specs.Fields.{e_entry, headers_of}
use Rattle.elf_image.specs.Refusals.{first, header_tests, segment_tests, segments_of, refusal_of, is_dynamic, past_file, is_too_small, is_misaligned, is_forbidden, is_out_of_room, any_shares_page, has_address, has_code, code_span, pages_size}
use Rattle.elf_image.specs.Image.{image_of, image_if}
use Rattle.elf_image.specs.Pages.{is_segment}
use Rattle.elf_image.specs.Sound.{IsSound}
use Rattle.elf_image.specs.Laws.{SourceIsAny}
use Rattle.elf_image.proofs.SoundHeaders.{all_sound, filter_each}
use Rattle.elf_image.proofs.Reading.{accepted}
use Rattle.elf_image.proofs.Rooms.{within_any}

-- where no test of a list holds, the first doesn't, and none of the others
none_then : {A : Type 0} (b : Bool) (a : A) (rest : Option A) → cond b (Some a) rest ≡ None → (b ≡ false) × (rest ≡ None)
none_then true a rest e = absurd cc
none_then false a rest e = (refl, e)

none_of_both : {A : Type 0} (ts us : List (Bool × A)) → first (ts ++ us) ≡ None → (first ts ≡ None) × (first us ≡ None)
none_of_both [] us e = (refl, e)
none_of_both (t ∷ ts) us e =
    let here = none_then t.0 t.1 (first (ts ++ us)) e in
    let later = none_of_both ts us here.1 in
    (rw here.0 later.0, later.1)

none_holds : (ts : List (Bool × Refusal)) → first ts ≡ None → AllByRecursion (λ t. t.0 ≡ false) ts
none_holds [] e = tt
none_holds (t ∷ ts) e = let here = none_then t.0 t.1 (first ts) e in (here.0, none_holds ts here.1)

-- no test of the segments holds
pub record Passes (n at : ℕ) (room : Room) (hs : List ProgramHeader) : Type 0 where
  pub file : list_any (past_file n) hs ≡ false
  pub small : list_any is_too_small hs ≡ false
  pub aligned : list_any is_misaligned hs ≡ false
  pub forbidden : list_any is_forbidden hs ≡ false
  pub range : list_any (is_out_of_room (room_end room)) hs ≡ false
  pub apart : any_shares_page hs ≡ false
  pub entered : not (list_any (has_address at) (filter has_code hs)) ≡ false
  pub span : ltb (room_span room) (code_span hs) ≡ false
  pub size : ltb (room_size room) (pages_size hs) ≡ false

segments_pass : (n at : ℕ) (room : Room) (hs : List ProgramHeader) → first (segment_tests n at room hs) ≡ None → Passes n at room hs
segments_pass n at room hs e =
    let all = none_holds (segment_tests n at room hs) e in
    let from_permission = all.1.1.1 in
    let from_shared = from_permission.1.1 in
    record {
      file = all.0;
      small = all.1.0;
      aligned = all.1.1.0;
      forbidden = from_permission.0;
      range = from_permission.1.0;
      apart = from_shared.0;
      entered = from_shared.1.0;
      span = from_shared.1.1.0;
      size = from_shared.1.1.1.0;
    }

no_test_holds : (n at : ℕ) (room : Room) (hs : List ProgramHeader) → Passes n at room hs → first (segment_tests n at room hs) ≡ None
no_test_holds n at room hs p = rw (p.file, p.small, p.aligned, p.forbidden, p.range, p.apart, p.entered, p.span, p.size) refl

within_more : (small large x : ℕ) → small ≤ large → ltb small x ≡ false → ltb large x ≡ false
within_more small large x up e = let within : x ≤ small = ltb-false small x e in le-ltb large x (omega arith)

-- the limits of the wide room are wider
pub passes_any : (n at : ℕ) (room : Room) (hs : List ProgramHeader) → Passes n at room hs → Passes n at Any hs
passes_any n at Any hs p = p
passes_any n at Source hs p =
    record {
      file = p.file;
      small = p.small;
      aligned = p.aligned;
      forbidden = p.forbidden;
      range = within_any Source hs p.range;
      apart = p.apart;
      entered = p.entered;
      span = within_more (room_span Source) (room_span Any) (code_span hs) (omega arith) p.span;
      size = within_more (room_size Source) (room_size Any) (pages_size hs) (omega arith) p.size;
    }

-- the headers that are segments are sound where no test of theirs holds
pub passed_are_sound : (n at : ℕ) (room : Room) (hs ls : List ProgramHeader) → ls ≡ filter is_segment hs → first (segment_tests n at room ls) ≡ None → AllByRecursion IsSound ls
passed_are_sound n at room hs ls is none =
    let p = passes_any n at room ls (segments_pass n at room ls none) in
    all_sound ls (subst (AllByRecursion (λ h. is_segment h ≡ true)) (sym is) (filter_each is_segment hs)) p.small p.forbidden p.range

-- the three steps of the tests of an accepted file
pub record HasPassed (file : List ℕ) (room : Room) : Type 0 where
  pub header : first (header_tests file) ≡ None
  pub table : list_any is_dynamic (headers_of file) ≡ false
  pub segments : Passes (length file) (e_entry file) room (segments_of file)

pub has_passed : (file : List ℕ) (room : Room) → refusal_of file room ≡ None → HasPassed file room
unfolding refusal_of
has_passed file room e =
    let parts = none_of_both (header_tests file) ((list_any is_dynamic (headers_of file), Dynamic) ∷ segment_tests (length file) (e_entry file) room (segments_of file)) e in
    let after = none_then (list_any is_dynamic (headers_of file)) Dynamic (first (segment_tests (length file) (e_entry file) room (segments_of file))) parts.1 in
    record { header = parts.0; table = after.0; segments = segments_pass (length file) (e_entry file) room (segments_of file) after.1 }

pub not_refused : (file : List ℕ) (r : Option Refusal) (image : Image) → image_if file r ≡ Ok image → r ≡ None
not_refused file None image e = refl
not_refused file (Some r) image e = cc

pub source_is_any : SourceIsAny
unfolding image_of
source_is_any file image e =
    let none = not_refused file (refusal_of file Source) image e in
    let p = has_passed file Source none in
    let wide = no_test_holds (length file) (e_entry file) Any (segments_of file) (passes_any (length file) (e_entry file) Source (segments_of file) p.segments) in
    let any : image_of file Any ≡ image_if file None = accepted file Any p.header p.table wide in
    let same : image_if file None ≡ Ok image = ap (image_if file) (sym none) ∙ e in
    any ∙ same
