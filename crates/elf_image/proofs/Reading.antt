-- The tests of a file in three steps: its header, its table, its segments.
use Rattle.std.proofs.Common.{◌≡◌, ℕ, ◌∙◌, Bool, true, false, cond, List, [], ◌∷◌, ◌++◌, length, map, Some, None, Ok, Err, refl, ap, sym}
use Rattle.std.specs.List.{list_any}
use Rattle.image.specs.declared.image.Image.{Image}
use Rattle.image.specs.declared.image.Segment.{Segment}
use Rattle.elf_image.specs.declared.header.ProgramHeader.{ProgramHeader}
use Rattle.image.specs.declared.room.Room.{Room}
use Rattle.elf_image.specs.declared.refusal.Refusal.{Refusal}
use Rattle.elf_image.specs.declared.refusal.Refusal.TheVariants.{Dynamic}
use Rattle.elf_image.specs.Fields.{e_entry, headers_of}
use Rattle.elf_image.specs.Refusals.{first, header_tests, segment_tests, segments_of, refusal_of, is_dynamic}
use Rattle.elf_image.specs.Image.{image_of, image_if, segment_of}

abbrev image : List Segment → ℕ → Image
image ss e = record { segments = ss; entry = e }

first_here : {A : Type 0} (ts us : List (Bool × A)) (a : A) → first ts ≡ Some a → first (ts ++ us) ≡ Some a
first_here [] us a e = cc
first_here (t ∷ ts) us a e = here t.0 t.1 ts us a e (first_here ts us a)
  where
    here : {A : Type 0} (b : Bool) (x : A) (ts us : List (Bool × A)) (a : A) → cond b (Some x) (first ts) ≡ Some a → (first ts ≡ Some a → first (ts ++ us) ≡ Some a) → cond b (Some x) (first (ts ++ us)) ≡ Some a
    here true x ts us a e rest = e
    here false x ts us a e rest = rest e

first_after : {A : Type 0} (ts us : List (Bool × A)) → first ts ≡ None → first (ts ++ us) ≡ first us
first_after [] us e = refl
first_after (t ∷ ts) us e = after t.0 t.1 ts us e (first_after ts us)
  where
    after : {A : Type 0} (b : Bool) (x : A) (ts us : List (Bool × A)) → cond b (Some x) (first ts) ≡ None → (first ts ≡ None → first (ts ++ us) ≡ first us) → cond b (Some x) (first (ts ++ us)) ≡ first us
    after true x ts us e rest = cc
    after false x ts us e rest = rest e

refused : (file : List ℕ) (room : Room) (r : Refusal) → refusal_of file room ≡ Some r → image_of file room ≡ Err r
unfolding image_of
refused file room r e = ap (image_if file) e

-- the tests after those of the header
abbrev after_header : List ℕ → Room → List (Bool × Refusal)
after_header file room = (list_any is_dynamic (headers_of file), Dynamic) ∷ segment_tests (length file) (e_entry file) room (segments_of file)

pub header_refuses : (file : List ℕ) (room : Room) (r : Refusal) → first (header_tests file) ≡ Some r → image_of file room ≡ Err r
unfolding refusal_of
header_refuses file room r e = refused file room r (first_here (header_tests file) (after_header file room) r e)

past_header : (file : List ℕ) (room : Room) → first (header_tests file) ≡ None
    → refusal_of file room ≡ cond (list_any is_dynamic (headers_of file)) (Some Dynamic) (first (segment_tests (length file) (e_entry file) room (segments_of file)))
unfolding refusal_of
past_header file room e = first_after (header_tests file) (after_header file room) e

pub table_refuses : (file : List ℕ) (room : Room) → first (header_tests file) ≡ None → list_any is_dynamic (headers_of file) ≡ true → image_of file room ≡ Err Dynamic
table_refuses file room e d = refused file room Dynamic (past_header file room e ∙ ap (λ b. cond b (Some Dynamic) (first (segment_tests (length file) (e_entry file) room (segments_of file)))) d)

past_table : (file : List ℕ) (room : Room) → first (header_tests file) ≡ None → list_any is_dynamic (headers_of file) ≡ false
    → refusal_of file room ≡ first (segment_tests (length file) (e_entry file) room (segments_of file))
past_table file room e d = past_header file room e ∙ ap (λ b. cond b (Some Dynamic) (first (segment_tests (length file) (e_entry file) room (segments_of file)))) d

pub segments_refuse : (file : List ℕ) (room : Room) (r : Refusal) → first (header_tests file) ≡ None → list_any is_dynamic (headers_of file) ≡ false
    → first (segment_tests (length file) (e_entry file) room (segments_of file)) ≡ Some r → image_of file room ≡ Err r
segments_refuse file room r e d s = refused file room r (past_table file room e d ∙ s)

pub accepted : (file : List ℕ) (room : Room) → first (header_tests file) ≡ None → list_any is_dynamic (headers_of file) ≡ false
    → first (segment_tests (length file) (e_entry file) room (segments_of file)) ≡ None → image_of file room ≡ image_if file None
unfolding image_of
accepted file room e d s = ap (image_if file) (past_table file room e d ∙ s)

same_image : {ss ts : List Segment} {e f : ℕ} → ss ≡ ts → e ≡ f → image ss e ≡ image ts f
same_image p q = cc

-- the image of a file whose headers `hs` and segments `ls` passed their tests
pub read_is : (file : List ℕ) (room : Room) (hs ls us : List ProgramHeader) (ss : List Segment) (at : ℕ) → first (header_tests file) ≡ None → hs ≡ headers_of file → list_any is_dynamic hs ≡ false
    → ls ≡ segments_of file → first (segment_tests (length file) at room ls) ≡ None → us ≡ ls → ss ≡ map (segment_of file) us → at ≡ e_entry file → image_of file room ≡ Ok (image ss at)
read_is file room hs ls us ss at e table d loaded passed used s a =
    let none : list_any is_dynamic (headers_of file) ≡ false = ap (list_any is_dynamic) (sym table) ∙ d in
    let same = ap (λ ks. first (segment_tests (length file) at room ks)) loaded in
    let there = ap (λ x. first (segment_tests (length file) x room (segments_of file))) a in
    accepted file room e none (sym there ∙ sym same ∙ passed) ∙ ap Ok (same_image (sym (s ∙ ap (map (segment_of file)) (used ∙ loaded))) (sym a))
