-- What the reading of a file and its new code say of its rewriting.
use Rattle.std.proofs.Common.{◌≡◌, ℕ, ◌<◌, ◌==◌, ◌&&◌, Bool, true, false, List, length, drop, get_or, min, All, Option, Some, None, Ok, Err, refl, sym, ◌∙◌, inl, inr, arith, length-drop, length-take}
use Rattle.std.proofs.lemmas.Bool.{true≢false}
use Rattle.std.proofs.lemmas.Bool.Decides.{eqb_tells}
use Rattle.image.specs.declared.image.Image.{Image}
use Rattle.image.specs.declared.image.Segment.{Segment}
use Rattle.elf_image.specs.declared.refusal.Refusal.{Refusal}
use Rattle.elf_image.specs.declared.refusal.Refusal.TheVariants.{NotYet}
use Rattle.image.specs.declared.room.Room.TheVariants.{Source}
use Rattle.elf_image.specs.Fields.{has_magic}
use Rattle.elf_image.specs.Refusals.{refusal_of}
use Rattle.elf_image.specs.Image.{image_of, image_if}
use Rattle.elf_image.specs.Plain.{is_plain, plain_image}
use Rattle.x86_grammar.specs.FrontLaws.{FrontIsSpelling, FrontEquations}
use Rattle.rewrite_core.specs.Met.{IsRewritable}
use Rattle.rewrite_core.specs.Places.{IsLeftOut, IsLaid}
use Rattle.rewrite_core.specs.Layout.{text_of}
use Rattle.rewrite_core.specs.Rewrites.{IsRefused, by_image, not_yet}
use Rattle.rewrite_core.proofs.MetPlaces.{laid_is_taken, left_out_is_not_taken}
use Rattle.rewrite_core.proofs.PlainPage.{text_bytes, plain_page}

-- a file that the reader takes
pub record IsPlainFile (file : List ℕ) : Type 0 where
  pub magic : has_magic file ≡ true
  pub plain : is_plain file ≡ true
  pub whole : length (text_of file) ≡ 4096

left : (a b : Bool) → (a && b) ≡ true → a ≡ true
left true b e = refl
left false b e = cc

is_length : (n m : ℕ) → (n == m) ≡ true → n ≡ m
is_length n m e = elim (eqb_tells n m) [ inl h ↦ h.1 | inr h ↦ cc ]

plain_length : (file : List ℕ) → is_plain file ≡ true → length file ≡ 8192
unfolding is_plain
plain_length file e = is_length _ _ (left _ _ (left _ _ (left _ _ e)))

whole_text : (file : List ℕ) → length file ≡ 8192 → length (text_of file) ≡ 4096
whole_text file e = let m : min 4096 (length (drop 4096 file)) ≡ 4096 = omega (arith, length-drop 4096 file, e) in length-take 4096 (drop 4096 file) ∙ m

pub plain_file : (file : List ℕ) → has_magic file ≡ true → is_plain file ≡ true → IsPlainFile file
plain_file file magic plain =
    let size = plain_length file plain in
    record { magic = magic; plain = plain; whole = whole_text file size }

no_refusal : (file : List ℕ) (o : Option Refusal) (image : Image) → image_if file o ≡ Ok image → o ≡ None
no_refusal file None image e = refl
no_refusal file (Some r) image e = cc

a_refusal : (file : List ℕ) (o : Option Refusal) (r : Refusal) → image_if file o ≡ Err r → o ≡ Some r
a_refusal file None r e = cc
a_refusal file (Some q) r e = cc

-- what isn't accepted is refused for the cause of the definition
pub refused_by_image : (file : List ℕ) (r : Refusal) → image_of file Source ≡ Err r → IsRefused file r
unfolding image_of
refused_by_image file r e = by_image (a_refusal file (refusal_of file Source) r e)

accepted_by_image : (file : List ℕ) (image : Image) → image_of file Source ≡ Ok image → refusal_of file Source ≡ None
unfolding image_of
accepted_by_image file image e = no_refusal file (refusal_of file Source) image e

-- an accepted file that isn't plain isn't rewritten
pub other_form_refuses : (file : List ℕ) (image : Image) → image_of file Source ≡ Ok image → is_plain file ≡ false → IsRefused file NotYet
other_form_refuses file image e other = not_yet refl (accepted_by_image file image e) (λ t. let plain = t.plain in absurd (true≢false (sym plain ∙ other)))

-- nor is a plain file in which a run can reach what isn't taken yet
pub left_out_refuses : FrontIsSpelling → FrontEquations → (file : List ℕ) (image : Image) → All (λ b. b < 256) file → image_of file Source ≡ Ok image → IsPlainFile file → IsLeftOut (text_of file) → IsRefused file NotYet
left_out_refuses spelling equations file image bytes e p l =
    not_yet refl (accepted_by_image file image e) (λ t. left_out_is_not_taken spelling equations (plain_image file) (text_of file) (plain_page spelling equations file p.whole (text_bytes file bytes)) l t.taken)

-- one whose page has new code is
pub laid_takes : FrontIsSpelling → FrontEquations → (file code : List ℕ) → All (λ b. b < 256) file → IsPlainFile file → IsLaid (text_of file) code → IsRewritable file
laid_takes spelling equations file code bytes p laid = record {
  magic = p.magic;
  plain = p.plain;
  taken = laid_is_taken spelling equations (plain_image file) (text_of file) (plain_page spelling equations file p.whole (text_bytes file bytes)) code laid;
}

-- the page of code of the image that was read
pub text_is : (file : List ℕ) (image : Image) (segments : List Segment) (d : Segment) → image ≡ plain_image file → segments ≡ image.segments → (get_or segments 0 d).bytes ≡ text_of file
text_is file image segments d e f = rw (f, e) refl
