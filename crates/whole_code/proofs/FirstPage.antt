-- No instruction of an image that fits the wide room stands at address 0.
use Rattle.std.proofs.Common.{◌≡◌, ◌≢◌, ℕ, ◌≤◌, Bool, true, false, cond, List, [], ◌∷◌, find, Contains, Option, Some, None, refl, ap, subst, arith}
use Rattle.std.specs.List.{AllByRecursion}
use Rattle.std.proofs.lemmas.Bool.Decides.{nat_tests}
use Rattle.image.specs.declared.image.Image.{Image}
use Rattle.image.specs.declared.image.Segment.{Segment}
use Rattle.image.specs.Addresses.{holds, segment_at, code_byte_in}
use Rattle.image.specs.Wanted.{HasItsPlace, FitsWideRoom}
use Rattle.x86_types.specs.declared.instr.Instr.{Instr}
use Rattle.x86_code.specs.Code.{code_of}
use Rattle.x86_code.specs.CodeLaws.{CodeLaws}
use Rattle.plan_types.specs.declared.place.Place.{Place}
use Rattle.plan_types.specs.Contents.{FoundContents}
use Rattle.plan_types.specs.FoundCode.{IsFoundCode}
use Rattle.plan_types.specs.FoundLaws.{FoundLaws}

-- what is found in a list passes, and what holds of each element holds of it
found_passes : {X : Type 0} (P : X → Type 0) (p : X → Bool) (xs : List X) → AllByRecursion P xs → (x : X) → find p xs ≡ Some x → P x × (p x ≡ true)
found_passes P p [] all x e = absurd cc
found_passes P p (y ∷ ys) all x e =
    (elim (p y) as (λ b. p y ≡ b → cond b (Some y) (find p ys) ≡ Some x → P x × (p x ≡ true)) [
      | true ↦ λ passes e. let same : y ≡ x = cc in (subst P same all.0, subst (λ z. p z ≡ true) same passes)
      | false ↦ λ fails e. found_passes P p ys all.1 x e
    ]) refl e

starts_above : (a start size : ℕ) → holds a (record { start = start; size = size; perm = record { 0 = 0 }; bytes = [] }) ≡ true → 4096 ≤ start → a ≢ 0
starts_above a start size h from is = grind (arith, nat_tests)

above_segment : (image : Image) → FitsWideRoom image.segments image.entry → (a : ℕ) (s : Segment) → find (holds a) image.segments ≡ Some s → a ≢ 0
above_segment image fits a s e =
    let there = found_passes HasItsPlace (holds a) image.segments fits.each s e in
    starts_above a s.start s.size there.1 there.0.from

code_above : (image : Image) → FitsWideRoom image.segments image.entry → CodeLaws → (a : ℕ) (i : Instr) (len : ℕ) → code_of image a ≡ Some (i, len) → a ≢ 0
unfolding segment_at
code_above image fits laws a i len stands = by_segment (find (holds a) image.segments) refl
  where
    by_segment : (o : Option Segment) → find (holds a) image.segments ≡ o → a ≢ 0
    by_segment None e = let none = laws.none image a (ap (code_byte_in a) e) in absurd cc
    by_segment (Some s) e = above_segment image fits a s e

pub places_above : FoundLaws → CodeLaws → (image : Image) (found : FoundContents) → FitsWideRoom image.segments image.entry → IsFoundCode image found → (p : Place) → Contains found.code p → p.at ≢ 0
places_above laws code_laws image found fits is p c = code_above image fits code_laws p.at p.instr p.len (laws.stands image found p is c)
