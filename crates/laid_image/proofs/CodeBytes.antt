-- What can be run in the image of a written file.
use Rattle.std.proofs.Common.{◌≡◌, ◌⊎◌, ℕ, zero, suc, ◌+◌, ◌-◌, ◌<◌, ◌≤◌, Bool, true, false, cond, List, [], ◌∷◌, length, take, drop, get_or, find, Option, Some, None, inl, inr, refl, sym, ap, ◌∙◌, add-one, arith, length-drop}
use Rattle.std.proofs.Math.Seq.{drop-cons}
use Rattle.std.proofs.lemmas.List.{drop_all, take_all}
use Rattle.image.specs.declared.image.Segment.{Segment}
use Rattle.image.specs.declared.image.Image.{Image}
use Rattle.image.specs.Addresses.{holds, segment_at, code_byte_in, code_byte_at, code_bytes, then_code}
use Rattle.image.specs.Wanted.{HasItsPlace}
use Rattle.x86_grammar.specs.Front.{front}
use Rattle.x86_code.specs.Code.{code_of}
use Rattle.x86_code.specs.CodeLaws.{CodeLaws}
use Rattle.code_text.specs.KeptPlaces.{code_start}
use Rattle.code_text.specs.Placing.{HasBytesFrom}
use Rattle.laid_image.specs.NewImage.{new_segments, new_image, FitsSourceRoom, HasNewRoom}
use Rattle.laid_image.proofs.Lists.{each_weaker}
use Rattle.laid_image.proofs.Fits.{can_be_written}
use Rattle.laid_image.proofs.Finding.{holds_past, none_before, code_one, table_one, cells, variables, frames, in_code, above}

module _ (old : List Segment) (entry size : ℕ) (code words : List ℕ) (fits : FitsSourceRoom old entry) (room : HasNewRoom size code words) where
  abbrev image : Image
  image = new_image old size code words

  -- ---- the bytes that can be run
  byte_found : (k : ℕ) → k < size → code_byte_at image (code_start + k) ≡ Some (get_or code k 0)
  byte_found k h =
      let place : code_start + k - code_start ≡ k = omega arith in
      ap (code_byte_in (code_start + k)) (above size code words room old entry fits (code_start + k) (omega arith) ∙ in_code size code words room (code_start + k) (omega arith) (omega (arith, h)))
      ∙ ap (λ n. Some (get_or code n 0)) place

  not_run : (a : ℕ) (b c d e : Bool) →
      code_byte_in a (cond b (Some (table_one size code words room)) (cond c (Some (cells size code words room)) (cond d (Some (variables size code words room)) (cond e (Some (frames size code words room)) None)))) ≡ None
  not_run a true c d e = refl
  not_run a false true d e = refl
  not_run a false false true e = refl
  not_run a false false false true = refl
  not_run a false false false false = refl

  byte_missed : (a : ℕ) → code_start + size ≤ a → code_byte_at image a ≡ None
  byte_missed a h =
      let table : Segment = table_one size code words room in
      let one : Segment = cells size code words room in
      let two : Segment = variables size code words room in
      let three : Segment = frames size code words room in
      let past : holds a (code_one size code words room) ≡ false = holds_past a (code_one size code words room) h in
      ap (code_byte_in a) (above size code words room old entry fits a (omega (arith, h)) ∙ ap (λ b. cond b (Some (code_one size code words room)) (find (holds a) (table ∷ one ∷ two ∷ three ∷ []))) past)
      ∙ not_run a (holds a table) (holds a one) (holds a two) (holds a three)

  split : (k : ℕ) → (k < size) ⊎ (size ≤ k)
  split k = grind arith

  first_and_rest : (o : Option ℕ) (b : ℕ) (rest : List ℕ) → o ≡ Some b → then_code o rest ≡ b ∷ rest
  first_and_rest o b rest e = ap (λ p. then_code p rest) e

  module _ (whole : length code ≡ size) where
    bytes_from : (n k : ℕ) → k ≤ size → code_bytes image (code_start + k) n ≡ take n (drop k code)
    unfolding code_bytes
    bytes_from zero k h = refl
    bytes_from (suc n) k h = elim (split k) [
      | inl within ↦
          let next : code_start + k + 1 ≡ code_start + (k + 1) = omega arith in
          let more : drop k code ≡ get_or code k 0 ∷ drop (suc k) code = drop-cons code k 0 (omega (arith, whole, within)) in
          first_and_rest (code_byte_at image (code_start + k)) (get_or code k 0) (code_bytes image (code_start + k + 1) n) (byte_found k within)
          ∙ (ap (λ a. get_or code k 0 ∷ code_bytes image a n) next
          ∙ (ap (λ bs. get_or code k 0 ∷ bs) (bytes_from n (k + 1) (omega (arith, within)))
          ∙ (ap (λ m. get_or code k 0 ∷ take n (drop m code)) (add-one k)
          ∙ sym (ap (take (suc n)) more))))
      | inr past ↦
          ap (λ o. then_code o (code_bytes image (code_start + k + 1) n)) (byte_missed (code_start + k) (omega (arith, past)))
          ∙ sym (ap (take (suc n)) (drop_all k code (omega (arith, whole, past))))
    ]

    pub has_bytes : CodeLaws → HasBytesFrom (code_of image) code_start code
    has_bytes laws = record {
      fronts = λ n h.
          let many : ℕ = 15 + length code in
          laws.by_bytes image (code_start + n) many (omega arith)
          ∙ ap front (bytes_from many n (omega (arith, whole, h)) ∙ take_all many (drop n code) (omega (arith, length-drop n code)));
    }

  -- ---- at address 0 there is nothing
  none_at_zero : segment_at image 0 ≡ None
  unfolding segment_at
  none_at_zero =
      let written = can_be_written old entry size code words fits room in
      none_before 0 (new_segments old size code words)
      (each_weaker HasItsPlace (λ (s : Segment). 0 < s.start) (λ s h. let from = h.from in omega (arith, from)) (new_segments old size code words) written.fits.each)

  pub none : CodeLaws → code_of image 0 ≡ None
  none laws = laws.none image 0 (ap (code_byte_in 0) none_at_zero)
