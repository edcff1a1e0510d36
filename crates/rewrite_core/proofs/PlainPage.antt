-- The code of a plain file is its one page.
use Rattle.std.proofs.Common.{◌≡◌, ◌⊎◌, ℕ, zero, suc, ◌+◌, ◌-◌, ◌<◌, ◌≤◌, Bool, true, false, cond, List, [], ◌∷◌, length, take, drop, get_or, All, Option, Some, None, refl, sym, ap, ◌∙◌, inl, inr, ⊎_elim, arith, add-one}
use Rattle.std.proofs.Math.Seq.{drop-cons}
use Rattle.std.proofs.lemmas.List.{drop_all}
use Rattle.std.proofs.lemmas.List.Elements.{All-take, All-drop}
use Rattle.std.proofs.lemmas.Bool.{le-leb}
use Rattle.std.proofs.lemmas.Bool.Decides.{nat_tests}
use Rattle.image.specs.declared.image.Image.{Image}
use Rattle.image.specs.Addresses.{segment_at, holds, code_byte_in, code_byte_at, code_bytes, then_code}
use Rattle.elf_image.specs.Plain.{plain_image, text_segment, room_segment}
use Rattle.x86_grammar.specs.Front.{front}
use Rattle.x86_grammar.specs.FrontLaws.{FrontIsSpelling, FrontEquations}
use Rattle.x86_code.specs.Code.{code_of}
use Rattle.rewrite_core.specs.Places.{page_start, place_of}
use Rattle.rewrite_core.specs.Layout.{text_of}
use Rattle.rewrite_core.proofs.Fronts.{first_of}
use Rattle.rewrite_core.proofs.PageAddresses.{inside, beyond, address}

-- an image whose code is this page: at each address stands what stands at its place
pub record HasPage (image : Image) (page : List ℕ) : Type 0 where
  pub entry_is : image.entry ≡ page_start
  pub whole : length page ≡ 4096
  pub bytes : All (λ b. b < 256) page
  pub stands : (a : ℕ) → code_of image a ≡ front (drop (place_of a) page)
  pub byte_is : (a : ℕ) → code_byte_at image a ≡ first_of (drop (place_of a) page)

-- the page of a file of bytes
pub text_bytes : (file : List ℕ) → All (λ b. b < 256) file → All (λ b. b < 256) (text_of file)
text_bytes file bytes = All-take (λ b. b < 256) 4096 (drop 4096 file) (All-drop (λ b. b < 256) 4096 file bytes)

exact_or : {k n : ℕ} → k ≤ n → (k < n) ⊎ (k ≡ n)
exact_or h = grind arith

first-drop : (page : List ℕ) (k : ℕ) → k < length page → first_of (drop k page) ≡ Some (get_or page k 0)
first-drop page k h = ap first_of (drop-cons page k 0 h)

-- the executable bytes from a place of a page of code
pub code_bytes-page : (image : Image) (page : List ℕ) (base : ℕ) → ((k : ℕ) → k ≤ length page → code_byte_at image (base + k) ≡ first_of (drop k page)) → (n k : ℕ) → k ≤ length page → code_bytes image (base + k) n ≡ take n (drop k page)
unfolding code_bytes
code_bytes-page image page base is zero k h = refl
code_bytes-page image page base is (suc n) k h =
    let cases : (k < length page) ⊎ (length page ≤ k) = grind arith in
    ⊎_elim
    (λ lt.
    let next : base + k + 1 ≡ base + (k + 1) = omega arith in
    ap (λ o. then_code o (code_bytes image (base + k + 1) n)) (is k h ∙ first-drop page k lt)
    ∙ ap (λ a. get_or page k 0 ∷ code_bytes image a n) next
    ∙ ap (λ bs. get_or page k 0 ∷ bs) (code_bytes-page image page base is n (k + 1) (omega arith))
    ∙ sym (ap (take (suc n)) (drop-cons page k 0 lt) ∙ ap (λ m. get_or page k 0 ∷ take n (drop m page)) (sym (add-one k))))
    (λ le.
    let end = drop_all k page le in
    ap (λ o. then_code o (code_bytes image (base + k + 1) n)) (is k h ∙ ap first_of end) ∙ sym (ap (take (suc n)) end))
    cases

module _ (spelling : FrontIsSpelling) (equations : FrontEquations) (file : List ℕ) (whole : length (text_of file) ≡ 4096) (bytes : All (λ b. b < 256) (text_of file)) where
  in_text : (k : ℕ) → k < 4096 → holds (0x08049000 + k) (text_segment file) ≡ true
  in_text k h = rw (le-leb 0x08049000 (0x08049000 + k) (omega arith), le-leb (suc (0x08049000 + k)) (0x08049000 + 4096) (omega arith)) refl

  byte_is : (k : ℕ) → k ≤ length (text_of file) → code_byte_at (plain_image file) (0x08049000 + k) ≡ first_of (drop k (text_of file))
  unfolding segment_at
  byte_is k h =
      let cases : (k < 4096) ⊎ (k ≡ 4096) = exact_or (omega (arith, whole)) in
      ⊎_elim
      (λ lt.
      let seg : segment_at (plain_image file) (0x08049000 + k) ≡ Some (text_segment file) = rw (in_text k lt) refl in
      let place : 0x08049000 + k - 0x08049000 ≡ k = omega arith in
      ap (code_byte_in (0x08049000 + k)) seg ∙ ap (λ n. Some (get_or (text_of file) n 0)) place ∙ sym (first-drop (text_of file) k (omega (arith, whole))))
      (λ e. rw e (sym (ap first_of (drop_all 4096 (text_of file) (omega (arith, whole))))))
      cases

  -- outside the page nothing can be run
  none_beyond : (a : ℕ) → (a < 0x08049000) ⊎ (0x08049000 + 4096 ≤ a) → code_byte_at (plain_image file) a ≡ None
  unfolding segment_at
  none_beyond a h = ap (code_byte_in a) (second_alone (holds a (text_segment file)) (holds a room_segment) (not_in_text a h)) ∙ not_run (holds a room_segment)
    where
      not_in_text : (a : ℕ) → (a < 0x08049000) ⊎ (0x08049000 + 4096 ≤ a) → holds a (text_segment file) ≡ false
      not_in_text a (inl h) = grind (arith, nat_tests)
      not_in_text a (inr h) = grind (arith, nat_tests)

      second_alone : (b c : Bool) → b ≡ false → cond b (Some (text_segment file)) (cond c (Some room_segment) None) ≡ cond c (Some room_segment) None
      second_alone b c e = rw e refl

      not_run : (c : Bool) → code_byte_in a (cond c (Some room_segment) None) ≡ None
      not_run true = refl
      not_run false = refl

  none_stands : (a : ℕ) → code_byte_at (plain_image file) a ≡ None → code_of (plain_image file) a ≡ None
  unfolding code_of code_bytes
  none_stands a e = ap (λ (o : Option ℕ). front (then_code o (code_bytes (plain_image file) (a + 1) 14))) e ∙ equations.nothing

  at_end : drop 4096 (text_of file) ≡ []
  at_end = drop_all 4096 (text_of file) (omega (arith, whole))

  none_at_end : front (drop 4096 (text_of file)) ≡ None
  none_at_end = ap front at_end ∙ equations.nothing

  in_page : (k : ℕ) → k ≤ length (text_of file) → code_of (plain_image file) (0x08049000 + k) ≡ front (drop k (text_of file))
  unfolding code_of
  in_page k h = ap front (code_bytes-page (plain_image file) (text_of file) 0x08049000 byte_is 15 k h) ∙ spelling.fifteen (drop k (text_of file))

  pub plain_page : HasPage (plain_image file) (text_of file)
  plain_page = record {
    entry_is = refl;
    whole = whole;
    bytes = bytes;
    stands = λ a. elim (address a) [
      | inside p h e q ↦ ap (code_of (plain_image file)) e ∙ in_page p (omega (arith, whole)) ∙ ap (λ (k : ℕ). front (drop k (text_of file))) (sym q)
      | beyond h q ↦ none_stands a (none_beyond a h) ∙ sym (ap (λ (k : ℕ). front (drop k (text_of file))) q ∙ none_at_end)
    ];
    byte_is = λ a. elim (address a) [
      | inside p h e q ↦ ap (code_byte_at (plain_image file)) e ∙ byte_is p (omega (arith, whole)) ∙ ap (λ (k : ℕ). first_of (drop k (text_of file))) (sym q)
      | beyond h q ↦ none_beyond a h ∙ sym (ap (λ (k : ℕ). first_of (drop k (text_of file))) q ∙ ap first_of at_end)
    ];
  }
