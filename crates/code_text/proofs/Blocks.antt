-- Blocks lie at their places, and the code begins.
use Rattle.std.proofs.Common.{◌≡◌, ℕ, ◌+◌, ◌<◌, ◌≤◌, ◌==◌, ◌&&◌, Bool, true, false, not, cond, List, [], ◌∷◌, ◌++◌, All, find, length, Option, Some, None, refl, sym, ap, ◌∙◌, subst, arith}
use Rattle.std.proofs.lemmas.List.{length-append}
use Rattle.std.proofs.lemmas.List.Elements.{All-head, All-tail}
use Rattle.x86_grammar.specs.Fields.{HasSpelling}
use Rattle.x86_code.specs.Code.{Code}
use Rattle.named_code.specs.Items.{Item, CodeBlock}
use Rattle.named_code.specs.Running.{block_at}
use Rattle.laid_code.specs.Laid.{Places, Lies}
use Rattle.code_text.specs.Texts.{items_text, blocks_text}
use Rattle.code_text.specs.Placing.{items_size, numbered_from, addressed_from, HasBytesFrom}
use Rattle.code_text.proofs.Standing.{Given, behind, regrouped}
use Rattle.code_text.proofs.Texts.{items_length, items_lie}

abbrev IsSpelled : CodeBlock → Type 0
IsSpelled b = All (λ (x : Item). HasSpelling x.instr) b.items

-- ---- the place of the first block that a test finds
module _ (given : Given) (l : Places) (test : CodeBlock → Bool) where
  abbrev pub place_from : ℕ → List CodeBlock → ℕ
  place_from q [] = 0
  place_from q (b ∷ bs) = cond (test b) q (place_from (q + items_size l b.items) bs)

  pub none_found : (q : ℕ) (bs : List CodeBlock) → find test bs ≡ None → place_from q bs ≡ 0
  none_found q [] e = refl
  none_found q (x ∷ bs) e = by (test x) refl (none_found (q + items_size l x.items) bs)
    where
      by : (t : Bool) → test x ≡ t → (find test bs ≡ None → place_from (q + items_size l x.items) bs ≡ 0) → cond (test x) q (place_from (q + items_size l x.items) bs) ≡ 0
      by true is later = let both : Some x ≡ None = ap (λ t. cond t (Some x) (find test bs)) (sym is) ∙ e in absurd (cc both)
      by false is later = ap (λ t. cond t q (place_from (q + items_size l x.items) bs)) is ∙ later (ap (λ t. cond t (Some x) (find test bs)) (sym is) ∙ e)

  -- each place is within the text
  pub place_low : (q : ℕ) (bs : List CodeBlock) (end : ℕ) → q + length (blocks_text l q bs) ≤ end → place_from q bs ≤ end
  unfolding blocks_text
  place_low q [] end h = omega arith
  place_low q (x ∷ bs) end h =
      let t = items_text l q x.items in
      let whole = length-append t (blocks_text l (q + length t) bs) in
      let size : q + length t ≡ q + items_size l x.items = ap (λ n. q + n) (items_length given l q x.items) in
      let later = place_low (q + length t) bs end (omega (arith, whole, h)) in
      by (test x) (omega (arith, whole, h)) (subst (λ p. place_from p bs ≤ end) size later)
    where
      by : (t : Bool) → q ≤ end → place_from (q + items_size l x.items) bs ≤ end → cond t q (place_from (q + items_size l x.items) bs) ≤ end
      by true here later = here
      by false here later = later

module _ (given : Given) (l : Places) (fits : (l.span < 4294967296) × (l.count < 4294967296) × (l.table < 4294967296)) (code : Code) (places_fit : (n : ℕ) → l.by_number n < 4294967296) (stop_fits : l.stop < 4294967296) where
  module _ (test : CodeBlock → Bool) where
    pub found_lies : (q : ℕ) (bs : List CodeBlock) (rest : List ℕ) (b : CodeBlock) → All IsSpelled bs → HasBytesFrom code q (blocks_text l q bs ++ rest) → q + length (blocks_text l q bs) < 4294967296 → find test bs ≡ Some b → Lies l code (place_from given l test q bs) b.items
    unfolding blocks_text
    found_lies q [] rest b spelled h low e = absurd (cc e)
    found_lies q (x ∷ bs) rest b spelled h low e =
        let t = items_text l q x.items in
        let more = blocks_text l (q + length t) bs in
        let whole = length-append t more in
        let h1 = regrouped code q t more rest h in
        let here = items_lie given l fits code places_fit stop_fits q x.items (more ++ rest) (All-head IsSpelled x bs spelled) h1 (omega (arith, whole, low)) in
        let size : q + length t ≡ q + items_size l x.items = ap (λ n. q + n) (items_length given l q x.items) in
        let later = found_lies (q + length t) bs rest b (All-tail IsSpelled x bs spelled) (behind code q t (more ++ rest) h1) (omega (arith, whole, low)) in
        by (test x) refl here (λ k. subst (λ p. Lies l code (place_from given l test p bs) b.items) size (later k))
      where
        some_or : Option CodeBlock → CodeBlock
        some_or None = x
        some_or (Some y) = y

        by : (t : Bool) → test x ≡ t → Lies l code q x.items → (find test bs ≡ Some b → Lies l code (place_from given l test (q + items_size l x.items) bs) b.items) → Lies l code (cond (test x) q (place_from given l test (q + items_size l x.items) bs)) b.items
        by true is here later =
            let same : Some x ≡ Some b = ap (λ t. cond t (Some x) (find test bs)) (sym is) ∙ e in
            subst (λ t. Lies l code (cond t q (place_from given l test (q + items_size l x.items) bs)) b.items) (sym is) (subst (λ (y : CodeBlock). Lies l code q y.items) (ap some_or same) here)
        by false is here later = subst (λ t. Lies l code (cond t q (place_from given l test (q + items_size l x.items) bs)) b.items) (sym is) (later (ap (λ t. cond t (Some x) (find test bs)) (sym is) ∙ e))

-- ---- by number, and by old address
module _ (given : Given) (l : Places) where
  abbrev pub has_number : ℕ → CodeBlock → Bool
  has_number n b = b.number == n

  abbrev pub has_address : ℕ → CodeBlock → Bool
  has_address a b = not (a == 0) && (b.at == a)

  pub numbered_is : (q n : ℕ) (bs : List CodeBlock) → numbered_from l q n bs ≡ place_from given l (has_number n) q bs
  unfolding numbered_from
  numbered_is q n [] = refl
  numbered_is q n (b ∷ bs) = ap (λ p. cond (b.number == n) q p) (numbered_is (q + items_size l b.items) n bs)

  pub addressed_is : (q a : ℕ) (bs : List CodeBlock) → addressed_from l q a bs ≡ place_from given l (has_address a) q bs
  unfolding addressed_from
  addressed_is q a [] = refl
  addressed_is q a (b ∷ bs) = ap (λ p. cond (not (a == 0) && (b.at == a)) q p) (addressed_is (q + items_size l b.items) a bs)

never_found : (bs : List CodeBlock) → find (λ b. false) bs ≡ None
never_found [] = refl
never_found (b ∷ bs) = never_found bs

pub block_at_is : (a : ℕ) (bs : List CodeBlock) → block_at a bs ≡ find (λ b. not (a == 0) && (b.at == a)) bs
block_at_is a bs = elim (a == 0) as (λ z. cond z None (find (λ b. b.at == a) bs) ≡ find (λ b. not z && (b.at == a)) bs) [ true ↦ sym (never_found bs) | false ↦ refl ]

-- what holds of each block holds of the one that is found, and so does the test
pub found_holds : (P : CodeBlock → Type 0) (test : CodeBlock → Bool) (bs : List CodeBlock) (b : CodeBlock) → All P bs → find test bs ≡ Some b → P b × (test b ≡ true)
found_holds P test [] b h e = absurd (cc e)
found_holds P test (x ∷ bs) b h e = by (test x) refl (λ k. found_holds P test bs b (All-tail P x bs h) k)
  where
    some_or : Option CodeBlock → CodeBlock
    some_or None = x
    some_or (Some y) = y

    by : (t : Bool) → test x ≡ t → (find test bs ≡ Some b → P b × (test b ≡ true)) → P b × (test b ≡ true)
    by true is later =
        let same : Some x ≡ Some b = ap (λ t. cond t (Some x) (find test bs)) (sym is) ∙ e in
        subst (λ (y : CodeBlock). P y × (test y ≡ true)) (ap some_or same) (All-head P x bs h, is)
    by false is later = later (ap (λ t. cond t (Some x) (find test bs)) (sym is) ∙ e)
