-- The blocks that jumps find.
use Rattle.std.proofs.Common.{◌≡◌, ◌≢◌, ℕ, ◌==◌, Bool, true, false, cond, List, [], ◌∷◌, ◌++◌, All, Contains, find, map, Option, Some, None, refl, sym, ap, ◌∙◌, subst}
use Rattle.std.proofs.lemmas.Bool.{eqb-false}
use Rattle.std.proofs.lemmas.List.Elements.{All-nil, All-cons, All-head, All-tail, All-contains}
use Rattle.named_code.specs.Items.{CodeBlock}
use Rattle.named_code.specs.Running.{block_of_number, block_at}

-- what holds of each block holds of the one that is found
module _ (P : CodeBlock → Type 0) where
  found : (test : CodeBlock → Bool) (bs : List CodeBlock) (b : CodeBlock) → All P bs → find test bs ≡ Some b → P b
  found test [] b h e = absurd (cc e)
  found test (x ∷ bs) b h e = cases (test x) refl (λ k. found test bs b (All-tail P x bs h) k)
    where
      some_or : Option CodeBlock → CodeBlock
      some_or None = x
      some_or (Some y) = y

      cases : (t : Bool) → test x ≡ t → (find test bs ≡ Some b → P b) → P b
      cases true is rest =
          let same : Some x ≡ Some b = ap (λ t. cond t (Some x) (find test bs)) (sym is) ∙ e in
          subst P (ap some_or same) (All-head P x bs h)
      cases false is rest = rest (ap (λ t. cond t (Some x) (find test bs)) (sym is) ∙ e)

  pub found_number : (n : ℕ) (bs : List CodeBlock) (b : CodeBlock) → All P bs → block_of_number n bs ≡ Some b → P b
  found_number n bs b h e = found (λ x. x.number == n) bs b h e

  pub found_at : (a : ℕ) (bs : List CodeBlock) (b : CodeBlock) → All P bs → block_at a bs ≡ Some b → P b
  found_at a bs b h e = cases (a == 0) refl
    where
      cases : (t : Bool) → (a == 0) ≡ t → P b
      cases true is = let both : None ≡ Some b = ap (λ t. cond t None (find (λ x. x.at == a) bs)) (sym is) ∙ e in absurd (cc both)
      cases false is = found (λ x. x.at == a) bs b h (ap (λ t. cond t None (find (λ x. x.at == a) bs)) (sym is) ∙ e)

-- a number that is one of the blocks' finds a block
module _ (n : ℕ) where
  none_named : (bs : List CodeBlock) → block_of_number n bs ≡ None → All (λ m. m ≢ n) (map (λ (b : CodeBlock). b.number) bs)
  none_named [] e = All-nil (λ m. m ≢ n)
  none_named (b ∷ bs) e = cases (b.number == n) refl (none_named bs)
    where
      cases : (t : Bool) → (b.number == n) ≡ t → (block_of_number n bs ≡ None → All (λ m. m ≢ n) (map (λ (b : CodeBlock). b.number) bs)) → All (λ m. m ≢ n) (map (λ (b : CodeBlock). b.number) (b ∷ bs))
      cases true is rest = let both : Some b ≡ None = ap (λ t. cond t (Some b) (block_of_number n bs)) (sym is) ∙ e in absurd (cc both)
      cases false is rest = All-cons (λ m. m ≢ n) b.number (map (λ (b : CodeBlock). b.number) bs) (eqb-false b.number n is) (rest (ap (λ t. cond t (Some b) (block_of_number n bs)) (sym is) ∙ e))

  pub is_found : (bs : List CodeBlock) → Contains (map (λ (b : CodeBlock). b.number) bs) n → block_of_number n bs ≡ None → ⊥
  is_found bs h e = All-contains (λ m. m ≢ n) (map (λ (b : CodeBlock). b.number) bs) n (none_named bs e) h refl

-- ---- the front of a list
pub all_front : {A : Type 0} (P : A → Type 0) (xs ys : List A) → All P (xs ++ ys) → All P xs
all_front P [] ys h = All-nil P
all_front P (x ∷ xs) ys h = All-cons P x xs (All-head P x (xs ++ ys) h) (all_front P xs ys (All-tail P x (xs ++ ys) h))
