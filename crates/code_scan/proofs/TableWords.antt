-- The words of a table, one after the other.
use Rattle.std.proofs.Common.{◌≡◌, ℕ, suc, ◌+◌, ◌-◌, ◌<◌, Bool, true, false, List, [], ◌∷◌, ◌++◌, Option, Some, None, refl, sym, ap, ◌∙◌, append_assoc, append-nil, arith}
use Rattle.image.specs.declared.image.Image.{Image}
use Rattle.plan_types.specs.Tables.{constant_word, table_words, words_by, if_passed, targets_by}
use Rattle.code_scan.specs.Bounds.{most_words, is_target}

one_more : (n : ℕ) → 0 < n → n ≡ suc (n - 1)
one_more n some = omega arith

words_from : (image : Image) (test : ℕ → Bool) (n at : ℕ) → table_words image test (suc n) at ≡ words_by test (constant_word image at) (λ next. table_words image test n next) (at + 4)
unfolding table_words
words_from image test n at = refl

no_words : (image : Image) (test : ℕ → Bool) (at : ℕ) → table_words image test 0 at ≡ []
unfolding table_words
no_words image test at = refl

-- the words of a table by its bound
pub by_bound : (image : Image) (start : ℕ) (bound : Option ℕ) → targets_by image start bound ≡ table_words image (is_target image bound) (most_words bound) start
by_bound image start None = refl
by_bound image start (Some b) = refl

module _ (image : Image) (test : ℕ → Bool) (at left : ℕ) (all xs : List ℕ) (some : 0 < left) (is : all ≡ xs ++ table_words image test left at) where
  step : table_words image test left at ≡ words_by test (constant_word image at) (λ next. table_words image test (left - 1) next) (at + 4)
  step = ap (λ n. table_words image test n at) (one_more left some) ∙ words_from image test (left - 1) at

  pub words_stop : None ≡ constant_word image at → xs ≡ all
  words_stop none = sym (is ∙ ap (λ ys. xs ++ ys) (step ∙ ap (λ o. words_by test o (λ next. table_words image test (left - 1) next) (at + 4)) (sym none)) ∙ append-nil xs)

  goes : (w : ℕ) (b : Bool) → Some w ≡ constant_word image at → test w ≡ b → all ≡ xs ++ if_passed b w (λ next. table_words image test (left - 1) next) (at + 4)
  goes w b there e = is ∙ ap (λ ys. xs ++ ys) (step ∙ ap (λ o. words_by test o (λ next. table_words image test (left - 1) next) (at + 4)) (sym there) ∙ ap (λ c. if_passed c w (λ next. table_words image test (left - 1) next) (at + 4)) e)

  pub words_end : (w : ℕ) → Some w ≡ constant_word image at → test w ≡ false → xs ≡ all
  words_end w there e = sym (goes w false there e ∙ append-nil xs)

  pub words_go_on : (w : ℕ) → Some w ≡ constant_word image at → test w ≡ true → all ≡ (xs ++ w ∷ []) ++ table_words image test (left - 1) (at + 4)
  words_go_on w there e = goes w true there e ∙ sym (append_assoc xs (w ∷ []) (table_words image test (left - 1) (at + 4)))

-- no more of them
pub words_are_full : (image : Image) (test : ℕ → Bool) (at left : ℕ) (all xs : List ℕ) → left ≡ 0 → all ≡ xs ++ table_words image test left at → xs ≡ all
words_are_full image test at left all xs none is = sym (is ∙ ap (λ n. xs ++ table_words image test n at) none ∙ ap (λ ys. xs ++ ys) (no_words image test at) ∙ append-nil xs)
