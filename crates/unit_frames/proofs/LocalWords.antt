-- Words by number: after one is set, and after an unspecified one is added.
use Rattle.std.proofs.Common.{◌≡◌, ℕ, ◌<◌, eqb, List, [], ◌∷◌, ◌++◌, length, get_or, set, inl, inr, sym, ◌∙◌, arith}
use Rattle.std.proofs.lemmas.Bool.{cases_eq, cases_lt, cond-true, cond-false, eq-eqb, ne_eqb}
use Rattle.std.proofs.lemmas.Grind.{get_or-set_at}
use Rattle.std.proofs.lemmas.List.{get_or-set_other, get_or_append_left, get_or_push, get_or_past, length_push}
use Rattle.x86_values.specs.declared.word.Word.{Word}
use Rattle.x86_values.specs.Sizes.{no_word}
use Rattle.flag_ir.specs.Storage.{put_word}

pub none_pushed : (ws : List Word) (k : ℕ) → get_or (ws ++ no_word ∷ []) k no_word ≡ get_or ws k no_word
none_pushed ws k = elim (cases_lt k (length ws)) [
  | inl less ↦ get_or_append_left ws (no_word ∷ []) no_word k less
  | inr past ↦ elim (cases_eq k (length ws)) [
    | inl same ↦ get_or_push ws no_word no_word k (sym same) ∙ sym (get_or_past ws k no_word past)
    | inr other ↦ get_or_past (ws ++ no_word ∷ []) k no_word (omega (arith, length_push ws no_word, past, other)) ∙ sym (get_or_past ws k no_word past)
  ]
]

word_set : (ws vs : List Word) (n : ℕ) (w : Word) → n < length vs → ((k : ℕ) → get_or vs k no_word ≡ get_or ws k no_word) → (k : ℕ) → get_or (set vs n w) k no_word ≡ put_word n w (λ j. get_or ws j no_word) k
word_set ws vs n w few same k = elim (cases_eq k n) [
  | inl here ↦ get_or-set_at vs n k w no_word here few ∙ sym (cond-true (eqb k n) w (get_or ws k no_word) (eq-eqb k n here))
  | inr other ↦ get_or-set_other vs n k w no_word other ∙ same k ∙ sym (cond-false (eqb k n) w (get_or ws k no_word) (ne_eqb k n other))
]

pub with_local_set : (ws vs : List Word) (n : ℕ) (w : Word) → n < length vs → ((k : ℕ) → get_or vs k no_word ≡ get_or ws k no_word) → (λ (k : ℕ). get_or (set vs n w) k no_word) ≡ put_word n w (λ j. get_or ws j no_word)
with_local_set ws vs n w few same = λ i k. word_set ws vs n w few same k i
