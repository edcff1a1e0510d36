-- Words by number after one is set or added.
use Rattle.std.proofs.Common.{◌≡◌, ℕ, ◌-◌, ◌<◌, eqb, List, [], ◌∷◌, ◌++◌, length, get_or, set, inl, inr, refl, sym, ap, ◌∙◌, arith}
use Rattle.std.proofs.lemmas.Bool.{cases_eq, cases_lt, cond-true, cond-false, eq-eqb, ne_eqb}
use Rattle.std.proofs.lemmas.Grind.{get_or-set_at}
use Rattle.std.proofs.lemmas.List.{get_or-set_other, get_or_append_left, get_or-append_right, get_or_past}
use Rattle.x86_values.specs.declared.word.Word.{Word}
use Rattle.x86_values.specs.Words.{word_of}
use Rattle.x86_values.specs.Sizes.{no_word}
use Rattle.flag_ir.specs.declared.variable.Var.TheVariants as var
use Rattle.flag_ir.specs.Storage.{put_word}
use Rattle.unit_machine.specs.declared.values.Values.{Values}
use Rattle.unit_machine.specs.Standing.{words_of, registers_of, storage_of, Puts}

module _ (d : Word) where
  set_at : (ws : List Word) (n : ℕ) (w : Word) → n < length ws → (k : ℕ) → get_or (set ws n w) k d ≡ put_word n w (λ j. get_or ws j d) k
  set_at ws n w few k =
      elim (cases_eq k n) [
        | inl same ↦ get_or-set_at ws n k w d same few ∙ sym (cond-true (eqb k n) w (get_or ws k d) (eq-eqb k n same))
        | inr other ↦ get_or-set_other ws n k w d other ∙ sym (cond-false (eqb k n) w (get_or ws k d) (ne_eqb k n other))
      ]

  last : (w : Word) (j : ℕ) → 0 < j → get_or (w ∷ []) j d ≡ d
  last w j h = get_or_past (w ∷ []) j d (omega (arith, h))

  push_past : (ws : List Word) (n : ℕ) (w : Word) → length ws ≡ n → (k : ℕ) → n < k → get_or (ws ++ w ∷ []) k d ≡ get_or ws k d
  push_past ws n w len k more =
      get_or-append_right ws (w ∷ []) n k d len (omega (arith, more)) ∙ last w (k - n) (omega (arith, more)) ∙ sym (get_or_past ws k d (omega (arith, more, len)))

  push_at : (ws : List Word) (n : ℕ) (w : Word) → length ws ≡ n → get_or (ws ++ w ∷ []) n d ≡ w
  push_at ws n w len = let none : n - n ≡ 0 = omega arith in get_or-append_right ws (w ∷ []) n n d len (omega arith) ∙ ap (λ j. get_or (w ∷ []) j d) none

  push_before : (ws : List Word) (n : ℕ) (w : Word) → length ws ≡ n → (k : ℕ) → k < n → get_or (ws ++ w ∷ []) k d ≡ get_or ws k d
  push_before ws n w len k few = get_or_append_left ws (w ∷ []) d k (omega (arith, few, len))

  beside : (ws : List Word) (n : ℕ) (w : Word) → length ws ≡ n → (k : ℕ) → (k ≡ n → ⊥) → get_or (ws ++ w ∷ []) k d ≡ get_or ws k d
  beside ws n w len k other =
      elim (cases_lt k n) [ inl few ↦ push_before ws n w len k few | inr more ↦ push_past ws n w len k (omega (arith, more, other)) ]

  pushed : (ws : List Word) (n : ℕ) (w : Word) → length ws ≡ n → (k : ℕ) → get_or (ws ++ w ∷ []) k d ≡ put_word n w (λ j. get_or ws j d) k
  pushed ws n w len k =
      elim (cases_eq k n) [
        | inl same ↦ ap (λ j. get_or (ws ++ w ∷ []) j d) same ∙ push_at ws n w len ∙ sym (cond-true (eqb k n) w (get_or ws k d) (eq-eqb k n same))
        | inr other ↦ beside ws n w len k other ∙ sym (cond-false (eqb k n) w (get_or ws k d) (ne_eqb k n other))
      ]

  none_pushed : (ws : List Word) (k : ℕ) → get_or (ws ++ d ∷ []) k d ≡ get_or ws k d
  none_pushed ws k =
      elim (cases_eq k (length ws)) [
        | inl same ↦ ap (λ j. get_or (ws ++ d ∷ []) j d) same ∙ push_at ws (length ws) d refl ∙ sym (get_or_past ws k d (omega (arith, same)))
        | inr other ↦ beside ws (length ws) d refl k other
      ]

-- as functions
pub words_set : (ws : List Word) (n : ℕ) (w : Word) → n < length ws → words_of (set ws n w) ≡ put_word n w (words_of ws)
words_set ws n w few = λ i k. set_at no_word ws n w few k i

pub registers_set : (ws : List Word) (n : ℕ) (w : Word) → n < length ws → registers_of (set ws n w) ≡ put_word n w (registers_of ws)
registers_set ws n w few = λ i k. set_at (word_of 0) ws n w few k i

pub words_pushed : (ws : List Word) (n : ℕ) (w : Word) → length ws ≡ n → words_of (ws ++ w ∷ []) ≡ put_word n w (words_of ws)
words_pushed ws n w len = λ i k. pushed no_word ws n w len k i

pub words_none_pushed : (ws : List Word) → words_of (ws ++ no_word ∷ []) ≡ words_of ws
words_none_pushed ws = λ i k. none_pushed no_word ws k i

-- ---- a variable is made another word
pub puts_register : (v : Values) (n : ℕ) (w : Word) → n < length v.regs → Puts (var.Reg n) w v (record v { regs = set v.regs n w })
puts_register v n w few m left = ap (λ (r : ℕ → Word). record (storage_of v m left) { regs = r }) (registers_set v.regs n w few)

pub puts_flag : (v : Values) (n : ℕ) (w : Word) → n < length v.flags → Puts (var.Flag n) w v (record v { flags = set v.flags n w })
puts_flag v n w few m left = ap (λ (r : ℕ → Word). record (storage_of v m left) { flags = r }) (words_set v.flags n w few)

pub puts_temp : (v : Values) (n : ℕ) (w : Word) (u : Values) → u.regs ≡ v.regs → u.flags ≡ v.flags → u.esp0 ≡ v.esp0 → words_of u.temps.items ≡ put_word n w (words_of v.temps.items) → Puts (var.Temp n) w v u
puts_temp v n w u regs flags esp0 temps m left =
    ap (λ (r : List Word). record (storage_of u m left) { regs = registers_of r }) regs ∙ ap (λ (r : List Word). record (storage_of u m left) { regs = registers_of v.regs; flags = words_of r }) flags
    ∙ ap (λ (e : ℕ). record (storage_of u m left) { regs = registers_of v.regs; flags = words_of v.flags; esp0 = e }) esp0 ∙ ap (λ (t : ℕ → Word). record (storage_of v m left) { temps = t }) temps
