-- The best spelling is one, and it is what is computed.
use Rattle.std.proofs.Common.{◌≡◌, ℕ, ◌≤◌, List, [], ◌∷◌, length, inl, inr, ◌⊎◌, refl, sym, ap, subst, true, false, arith}
use Rattle.std.specs.Prelude.{◌↔◌}
use Rattle.std.proofs.lemmas.Bool.{false≢true}
use Rattle.x86_types.specs.declared.instr.Instr.{Instr}
use Rattle.x86_types.specs.declared.instr.Instr.TheVariants as instr
use Rattle.x86_grammar.specs.declared.row.Form.{Form}
use Rattle.x86_grammar.specs.Fields.{HasSpelling, fields_fit}
use Rattle.x86_grammar.specs.Forms.{In}
use Rattle.x86_encode.specs.Order.{BeforeByBytes, Before}
use Rattle.x86_encode.specs.Best.{IsBest, IsBestWide, has_short}
use Rattle.x86_encode.specs.Choice.{best_at, best, best_wide, forms_at}
use Rattle.x86_encode.specs.Laws.{BestLaws}
use Rattle.x86_encode.proofs.Chosen.{Laws, all_at, picked, some_wide, wide_in, best_is, best_wide_is}
use Rattle.x86_encode.proofs.Short.{suited_short}

not_both_by_bytes : (a b : List ℕ) → BeforeByBytes a b → BeforeByBytes b a → ⊥
not_both_by_bytes [] b h k = absurd h
not_both_by_bytes (x ∷ a) [] h k = absurd h
not_both_by_bytes (x ∷ a) (y ∷ b) (inl h) (inl k) = absurd (omega arith)
not_both_by_bytes (x ∷ a) (y ∷ b) (inl h) (inr k) = let e = k.0 in absurd (omega arith)
not_both_by_bytes (x ∷ a) (y ∷ b) (inr h) (inl k) = let e = h.0 in absurd (omega arith)
not_both_by_bytes (x ∷ a) (y ∷ b) (inr h) (inr k) = not_both_by_bytes a b h.1 k.1

not_both : (a b : List ℕ) → Before a b → Before b a → ⊥
not_both a b (inl h) (inl k) = absurd (omega arith)
not_both a b (inl h) (inr k) = let e = k.0 in absurd (omega arith)
not_both a b (inr h) (inl k) = let e = h.0 in absurd (omega arith)
not_both a b (inr h) (inr k) = not_both_by_bytes a b h.1 k.1

same : (a b : List ℕ) → (a ≡ b) ⊎ Before a b → (b ≡ a) ⊎ Before b a → a ≡ b
same a b (inl h) k = h
same a b (inr h) (inl k) = sym k
same a b (inr h) (inr k) = absurd (not_both a b h k)

one_best : (i : Instr) (t u : List ℕ) → IsBest i t → IsBest i u → t ≡ u
one_best i t u h k = same t u (h.first u k.spells) (k.first t h.spells)

one_wide : (i : Instr) (t u : List ℕ) → IsBestWide i t → IsBestWide i u → t ≡ u
one_wide i t u h k = same t u (h.first u k.spells) (k.first t h.spells)

module _ (laws : Laws) (fits : (i : Instr) → (fields_fit i ≡ true) ↔ HasSpelling i) (i : Instr) (has : HasSpelling i) where
  computed : IsBest i (best i)
  unfolding best_at
  computed = best_is laws i ((fits i).1 has) has

  computed_wide : IsBestWide i (best_wide i)
  unfolding best_at
  computed_wide = best_wide_is laws i ((fits i).1 has) has

  is : (t : List ℕ) → IsBest i t ↔ (t ≡ best i)
  is t = (λ h. one_best i t _ h computed, λ e. subst (λ (x : List ℕ). IsBest i x) (sym e) computed)

  is_wide : (t : List ℕ) → IsBestWide i t ↔ (t ≡ best_wide i)
  is_wide t = (λ h. one_wide i t _ h computed_wide, λ e. subst (λ (x : List ℕ). IsBestWide i x) (sym e) computed_wide)

  -- what is picked is the best of a form of the instruction
  short : length (best i) ≤ 11
  unfolding best_at
  short =
      let f = has.spells.spelling.form in
      let p = picked (forms_at false i) f (subst (λ (fs : List Form). In f fs) (sym (all_at i)) has.spells.right.among) (laws.forms_right.suits i f has.spells.right.among) in
      let among = subst (λ (fs : List Form). In p.form fs) (all_at i) p.among in
      subst (λ (t : List ℕ). length t ≤ 11) (sym p.is) (suited_short p.form (laws.forms_right.suits i p.form among))

  short_wide : length (best_wide i) ≤ 11
  unfolding best_at
  short_wide =
      let g = some_wide i has.spells.spelling.form has.spells.right.among in
      let p = picked (forms_at true i) g.0 g.1 (laws.forms_right.suits i g.0 (wide_in laws.forms_right i g.0 g.1).among) in
      subst (λ (t : List ℕ). length t ≤ 11) (sym p.is) (suited_short p.form (laws.forms_right.suits i p.form (wide_in laws.forms_right i p.form p.among).among))

same_bytes : (i : Instr) → has_short i ≡ false → best_wide i ≡ best i
unfolding best_at
same_bytes (instr.Jmp by) e = absurd (false≢true (sym e))
same_bytes (instr.Jcc c by) e = absurd (false≢true (sym e))
same_bytes i e = refl

best_first : (a b : List ℕ) → (a ≡ b) ⊎ Before a b → length a ≤ length b
best_first a b (inl h) = let e : length a ≡ length b = ap length h in omega (arith, e)
best_first a b (inr (inl h)) = omega arith
best_first a b (inr (inr h)) = let e = h.0 in omega (arith, e)

pub best_laws_hold : Laws → ((i : Instr) → (fields_fit i ≡ true) ↔ HasSpelling i) → BestLaws
best_laws_hold laws fits = record { is = is laws fits; is_wide = is_wide laws fits; one = one_best; one_wide = one_wide; same = same_bytes; shortest = λ i t s. best_first _ t ((computed laws fits i (record { bytes = t; spells = s })).first t s); short = short laws fits; short_wide = short_wide laws fits }
