-- The bytes of a new frame, one after another.
use Rattle.std.proofs.Common.{◌≡◌, ℕ, ◌+◌, ◌-◌, ◌<◌, ◌≤◌, ◌&&◌, Bool, true, false, cond, leb, ltb, List, [], ◌∷◌, ◌++◌, length, get_or, inl, inr, refl, sym, ap, ◌∙◌, arith}
use Rattle.std.proofs.lemmas.Bool.{cases_eq, cases_lt}
use Rattle.std.proofs.lemmas.Bool.Decides.{nat_tests}
use Rattle.std.proofs.lemmas.List.{get_or_append_left, get_or_push, get_or_past, length_push}
use Rattle.x86_values.specs.declared.byte.Byte.{Byte}
use Rattle.x86_values.specs.declared.byte.Byte.TheVariants.{Unspecified}
use Rattle.unit_frames.specs.Kept.{byte_from}
use Rattle.unit_frames.specs.Opened.{fresh_byte}

both_unspecified : (t : Bool) → cond t Unspecified Unspecified ≡ Unspecified
both_unspecified true = refl
both_unspecified false = refl

before : (height low a : ℕ) → low ≤ height → (leb height a && ltb a low) ≡ false
before height low a order = grind (arith, nat_tests)

pub none_fresh : (low height : ℕ) (byte : ℕ → Byte) → low ≤ height → (a : ℕ) → byte_from low [] a ≡ fresh_byte height low byte a
none_fresh low height byte order a = both_unspecified (leb low a) ∙ sym (ap (λ (t : Bool). cond t (byte a) Unspecified) (before height low a order))

-- at an address below the lowest, among the bytes, behind them, and past those
module _ (low : ℕ) (bs : List Byte) (b : Byte) (a : ℕ) where
  low_byte : a < low → byte_from low (bs ++ b ∷ []) a ≡ byte_from low bs a
  low_byte h = let t : leb low a ≡ false = grind (arith, nat_tests) in rw t refl

  inner_byte : low ≤ a → a < low + length bs → byte_from low (bs ++ b ∷ []) a ≡ byte_from low bs a
  inner_byte h less = ap (λ (x : Byte). cond (leb low a) x Unspecified) (get_or_append_left bs (b ∷ []) Unspecified (a - low) (omega arith))

  past_byte : low + length bs < a → byte_from low (bs ++ b ∷ []) a ≡ byte_from low bs a
  past_byte more =
      ap (λ (x : Byte). cond (leb low a) x Unspecified)
      (get_or_past (bs ++ b ∷ []) (a - low) Unspecified (omega (arith, length_push bs b)) ∙ sym (get_or_past bs (a - low) Unspecified (omega arith)))

  pub last_byte : a ≡ low + length bs → byte_from low (bs ++ b ∷ []) a ≡ b
  last_byte is =
      let t : leb low a ≡ true = grind (arith, nat_tests) in
      ap (λ (x : Bool). cond x (get_or (bs ++ b ∷ []) (a - low) Unspecified) Unspecified) t ∙ get_or_push bs b Unspecified (a - low) (omega arith)

  pub other_byte : (a ≡ low + length bs → ⊥) → byte_from low (bs ++ b ∷ []) a ≡ byte_from low bs a
  other_byte apart = elim (cases_lt a low) [
    | inl less ↦ low_byte less
    | inr from ↦ elim (cases_lt a (low + length bs)) [ inl less ↦ inner_byte from less | inr more ↦ past_byte (omega (arith, more, apart)) ]
  ]

same_test : (height at a : ℕ) → (a ≡ at → ⊥) → (leb height a && ltb a at) ≡ (leb height a && ltb a (at + 1))
same_test height at a apart = grind (arith, nat_tests)

last_test : (height at a : ℕ) → a ≡ at → (leb height a && ltb a (at + 1)) ≡ leb height a
last_test height at a is = grind (arith, nat_tests)

pub more_fresh : (low height at : ℕ) (byte : ℕ → Byte) (bs : List Byte) (b : Byte) → length bs + low ≡ at → b ≡ cond (leb height at) (byte at) Unspecified → ((a : ℕ) → byte_from low bs a ≡ fresh_byte height at byte a) → (a : ℕ) → byte_from low (bs ++ b ∷ []) a ≡ fresh_byte height (at + 1) byte a
more_fresh low height at byte bs b len is h a = elim (cases_eq a at) [
  | inl same ↦ last_byte low bs b a (omega (arith, len, same)) ∙ is ∙ ap (λ (x : ℕ). cond (leb height x) (byte x) Unspecified) (sym same) ∙ sym (ap (λ (t : Bool). cond t (byte a) Unspecified) (last_test height at a same))
  | inr other ↦ other_byte low bs b a (λ e. other (omega (arith, len, e))) ∙ h a ∙ ap (λ (t : Bool). cond t (byte a) Unspecified) (same_test height at a other)
]
