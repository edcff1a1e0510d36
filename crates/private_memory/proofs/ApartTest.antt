-- The tests of an access pass exactly those that are apart, or clear.
use Rattle.std.proofs.Common.{◌≡◌, ◌⊎◌, ℕ, zero, suc, ◌+◌, ◌-◌, ◌%◌, ◌<◌, ◌≤◌, ◌&&◌, ◌||◌, Bool, true, false, not, leb, ltb, refl, sym, ap, ap₂, ◌∙◌, subst, inl, inr, arith}
use Rattle.std.proofs.lemmas.Bool.{and_parts, or_left, or_right, ltb-false, ltb-true, leb-true, le-leb}
use Rattle.memory.specs.Memory.{Memory, wrapped, allows_all, AreApart}
use Rattle.x86_meaning.specs.Operands.{Access}
use Rattle.private_memory.specs.PrivateArea.{IsApartAccess, IsClearAccess, each_address, lies_beside, is_elsewhere, is_apart_access, is_unreserved, is_clear_access}

-- ---- one address beside one range
below_or_above : (low high a : ℕ) → lies_beside low high a ≡ true → (a < low) ⊎ (high ≤ a)
below_or_above low high a h = cases (ltb a low) refl h
  where
    cases : (b : Bool) → ltb a low ≡ b → (b || leb high a) ≡ true → (a < low) ⊎ (high ≤ a)
    cases true e h = inl (ltb-true a low e)
    cases false e h = inr (leb-true high a h)

beside : (low high a : ℕ) → (low ≤ a → a < high → ⊥) → lies_beside low high a ≡ true
beside low high a h = cases (ltb a low) refl
  where
    above : (b : Bool) → ltb a high ≡ b → low ≤ a → leb high a ≡ true
    above true e l = absurd (h l (ltb-true a high e))
    above false e l = le-leb high a (ltb-false a high e)

    cases : (b : Bool) → ltb a low ≡ b → lies_beside low high a ≡ true
    cases true e = or_left (ltb a low) (leb high a) e
    cases false e = or_right (ltb a low) (leb high a) (above (ltb a high) refl (ltb-false a low e))

-- ---- a range beside another
ranges_apart : (from n at count : ℕ) → at + count ≤ 4294967296 → ((j : ℕ) → j < n → lies_beside at (at + count) (wrapped (from + j)) ≡ true) → AreApart from n at count
ranges_apart from n at count high each = record { apart = λ j k l m e. meets j k l m e }
  where
    meets : (j k : ℕ) → j < n → k < count → wrapped (from + j) ≡ wrapped (at + k) → ⊥
    meets j k l m e =
        let same : (from + j) % 4294967296 ≡ (at + k) % 4294967296 = e in
        let here : (at + k) % 4294967296 ≡ at + k = omega arith in
        cases (below_or_above at (at + count) (wrapped (from + j)) (each j l)) (same ∙ here)
      where
        cases : (wrapped (from + j) < at) ⊎ (at + count ≤ wrapped (from + j)) → (from + j) % 4294967296 ≡ at + k → ⊥
        cases (inl low) is = let l : (from + j) % 4294967296 < at = low in absurd (omega (arith, is, l))
        cases (inr above) is = let a : at + count ≤ (from + j) % 4294967296 = above in absurd (omega (arith, is, a, m))

first_beside : (from n at count : ℕ) → at + count ≤ 4294967296 → AreApart from (suc n) at count → lies_beside at (at + count) (wrapped from) ≡ true
first_beside from n at count high h = beside at (at + count) (wrapped from) (λ low above. within low above)
  where
    within : at ≤ wrapped from → wrapped from < at + count → ⊥
    within low above =
        let l : at ≤ from % 4294967296 = low in
        let a : from % 4294967296 < at + count = above in
        let first : from + 0 ≡ from = omega arith in
        let there : (at + (from % 4294967296 - at)) % 4294967296 ≡ from % 4294967296 = omega arith in
        h.apart 0 (from % 4294967296 - at) (omega arith) (omega arith) (ap wrapped first ∙ sym there)

rest_apart : (from n at count : ℕ) → AreApart from (suc n) at count → AreApart (from + 1) n at count
rest_apart from n at count h = record { apart = λ j k l m e. let same : from + 1 + j ≡ from + suc j = omega arith in h.apart (suc j) k (omega arith) m (ap wrapped (sym same) ∙ e) }

-- ---- a range beside both: the second one lies behind the first
module _ (at count : ℕ) (high : at + count ≤ 4294967296) where
  abbrev lies_elsewhere : ℕ → Bool
  lies_elsewhere a = lies_beside 0x60000000 0x75000000 a && lies_beside at (at + count) a

  each_elsewhere : (from n : ℕ) → each_address lies_elsewhere from n ≡ true → (j : ℕ) → j < n → lies_elsewhere (wrapped (from + j)) ≡ true
  unfolding each_address
  each_elsewhere from zero h j l = absurd (omega arith)
  each_elsewhere from (suc n) h zero l =
      let same : from + 0 ≡ from = omega arith in
      subst (λ a. lies_elsewhere (wrapped a) ≡ true) (sym same) (and_parts (lies_elsewhere (wrapped from)) (each_address lies_elsewhere (from + 1) n) h).0
  each_elsewhere from (suc n) h (suc j) l =
      let same : from + 1 + j ≡ from + suc j = omega arith in
      subst (λ a. lies_elsewhere (wrapped a) ≡ true) same (each_elsewhere (from + 1) n (and_parts (lies_elsewhere (wrapped from)) (each_address lies_elsewhere (from + 1) n) h).1 j (omega arith))

  apart_by : (from n : ℕ) → each_address lies_elsewhere from n ≡ true → AreApart from n 0x60000000 0x15000000 × AreApart from n at count
  apart_by from n h =
      let parts : (j : ℕ) → j < n → (lies_beside 0x60000000 0x75000000 (wrapped (from + j)) ≡ true) × (lies_beside at (at + count) (wrapped (from + j)) ≡ true)
      = λ j l. and_parts (lies_beside 0x60000000 0x75000000 (wrapped (from + j))) (lies_beside at (at + count) (wrapped (from + j))) (each_elsewhere from n h j l) in
      (ranges_apart from n 0x60000000 0x15000000 (omega arith) (λ j l. (parts j l).0), ranges_apart from n at count high (λ j l. (parts j l).1))

  apart_all : (from n : ℕ) → AreApart from n 0x60000000 0x15000000 → AreApart from n at count → each_address lies_elsewhere from n ≡ true
  unfolding each_address
  apart_all from zero code other = refl
  apart_all from (suc n) code other =
      let first = first_beside from n 0x60000000 0x15000000 (omega arith) code in
      let second = first_beside from n at count high other in
      let rest = apart_all (from + 1) n (rest_apart from n 0x60000000 0x15000000 code) (rest_apart from n at count other) in
      ap₂ (λ b c. b && c) (ap₂ (λ b c. b && c) first second) rest

-- ---- an access: where it isn't allowed, it passes
passes_by : (allowed beside : Bool) → (allowed ≡ true → beside ≡ true) → (not allowed || beside) ≡ true
passes_by true beside h = h refl
passes_by false beside h = refl

pub apart_passes : (m : Memory) (a : Access) → IsApartAccess m a → is_apart_access m a ≡ true
unfolding is_apart_access
apart_passes m a h = passes_by (allows_all a.kind m a.at a.size) (each_address is_elsewhere a.at a.size) (λ all. apart_all 0x75220000 0xDE0000 (omega arith) a.at a.size (h.elsewhere all).code (h.elsewhere all).names)

pub passes_apart : (m : Memory) (a : Access) → is_apart_access m a ≡ true → IsApartAccess m a
unfolding is_apart_access
passes_apart m a h = record {
  elsewhere = λ all.
      let both = apart_by 0x75220000 0xDE0000 (omega arith) a.at a.size (subst (λ b. (not b || each_address is_elsewhere a.at a.size) ≡ true) all h) in
      record { code = both.0; names = both.1 };
}

pub clear_passes : (m : Memory) (a : Access) → IsClearAccess m a → is_clear_access m a ≡ true
unfolding is_clear_access
clear_passes m a h = passes_by (allows_all a.kind m a.at a.size) (each_address is_unreserved a.at a.size) (λ all. apart_all 0x75800000 0x800000 (omega arith) a.at a.size (h.unreserved all).code (h.unreserved all).behind_names)

pub passes_clear : (m : Memory) (a : Access) → is_clear_access m a ≡ true → IsClearAccess m a
unfolding is_clear_access
passes_clear m a h = record {
  unreserved = λ all.
      let both = apart_by 0x75800000 0x800000 (omega arith) a.at a.size (subst (λ b. (not b || each_address is_unreserved a.at a.size) ≡ true) all h) in
      record { code = both.0; behind_names = both.1 };
}

-- the second range of what is apart holds that of what is clear
behind_within : (from n : ℕ) → AreApart from n 0x75220000 0xDE0000 → AreApart from n 0x75800000 0x800000
behind_within from n h = record { apart = λ j k l m e. let there : 0x75220000 + (0x5E0000 + k) ≡ 0x75800000 + k = omega arith in h.apart j (0x5E0000 + k) l (omega (arith, m)) (e ∙ ap wrapped (sym there)) }

pub apart_is_clear : (m : Memory) (a : Access) → IsApartAccess m a → IsClearAccess m a
apart_is_clear m a h = record { unreserved = λ all. record { code = (h.elsewhere all).code; behind_names = behind_within a.at a.size (h.elsewhere all).names } }
