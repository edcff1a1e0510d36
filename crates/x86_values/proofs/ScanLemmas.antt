-- The bits that are set: by counts of zeros, and by what stands below and above them.
use Rattle.std.proofs.Common.{◌≡◌, ℕ, zero, suc, ◌+◌, ◌*◌, ◌/◌, ◌%◌, ◌<◌, ◌≤◌, ◌^◌, ◌==◌, Bool, true, false, refl, ap, sym, ◌∙◌, arith, ◌⊎◌, inl, inr, add-one, add_comm}
use Rattle.std.proofs.Math.Nat.{pow-suc}
use Rattle.std.proofs.lemmas.Nat.{shr-shr, mod-pow-add}
use Rattle.std.proofs.lemmas.Bool.Decides.{nat_tests}
use Rattle.std.specs.Int.Count.{count_trailing_zeros, count_leading_zeros, leading_of_zero}
use Rattle.x86_values.specs.Scans.{lowest_bit, highest_bit, set_bit}

-- ---- one more bit
lowest_odd : (k n : ℕ) → n % 2 ≡ 1 → lowest_bit (suc k) n ≡ 0
unfolding lowest_bit
lowest_odd k n h = rw h refl

lowest_even : (k n : ℕ) → n % 2 ≡ 0 → lowest_bit (suc k) n ≡ lowest_bit k (n / 2) + 1
unfolding lowest_bit
lowest_even k n h = rw h refl

highest_one : (k n : ℕ) → n / 2 ≡ 0 → highest_bit (suc k) n ≡ 0
unfolding highest_bit
highest_one k n h = rw h refl

highest_more : (k n : ℕ) → (n / 2 == 0) ≡ false → highest_bit (suc k) n ≡ highest_bit k (n / 2) + 1
unfolding highest_bit
highest_more k n h = rw h refl

trailing_odd : (k n : ℕ) → n % 2 ≡ 1 → count_trailing_zeros (suc k) n ≡ 0
unfolding count_trailing_zeros
trailing_odd k n h = rw h refl

trailing_even : (k n : ℕ) → n % 2 ≡ 0 → count_trailing_zeros (suc k) n ≡ suc (count_trailing_zeros k (n / 2))
unfolding count_trailing_zeros
trailing_even k n h = rw h refl

leading_more : (k n : ℕ) → count_leading_zeros (suc k) (suc n) ≡ count_leading_zeros k (suc n / 2)
unfolding count_leading_zeros
leading_more k n = refl

bit_cases : (n : ℕ) → (n % 2 ≡ 0) ⊎ (n % 2 ≡ 1)
bit_cases n = grind arith

half_cases : (n : ℕ) → (n / 2 ≡ 0) ⊎ (((n / 2 == 0) ≡ false) × (0 < n / 2))
half_cases n = cases (n / 2)
  where
    cases : (m : ℕ) → (m ≡ 0) ⊎ (((m == 0) ≡ false) × (0 < m))
    cases zero = inl refl
    cases (suc m) = inr (grind (arith, nat_tests), omega arith)

twice : (j : ℕ) → 2 ^ (j + 1) ≡ 2 ^ j * 2
twice j = ap (λ (k : ℕ). 2 ^ k) (add-one j) ∙ pow-suc 2 j

doubled : (n j : ℕ) → 2 ^ j ≤ n / 2 → 2 ^ (j + 1) ≤ n
doubled n j h = omega (arith, twice j)

doubled_above : (n j : ℕ) → n / 2 < 2 ^ (j + 1) → n < 2 ^ (j + 1 + 1)
doubled_above n j h = omega (arith, twice (j + 1))

half_of : (k n : ℕ) → n < 2 ^ suc k → n / 2 < 2 ^ k
half_of k n h = omega (arith, pow-suc 2 k)

-- ---- by counts of zeros
pub lowest_by_zeros : (k n : ℕ) → 0 < n → n < 2 ^ k → count_trailing_zeros k n ≡ lowest_bit k n
lowest_by_zeros zero n h l = absurd (omega arith)
lowest_by_zeros (suc k) n h l = elim (bit_cases n) [
  | inl e ↦ trailing_even k n e ∙ omega (arith, lowest_even k n e, lowest_by_zeros k (n / 2) (omega arith) (half_of k n l))
  | inr e ↦ trailing_odd k n e ∙ sym (lowest_odd k n e)
]

pub highest_by_zeros : (k n : ℕ) → 0 < n → n < 2 ^ k → count_leading_zeros k n + highest_bit k n + 1 ≡ k
highest_by_zeros zero n h l = absurd (omega arith)
highest_by_zeros (suc k) zero h l = absurd (omega arith)
highest_by_zeros (suc k) (suc m) h l = elim (half_cases (suc m)) [
  | inl e ↦ omega (arith, leading_more k m, ap (count_leading_zeros k) e, leading_of_zero k, highest_one k (suc m) e)
  | inr e ↦ omega (arith, leading_more k m, highest_more k (suc m) e.0, highest_by_zeros k (suc m / 2) e.1 (half_of k (suc m) l))
]

-- ---- by what stands below and above them
pub lowest_is : (k n : ℕ) → 0 < n → n < 2 ^ k → (n % 2 ^ lowest_bit k n ≡ 0) × (n / 2 ^ lowest_bit k n % 2 ≡ 1)
lowest_is zero n h l = absurd (omega arith)
lowest_is (suc k) n h l = elim (bit_cases n) [
  | inl e ↦
      let j = lowest_bit k (n / 2) in
      let more = lowest_is k (n / 2) (omega arith) (half_of k n l) in
      let below : n % 2 ^ (j + 1) ≡ (n / 2 % 2 ^ j) * 2 + n % 2 = mod-pow-add n j 1 in
      let above : n / 2 / 2 ^ j ≡ n / 2 ^ (j + 1) = shr-shr n 1 j ∙ ap (λ (i : ℕ). n / 2 ^ i) (add_comm 1 j) in
      rw (lowest_even k n e) (omega (arith, below, more.0, e), ap (λ (m : ℕ). m % 2) (sym above) ∙ more.1)
  | inr e ↦ rw (lowest_odd k n e) (omega arith, omega arith)
]

pub highest_is : (k n : ℕ) → 0 < n → n < 2 ^ k → (2 ^ highest_bit k n ≤ n) × (n < 2 ^ (highest_bit k n + 1))
highest_is zero n h l = absurd (omega arith)
highest_is (suc k) n h l = elim (half_cases n) [
  | inl e ↦ rw (highest_one k n e) (omega arith, omega arith)
  | inr e ↦
      let j = highest_bit k (n / 2) in
      let more = highest_is k (n / 2) e.1 (half_of k n l) in
      rw (highest_more k n e.0) (doubled n j more.0, doubled_above n j more.1)
]

-- ---- at most as many as bits are looked at
lowest_small : (k n : ℕ) → lowest_bit k n ≤ k
unfolding lowest_bit
lowest_small zero n = omega arith
lowest_small (suc k) n = elim (bit_cases n) [
  | inl e ↦ omega (arith, lowest_even k n e, lowest_small k (n / 2))
  | inr e ↦ omega (arith, lowest_odd k n e)
]

highest_small : (k n : ℕ) → highest_bit k n ≤ k
unfolding highest_bit
highest_small zero n = omega arith
highest_small (suc k) n = elim (half_cases n) [
  | inl e ↦ omega (arith, highest_one k n e)
  | inr e ↦ omega (arith, highest_more k n e.0, highest_small k (n / 2))
]

pub set_bit_small : (reverse : Bool) (n : ℕ) → set_bit reverse n ≤ 32
set_bit_small true n = highest_small 32 n
set_bit_small false n = lowest_small 32 n
