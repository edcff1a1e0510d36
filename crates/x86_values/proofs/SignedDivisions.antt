-- Signed divisions by distances from 0.
use Rattle.std.proofs.Common.{◌≡◌, ℕ, zero, suc, ◌+◌, ◌-◌, ◌*◌, ◌/◌, ◌%◌, ◌<◌, ◌≤◌, Bool, true, false, Some, refl, ap, sym, ◌∙◌, arith}
use Rattle.std.proofs.Math.Nat.{div-add-mod', mod_self, sub-zero}
use Rattle.std.proofs.lemmas.Nat.{mod_below}
use Rattle.std.proofs.lemmas.Bool.Decides.{nat_tests}
use Rattle.x86_values.specs.declared.word.Word.{Word}
use Rattle.x86_values.specs.declared.divided.Divided.TheVariants.{Got}
use Rattle.x86_values.specs.Words.{word_of, known}
use Rattle.x86_values.specs.Sizes.{IsSize, full, half, is_negative}
use Rattle.x86_values.specs.Results.{differ}
use Rattle.x86_values.specs.Divisions.{with_sign, too_great, quotient}
use Rattle.x86_values.specs.ProductLaws.{distance}
use Rattle.x86_values.specs.DivisionLaws.{is_double_negative, double_distance, IsSignedQuotient}
use Rattle.x86_values.proofs.SizeLemmas.{full_bounds}
use Rattle.x86_values.proofs.OperandLemmas.{two_halves}
use Rattle.x86_values.proofs.SignedProducts.{whole_distance, near}
use Rattle.x86_values.proofs.Faults.{gives, no_fault}

negative_if : (size n : ℕ) → half size ≤ n → is_negative size n ≡ true
negative_if size n h = grind (arith, nat_tests)

not_negative_if : (size n : ℕ) → n < half size → is_negative size n ≡ false
not_negative_if size n h = grind (arith, nat_tests)

-- ---- the number with a sign at a distance from 0 that is one of the size
distance_of : (size : ℕ) (p : Bool) (m : ℕ) → IsSize size → (p ≡ true → m ≤ half size) → (p ≡ false → m < half size) → distance size (with_sign (full size) p m) ≡ m
distance_of size false m s h k = rw (not_negative_if size m (k refl)) refl
distance_of size true zero s h k =
    let e : (full size - 0) % full size ≡ 0 = ap (λ (n : ℕ). n % full size) (sub-zero (full size)) ∙ mod_self (full size) in
    let small : 0 < half size = omega (arith, two_halves size s, (full_bounds size s).1) in
    rw (e, not_negative_if size 0 small) refl
distance_of size true (suc m) s h k =
    let halves : half size + half size ≡ full size = two_halves size s in
    let most : suc m ≤ half size = h refl in
    let a = full size - suc m in
    let once : a % full size ≡ a = whole_distance (full size) (suc m) (omega arith) (omega arith) in
    let twice : (full size - a) % full size ≡ suc m = whole_distance (full size) a (omega arith) (omega arith) ∙ omega arith in
    let negative : is_negative size a ≡ true = negative_if size a (omega arith) in
    rw (once, negative, twice) refl

of_size : (size : ℕ) (p : Bool) (m : ℕ) → IsSize size → m < full size → with_sign (full size) p m < full size
of_size size true m s h = mod_below (full size - m) (full size) (full_bounds size s).1
of_size size false m s h = h

-- ---- a divisor that isn't 0 has a distance from 0
apart : (size d : ℕ) → 0 < d → d < full size → 0 < distance size d
apart size d h l = go (is_negative size d)
  where
    go : (p : Bool) → 0 < with_sign (full size) p d
    go true = rw (whole_distance (full size) d h l) (omega arith)
    go false = h

divisor_distance : (size d : ℕ) → IsSize size → 0 < d → d < full size → (0 < distance size d) × (distance size d ≤ half size)
divisor_distance size d s h l = (apart size d h l, near size d s l)

-- ---- the quotient
fits : (size : ℕ) (p : Bool) (m : ℕ) → too_great size p m ≡ false → (p ≡ true → m ≤ half size) × (p ≡ false → m < half size)
fits size true m e = (λ h. grind (arith, nat_tests), λ h. absurd cc)
fits size false m e = (λ h. absurd cc, λ h. grind (arith, nat_tests))

below_full : (size : ℕ) (p : Bool) (m : ℕ) → IsSize size → too_great size p m ≡ false → m < full size
below_full size true m s e = let k : m ≤ half size = (fits size true m e).0 refl in omega (arith, two_halves size s, (full_bounds size s).1)
below_full size false m s e = let k : m < half size = (fits size false m e).1 refl in omega (arith, two_halves size s)

by_distances : (size n d i j : ℕ) → IsSize size → 0 < d → d < full size →
    let p = differ (is_double_negative size n) (is_negative size d) in
    let m = double_distance size n / distance size d in
    let k = double_distance size n % distance size d in
    too_great size p m ≡ false → i ≡ with_sign (full size) p m → j ≡ with_sign (full size) (is_double_negative size n) k → IsSignedQuotient size n d i j
by_distances size n d i j s h l small e f =
    let t = is_double_negative size n in
    let p = differ t (is_negative size d) in
    let m = double_distance size n / distance size d in
    let k = double_distance size n % distance size d in
    let bounds = divisor_distance size d s h l in
    let rest : k < distance size d = mod_below (double_distance size n) (distance size d) bounds.0 in
    let is_small = fits size p m small in
    let q : distance size i ≡ m = ap (distance size) e ∙ distance_of size p m s is_small.0 is_small.1 in
    let r : distance size j ≡ k = ap (distance size) f ∙ distance_of size t k s (λ _. omega (arith, bounds.1)) (λ _. omega (arith, bounds.1)) in
    record {
      joined = rw (q, r) (div-add-mod' (double_distance size n) (distance size d));
      below = rw r rest;
      quotient_sign = e ∙ ap (with_sign (full size) p) (sym q);
      remainder_sign = f ∙ ap (with_sign (full size) t) (sym r);
    }

pub signed : (size n d i j : ℕ) (q r : Word) → IsSize size → n < full size * full size → 0 < d → d < full size → quotient true size n d ≡ Got q r → known q ≡ Some i → known r ≡ Some j → IsSignedQuotient size n d i j
signed size n d i j q r s b h l e f g =
    let t = is_double_negative size n in
    let p = differ t (is_negative size d) in
    let m = double_distance size n / distance size d in
    let k = double_distance size n % distance size d in
    let halves : half size + half size ≡ full size = two_halves size s in
    let range : (full size ≤ 4294967296) × (0 < full size) = full_bounds size s in
    let bounds = divisor_distance size d s h l in
    let rest : k < distance size d = mod_below (double_distance size n) (distance size d) bounds.0 in
    let left = with_sign (full size) p m in
    let right = with_sign (full size) t k in
    let small : too_great size p m ≡ false = no_fault (too_great size p m) q r (word_of left) (word_of right) e in
    let left_below : left < full size = of_size size p m s (below_full size p m s small) in
    let right_below : right < full size = of_size size t k s (omega (arith, bounds.1)) in
    let are = gives (too_great size p m) left right i j q r (omega arith) (omega arith) e f g in
    by_distances size n d i j s h l small are.0 are.1
