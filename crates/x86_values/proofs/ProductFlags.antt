-- CF and OF of products: set exactly where the product is no number of the size.
use Rattle.std.proofs.Common.{◌≡◌, ℕ, ◌-◌, ◌*◌, ◌/◌, ◌%◌, ◌<◌, ◌≤◌, ◌==◌, Bool, true, false, not, leb, ltb, Some, ap, ◌∙◌, arith}
use Rattle.std.proofs.lemmas.Nat.{mul-le}
use Rattle.std.proofs.lemmas.Bool.Decides.{nat_tests}
use Rattle.x86_values.specs.Sizes.{IsSize, full, half, is_negative}
use Rattle.x86_values.specs.Results.{differ}
use Rattle.x86_values.specs.Divisions.{with_sign, too_great}
use Rattle.x86_values.specs.Products.{product, upper_of, halves}
use Rattle.x86_values.specs.ProductLaws.{distance}
use Rattle.x86_values.proofs.LessSpecified.{of_sizes}
use Rattle.x86_values.proofs.ProductLemmas.{whole_product}
use Rattle.x86_values.proofs.SignedProducts.{near, signed_product}

-- ---- unsigned
upper_is_set : (size p : ℕ) → IsSize size → not (p / full size == 0) ≡ leb (full size) p
upper_is_set size p s = of_sizes (λ (size : ℕ). not (p / full size == 0) ≡ leb (full size) p) size s (grind (arith, nat_tests)) (grind (arith, nat_tests)) (grind (arith, nat_tests))

pub unsigned_exceeds : (size a b : ℕ) → IsSize size → a < full size → b < full size → (halves false size (product false size a b)).flags.of ≡ Some (leb (full size) (a * b))
unsigned_exceeds size a b s h k = rw (whole_product (full size) a b h k) (ap (λ (x : Bool). Some x) (upper_is_set size (a * b) s))

-- ---- signed, by the distance from 0 and the sign
exceeds : ℕ → ℕ → Bool
exceeds size p = not (p / full size == upper_of true size (p % full size))

positive_exceeds : (size m : ℕ) → IsSize size → m ≤ half size * half size → exceeds size m ≡ leb (half size) m
unfolding exceeds
positive_exceeds size m s = of_sizes (λ (size : ℕ). m ≤ half size * half size → exceeds size m ≡ leb (half size) m) size s (λ h. grind (arith, nat_tests)) (λ h. grind (arith, nat_tests)) (λ h. grind (arith, nat_tests))

negative_exceeds : (size m : ℕ) → IsSize size → m ≤ half size * half size → exceeds size ((full size * full size - m) % (full size * full size)) ≡ ltb (half size) m
unfolding exceeds
negative_exceeds size m s = of_sizes (λ (size : ℕ). m ≤ half size * half size → exceeds size ((full size * full size - m) % (full size * full size)) ≡ ltb (half size) m) size s (λ h. grind (arith, nat_tests)) (λ h. grind (arith, nat_tests)) (λ h. grind (arith, nat_tests))

by_sign : (size m : ℕ) (p : Bool) → IsSize size → m ≤ half size * half size → exceeds size (with_sign (full size * full size) p m) ≡ too_great size p m
by_sign size m true s h = negative_exceeds size m s h
by_sign size m false s h = positive_exceeds size m s h

pub signed_exceeds : (size a b : ℕ) → IsSize size → a < full size → b < full size → (halves true size (product true size a b)).flags.of ≡ Some (too_great size (differ (is_negative size a) (is_negative size b)) (distance size a * distance size b))
unfolding exceeds
signed_exceeds size a b s h k =
    let m = distance size a * distance size b in
    let small : m ≤ half size * half size = mul-le (distance size a) (distance size b) (half size) (half size) (near size a s h) (near size b s k) in
    ap (λ (p : ℕ). Some (exceeds size p)) (signed_product size a b s h k) ∙ ap (λ (x : Bool). Some x) (by_sign size m (differ (is_negative size a) (is_negative size b)) s small)
