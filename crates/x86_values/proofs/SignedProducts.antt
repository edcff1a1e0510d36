-- Signed products by distances from 0.
use Rattle.std.proofs.Common.{◌≡◌, ℕ, ◌+◌, ◌-◌, ◌*◌, ◌%◌, ◌<◌, ◌≤◌, Bool, true, false, cond, refl, ap, sym, ◌∙◌, arith}
use Rattle.std.proofs.Math.Nat.{mod-eq_of_lt, add-mod_left, mul-add, add-mul}
use Rattle.std.proofs.lemmas.Bool.Decides.{nat_tests}
use Rattle.x86_values.specs.Sizes.{IsSize, full, half, is_negative}
use Rattle.x86_values.specs.Results.{differ}
use Rattle.x86_values.specs.Divisions.{with_sign}
use Rattle.x86_values.specs.Products.{product}
use Rattle.x86_values.specs.ProductLaws.{distance}
use Rattle.x86_values.proofs.LessSpecified.{of_sizes}
use Rattle.x86_values.proofs.OperandLemmas.{two_halves}
use Rattle.x86_values.proofs.ProductLemmas.{product_below}

-- a product with a number and with its distance from the range
split_left : (f a x b : ℕ) → a + x ≡ f → a * b + x * b ≡ f * b
split_left f a x b e = sym (add-mul a x b) ∙ ap (λ n. n * b) e

split_right : (f a b y : ℕ) → b + y ≡ f → a * b + a * y ≡ a * f
split_right f a b y e = sym (mul-add a b y) ∙ ap (λ n. a * n) e

-- ---- by both signs, x and y the distances of a and b from the range
both_sum : (f a b x y : ℕ) → a + x ≡ f → b + y ≡ f → a * b + 2 * (f * f) - (f * b + f * a) ≡ f * f + x * y
both_sum f a b x y e k = omega (arith, split_left f a x b e, split_left f a x f e, split_right f x b y k)

both : (f a b x y : ℕ) → a + x ≡ f → b + y ≡ f → x < f → y < f → (a * b + 2 * (f * f) - (f * b + f * a)) % (f * f) ≡ x * y
both f a b x y e k l m = ap (λ n. n % (f * f)) (both_sum f a b x y e k) ∙ add-mod_left (f * f) (x * y) ∙ mod-eq_of_lt (product_below f x y l m)

left_sum : (f a b x : ℕ) → a + x ≡ f → x * b < f * f → a * b + 2 * (f * f) - (f * b + 0) ≡ f * f + (f * f - x * b)
left_sum f a b x e l = omega (arith, split_left f a x b e)

left : (f a b x : ℕ) → a + x ≡ f → x < f → b < f → (a * b + 2 * (f * f) - (f * b + 0)) % (f * f) ≡ (f * f - x * b) % (f * f)
left f a b x e l m = ap (λ n. n % (f * f)) (left_sum f a b x e (product_below f x b l m)) ∙ add-mod_left (f * f) (f * f - x * b)

right_sum : (f a b y : ℕ) → b + y ≡ f → a * y < f * f → a * b + 2 * (f * f) - (0 + f * a) ≡ f * f + (f * f - a * y)
right_sum f a b y e l = omega (arith, split_right f a b y e)

right : (f a b y : ℕ) → b + y ≡ f → a < f → y < f → (a * b + 2 * (f * f) - (0 + f * a)) % (f * f) ≡ (f * f - a * y) % (f * f)
right f a b y e l m = ap (λ n. n % (f * f)) (right_sum f a b y e (product_below f a y l m)) ∙ add-mod_left (f * f) (f * f - a * y)

neither_sum : (f a b : ℕ) → a * b + 2 * (f * f) - (0 + 0) ≡ f * f + (f * f + a * b)
neither_sum f a b = omega arith

neither : (f a b : ℕ) → a < f → b < f → (a * b + 2 * (f * f) - (0 + 0)) % (f * f) ≡ a * b
neither f a b l m = ap (λ n. n % (f * f)) (neither_sum f a b) ∙ add-mod_left (f * f) (f * f + a * b) ∙ add-mod_left (f * f) (a * b) ∙ mod-eq_of_lt (product_below f a b l m)

-- ---- a number that is negative is not 0, and its distance from 0 is that from the range
positive : (size a : ℕ) → IsSize size → is_negative size a ≡ true → 0 < a
positive size a s = of_sizes (λ (size : ℕ). is_negative size a ≡ true → 0 < a) size s (λ h. grind (arith, nat_tests)) (λ h. grind (arith, nat_tests)) (λ h. grind (arith, nat_tests))

pub whole_distance : (f a : ℕ) → 0 < a → a < f → (f - a) % f ≡ f - a
whole_distance f a h l = mod-eq_of_lt (omega arith)

pub signed_product : (size a b : ℕ) → IsSize size → a < full size → b < full size → product true size a b ≡ with_sign (full size * full size) (differ (is_negative size a) (is_negative size b)) (distance size a * distance size b)
signed_product size a b s l m = go (is_negative size a) (is_negative size b) (positive size a s) (positive size b s)
  where
    go : (p q : Bool) → (p ≡ true → 0 < a) → (q ≡ true → 0 < b) → (a * b + 2 * (full size * full size) - (cond p (full size * b) 0 + cond q (full size * a) 0)) % (full size * full size) ≡ with_sign (full size * full size) (differ p q) (with_sign (full size) p a * with_sign (full size) q b)
    go true true h k = rw (whole_distance (full size) a (h refl) l, whole_distance (full size) b (k refl) m) (both (full size) a b (full size - a) (full size - b) (omega arith) (omega arith) (omega (arith, h refl)) (omega (arith, k refl)))
    go true false h k = rw (whole_distance (full size) a (h refl) l) (left (full size) a b (full size - a) (omega arith) (omega (arith, h refl)) m)
    go false true h k = rw (whole_distance (full size) b (k refl) m) (right (full size) a b (full size - b) (omega arith) l (omega (arith, k refl)))
    go false false h k = neither (full size) a b l m

-- ---- no number of the size is further from 0 than half of the range
pub near : (size a : ℕ) → IsSize size → a < full size → distance size a ≤ half size
near size a s l = go (is_negative size a) refl
  where
    go : (p : Bool) → is_negative size a ≡ p → with_sign (full size) p a ≤ half size
    go true e = rw (whole_distance (full size) a (positive size a s e) l) (let k : half size ≤ a = grind (arith, nat_tests) in omega (arith, two_halves size s))
    go false e = let k : a < half size = grind (arith, nat_tests) in omega arith
