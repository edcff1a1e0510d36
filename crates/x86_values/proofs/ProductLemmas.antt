-- Bounds of products.
use Rattle.std.proofs.Common.{◌≡◌, ℕ, ◌+◌, ◌*◌, ◌/◌, ◌%◌, ◌<◌, ◌≤◌, ◌^◌, Bool, true, false, cond, arith}
use Rattle.std.proofs.Math.Nat.{mod-eq_of_lt}
use Rattle.std.proofs.lemmas.Nat.{mul-lt, mul-le}
use Rattle.x86_values.specs.Sizes.{IsSize, full, is_negative}
use Rattle.x86_values.specs.Products.{correction}
use Rattle.x86_values.proofs.LessSpecified.{of_sizes}

pub term_fits : (f b : ℕ) → f < 2 ^ 64 → b < 2 ^ 32 → f * b < 2 ^ 128
term_fits f b h k = omega (arith, mul-lt f b (2 ^ 64) (2 ^ 32) h k)

pub product_below : (f a b : ℕ) → a < f → b < f → a * b < f * f
product_below f a b h k = mul-lt a b f f h k

pub whole_product : (f a b : ℕ) → a < f → b < f → a * b % (f * f) ≡ a * b
whole_product f a b h k = mod-eq_of_lt (product_below f a b h k)

correction_below : (f b : ℕ) (c : Bool) → b < f → cond c (f * b) 0 ≤ f * f
correction_below f b true h = mul-le f b f f (omega arith) (omega arith)
correction_below f b false h = omega arith

pub correction_bounds : (size a b : ℕ) → IsSize size → a < full size → b < full size → correction size a b + correction size b a ≤ 2 * (full size * full size)
correction_bounds size a b s h k = omega (arith, correction_below (full size) b (is_negative size a) k, correction_below (full size) a (is_negative size b) h)

pub half_bounds : (size p : ℕ) → IsSize size → p < full size * full size → (p % full size < 4294967296) × (p / full size < 4294967296)
half_bounds size p s = of_sizes (λ (size : ℕ). p < full size * full size → (p % full size < 4294967296) × (p / full size < 4294967296)) size s (λ h. (omega arith, omega arith)) (λ h. (omega arith, omega arith)) (λ h. (omega arith, omega arith))
