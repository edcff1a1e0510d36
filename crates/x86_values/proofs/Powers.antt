-- Powers of two, and numbers that are multiplied by them.
use Rattle.std.proofs.Common.{◌≡◌, ℕ, ◌+◌, ◌-◌, ◌*◌, ◌/◌, ◌%◌, ◌^◌, ◌<◌, ◌≤◌, arith}
use Rattle.std.proofs.lemmas.Nat.{shl_whole, one_shl, mul-le, pow_pos, mod_below}
use Rattle.std.proofs.Math.Pow.{pow_mono}
use Rattle.std.proofs.Math.Nat.{div-le_self, mod-le}
use Rattle.x86_values.proofs.SizeLemmas.{full_bounds}

pub power_small : (c : ℕ) → c ≤ 32 → 2 ^ c ≤ 2 ^ 32
power_small c h = pow_mono {i = c} {j = 32} h

pub power_whole : (c : ℕ) → c ≤ 32 → (1 * 2 ^ c) % 2 ^ 64 ≡ 2 ^ c
power_whole c h = one_shl c 64 (omega arith)

pub scaled_whole : (a c : ℕ) → a < 2 ^ 32 → c ≤ 32 → (a * 2 ^ c) % 2 ^ 64 ≡ a * 2 ^ c
scaled_whole a c h k = shl_whole a 32 c 64 h (omega arith)

pub scaled_small : (a c : ℕ) → a < 2 ^ 32 → c ≤ 32 → a * 2 ^ c ≤ 2 ^ 64 - 2 ^ 32
scaled_small a c h k = mul-le a (2 ^ c) (2 ^ 32 - 1) (2 ^ 32) (omega arith) (power_small c k)

-- both parts of a number below 2^64 by a range
pub parts_fit : (n m : ℕ) → n ≤ 2 ^ 64 - 2 ^ 32 → 0 < m → m ≤ 2 ^ 32 → n % m + n / m < 2 ^ 64
parts_fit n m h k l = omega (arith, mod_below n m k, div-le_self n m)

pub product_small : (a b : ℕ) → a ≤ 2 ^ 32 → b ≤ 2 ^ 32 - 1 → a * b ≤ 2 ^ 64 - 2 ^ 32
product_small a b h k = mul-le a b (2 ^ 32) (2 ^ 32 - 1) h k

-- the upper half of two numbers that are shifted together
pub upper_half : (a f p : ℕ) → (a * 2 ^ 32 + f) * p / 2 ^ 32 ≡ a * p + f * p / 2 ^ 32
upper_half a f p = omega arith

pub ruleset powers = (power_small, power_whole, scaled_whole, scaled_small, full_bounds, pow_pos, mod_below, parts_fit, mod-le, product_small, div-le_self, upper_half)
