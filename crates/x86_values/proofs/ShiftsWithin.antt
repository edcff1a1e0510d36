-- What shifts and rotates of an operand of the size come to is of the size, and rotates take each other back.
use Rattle.std.proofs.Common.{◌≡◌, ℕ, ◌+◌, ◌-◌, ◌*◌, ◌/◌, ◌%◌, ◌^◌, ◌<◌, ◌≤◌, Bool, true, false, refl, ap, sym, ◌∙◌, arith}
use Rattle.std.proofs.lemmas.Nat.{pow_pos, pow-add, mod_below, div_below, div-mul-add, mod-mul-add, mul-add-lt, div-add-mod'}
use Rattle.std.proofs.Math.Nat.{div-div-eq-div-mul, mul-div_cancel, mod-eq_of_lt}
use Rattle.x86_values.specs.Sizes.{IsSize, bits, full}
use Rattle.x86_values.specs.Shifts.{filled, left_rotated, right_rotated}
use Rattle.x86_values.proofs.LessSpecified.{of_sizes}

-- ---- a range that is the product of two numbers
product_over : (a p q : ℕ) → 0 < p → a * p / (p * q) ≡ a / q
product_over a p q h = sym (div-div-eq-div-mul (a * p) p q) ∙ ap (λ n. n / q) (mul-div_cancel a h)

product_rest : (a p q : ℕ) → 0 < p → 0 < q → a * p % (p * q) ≡ a % q * p
product_rest a p q h k =
    let parts : a / q * q + a % q ≡ a = div-add-mod' a q in
    let whole : a * p ≡ a / q * (p * q) + a % q * p = ap (λ n. n * p) (sym parts) ∙ omega arith in
    let small : a % q * p + 0 < p * q = mul-add-lt (a % q) p 0 q (mod_below a q k) h in
    ap (λ n. n % (p * q)) whole ∙ mod-mul-add (a / q) (p * q) (a % q * p) (omega (arith, small))

-- the two parts change their places
left_parts : (a p q : ℕ) → 0 < p → 0 < q → a * p % (p * q) + a * p / (p * q) ≡ a % q * p + a / q
left_parts a p q h k = rw (product_rest a p q h k, product_over a p q h) refl

left_small : (a p q : ℕ) → 0 < p → 0 < q → a < p * q → a % q * p + a / q < p * q
left_small a p q h k l = mul-add-lt (a % q) p (a / q) q (mod_below a q k) (div_below a q p k l)

right_small : (a p q : ℕ) → 0 < p → 0 < q → a < p * q → a / p + a % p * q < p * q
right_small a p q h k l =
    let m : a < q * p = omega (arith, l) in
    omega (arith, mul-add-lt (a % p) q (a / p) p (mod_below a p h) (div_below a p q h m))

-- taken back
back_left : (a p q : ℕ) → 0 < p → 0 < q → a < p * q → (a % q * p + a / q) / p + (a % q * p + a / q) % p * q ≡ a
back_left a p q h k l =
    let m : a / q < p = div_below a q p k l in
    rw (div-mul-add (a % q) p (a / q) m, mod-mul-add (a % q) p (a / q) m) (omega (arith, div-add-mod' a q))

back_right : (a p q : ℕ) → 0 < p → 0 < q → a < p * q → (a / p + a % p * q) % q * p + (a / p + a % p * q) / q ≡ a
back_right a p q h k l =
    let m : a < q * p = omega (arith, l) in
    let lt : a / p < q = div_below a p q h m in
    let turned : a / p + a % p * q ≡ a % p * q + a / p = omega arith in
    rw (turned, mod-mul-add (a % p) q (a / p) lt, div-mul-add (a % p) q (a / p) lt) (div-add-mod' a p)

-- ---- at the sizes
split : (k r : ℕ) → r ≤ k → 2 ^ k ≡ 2 ^ r * 2 ^ (k - r)
split k r h = let e : k ≡ r + (k - r) = omega arith in ap (λ n. 2 ^ n) e ∙ pow-add 2 r (k - r)

full_split : (size r : ℕ) → IsSize size → r ≤ bits size → full size ≡ 2 ^ r * 2 ^ (bits size - r)
full_split size r s = of_sizes (λ (size : ℕ). r ≤ bits size → full size ≡ 2 ^ r * 2 ^ (bits size - r)) size s (split 8 r) (split 16 r) (split 32 r)

copies_fit : (f a p : ℕ) → a < f → 0 < p → a + f * (p - 1) < f * p
copies_fit f a p h k =
    let one_more : p ≡ (p - 1) + 1 = omega arith in
    let parts : f * p ≡ f * (p - 1) + f = ap (λ n. f * n) one_more ∙ omega arith in
    omega (arith, parts)

none_fits : (f a p : ℕ) → a < f → 0 < p → a + f * 0 < f * p
none_fits f a p h k = omega (arith, mul-add-lt 0 f a p k h)

-- the copies above the operand leave it room
pub right_shifted_within : (size a c : ℕ) (fill : Bool) → IsSize size → a < full size → filled size a fill c / 2 ^ c < full size
right_shifted_within size a c fill s h = div_below (filled size a fill c) (2 ^ c) (full size) (pow_pos c) (below fill)
  where
    below : (fill : Bool) → filled size a fill c < full size * 2 ^ c
    below true = let p : 0 < 2 ^ c = pow_pos c in copies_fit (full size) a (2 ^ c) h p
    below false = let p : 0 < 2 ^ c = pow_pos c in none_fits (full size) a (2 ^ c) h p

pub left_rotated_within : (size a r : ℕ) → IsSize size → r ≤ bits size → a < full size → a * 2 ^ r % full size + a * 2 ^ r / full size < full size
left_rotated_within size a r s h l =
    let e : full size ≡ 2 ^ r * 2 ^ (bits size - r) = full_split size r s h in
    rw (e, left_parts a (2 ^ r) (2 ^ (bits size - r)) (pow_pos r) (pow_pos (bits size - r)))
    (left_small a (2 ^ r) (2 ^ (bits size - r)) (pow_pos r) (pow_pos (bits size - r)) (rw e at l))

pub right_rotated_within : (size a r : ℕ) → IsSize size → r ≤ bits size → a < full size → a / 2 ^ r + a % 2 ^ r * 2 ^ (bits size - r) < full size
right_rotated_within size a r s h l =
    let e : full size ≡ 2 ^ r * 2 ^ (bits size - r) = full_split size r s h in
    rw e (right_small a (2 ^ r) (2 ^ (bits size - r)) (pow_pos r) (pow_pos (bits size - r)) (rw e at l))

-- a rotate without the modulus
left_plain : (size a r : ℕ) → IsSize size → r ≤ bits size → a < full size → left_rotated size a r ≡ a % 2 ^ (bits size - r) * 2 ^ r + a / 2 ^ (bits size - r)
left_plain size a r s h l =
    let e : full size ≡ 2 ^ r * 2 ^ (bits size - r) = full_split size r s h in
    mod-eq_of_lt (left_rotated_within size a r s h l) ∙ rw e (left_parts a (2 ^ r) (2 ^ (bits size - r)) (pow_pos r) (pow_pos (bits size - r)))

right_plain : (size a r : ℕ) → IsSize size → r ≤ bits size → a < full size → right_rotated size a r ≡ a / 2 ^ r + a % 2 ^ r * 2 ^ (bits size - r)
right_plain size a r s h l = mod-eq_of_lt (right_rotated_within size a r s h l)

pub left_then_right : (size a r : ℕ) → IsSize size → r ≤ bits size → a < full size → right_rotated size (left_rotated size a r) r ≡ a
left_then_right size a r s h l =
    let e : full size ≡ 2 ^ r * 2 ^ (bits size - r) = full_split size r s h in
    let small : left_rotated size a r < full size = mod_below (a * 2 ^ r % full size + a * 2 ^ r / full size) (full size) (omega (arith, l)) in
    right_plain size (left_rotated size a r) r s h small
    ∙ ap (λ n. n / 2 ^ r + n % 2 ^ r * 2 ^ (bits size - r)) (left_plain size a r s h l)
    ∙ back_left a (2 ^ r) (2 ^ (bits size - r)) (pow_pos r) (pow_pos (bits size - r)) (rw e at l)

pub right_then_left : (size a r : ℕ) → IsSize size → r ≤ bits size → a < full size → left_rotated size (right_rotated size a r) r ≡ a
right_then_left size a r s h l =
    let e : full size ≡ 2 ^ r * 2 ^ (bits size - r) = full_split size r s h in
    let small : right_rotated size a r < full size = mod_below (a / 2 ^ r + a % 2 ^ r * 2 ^ (bits size - r)) (full size) (omega (arith, l)) in
    left_plain size (right_rotated size a r) r s h small
    ∙ ap (λ n. n % 2 ^ (bits size - r) * 2 ^ r + n / 2 ^ (bits size - r)) (right_plain size a r s h l)
    ∙ back_right a (2 ^ r) (2 ^ (bits size - r)) (pow_pos r) (pow_pos (bits size - r)) (rw e at l)
