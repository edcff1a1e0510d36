-- Shifts of numbers of a width, by shifts of 32 bits.
use Rattle.std.proofs.Common.{◌≡◌, ℕ, ◌+◌, ◌-◌, ◌*◌, ◌/◌, ◌%◌, ◌^◌, ◌<◌, ◌≤◌, Bool, true, false, cond, refl, sym, ◌∙◌, ap, subst, arith, lit≤, lit<}
use Rattle.std.proofs.lemmas.Bool.Decides.{nat_tests}
use Rattle.std.proofs.lemmas.Nat.{pow_pos, pow-add, mod_below, div_below, mod-mul-add, mul-add-lt, div-add-mod', shr-shr, shl-shr}
use Rattle.std.proofs.Math.Nat.{mod-add-mod, add-mul-div_right, add-mul-mod_self_right, mul-add-div}
use Rattle.x86_values.specs.Sizes.{full, bits, is_negative}
use Rattle.x86_values.specs.Shifts.{filled, right_shifted, left_rotated, right_rotated}
use Rattle.x86_values.specs.DoubleShifts.{below_filled, above_filled}
use Rattle.x86_types.specs.declared.width.Width.{Width}
use Rattle.x86_types.specs.declared.width.Width.TheVariants.{One, Two, Four}
use Rattle.x86_types.specs.Numbers.{size_of}

-- ---- widths
full_is : (w : Width) → full (size_of w) ≡ 2 ^ bits (size_of w)
full_is One = refl
full_is Two = refl
full_is Four = refl

pub few_bits : (w : Width) → bits (size_of w) ≤ 32
few_bits One = lit≤ tt
few_bits Two = lit≤ tt
few_bits Four = lit≤ tt

-- ---- a shift to the left and what leaves
last_out : (a c d b : ℕ) → c + d ≡ b → a * 2 ^ c / 2 ^ b ≡ a / 2 ^ d
last_out a c d b e = ap (λ n. a * 2 ^ c / 2 ^ n) (sym e) ∙ sym (shr-shr (a * 2 ^ c) c d) ∙ ap (λ n. n / 2 ^ d) (shl-shr a c)

pub leaves : (w : Width) (a c d : ℕ) → c + d ≡ bits (size_of w) → a * 2 ^ c / full (size_of w) ≡ a / 2 ^ d
leaves w a c d e = ap (λ n. a * 2 ^ c / n) (full_is w) ∙ last_out a c d (bits (size_of w)) e

-- ---- a shift to the right
no_copies : (w : Width) (a : ℕ) → a + full (size_of w) * 0 ≡ a
no_copies w a = omega arith

pub unfilled : (w : Width) (a c : ℕ) → filled (size_of w) a false c ≡ a
unfilled w a c = no_copies w a

-- ---- a shift to the right with copies of the sign, of the operand with its sign above it
abbrev pub extended : Width → ℕ → ℕ
extended w a = cond (is_negative (size_of w) a) (a + (4294967296 - full (size_of w))) a

pub sign_stays : (w : Width) (a : ℕ) → a < full (size_of w) → is_negative 4 (extended w a) ≡ is_negative (size_of w) a
sign_stays One a h = grind (arith, nat_tests)
sign_stays Two a h = grind (arith, nat_tests)
sign_stays Four a h = grind (arith, nat_tests)

extended_by : (w : Width) (a : ℕ) (b : Bool) → a < full (size_of w) → cond b (a + (4294967296 - full (size_of w))) a < 2 ^ 32
extended_by One a true h = omega (arith, h)
extended_by Two a true h = omega (arith, h)
extended_by Four a true h = omega (arith, h)
extended_by One a false h = omega (arith, h)
extended_by Two a false h = omega (arith, h)
extended_by Four a false h = omega (arith, h)

pub extended_fits : (w : Width) (a : ℕ) → a < full (size_of w) → extended w a < 2 ^ 32
extended_fits w a h = extended_by w a (is_negative (size_of w) a) h

-- by a power p of 2, as an operand with p - 1 copies of the sign above it
abbrev copied : ℕ → ℕ → Bool → ℕ → ℕ
copied f a fill p = a + f * cond fill (p - 1) 0

wide_rest : (w : Width) (x p : ℕ) (k : ℕ) → 0 < p → (x + k * full (size_of w) * p) / p % full (size_of w) ≡ x / p % full (size_of w)
wide_rest w x p k h = ap (λ n. n % full (size_of w)) (add-mul-div_right x (k * full (size_of w)) h) ∙ add-mul-mod_self_right (x / p) k (full (size_of w))

extended_rest : (w : Width) (a p : ℕ) (b : Bool) → a < full (size_of w) → 0 < p → copied 4294967296 (cond b (a + (4294967296 - full (size_of w))) a) b p / p % full (size_of w) ≡ copied (full (size_of w)) a b p / p % full (size_of w)
extended_rest One a p true h k = let e : a + 4294967040 + 4294967296 * (p - 1) ≡ (a + 256 * (p - 1)) + 16777215 * 256 * p = omega (arith, k) in ap (λ n. n / p % 256) e ∙ wide_rest One (a + 256 * (p - 1)) p 16777215 k
extended_rest Two a p true h k = let e : a + 4294901760 + 4294967296 * (p - 1) ≡ (a + 65536 * (p - 1)) + 65535 * 65536 * p = omega (arith, k) in ap (λ n. n / p % 65536) e ∙ wide_rest Two (a + 65536 * (p - 1)) p 65535 k
extended_rest Four a p true h k = let e : a + 0 + 4294967296 * (p - 1) ≡ a + 4294967296 * (p - 1) = omega (arith, k) in ap (λ n. n / p % 4294967296) e
extended_rest w a p false h k = let e : a + 4294967296 * 0 ≡ a + full (size_of w) * 0 = omega arith in ap (λ n. n / p % full (size_of w)) e

pub sar_number : (w : Width) (a c : ℕ) → a < full (size_of w) → filled 4 (extended w a) (is_negative 4 (extended w a)) c / 2 ^ c % full (size_of w) ≡ right_shifted (size_of w) a (is_negative (size_of w) a) c
sar_number w a c h = ap (λ b. filled 4 (extended w a) b c / 2 ^ c % full (size_of w)) (sign_stays w a h) ∙ extended_rest w a (2 ^ c) (is_negative (size_of w) a) h (pow_pos c)

-- the last bit that leaves
twice_more : (x k p : ℕ) → 0 < p → (x + k * 2 * p) / p % 2 ≡ x / p % 2
twice_more x k p h = ap (λ n. n % 2) (add-mul-div_right x (k * 2) h) ∙ add-mul-mod_self_right (x / p) k 2

extended_last : (w : Width) (a p q : ℕ) (b : Bool) → a < full (size_of w) → 0 < p → q ≡ 2 * p → copied 4294967296 (cond b (a + (4294967296 - full (size_of w))) a) b p / p % 2 ≡ copied (full (size_of w)) a b q / p % 2
extended_last One a p q true h k e =
    let d : a + 4294967040 + 4294967296 * (p - 1) ≡ (a + 256 * (q - 1)) + 2147483392 * 2 * p = omega (arith, k, e) in
    ap (λ n. n / p % 2) d ∙ twice_more (a + 256 * (q - 1)) 2147483392 p k
extended_last Two a p q true h k e =
    let d : a + 4294901760 + 4294967296 * (p - 1) ≡ (a + 65536 * (q - 1)) + 2147418112 * 2 * p = omega (arith, k, e) in
    ap (λ n. n / p % 2) d ∙ twice_more (a + 65536 * (q - 1)) 2147418112 p k
extended_last Four a p q true h k e =
    let d : a + 4294967296 * (q - 1) ≡ (a + 0 + 4294967296 * (p - 1)) + 2147483648 * 2 * p = omega (arith, k, e) in
    sym (ap (λ n. n / p % 2) d ∙ twice_more (a + 0 + 4294967296 * (p - 1)) 2147483648 p k)
extended_last w a p q false h k e = let d : a + 4294967296 * 0 ≡ a + full (size_of w) * 0 = omega arith in ap (λ n. n / p % 2) d

pub sar_last : (w : Width) (a c : ℕ) → a < full (size_of w) → 0 < c → filled 4 (extended w a) (is_negative 4 (extended w a)) (c - 1) / 2 ^ (c - 1) % 2 ≡ filled (size_of w) a (is_negative (size_of w) a) c / 2 ^ (c - 1) % 2
sar_last w a c h k =
    let e : c ≡ 1 + (c - 1) = omega (arith, k) in
    let twice : 2 ^ c ≡ 2 * 2 ^ (c - 1) = ap (λ n. 2 ^ n) e ∙ pow-add 2 1 (c - 1) in
    ap (λ b. filled 4 (extended w a) b (c - 1) / 2 ^ (c - 1) % 2) (sign_stays w a h) ∙ extended_last w a (2 ^ (c - 1)) (2 ^ c) (is_negative (size_of w) a) h (pow_pos (c - 1)) twice

-- the sign above an operand, by a shift to the left and one back
sign_of_shifted : (w : Width) (a p : ℕ) → full (size_of w) * p ≡ 4294967296 → is_negative 4 (a * p) ≡ is_negative (size_of w) a
sign_of_shifted One a p e = let h : p ≡ 16777216 = omega (arith, e) in rw h (grind (arith, nat_tests))
sign_of_shifted Two a p e = let h : p ≡ 65536 = omega (arith, e) in rw h (grind (arith, nat_tests))
sign_of_shifted Four a p e = let h : p ≡ 1 = omega (arith, e) in rw h (grind (arith, nat_tests))

one_back : (a : ℕ) (b : Bool) → copied 4294967296 (a * 16777216) b 16777216 / 16777216 ≡ cond b (a + 4294967040) a
one_back a true = omega arith
one_back a false = omega arith

two_back : (a : ℕ) (b : Bool) → copied 4294967296 (a * 65536) b 65536 / 65536 ≡ cond b (a + 4294901760) a
two_back a true = omega arith
two_back a false = omega arith

pub one_extended : (a : ℕ) → filled 4 (a * 2 ^ 24) (is_negative 4 (a * 2 ^ 24)) 24 / 2 ^ 24 ≡ extended One a
one_extended a = ap (λ b. filled 4 (a * 2 ^ 24) b 24 / 2 ^ 24) (sign_of_shifted One a 16777216 refl) ∙ one_back a (is_negative 1 a)

pub two_extended : (a : ℕ) → filled 4 (a * 2 ^ 16) (is_negative 4 (a * 2 ^ 16)) 16 / 2 ^ 16 ≡ extended Two a
two_extended a = ap (λ b. filled 4 (a * 2 ^ 16) b 16 / 2 ^ 16) (sign_of_shifted Two a 65536 refl) ∙ two_back a (is_negative 2 a)

pub four_extended : (a : ℕ) → a ≡ extended Four a
four_extended a = either (is_negative 4 a)
  where
    either : (b : Bool) → a ≡ cond b (a + 0) a
    either true = omega arith
    either false = refl

-- ---- two parts that don't meet
split : (w : Width) (k m : ℕ) → k + m ≡ bits (size_of w) → full (size_of w) ≡ 2 ^ k * 2 ^ m
split w k m e = full_is w ∙ ap (λ n. 2 ^ n) (sym e) ∙ pow-add 2 k m

pub enters : (w : Width) (a k m : ℕ) → k + m ≡ bits (size_of w) → a < full (size_of w) → a / 2 ^ m < 2 ^ k
enters w a k m e h = div_below a (2 ^ m) (2 ^ k) (pow_pos m) (subst (λ n. a < n) (split w k m e) h)

pub rol_number : (w : Width) (a k m : ℕ) → k + m ≡ bits (size_of w) → (a * 2 ^ k + a / 2 ^ m) % full (size_of w) ≡ left_rotated (size_of w) a k
rol_number w a k m e = sym (mod-add-mod (a * 2 ^ k) (full (size_of w)) (a * 2 ^ k / full (size_of w)) ∙ ap (λ n. (a * 2 ^ k + n) % full (size_of w)) (leaves w a k m e))

-- what a shift to the left leaves of a number
low_part : (a p q : ℕ) → 0 < p → 0 < q → a * p % (p * q) ≡ a % q * p
low_part a p q h k =
    let parts : a / q * q + a % q ≡ a = div-add-mod' a q in
    let whole : a * p ≡ a / q * (p * q) + a % q * p = ap (λ n. n * p) (sym parts) ∙ omega arith in
    let small : a % q * p + 0 < p * q = mul-add-lt (a % q) p 0 q (mod_below a q k) h in
    ap (λ n. n % (p * q)) whole ∙ mod-mul-add (a / q) (p * q) (a % q * p) (omega (arith, small))

left_of : (w : Width) (a k m : ℕ) → k + m ≡ bits (size_of w) → a * 2 ^ k % full (size_of w) ≡ a % 2 ^ m * 2 ^ k
left_of w a k m e = ap (λ n. a * 2 ^ k % n) (split w k m e) ∙ low_part a (2 ^ k) (2 ^ m) (pow_pos k) (pow_pos m)

pub ror_number : (w : Width) (a k m : ℕ) → k + m ≡ bits (size_of w) → k ≡ bits (size_of w) - m → (a * 2 ^ k + a / 2 ^ m) % full (size_of w) ≡ right_rotated (size_of w) a m
ror_number w a k m e d =
    sym (mod-add-mod (a * 2 ^ k) (full (size_of w)) (a / 2 ^ m))
    ∙ ap (λ n. (n + a / 2 ^ m) % full (size_of w)) (left_of w a k m e)
    ∙ ap (λ n. n % full (size_of w)) (let z : a % 2 ^ m * 2 ^ k + a / 2 ^ m ≡ a / 2 ^ m + a % 2 ^ m * 2 ^ k = omega arith in z)
    ∙ ap (λ n. (a / 2 ^ m + a % 2 ^ m * 2 ^ n) % full (size_of w)) d

-- ---- double shifts
pub shld_number : (a f k m : ℕ) → k + m ≡ 32 → below_filled a f * 2 ^ k / 4294967296 ≡ a * 2 ^ k + f / 2 ^ m
shld_number a f k m e =
    let z : (a * 4294967296 + f) * 2 ^ k ≡ 4294967296 * (a * 2 ^ k) + f * 2 ^ k = omega arith in
    ap (λ n. n / 4294967296) z ∙ mul-add-div (lit< tt) (a * 2 ^ k) (f * 2 ^ k) ∙ ap (λ n. a * 2 ^ k + n) (leaves Four f k m e)

pub shrd_number : (a f k m : ℕ) → k + m ≡ 32 → above_filled a f / 2 ^ m ≡ f * 2 ^ k + a / 2 ^ m
shrd_number a f k m e =
    let z : f * 4294967296 + a ≡ 2 ^ m * (f * 2 ^ k) + a = ap (λ n. f * n + a) (split Four k m e) ∙ omega arith in
    ap (λ n. n / 2 ^ m) z ∙ mul-add-div (pow_pos m) (f * 2 ^ k) a
