-- Words of numbers, and what the calculations make of them. A word doesn't see more than 32 bits of its number, so that a sum, a difference,
-- a product and a shift to the left are those of the numbers.
use Rattle.std.proofs.Common.{◌≡◌, ℕ, ◌+◌, ◌-◌, ◌*◌, ◌/◌, ◌%◌, ◌^◌, ◌<◌, ◌≤◌, ◌==◌, ◌&&◌, ◌||◌, Bool, true, false, cond, leb, ltb, Some, refl, sym, ◌∙◌, ap, ap₂, subst, arith, lit<, bit_and, bit_or, bit_xor}
use Rattle.std.proofs.lemmas.Bool.{ne_eqb, eqb-true, eqb-false, leb-true, leb-false}
use Rattle.std.proofs.lemmas.Nat.{and_mask, and_shr, or_shr, xor_shr, and_mod, or_mod, xor_mod, or_of_8, le_or_l, le_or_r}
use Rattle.x86_types.specs.declared.operation.ShiftOp.{ShiftOp}
use Rattle.x86_types.specs.declared.operation.ShiftOp.TheVariants as shiftop
use Rattle.x86_types.specs.declared.width.Width.{Width}
use Rattle.x86_types.specs.declared.width.Width.TheVariants.{One, Two, Four}
use Rattle.x86_types.specs.Numbers.{size_of}
use Rattle.x86_values.specs.declared.byte.Byte.{Byte}
use Rattle.x86_values.specs.declared.byte.Byte.TheVariants.{Known, Unspecified}
use Rattle.x86_values.specs.declared.word.Word.{Word}
use Rattle.x86_values.specs.WrittenOut.{bytes}
use Rattle.x86_values.specs.Words.{word_of, known, known_byte, known_bytes}
use Rattle.x86_values.specs.Sizes.{cut, number, full, half, no_word, is_negative}
use Rattle.x86_values.specs.Results.{differ, no_flags, no_result}
use Rattle.x86_values.specs.Sums.{add, sub, sum, difference, of_known}
use Rattle.x86_values.specs.Logic.{bitwise, and_byte, or_byte}
use Rattle.x86_values.specs.Shifts.{shift, shift_by, shifted, shifted_if, right_shifted}
use Rattle.x86_values.specs.Products.{multiply, product_of}
use Rattle.x86_values.specs.LessSpecified.{ByteLessSpecified, WordLessSpecified}
use Rattle.flag_ir.specs.Calculations as calculations
use Rattle.flag_ir.specs.Calculations.{one_if, compared, sum_of, difference_of, upper_product_of, and_of, or_of, xor_of, shifted_of, equal_of, below_of, less_of}
use Rattle.lift_values.specs.Terms.{mask, top}

-- ---- words byte by byte
pub same_bytes : (a b c d e f g h : Byte) → a ≡ e → b ≡ f → c ≡ g → d ≡ h → bytes a b c d ≡ bytes e f g h
same_bytes a b c d e f g h p q r s = λ i. record { b0 = p i; b1 = q i; b2 = r i; b3 = s i }

pub same_byte : (a n : ℕ) → a ≡ n → Known a ≡ Known n
same_byte a n e = ap (λ x. Known x) e

pub same_word : (a n : ℕ) → a ≡ n → word_of a ≡ word_of n
same_word a n e = ap (λ x. word_of x) e

pub some_number : (a b : ℕ) → Some a ≡ Some b → a ≡ b
some_number a b e = cc

-- ---- a word doesn't see more than 32 bits
pub word_mod : (n : ℕ) → word_of (n % 4294967296) ≡ word_of n
unfolding word_of
word_mod n =
    let a : n % 4294967296 % 256 ≡ n % 256 = omega arith in
    let b : n % 4294967296 / 256 % 256 ≡ n / 256 % 256 = omega arith in
    let c : n % 4294967296 / 65536 % 256 ≡ n / 65536 % 256 = omega arith in
    let d : n % 4294967296 / 16777216 % 256 ≡ n / 16777216 % 256 = omega arith in
    same_bytes _ _ _ _ _ _ _ _ (same_byte _ _ a) (same_byte _ _ b) (same_byte _ _ c) (same_byte _ _ d)

pub word_to : (n m : ℕ) → n % 4294967296 ≡ m % 4294967296 → word_of n ≡ word_of m
word_to n m e = sym (word_mod n) ∙ same_word _ _ e ∙ word_mod m

-- ---- the number of a word
pub known_word : (n : ℕ) → n < 4294967296 → known (word_of n) ≡ Some n
unfolding known word_of
known_word n h =
    let e : n % 256 + 256 * (n / 256 % 256) + 65536 * (n / 65536 % 256) + 16777216 * (n / 16777216 % 256) ≡ n = omega arith in
    ap (λ x. Some x) e

pub number_word : (n : ℕ) → n < 4294967296 → number 4 (word_of n) ≡ Some n
unfolding number cut
number_word n h = known_word n h

pub below_32 : (w : Width) (n : ℕ) → n < full (size_of w) → n < 4294967296
below_32 One n h = omega (arith, h)
below_32 Two n h = omega (arith, h)
below_32 Four n h = omega (arith, h)

pub small_mod : (w : Width) (n : ℕ) → n < full (size_of w) → n % full (size_of w) ≡ n
small_mod One n h = omega (arith, h)
small_mod Two n h = omega (arith, h)
small_mod Four n h = omega (arith, h)

pub mod_fits : (w : Width) (n : ℕ) → n % full (size_of w) < full (size_of w)
mod_fits One n = omega arith
mod_fits Two n = omega arith
mod_fits Four n = omega arith

pub mod_mod : (w : Width) (n : ℕ) → n % 4294967296 % full (size_of w) ≡ n % full (size_of w)
mod_mod One n = omega arith
mod_mod Two n = omega arith
mod_mod Four n = omega arith

-- ---- what is known of the lowest bytes is the same on the right, and fits
pub record IsNumber (w : Width) (n : ℕ) (y : Word) : Type 0 where
  pub is : y ≡ word_of n
  pub fits : n < full (size_of w)

four_number : (a b c d : Byte) (n : ℕ) (y : Word) → known_bytes a b c d ≡ Some n → ByteLessSpecified a y.b0 → ByteLessSpecified b y.b1 → ByteLessSpecified c y.b2 → ByteLessSpecified d y.b3 → IsNumber Four n y
unfolding word_of
four_number (Known a) (Known b) (Known c) (Known d) n y e p q r s =
    let g : a + 256 * b + 65536 * c + 16777216 * d ≡ n = some_number _ n e in
    let ha : a < 256 = p.1 in
    let hb : b < 256 = q.1 in
    let hc : c < 256 = r.1 in
    let hd : d < 256 = s.1 in
    let ea : a ≡ n % 256 = omega arith in
    let eb : b ≡ n / 256 % 256 = omega arith in
    let ec : c ≡ n / 65536 % 256 = omega arith in
    let ed : d ≡ n / 16777216 % 256 = omega arith in
    record {
      is = same_bytes y.b0 y.b1 y.b2 y.b3 _ _ _ _ (p.0 ∙ same_byte a _ ea) (q.0 ∙ same_byte b _ eb) (r.0 ∙ same_byte c _ ec) (s.0 ∙ same_byte d _ ed);
      fits = omega arith;
    }
four_number Unspecified b c d n y e p q r s = cc
four_number (Known a) Unspecified c d n y e p q r s = cc
four_number (Known a) (Known b) Unspecified d n y e p q r s = cc
four_number (Known a) (Known b) (Known c) Unspecified n y e p q r s = cc

fewer : (w : Width) (n : ℕ) (y : Word) → IsNumber Four n y → n < full (size_of w) → IsNumber w n y
fewer w n y h l = record { is = h.is; fits = l }

one_fits : (b : Byte) (n : ℕ) (y : Byte) → ByteLessSpecified b y → known_bytes b (Known 0) (Known 0) (Known 0) ≡ Some n → n < 256
one_fits (Known a) n y p e =
    let g : a + 256 * 0 + 65536 * 0 + 16777216 * 0 ≡ n = some_number _ n e in
    let h : a < 256 = p.1 in
    omega arith
one_fits Unspecified n y p e = cc

two_fits : (a b : Byte) (n : ℕ) (y z : Byte) → ByteLessSpecified a y → ByteLessSpecified b z → known_bytes a b (Known 0) (Known 0) ≡ Some n → n < 65536
two_fits (Known a) (Known b) n y z p q e =
    let g : a + 256 * b + 65536 * 0 + 16777216 * 0 ≡ n = some_number _ n e in
    let h : a < 256 = p.1 in
    let k : b < 256 = q.1 in
    omega arith
two_fits Unspecified b n y z p q e = cc
two_fits (Known a) Unspecified n y z p q e = cc

pub number_below : (w : Width) (a : Word) (n : ℕ) (y : Word) → number (size_of w) a ≡ Some n → WordLessSpecified (cut (size_of w) a) y → IsNumber w n y
unfolding number cut known
number_below One a n y e h = fewer One n y (four_number a.b0 (Known 0) (Known 0) (Known 0) n y e h.b0 h.b1 h.b2 h.b3) (one_fits a.b0 n y.b0 h.b0 e)
number_below Two a n y e h = fewer Two n y (four_number a.b0 a.b1 (Known 0) (Known 0) n y e h.b0 h.b1 h.b2 h.b3) (two_fits a.b0 a.b1 n y.b0 y.b1 h.b0 h.b1 e)
number_below Four a n y e h = four_number a.b0 a.b1 a.b2 a.b3 n y e h.b0 h.b1 h.b2 h.b3

-- ---- less specified
pub word_below : (n : ℕ) → WordLessSpecified (word_of n) (word_of n)
unfolding word_of
word_below n = record { b0 = (refl, omega arith); b1 = (refl, omega arith); b2 = (refl, omega arith); b3 = (refl, omega arith) }

pub cut_again : (w : Width) (x : Word) → cut (size_of w) (cut (size_of w) x) ≡ cut (size_of w) x
unfolding cut
cut_again One x = refl
cut_again Two x = refl
cut_again Four x = refl

pub cut_word : (w : Width) (n : ℕ) → cut (size_of w) (word_of n) ≡ word_of (n % full (size_of w))
unfolding cut word_of
cut_word One n = same_bytes _ _ _ _ _ _ _ _ (same_byte _ _ (omega arith)) (same_byte _ _ (omega arith)) (same_byte _ _ (omega arith)) (same_byte _ _ (omega arith))
cut_word Two n = same_bytes _ _ _ _ _ _ _ _ (same_byte _ _ (omega arith)) (same_byte _ _ (omega arith)) (same_byte _ _ (omega arith)) (same_byte _ _ (omega arith))
cut_word Four n = same_bytes _ _ _ _ _ _ _ _ (same_byte _ _ (omega arith)) (same_byte _ _ (omega arith)) (same_byte _ _ (omega arith)) (same_byte _ _ (omega arith))

-- a known result of the width
pub known_matches : (w : Width) (r : ℕ) (y : Word) → y ≡ word_of r → r < full (size_of w) → WordLessSpecified (cut (size_of w) (word_of r)) y
known_matches w r y e l =
    let q = cut_word w r ∙ same_word _ _ (small_mod w r l) in
    subst (λ z. WordLessSpecified z y) (sym q) (subst (WordLessSpecified (word_of r)) (sym e) (word_below r))

-- ---- sums, differences and products
sum_small : (n m : ℕ) → n < 4294967296 → m < 4294967296 → sum_of (word_of n) (word_of m) ≡ word_of ((n + m + 0) % 4294967296)
unfolding sum_of add sum
sum_small n m h k = ap₂ (λ p q. (of_known (sum 4) (no_result 4) p q (Some false)).value) (number_word n h) (number_word m k)

pub sum_words : (n m : ℕ) → sum_of (word_of n) (word_of m) ≡ word_of (n + m)
sum_words n m =
    ap₂ sum_of (sym (word_mod n)) (sym (word_mod m)) ∙ sum_small (n % 4294967296) (m % 4294967296) (omega arith) (omega arith)
    ∙ word_to _ _ (let e : (n % 4294967296 + m % 4294967296 + 0) % 4294967296 % 4294967296 ≡ (n + m) % 4294967296 = omega arith in e)

difference_small : (n m : ℕ) → n < 4294967296 → m < 4294967296 → difference_of (word_of n) (word_of m) ≡ word_of ((4294967296 + n - (m + 0)) % 4294967296)
unfolding difference_of sub difference
difference_small n m h k = ap₂ (λ p q. (of_known (difference 4) (no_result 4) p q (Some false)).value) (number_word n h) (number_word m k)

pub difference_words : (n m : ℕ) → m < 4294967296 → difference_of (word_of n) (word_of m) ≡ word_of (n + 4294967296 - m)
difference_words n m h =
    ap (λ x. difference_of x (word_of m)) (sym (word_mod n)) ∙ difference_small (n % 4294967296) m (omega arith) h
    ∙ word_to _ _ (let e : (4294967296 + n % 4294967296 - (m + 0)) % 4294967296 % 4294967296 ≡ (n + 4294967296 - m) % 4294967296 = omega (arith, h) in e)

product_small : (n m : ℕ) → n < 4294967296 → m < 4294967296 → calculations.product_of (word_of n) (word_of m) ≡ word_of (n * m % 18446744073709551616 % 4294967296)
unfolding calculations.product_of multiply
product_small n m h k = ap₂ (λ p q. (product_of false 4 p q).low) (number_word n h) (number_word m k)

pub product_words : (n m : ℕ) → n < 4294967296 → m < 4294967296 → calculations.product_of (word_of n) (word_of m) ≡ word_of (n * m)
product_words n m h k = product_small n m h k ∙ word_to _ _ (let e : n * m % 18446744073709551616 % 4294967296 % 4294967296 ≡ n * m % 4294967296 = omega arith in e)

-- ---- comparisons
pub equal_words : (n m : ℕ) → n < 4294967296 → m < 4294967296 → equal_of (word_of n) (word_of m) ≡ word_of (one_if (n == m))
unfolding equal_of
equal_words n m h k = ap₂ (compared (λ a b. a == b)) (known_word n h) (known_word m k)

pub below_words : (n m : ℕ) → n < 4294967296 → m < 4294967296 → below_of (word_of n) (word_of m) ≡ word_of (one_if (ltb n m))
unfolding below_of
below_words n m h k = ap₂ (compared ltb) (known_word n h) (known_word m k)

-- ---- bitwise operations
and_at : (a b j : ℕ) → bit_and (a / 2 ^ j % 2 ^ 8) (b / 2 ^ j % 2 ^ 8) ≡ bit_and a b / 2 ^ j % 2 ^ 8
and_at a b j = sym (and_mod (a / 2 ^ j) (b / 2 ^ j) 8) ∙ ap (λ n. n % 2 ^ 8) (sym (and_shr a b j))

pub and_words : (a b : ℕ) → and_of (word_of a) (word_of b) ≡ word_of (bit_and a b)
unfolding and_of bitwise cut word_of
and_words a b = same_bytes _ _ _ _ _ _ _ _ (same_byte _ _ (sym (and_mod a b 8))) (same_byte _ _ (and_at a b 8)) (same_byte _ _ (and_at a b 16)) (same_byte _ _ (and_at a b 24))

xor_at : (a b j : ℕ) → bit_xor (a / 2 ^ j % 2 ^ 8) (b / 2 ^ j % 2 ^ 8) ≡ bit_xor a b / 2 ^ j % 2 ^ 8
xor_at a b j = sym (xor_mod (a / 2 ^ j) (b / 2 ^ j) 8) ∙ ap (λ n. n % 2 ^ 8) (sym (xor_shr a b j))

pub xor_words : (a b : ℕ) → xor_of (word_of a) (word_of b) ≡ word_of (bit_xor a b)
unfolding xor_of bitwise cut word_of
xor_words a b = same_bytes _ _ _ _ _ _ _ _ (same_byte _ _ (sym (xor_mod a b 8))) (same_byte _ _ (xor_at a b 8)) (same_byte _ _ (xor_at a b 16)) (same_byte _ _ (xor_at a b 24))

or_bytes : (a b : ℕ) → a < 256 → b < 256 → or_byte (Known a) (Known b) ≡ Known (bit_or a b)
or_bytes a b h k = cases (a == 255) refl (b == 255) refl
  where
    cases : (s : Bool) → (a == 255) ≡ s → (t : Bool) → (b == 255) ≡ t → cond s (Known 255) (cond t (Known 255) (Known (bit_or a b))) ≡ Known (bit_or a b)
    cases true e t f = ap (λ n. Known n) (omega (arith, eqb-true a 255 e, le_or_l a b, or_of_8 a b h k))
    cases false e true f = ap (λ n. Known n) (omega (arith, eqb-true b 255 f, le_or_r a b, or_of_8 a b h k))
    cases false e false f = refl

or_at : (a b j : ℕ) → bit_or (a / 2 ^ j % 2 ^ 8) (b / 2 ^ j % 2 ^ 8) ≡ bit_or a b / 2 ^ j % 2 ^ 8
or_at a b j = sym (or_mod (a / 2 ^ j) (b / 2 ^ j) 8) ∙ ap (λ n. n % 2 ^ 8) (sym (or_shr a b j))

pub or_words : (a b : ℕ) → or_of (word_of a) (word_of b) ≡ word_of (bit_or a b)
unfolding or_of bitwise cut word_of
or_words a b = same_bytes _ _ _ _ _ _ _ _
    (or_bytes (a % 256) (b % 256) (omega arith) (omega arith) ∙ same_byte _ _ (sym (or_mod a b 8)))
    (or_bytes (a / 256 % 256) (b / 256 % 256) (omega arith) (omega arith) ∙ same_byte _ _ (or_at a b 8))
    (or_bytes (a / 65536 % 256) (b / 65536 % 256) (omega arith) (omega arith) ∙ same_byte _ _ (or_at a b 16))
    (or_bytes (a / 16777216 % 256) (b / 16777216 % 256) (omega arith) (omega arith) ∙ same_byte _ _ (or_at a b 24))

-- a mask of the lowest bits
pub mask_words : (w : Width) (n : ℕ) → and_of (word_of n) (word_of (mask w)) ≡ word_of (n % full (size_of w))
mask_words One n = and_words n 255 ∙ same_word _ _ (and_mask n 8)
mask_words Two n = and_words n 65535 ∙ same_word _ _ (and_mask n 16)
mask_words Four n = and_words n 4294967295 ∙ same_word _ _ (and_mask n 32)

pub low_bit : (n : ℕ) → and_of (word_of n) (word_of 1) ≡ word_of (n % 2)
low_bit n = and_words n 1 ∙ same_word _ _ (and_mask n 1)

-- ---- bits
pub xor_bits : (p q : Bool) → xor_of (word_of (one_if p)) (word_of (one_if q)) ≡ word_of (one_if (differ p q))
unfolding xor_of bitwise cut word_of
xor_bits true true = refl
xor_bits true false = refl
xor_bits false true = refl
xor_bits false false = refl

pub and_bits : (p q : Bool) → and_of (word_of (one_if p)) (word_of (one_if q)) ≡ word_of (one_if (p && q))
unfolding and_of bitwise cut word_of
and_bits true true = refl
and_bits true false = refl
and_bits false true = refl
and_bits false false = refl

pub or_bits : (p q : Bool) → or_of (word_of (one_if p)) (word_of (one_if q)) ≡ word_of (one_if (p || q))
unfolding or_of bitwise cut word_of
or_bits true true = refl
or_bits true false = refl
or_bits false true = refl
or_bits false false = refl

pub bit_of : (n : ℕ) → n % 2 ≡ one_if (n % 2 == 1)
bit_of n = cases (n % 2 == 1) refl
  where
    cases : (b : Bool) → (n % 2 == 1) ≡ b → n % 2 ≡ one_if b
    cases true e = eqb-true (n % 2) 1 e
    cases false e = omega (arith, eqb-false (n % 2) 1 e)

-- ---- shifts by fewer than 32 bits
count_byte : (c : ℕ) → c < 32 → known_byte (word_of c).b0 ≡ Some c
unfolding word_of
count_byte c h = let e : c % 256 ≡ c = omega arith in ap (λ x. Some x) e

-- by at least one bit, and by none
shifted_words : (kind : ShiftOp) (n c : ℕ) → n < 4294967296 → 0 < c → c < 32 → shifted_of kind (word_of n) (word_of c) ≡ (shifted kind 4 n c no_flags).value
unfolding shifted_of shift
shifted_words kind n c h l k =
    let e : c % 32 ≡ c = omega arith in
    let z : (c == 0) ≡ false = ne_eqb c 0 (λ q. omega (arith, q)) in
    ap (λ o. (shift_by kind 4 (word_of n) o no_flags).value) (count_byte c k)
    ∙ ap (λ x. (cond (x == 0) (record { value = cut 4 (word_of n); flags = no_flags }) (shifted_if kind 4 (number 4 (word_of n)) x no_flags)).value) e
    ∙ ap (λ t. (cond t (record { value = cut 4 (word_of n); flags = no_flags }) (shifted_if kind 4 (number 4 (word_of n)) c no_flags)).value) z
    ∙ ap (λ o. (shifted_if kind 4 o c no_flags).value) (number_word n h)

pub unshifted_words : (kind : ShiftOp) (x : Word) → shifted_of kind x (word_of 0) ≡ x
unfolding shifted_of shift word_of cut
unshifted_words kind x = refl

shr_more : (n c : ℕ) → (shifted shiftop.Shr 4 n c no_flags).value ≡ word_of (n / 2 ^ c)
unfolding shifted
shr_more n c = word_mod ((n + 4294967296 * 0) / 2 ^ c) ∙ ap (λ m. word_of (m / 2 ^ c)) (let e : n + 4294967296 * 0 ≡ n = omega arith in e)

pub shr_words : (n c : ℕ) → n < 4294967296 → c < 32 → shifted_of shiftop.Shr (word_of n) (word_of c) ≡ word_of (n / 2 ^ c)
shr_words n c h k = cases (c == 0) refl
  where
    cases : (b : Bool) → (c == 0) ≡ b → shifted_of shiftop.Shr (word_of n) (word_of c) ≡ word_of (n / 2 ^ c)
    cases true e = subst (λ c. shifted_of shiftop.Shr (word_of n) (word_of c) ≡ word_of (n / 2 ^ c)) (sym (eqb-true c 0 e)) (unshifted_words shiftop.Shr (word_of n) ∙ same_word _ _ (let q : n ≡ n / 1 = omega arith in q))
    cases false e = let l : 0 < c = omega (arith, eqb-false c 0 e) in shifted_words shiftop.Shr n c h l k ∙ shr_more n c

shl_more : (n c : ℕ) → (shifted shiftop.Shl 4 n c no_flags).value ≡ word_of (n * 2 ^ c)
unfolding shifted
shl_more n c = word_mod (n * 2 ^ c)

pub shl_words : (n c : ℕ) → n < 4294967296 → c < 32 → shifted_of shiftop.Shl (word_of n) (word_of c) ≡ word_of (n * 2 ^ c)
shl_words n c h k = cases (c == 0) refl
  where
    cases : (b : Bool) → (c == 0) ≡ b → shifted_of shiftop.Shl (word_of n) (word_of c) ≡ word_of (n * 2 ^ c)
    cases true e = subst (λ c. shifted_of shiftop.Shl (word_of n) (word_of c) ≡ word_of (n * 2 ^ c)) (sym (eqb-true c 0 e)) (unshifted_words shiftop.Shl (word_of n) ∙ same_word _ _ (let q : n ≡ n * 1 = omega arith in q))
    cases false e = let l : 0 < c = omega (arith, eqb-false c 0 e) in shifted_words shiftop.Shl n c h l k ∙ shl_more n c

sar_more : (n c : ℕ) → (shifted shiftop.Sar 4 n c no_flags).value ≡ word_of (right_shifted 4 n (is_negative 4 n) c)
unfolding shifted
sar_more n c = refl

pub sar_words : (n c : ℕ) → n < 4294967296 → 0 < c → c < 32 → shifted_of shiftop.Sar (word_of n) (word_of c) ≡ word_of (right_shifted 4 n (is_negative 4 n) c)
sar_words n c h l k = shifted_words shiftop.Sar n c h l k ∙ sar_more n c

-- ---- the highest bit of a width
highest_by : (k n : ℕ) (b : Bool) → leb k n ≡ b → (k ≤ n → n / k ≡ 1) → (n < k → n / k ≡ 0) → n / k ≡ one_if b
highest_by k n true e p q = p (leb-true k n e)
highest_by k n false e p q = q (leb-false k n e)

pub highest : (w : Width) (n : ℕ) → n < full (size_of w) → n / half (size_of w) ≡ one_if (is_negative (size_of w) n)
highest One n h = highest_by 128 n (leb 128 n) refl (λ l. omega (arith, h, l)) (λ l. omega (arith, h, l))
highest Two n h = highest_by 32768 n (leb 32768 n) refl (λ l. omega (arith, h, l)) (λ l. omega (arith, h, l))
highest Four n h = highest_by 2147483648 n (leb 2147483648 n) refl (λ l. omega (arith, h, l)) (λ l. omega (arith, h, l))

pub top_words : (w : Width) (n : ℕ) → n < full (size_of w) → shifted_of shiftop.Shr (word_of n) (word_of (top w)) ≡ word_of (one_if (is_negative (size_of w) n))
top_words One n h = shr_words n 7 (omega (arith, h)) (lit< tt) ∙ same_word _ _ (highest One n h)
top_words Two n h = shr_words n 15 (omega (arith, h)) (lit< tt) ∙ same_word _ _ (highest Two n h)
top_words Four n h = shr_words n 31 (omega (arith, h)) (lit< tt) ∙ same_word _ _ (highest Four n h)

-- ---- masks of whole bytes, where bytes may be unspecified
pub byte_off : (y : Byte) → and_byte y (Known 0) ≡ Known 0
byte_off (Known a) = same_byte _ _ (and_mask a 0 ∙ (let e : a % 1 ≡ 0 = omega arith in e))
byte_off Unspecified = refl

pub byte_on : (x y : Byte) → ByteLessSpecified x y → ByteLessSpecified x (and_byte y (Known 255))
byte_on (Known a) y (p, q) = subst (λ z. ByteLessSpecified (Known a) (and_byte z (Known 255))) (sym p) (same_byte _ _ (and_mask a 8 ∙ (let e : a % 256 ≡ a = omega arith in e)), q)
byte_on Unspecified y p = tt

mask_one : (w : Word) → and_of w (word_of 255) ≡ bytes (and_byte w.b0 (Known 255)) (Known 0) (Known 0) (Known 0)
unfolding and_of bitwise cut word_of
mask_one w = same_bytes _ _ _ _ _ _ _ _ refl (byte_off w.b1) (byte_off w.b2) (byte_off w.b3)

mask_two : (w : Word) → and_of w (word_of 65535) ≡ bytes (and_byte w.b0 (Known 255)) (and_byte w.b1 (Known 255)) (Known 0) (Known 0)
unfolding and_of bitwise cut word_of
mask_two w = same_bytes _ _ _ _ _ _ _ _ refl refl (byte_off w.b2) (byte_off w.b3)

mask_four : (x y : Word) → WordLessSpecified x y → WordLessSpecified x (and_of y (word_of 4294967295))
unfolding and_of bitwise cut word_of
mask_four x y h = record { b0 = byte_on x.b0 y.b0 h.b0; b1 = byte_on x.b1 y.b1 h.b1; b2 = byte_on x.b2 y.b2 h.b2; b3 = byte_on x.b3 y.b3 h.b3 }

-- of words whose lowest bytes match, whatever stands above
pub mask_matches : (w : Width) (x y : Word) → WordLessSpecified x y → WordLessSpecified (cut (size_of w) x) (and_of y (word_of (mask w)))
unfolding cut
mask_matches One x y h = subst (WordLessSpecified _) (sym (mask_one y)) (record { b0 = byte_on _ _ h.b0; b1 = (refl, lit< tt); b2 = (refl, lit< tt); b3 = (refl, lit< tt) })
mask_matches Two x y h = subst (WordLessSpecified _) (sym (mask_two y)) (record { b0 = byte_on _ _ h.b0; b1 = byte_on _ _ h.b1; b2 = (refl, lit< tt); b3 = (refl, lit< tt) })
mask_matches Four x y h = mask_four x y h

-- of words that are cut already
pub mask_keeps : (w : Width) (x y : Word) → WordLessSpecified (cut (size_of w) x) y → WordLessSpecified (cut (size_of w) x) (and_of y (word_of (mask w)))
mask_keeps w x y h = subst (λ z. WordLessSpecified z (and_of y (word_of (mask w)))) (cut_again w x) (mask_matches w (cut (size_of w) x) y h)

nothing_below : (y : Word) → WordLessSpecified no_word y
nothing_below y = record { b0 = tt; b1 = tt; b2 = tt; b3 = tt }

-- a result of which nothing is known, and what a mask leaves of any word
pub nothing_matches : (w : Width) (y z : Word) → z ≡ and_of y (word_of (mask w)) → WordLessSpecified (cut (size_of w) (cut (size_of w) no_word)) z
nothing_matches w y z e = subst (WordLessSpecified _) (sym e) (subst (λ x. WordLessSpecified x (and_of y (word_of (mask w)))) (sym (cut_again w no_word)) (mask_matches w no_word y (nothing_below y)))
