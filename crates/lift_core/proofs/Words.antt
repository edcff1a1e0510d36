-- Words of numbers, and what the calculations make of them.
use Rattle.std.proofs.Common.{◌≡◌, ℕ, ◌+◌, ◌-◌, ◌*◌, ◌/◌, ◌%◌, ◌^◌, ◌<◌, false, Some, refl, sym, ◌∙◌, ap, subst, arith, mul_comm, bit_and}
use Rattle.std.proofs.lemmas.Nat.{and_mask, mul-mod_first}
use Rattle.x86_values.specs.declared.byte.Byte.{Byte}
use Rattle.x86_values.specs.declared.byte.Byte.TheVariants.{Known, Unspecified}
use Rattle.x86_values.specs.declared.word.Word.{Word}
use Rattle.x86_values.specs.Words.{word_of, known, known_byte, known_bytes}
use Rattle.x86_values.specs.Sizes.{cut, number}
use Rattle.x86_values.specs.LessSpecified.{ByteLessSpecified, WordLessSpecified}
use Rattle.x86_values.specs.Logic.{and_byte, bitwise}
use Rattle.x86_values.specs.Sums.{of_known, add, sum, sub, difference}
use Rattle.x86_values.specs.Results.{no_result, no_flags}
use Rattle.x86_values.specs.Products.{multiply, product_of as product_by}
use Rattle.x86_values.specs.Shifts.{shift, shifted, shifted_if}
use Rattle.x86_types.specs.declared.operation.ShiftOp.TheVariants as shiftop
use Rattle.x86_types.specs.declared.width.Width.{Width}
use Rattle.x86_types.specs.declared.width.Width.TheVariants.{One, Two, Four}
use Rattle.x86_types.specs.Numbers.{size_of}
use Rattle.flag_ir.specs.Calculations.{sum_of, difference_of, and_of, product_of, shifted_of}
use Rattle.lift_relation.specs.Cores.{CutMatches}
use Rattle.lift_values.specs.Terms.{mask}
use Rattle.lift_core.specs.Pieces.{number_of}

abbrev pub four : Byte → Byte → Byte → Byte → Word
four a b c d = record { b0 = a; b1 = b; b2 = c; b3 = d }

pub same_four : (a b c d e f g h : Byte) → a ≡ e → b ≡ f → c ≡ g → d ≡ h → four a b c d ≡ four e f g h
same_four a b c d e f g h p q r s = λ i. record { b0 = p i; b1 = q i; b2 = r i; b3 = s i }

pub same_known : (a n : ℕ) → a ≡ n → Known a ≡ Known n
same_known a n e = ap (λ x. Known x) e

some_number : (a b : ℕ) → Some a ≡ Some b → a ≡ b
some_number a b e = cc

pub known_word : (n : ℕ) → n < 2 ^ 32 → known (word_of n) ≡ Some n
unfolding known word_of
known_word n h =
    let e : n % 256 + 256 * (n / 256 % 256) + 65536 * (n / 65536 % 256) + 16777216 * (n / 16777216 % 256) ≡ n = omega arith in
    ap (λ x. Some x) e

-- ---- what is known on the left is the same on the right
pub record IsNumber (n : ℕ) (y : Word) : Type 0 where
  pub is : y ≡ word_of n
  pub fits : n < 2 ^ 32

known_four : (a b c d : Byte) (n : ℕ) (y : Word) → known_bytes a b c d ≡ Some n → ByteLessSpecified a y.b0 → ByteLessSpecified b y.b1 → ByteLessSpecified c y.b2 → ByteLessSpecified d y.b3 → IsNumber n y
unfolding word_of
known_four (Known a) (Known b) (Known c) (Known d) n y e p q r s =
    let g : a + 256 * b + 65536 * c + 16777216 * d ≡ n = some_number _ n e in
    let ha : a < 256 = p.1 in
    let hb : b < 256 = q.1 in
    let hc : c < 256 = r.1 in
    let hd : d < 256 = s.1 in
    let ea : a ≡ n % 256 = omega arith in
    let eb : b ≡ n / 256 % 256 = omega arith in
    let ec : c ≡ n / 65536 % 256 = omega arith in
    let ed : d ≡ n / 16777216 % 256 = omega arith in
    record {
      is = same_four y.b0 y.b1 y.b2 y.b3 _ _ _ _ (p.0 ∙ same_known a _ ea) (q.0 ∙ same_known b _ eb) (r.0 ∙ same_known c _ ec) (s.0 ∙ same_known d _ ed);
      fits = omega arith;
    }
known_four Unspecified b c d n y e p q r s = absurd cc
known_four (Known a) Unspecified c d n y e p q r s = absurd cc
known_four (Known a) (Known b) Unspecified d n y e p q r s = absurd cc
known_four (Known a) (Known b) (Known c) Unspecified n y e p q r s = absurd cc

pub known_less : (x : Word) (n : ℕ) (y : Word) → known x ≡ Some n → WordLessSpecified x y → IsNumber n y
unfolding known
known_less x n y e h = known_four x.b0 x.b1 x.b2 x.b3 n y e h.b0 h.b1 h.b2 h.b3

pub known_in : (n : ℕ) (y : Word) → IsNumber n y → known y ≡ Some n
known_in n y h = ap known h.is ∙ known_word n h.fits

-- the word of a number is less specified than itself
pub word_itself : (n : ℕ) → WordLessSpecified (word_of n) (word_of n)
unfolding word_of
word_itself n = record { b0 = (refl, omega arith); b1 = (refl, omega arith); b2 = (refl, omega arith); b3 = (refl, omega arith) }

pub number_itself : (n : ℕ) (y : Word) → IsNumber n y → WordLessSpecified (word_of n) y
number_itself n y h = subst (WordLessSpecified (word_of n)) (sym h.is) (word_itself n)

-- ---- a word doesn't see more than 32 bits
pub word_mod : (n : ℕ) → word_of n ≡ word_of (n % 4294967296)
unfolding word_of
word_mod n =
    let a : n % 256 ≡ n % 4294967296 % 256 = omega arith in
    let b : n / 256 % 256 ≡ n % 4294967296 / 256 % 256 = omega arith in
    let c : n / 65536 % 256 ≡ n % 4294967296 / 65536 % 256 = omega arith in
    let d : n / 16777216 % 256 ≡ n % 4294967296 / 16777216 % 256 = omega arith in
    same_four _ _ _ _ _ _ _ _ (same_known _ _ a) (same_known _ _ b) (same_known _ _ c) (same_known _ _ d)

-- ---- sums and products of numbers
whole_number : (n : ℕ) → n < 2 ^ 32 → number 4 (word_of n) ≡ Some n
unfolding number cut
whole_number n h = known_word n h

sum_words : (n m : ℕ) → n < 2 ^ 32 → m < 2 ^ 32 → sum_of (word_of n) (word_of m) ≡ word_of ((n + m) % 4294967296)
unfolding sum_of add sum
sum_words n m h k =
    let e : (n + m + 0) % 4294967296 ≡ (n + m) % 4294967296 = omega arith in
    ap (λ x. (of_known (sum 4) (no_result 4) x (number 4 (word_of m)) (Some false)).value) (whole_number n h)
    ∙ ap (λ x. (of_known (sum 4) (no_result 4) (Some n) x (Some false)).value) (whole_number m k)
    ∙ ap (λ x. word_of x) e

pub sum_any : (n m : ℕ) (y : Word) → IsNumber n y → IsNumber ((n + m) % 4294967296) (sum_of y (word_of m))
sum_any n m y h = record {
  is = ap (λ x. sum_of x (word_of m)) h.is ∙ ap (sum_of (word_of n)) (word_mod m) ∙ sum_words n (m % 4294967296) h.fits (omega arith) ∙ ap (λ x. word_of x) (let e : (n + m % 4294967296) % 4294967296 ≡ (n + m) % 4294967296 = omega arith in e);
  fits = omega arith;
}

difference_words : (n m : ℕ) → n < 2 ^ 32 → m < 2 ^ 32 → difference_of (word_of n) (word_of m) ≡ word_of ((4294967296 + n - (m + 0)) % 4294967296)
unfolding difference_of sub difference
difference_words n m h k =
    ap (λ x. (of_known (difference 4) (no_result 4) x (number 4 (word_of m)) (Some false)).value) (whole_number n h)
    ∙ ap (λ x. (of_known (difference 4) (no_result 4) (Some n) x (Some false)).value) (whole_number m k)

pub difference_any : (n m : ℕ) (y : Word) → m < 2 ^ 32 → IsNumber n y → IsNumber ((n + (4294967296 - m)) % 4294967296) (difference_of y (word_of m))
difference_any n m y k h =
    let e : (4294967296 + n - (m + 0)) % 4294967296 ≡ (n + (4294967296 - m)) % 4294967296 = ap (λ x. x % 4294967296) (let f : 4294967296 + n - (m + 0) ≡ n + (4294967296 - m) = omega arith in f) in
    record { is = ap (λ x. difference_of x (word_of m)) h.is ∙ difference_words n m h.fits k ∙ ap (λ x. word_of x) e; fits = omega arith }

product_words : (n m : ℕ) → n < 2 ^ 32 → m < 2 ^ 32 → product_of (word_of n) (word_of m) ≡ word_of (n * m % 4294967296)
unfolding product_of multiply
product_words n m h k =
    ap (λ x. (product_by false 4 x (number 4 (word_of m))).low) (whole_number n h)
    ∙ ap (λ x. (product_by false 4 (Some n) x).low) (whole_number m k)
    ∙ ap (λ x. word_of x) (twice (n * m))
  where
    twice : (p : ℕ) → p % 18446744073709551616 % 4294967296 ≡ p % 4294967296
    twice p = omega arith

pub product_any : (n m : ℕ) (y : Word) → IsNumber n y → IsNumber (n * m % 4294967296) (product_of y (word_of m))
product_any n m y h = record {
  is = ap (λ x. product_of x (word_of m)) h.is ∙ ap (product_of (word_of n)) (word_mod m) ∙ product_words n (m % 4294967296) h.fits (omega arith) ∙ ap (λ x. word_of x) (ap (λ k. k % 4294967296) (mul_comm n (m % 4294967296)) ∙ mul-mod_first m n 4294967296 ∙ ap (λ k. k % 4294967296) (mul_comm m n));
  fits = omega arith;
}

-- ---- masks of whole bytes
and_zero : (n : ℕ) → bit_and n 0 ≡ 0
and_zero n = and_mask n 0 ∙ (omega arith)

and_low : (n : ℕ) → bit_and n 255 ≡ n % 256
and_low n = and_mask n 8

pub byte_off : (y : Byte) → and_byte y (Known 0) ≡ Known 0
byte_off (Known a) = ap (λ x. Known x) (and_zero a)
byte_off Unspecified = refl

pub byte_on : (x y : Byte) → ByteLessSpecified x y → ByteLessSpecified x (and_byte y (Known 255))
byte_on (Known a) y (p, q) = subst (λ z. ByteLessSpecified (Known a) (and_byte z (Known 255))) (sym p) (ap (λ x. Known x) (and_low a ∙ (let e : a % 256 ≡ a = omega arith in e)), q)
byte_on Unspecified y p = tt

pub zero_byte : ByteLessSpecified (Known 0) (Known 0)
zero_byte = (refl, omega arith)

-- a byte that is masked out
pub zero_off : (y : Byte) → ByteLessSpecified (Known 0) (and_byte y (Known 0))
zero_off y = (byte_off y, omega arith)

-- the mask of a width cuts, whatever stands above
pub mask_cuts : (w : Width) (x y : Word) → WordLessSpecified x y → CutMatches (size_of w) x (and_of y (word_of (mask w)))
unfolding cut and_of bitwise word_of
mask_cuts One x y h = record { b0 = byte_on _ _ h.b0; b1 = zero_off _; b2 = zero_off _; b3 = zero_off _ }
mask_cuts Two x y h = record { b0 = byte_on _ _ h.b0; b1 = byte_on _ _ h.b1; b2 = zero_off _; b3 = zero_off _ }
mask_cuts Four x y h = record { b0 = byte_on _ _ h.b0; b1 = byte_on _ _ h.b1; b2 = byte_on _ _ h.b2; b3 = byte_on _ _ h.b3 }

-- and of a word that is cut already
pub mask_again : (w : Width) (x y : Word) → CutMatches (size_of w) x y → CutMatches (size_of w) x (and_of y (word_of (mask w)))
unfolding cut and_of bitwise word_of
mask_again One x y h = record { b0 = byte_on _ _ h.b0; b1 = zero_off _; b2 = zero_off _; b3 = zero_off _ }
mask_again Two x y h = record { b0 = byte_on _ _ h.b0; b1 = byte_on _ _ h.b1; b2 = zero_off _; b3 = zero_off _ }
mask_again Four x y h = record { b0 = byte_on _ _ h.b0; b1 = byte_on _ _ h.b1; b2 = byte_on _ _ h.b2; b3 = byte_on _ _ h.b3 }

-- ---- a shift of a number by eight
eight : known_byte (word_of 8).b0 ≡ Some 8
unfolding word_of
eight = refl

pub right_eight : (n : ℕ) → n < 2 ^ 32 → shifted_of shiftop.Shr (word_of n) (word_of 8) ≡ word_of ((n + 0) / 256 % 4294967296)
unfolding shifted_of shift word_of shifted
right_eight n h = ap (λ x. (shifted_if shiftop.Shr 4 x 8 no_flags).value) (whole_number n h)

pub left_eight : (n : ℕ) → n < 2 ^ 32 → shifted_of shiftop.Shl (word_of n) (word_of 8) ≡ word_of (n * 256 % 4294967296)
unfolding shifted_of shift word_of shifted
left_eight n h = ap (λ x. (shifted_if shiftop.Shl 4 x 8 no_flags).value) (whole_number n h)

lowest_byte : (n : ℕ) → cut 1 (word_of n) ≡ word_of (n % 256)
unfolding cut word_of
lowest_byte n = same_four _ _ _ _ _ _ _ _ (same_known _ _ (omega arith)) (same_known _ _ (omega arith)) (same_known _ _ (omega arith)) (same_known _ _ (omega arith))

two_bytes : (n : ℕ) → cut 2 (word_of n) ≡ word_of (n % 65536)
unfolding cut word_of
two_bytes n = same_four _ _ _ _ _ _ _ _ (same_known _ _ (omega arith)) (same_known _ _ (omega arith)) (same_known _ _ (omega arith)) (same_known _ _ (omega arith))

all_bytes : (x : Word) → WordLessSpecified x x → CutMatches 4 x x
unfolding cut
all_bytes x h = record { b0 = h.b0; b1 = h.b1; b2 = h.b2; b3 = h.b3 }

-- the number of a constant, cut to a width
pub cut_word : (w : Width) (n : ℕ) → CutMatches (size_of w) (word_of n) (word_of (number_of w n))
unfolding cut
cut_word One n = subst (λ (x : Word). WordLessSpecified x (word_of (n % 256))) (sym (lowest_byte n)) (word_itself (n % 256))
cut_word Two n = subst (λ (x : Word). WordLessSpecified x (word_of (n % 65536))) (sym (two_bytes n)) (word_itself (n % 65536))
cut_word Four n = all_bytes (word_of n) (word_itself n)
