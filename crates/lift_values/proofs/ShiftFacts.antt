-- What the words of a shift come to, of a number and a count from 1 to 31.
use Rattle.std.proofs.Common.{◌≡◌, ℕ, ◌+◌, ◌-◌, ◌*◌, ◌/◌, ◌%◌, ◌^◌, ◌<◌, ◌≤◌, ◌==◌, Bool, true, false, cond, ltb, Option, Some, None, refl, sym, ◌∙◌, ap, ap₂, arith, lit<}
use Rattle.std.proofs.lemmas.Bool.{eqb-true, ltb-true}
use Rattle.std.proofs.lemmas.Nat.{shr_le}
use Rattle.std.proofs.Math.Nat.{mod-eq_of_lt}
use Rattle.x86_values.specs.declared.word.Word.{Word}
use Rattle.x86_values.specs.Words.{word_of}
use Rattle.x86_values.specs.Sizes.{full, half, bits, is_negative}
use Rattle.x86_values.specs.Results.{differ}
use Rattle.x86_values.specs.Shifts.{if_within, if_one, filled, left_shifted, left_out, right_shifted, right_out, left_rotated, right_rotated}
use Rattle.x86_types.specs.declared.operation.ShiftOp.TheVariants.{Shl, Shr, Sar}
use Rattle.x86_types.specs.declared.width.Width.{Width}
use Rattle.x86_types.specs.declared.width.Width.TheVariants.{One, Two, Four}
use Rattle.x86_types.specs.Numbers.{size_of}
use Rattle.flag_ir.specs.Calculations.{one_if, shifted_of, difference_of, and_of, or_of, xor_of}
use Rattle.lift_relation.specs.Matching.{FlagMatches}
use Rattle.lift_values.specs.Terms.{width_bits, top, mask}
use Rattle.lift_values.specs.Shifts.{second}
use Rattle.lift_values.proofs.WordLemmas.{below_32, mod_fits, mask_words, low_bit, xor_bits, bit_of, shl_words, shr_words, top_words}
use Rattle.lift_values.proofs.ShiftWords.{sar_words, rotate_mask, rest_of_words, join_words}
use Rattle.lift_values.proofs.ShiftNumbers.{few_bits, leaves, unfilled, extended, extended_fits, sar_number, sar_last, one_extended, two_extended, four_extended, enters, rol_number, ror_number}

-- a result of a width, with its CF and OF
pub record Comes (w : Width) (n : ℕ) (carry overflow : Option Bool) (result out over : Word) : Type 0 where
  pub is : result ≡ word_of n
  pub fits : n < full (size_of w)
  pub carried : FlagMatches carry out
  pub overflowed : FlagMatches overflow over

-- ---- flags that are known for some counts
within_by : (b t : Bool) (y : Word) → (t ≡ true → y ≡ word_of (one_if b)) → FlagMatches (cond t (Some b) None) y
within_by b true y h = h refl
within_by b false y h = tt

pub within_matches : (size c : ℕ) (b : Bool) (y : Word) → (c < bits size → y ≡ word_of (one_if b)) → FlagMatches (if_within size c b) y
within_matches size c b y h = within_by b (ltb c (bits size)) y (λ e. h (ltb-true c (bits size) e))

pub one_matches : (c : ℕ) (b : Bool) (y : Word) → (c ≡ 1 → y ≡ word_of (one_if b)) → FlagMatches (if_one c b) y
one_matches c b y h = within_by b (c == 1) y (λ e. h (eqb-true c 1 e))

one_within : (w : Width) (c : ℕ) → c ≡ 1 → c < bits (size_of w)
one_within One c e = omega (arith, e)
one_within Two c e = omega (arith, e)
one_within Four c e = omega (arith, e)

-- ---- a bit of a word as a flag
bit_words : (x : Word) (n : ℕ) → x ≡ word_of n → and_of x (word_of 1) ≡ word_of (one_if (n % 2 == 1))
bit_words x n e = ap (λ y. and_of y (word_of 1)) e ∙ low_bit n ∙ ap (λ k. word_of k) (bit_of n)

pub sign_words : (w : Width) (x : Word) (n : ℕ) → x ≡ word_of n → n < full (size_of w) → shifted_of Shr x (word_of (top w)) ≡ word_of (one_if (is_negative (size_of w) n))
sign_words w x n e h = ap (λ y. shifted_of Shr y (word_of (top w))) e ∙ top_words w n h

bits_is : (w : Width) → width_bits w ≡ bits (size_of w)
bits_is One = refl
bits_is Two = refl
bits_is Four = refl

-- what is left of the bits
pub rest_words : (w : Width) (c : ℕ) (y : Word) → y ≡ word_of c → c ≤ bits (size_of w) → difference_of (word_of (width_bits w)) y ≡ word_of (bits (size_of w) - c)
rest_words w c y e h = ap₂ (λ k z. difference_of (word_of k) z) (bits_is w) e ∙ rest_of_words (bits (size_of w)) c h (omega (arith, few_bits w))

-- ---- SHL
pub left_out_words : (w : Width) (a c : ℕ) (x y : Word) → x ≡ word_of a → a < full (size_of w) → y ≡ word_of c → 0 < c → c < bits (size_of w) →
    and_of (shifted_of Shr x (difference_of (word_of (width_bits w)) y)) (word_of 1) ≡ word_of (one_if (left_out (size_of w) a c))
left_out_words w a c x y e h f l k =
    let d = bits (size_of w) - c in
    let few : bits (size_of w) ≤ 32 = few_bits w in
    let sum : c + d ≡ bits (size_of w) = omega (arith, k) in
    let small : d < 32 = omega (arith, few, l, k) in
    bit_words _ (a / 2 ^ d) (ap₂ (shifted_of Shr) e (rest_words w c y f (omega (arith, k))) ∙ shr_words a d (below_32 w a h) small)
    ∙ ap (λ n. word_of (one_if (n % 2 == 1))) (sym (leaves w a c d sum))

pub shl_comes : (w : Width) (a c : ℕ) (x y : Word) → x ≡ word_of a → a < full (size_of w) → y ≡ word_of c → 0 < c → c < 32 →
    let r = and_of (shifted_of Shl x y) (word_of (mask w)) in
    let o = and_of (shifted_of Shr x (difference_of (word_of (width_bits w)) y)) (word_of 1) in
    let n = left_shifted (size_of w) a c in
    let carry = left_out (size_of w) a c in
    Comes w n (if_within (size_of w) c carry) (if_one c (differ (is_negative (size_of w) n) carry)) r o (xor_of (shifted_of Shr r (word_of (top w))) o)
shl_comes w a c x y e h f l k =
    let n = left_shifted (size_of w) a c in
    let is : and_of (shifted_of Shl x y) (word_of (mask w)) ≡ word_of n = ap (λ z. and_of z (word_of (mask w))) (ap₂ (shifted_of Shl) e f ∙ shl_words a c (below_32 w a h) k) ∙ mask_words w (a * 2 ^ c) in
    record {
      is = is;
      fits = mod_fits w (a * 2 ^ c);
      carried = within_matches (size_of w) c _ _ (λ m. left_out_words w a c x y e h f l m);
      overflowed = one_matches c _ _ (λ m. ap₂ xor_of (sign_words w _ n is (mod_fits w (a * 2 ^ c))) (left_out_words w a c x y e h f l (one_within w c m)) ∙ xor_bits _ _);
    }

-- ---- SHR and SAR
less_one : (c : ℕ) (y : Word) → y ≡ word_of c → 0 < c → c < 32 → difference_of y (word_of 1) ≡ word_of (c - 1)
less_one c y e l k = ap (λ z. difference_of z (word_of 1)) e ∙ rest_of_words c 1 l (omega (arith, k))

less_fits : (c : ℕ) → c < 32 → c - 1 < 32
less_fits c k = omega (arith, k)

right_fits : (w : Width) (a c : ℕ) → a < full (size_of w) → a / 2 ^ c < full (size_of w)
right_fits w a c h = let m : a / 2 ^ c ≤ a = shr_le a c in omega (arith, m, h)

shr_number : (w : Width) (a c : ℕ) → a < full (size_of w) → a / 2 ^ c ≡ right_shifted (size_of w) a false c
shr_number w a c h = sym (mod-eq_of_lt (right_fits w a c h)) ∙ ap (λ n. n / 2 ^ c % full (size_of w)) (sym (unfilled w a c))

pub shr_out_words : (w : Width) (a c : ℕ) (x y : Word) → x ≡ word_of a → a < full (size_of w) → y ≡ word_of c → 0 < c → c < 32 →
    and_of (shifted_of Shr x (difference_of y (word_of 1))) (word_of 1) ≡ word_of (one_if (a / 2 ^ (c - 1) % 2 == 1))
shr_out_words w a c x y e h f l k = bit_words _ (a / 2 ^ (c - 1)) (ap₂ (shifted_of Shr) e (less_one c y f l k) ∙ shr_words a (c - 1) (below_32 w a h) (less_fits c k))

pub shr_comes : (w : Width) (a c : ℕ) (x y : Word) → x ≡ word_of a → a < full (size_of w) → y ≡ word_of c → 0 < c → c < 32 →
    Comes w (right_shifted (size_of w) a false c) (if_within (size_of w) c (right_out (size_of w) a false c)) (if_one c (is_negative (size_of w) a))
    (shifted_of Shr x y) (and_of (shifted_of Shr x (difference_of y (word_of 1))) (word_of 1)) (shifted_of Shr x (word_of (top w)))
shr_comes w a c x y e h f l k =
    record {
      is = ap₂ (shifted_of Shr) e f ∙ shr_words a c (below_32 w a h) k ∙ ap (λ n. word_of n) (shr_number w a c h);
      fits = mod_fits w (filled (size_of w) a false c / 2 ^ c);
      carried = within_matches (size_of w) c _ _ (λ m. shr_out_words w a c x y e h f l k ∙ ap (λ n. word_of (one_if (n / 2 ^ (c - 1) % 2 == 1))) (sym (unfilled w a c)));
      overflowed = one_matches c _ _ (λ m. sign_words w x a e h);
    }

-- the operand with its sign above it
abbrev pub extended_word : Width → Word → Word
extended_word One x = shifted_of Sar (shifted_of Shl x (word_of 24)) (word_of 24)
extended_word Two x = shifted_of Sar (shifted_of Shl x (word_of 16)) (word_of 16)
extended_word Four x = x

extended_words : (w : Width) (a : ℕ) (x : Word) → x ≡ word_of a → a < full (size_of w) → extended_word w x ≡ word_of (extended w a)
extended_words One a x e h =
    ap (λ y. shifted_of Sar y (word_of 24)) (ap (λ y. shifted_of Shl y (word_of 24)) e ∙ shl_words a 24 (below_32 One a h) (lit< tt))
    ∙ sar_words (a * 2 ^ 24) 24 (omega (arith, h)) (lit< tt) ∙ ap (λ n. word_of n) (one_extended a)
extended_words Two a x e h =
    ap (λ y. shifted_of Sar y (word_of 16)) (ap (λ y. shifted_of Shl y (word_of 16)) e ∙ shl_words a 16 (below_32 Two a h) (lit< tt))
    ∙ sar_words (a * 2 ^ 16) 16 (omega (arith, h)) (lit< tt) ∙ ap (λ n. word_of n) (two_extended a)
extended_words Four a x e h = e ∙ ap (λ n. word_of n) (four_extended a)

pub sar_comes : (w : Width) (a c : ℕ) (x y : Word) → x ≡ word_of a → a < full (size_of w) → y ≡ word_of c → 0 < c → c < 32 →
    let s = is_negative (size_of w) a in
    Comes w (right_shifted (size_of w) a s c) (Some (right_out (size_of w) a s c)) (if_one c false)
    (and_of (shifted_of Sar (extended_word w x) y) (word_of (mask w))) (and_of (shifted_of Sar (extended_word w x) (difference_of y (word_of 1))) (word_of 1)) (word_of 0)
sar_comes w a c x y e h f l k =
    let is : extended_word w x ≡ word_of (extended w a) = extended_words w a x e h in
    let fits : extended w a < 2 ^ 32 = extended_fits w a h in
    record {
      is =
          ap (λ z. and_of z (word_of (mask w))) (ap₂ (shifted_of Sar) is f ∙ sar_words (extended w a) c fits k)
          ∙ mask_words w (filled 4 (extended w a) (is_negative 4 (extended w a)) c / 2 ^ c) ∙ ap (λ n. word_of n) (sar_number w a c h);
      fits = mod_fits w (filled (size_of w) a (is_negative (size_of w) a) c / 2 ^ c);
      carried =
          bit_words _ _ (ap₂ (shifted_of Sar) is (less_one c y f l k) ∙ sar_words (extended w a) (c - 1) fits (less_fits c k))
          ∙ ap (λ n. word_of (one_if (n == 1))) (sar_last w a c h l);
      overflowed = one_matches c false (word_of 0) (λ m. refl);
    }

-- ---- rotates: two parts of a number, k bits to the left and the rest of the bits to the right
pub joined_words : (w : Width) (a b k m : ℕ) (x y p q : Word) → x ≡ word_of a → a < full (size_of w) → y ≡ word_of b → b < full (size_of w) → p ≡ word_of k → k < 32 → q ≡ word_of m → m < 32 → k + m ≡ bits (size_of w) →
    and_of (or_of (shifted_of Shl x p) (shifted_of Shr y q)) (word_of (mask w)) ≡ word_of ((a * 2 ^ k + b / 2 ^ m) % full (size_of w))
joined_words w a b k m x y p q e h f i g l d n s =
    ap (λ z. and_of z (word_of (mask w)))
    (ap₂ or_of (ap₂ (shifted_of Shl) e g ∙ shl_words a k (below_32 w a h) l) (ap₂ (shifted_of Shr) f d ∙ shr_words b m (below_32 w b i) n)
    ∙ join_words a k (b / 2 ^ m) (enters w b k m s i))
    ∙ mask_words w (a * 2 ^ k + b / 2 ^ m)

-- a count modulo the bits, and the rest of them, are counts of 32 bits
pub record IsRotation (w : Width) (r d : ℕ) : Type 0 where
  pub few : r < 32
  pub rest : d < 32
  pub within : r ≤ bits (size_of w)
  pub left : d ≡ bits (size_of w) - r
  pub sum : d + r ≡ bits (size_of w)

rotation : (w : Width) (c : ℕ) → 0 < c → c < 32 → IsRotation w (c % bits (size_of w)) (bits (size_of w) - c % bits (size_of w))
rotation One c l k = record { few = omega arith; rest = omega arith; within = omega arith; left = refl; sum = omega arith }
rotation Two c l k = record { few = omega arith; rest = omega arith; within = omega arith; left = refl; sum = omega arith }
rotation Four c l k = record { few = omega arith; rest = omega (arith, l, k); within = omega arith; left = refl; sum = omega arith }

pub rol_comes : (w : Width) (a c : ℕ) (x y : Word) → x ≡ word_of a → a < full (size_of w) → y ≡ word_of c → 0 < c → c < 32 →
    let p = and_of y (word_of (top w)) in
    let r = and_of (or_of (shifted_of Shl x p) (shifted_of Shr x (difference_of (word_of (width_bits w)) p))) (word_of (mask w)) in
    let n = left_rotated (size_of w) a (c % bits (size_of w)) in
    let low = (n % 2) == 1 in
    Comes w n (if_within (size_of w) c low) (if_one c (differ (is_negative (size_of w) n) low)) r (and_of r (word_of 1)) (xor_of (shifted_of Shr r (word_of (top w))) (and_of r (word_of 1)))
rol_comes w a c x y e h f l k =
    let s = rotation w c l k in
    let r = c % bits (size_of w) in
    let d = bits (size_of w) - r in
    let n = left_rotated (size_of w) a r in
    let p : and_of y (word_of (top w)) ≡ word_of r = ap (λ z. and_of z (word_of (top w))) f ∙ rotate_mask w c in
    let sum : r + d ≡ bits (size_of w) = omega (arith, s.sum) in
    let is = joined_words w a a r d x x _ _ e h e h p s.few (rest_words w r _ p s.within) s.rest sum ∙ ap (λ n. word_of n) (rol_number w a r d sum) in
    let fits : n < full (size_of w) = mod_fits w _ in
    let low = bit_words _ n is in
    record { is = is; fits = fits; carried = within_matches (size_of w) c _ _ (λ m. low); overflowed = one_matches c _ _ (λ m. ap₂ xor_of (sign_words w _ n is fits) low ∙ xor_bits _ _) }

-- the bit below the highest
second_words : (w : Width) (x : Word) (n : ℕ) → x ≡ word_of n → n < full (size_of w) → and_of (shifted_of Shr x (word_of (second w))) (word_of 1) ≡ word_of (one_if ((n / (half (size_of w) / 2) % 2) == 1))
second_words One x n e h = bit_words _ (n / 64) (ap (λ y. shifted_of Shr y (word_of 6)) e ∙ shr_words n 6 (below_32 One n h) (lit< tt))
second_words Two x n e h = bit_words _ (n / 16384) (ap (λ y. shifted_of Shr y (word_of 14)) e ∙ shr_words n 14 (below_32 Two n h) (lit< tt))
second_words Four x n e h = bit_words _ (n / 1073741824) (ap (λ y. shifted_of Shr y (word_of 30)) e ∙ shr_words n 30 (below_32 Four n h) (lit< tt))

pub ror_comes : (w : Width) (a c : ℕ) (x y : Word) → x ≡ word_of a → a < full (size_of w) → y ≡ word_of c → 0 < c → c < 32 →
    let q = and_of y (word_of (top w)) in
    let r = and_of (or_of (shifted_of Shl x (difference_of (word_of (width_bits w)) q)) (shifted_of Shr x q)) (word_of (mask w)) in
    let n = right_rotated (size_of w) a (c % bits (size_of w)) in
    let high = is_negative (size_of w) n in
    Comes w n (if_within (size_of w) c high) (if_one c (differ high ((n / (half (size_of w) / 2) % 2) == 1)))
    r (shifted_of Shr r (word_of (top w))) (xor_of (shifted_of Shr r (word_of (top w))) (and_of (shifted_of Shr r (word_of (second w))) (word_of 1)))
ror_comes w a c x y e h f l k =
    let s = rotation w c l k in
    let r = c % bits (size_of w) in
    let d = bits (size_of w) - r in
    let n = right_rotated (size_of w) a r in
    let q : and_of y (word_of (top w)) ≡ word_of r = ap (λ z. and_of z (word_of (top w))) f ∙ rotate_mask w c in
    let is = joined_words w a a d r x x _ _ e h e h (rest_words w r _ q s.within) s.rest q s.few s.sum ∙ ap (λ n. word_of n) (ror_number w a d r s.sum refl) in
    let fits : n < full (size_of w) = mod_fits w _ in
    let high = sign_words w _ n is fits in
    record { is = is; fits = fits; carried = within_matches (size_of w) c _ _ (λ m. high); overflowed = one_matches c _ _ (λ m. ap₂ xor_of high (second_words w _ n is fits) ∙ xor_bits _ _) }
