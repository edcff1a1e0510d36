-- The cores of MUL and IMUL.
use Rattle.std.proofs.Common.{◌≡◌, ℕ, ◌+◌, ◌-◌, ◌*◌, ◌/◌, ◌%◌, ◌^◌, ◌<◌, ◌≤◌, ◌==◌, Bool, true, false, not, cond, leb, ltb, [], ◌∷◌, Option, Some, None, Result, Ok, Err, refl, sym, ◌∙◌, ap, ap₂, arith, lit<, mul_comm, add-mul}
use Rattle.std.proofs.lemmas.Bool.{eqb-true, eqb-false, leb-true, leb-false, le-leb, lt-leb, le-ltb, lt-ltb}
use Rattle.std.proofs.lemmas.Nat.{mul-le}
use Rattle.x86_types.specs.declared.operation.ShiftOp.TheVariants as shiftop
use Rattle.x86_types.specs.declared.width.Width.{Width}
use Rattle.x86_types.specs.declared.width.Width.TheVariants.{One, Two, Four}
use Rattle.x86_types.specs.Numbers.{size_of}
use Rattle.x86_values.specs.declared.word.Word.{Word}
use Rattle.x86_values.specs.declared.product.Product.{Product}
use Rattle.x86_values.specs.Words.{word_of}
use Rattle.x86_values.specs.Sizes.{cut, no_word, number, full, is_negative}
use Rattle.x86_values.specs.Results.{differ, no_flags}
use Rattle.x86_values.specs.Shifts.{right_shifted}
use Rattle.x86_values.specs.Products.{product, upper_of, halves, product_of, multiply}
use Rattle.traces.specs.Trace.{End}
use Rattle.x86_meaning.specs.Outcomes as outcomes
use Rattle.x86_meaning.specs.Outcomes.{Falls, both_halves, mul_computed, imul_computed}
use Rattle.flag_ir.specs.Calculations as calculations
use Rattle.flag_ir.specs.Calculations.{one_if, difference_of, and_of, xor_of, upper_product_of, shifted_of, equal_of, below_of}
use Rattle.flag_ir.specs.Storage.{Storage}
use Rattle.flag_ir.specs.Operations.{perform, performs}
use Rattle.lift_relation.specs.Cores.{CutMatches, IsChangedByCore, IsComputed, ComputationMatches, ComputesTwo}
use Rattle.lift_values.specs.Terms.{mask, width_bits, top}
use Rattle.lift_values.specs.Products.{mul_core, imul_core}
use Rattle.lift_values.proofs.WordLemmas.{IsNumber, same_word, word_mod, number_below, number_word, known_matches, nothing_matches, product_words, mask_words, xor_bits, equal_words, below_words, shr_words, shl_words, sar_words, top_words, mod_fits, below_32}
use Rattle.lift_values.proofs.FlagLemmas.{changed}
use Rattle.lift_values.proofs.ExtensionLemmas.{negative_bit}

abbrev BothHalves : Width → Product → Storage → Storage → Type 0
BothHalves w p u v = IsComputed (size_of w) (record { values = p.low ∷ p.high ∷ []; flags = p.flags; way = Falls }) u v

abbrev LowerHalf : Width → Product → Storage → Storage → Type 0
LowerHalf w p u v = IsComputed (size_of w) (record { values = p.low ∷ []; flags = p.flags; way = Falls }) u v

lower_half : (w : Width) (p : Product) (u v : Storage) → BothHalves w p u v → LowerHalf w p u v
lower_half w p u v h = record { change = h.change; values = (h.values.0, tt); flags = h.flags }

-- ---- CF and OF: what the operations make of both halves
abbrev exceeds : Bool → Width → Word → Word → Word
exceeds false w low high = below_of (word_of 0) high
exceeds true w low high = xor_of (equal_of high (and_of (difference_of (word_of 0) (shifted_of shiftop.Shr low (word_of (top w)))) (word_of (mask w)))) (word_of 1)

is_positive : (n : ℕ) → ltb 0 n ≡ not (n == 0)
is_positive n = cases (n == 0) refl
  where
    cases : (b : Bool) → (n == 0) ≡ b → ltb 0 n ≡ not b
    cases true e = le-ltb 0 n (let q : n ≡ 0 = eqb-true n 0 e in omega (arith, q))
    cases false e = lt-ltb 0 n (let q : n ≡ 0 → ⊥ = eqb-false n 0 e in omega (arith, q))

contrary : (b : Bool) → differ b true ≡ not b
contrary true = refl
contrary false = refl

copies : (w : Width) (b : Bool) → cond b 4294967295 0 % full (size_of w) ≡ cond b (full (size_of w) - 1) 0
copies One true = refl
copies One false = refl
copies Two true = refl
copies Two false = refl
copies Four true = refl
copies Four false = refl

copies_fit : (w : Width) (b : Bool) → cond b (full (size_of w) - 1) 0 < full (size_of w)
copies_fit One true = lit< tt
copies_fit One false = lit< tt
copies_fit Two true = lit< tt
copies_fit Two false = lit< tt
copies_fit Four true = lit< tt
copies_fit Four false = lit< tt

exceeds_words : (signed : Bool) (w : Width) (low high : ℕ) (x y : Word) → x ≡ word_of low → y ≡ word_of high → low < full (size_of w) → high < full (size_of w) → exceeds signed w x y ≡ word_of (one_if (not (high == upper_of signed (size_of w) low)))
exceeds_words false w low high x y e g l h = ap (below_of (word_of 0)) g ∙ below_words 0 high (lit< tt) (below_32 w high h) ∙ ap (λ b. word_of (one_if b)) (is_positive high)
exceeds_words true w low high x y e g l h =
    let b = is_negative (size_of w) low in
    let s : and_of (difference_of (word_of 0) (shifted_of shiftop.Shr x (word_of (top w)))) (word_of (mask w)) ≡ word_of (cond b (full (size_of w) - 1) 0) =
    ap (λ z. and_of z (word_of (mask w))) (ap (difference_of (word_of 0)) (ap (λ z. shifted_of shiftop.Shr z (word_of (top w))) e ∙ top_words w low l) ∙ negative_bit b) ∙ mask_words w _ ∙ same_word _ _ (copies w b) in
    ap (λ z. xor_of z (word_of 1)) (ap₂ equal_of g s ∙ equal_words high _ (below_32 w high h) (below_32 w _ (copies_fit w b))) ∙ xor_bits _ true ∙ ap (λ b. word_of (one_if b)) (contrary _)

-- ---- both halves of a number below the square of the range
upper_fits : (w : Width) (p : ℕ) → p < full (size_of w) * full (size_of w) → p / full (size_of w) < full (size_of w)
upper_fits One p h = omega (arith, h)
upper_fits Two p h = omega (arith, h)
upper_fits Four p h = omega (arith, h)

product_below : (signed : Bool) (w : Width) (n m : ℕ) → product signed (size_of w) n m < full (size_of w) * full (size_of w)
product_below false One n m = omega arith
product_below false Two n m = omega arith
product_below false Four n m = omega arith
product_below true One n m = omega arith
product_below true Two n m = omega arith
product_below true Four n m = omega arith

known_product : (signed : Bool) (w : Width) (p : ℕ) (u v : Storage) → IsChangedByCore u v → p < full (size_of w) * full (size_of w) → v.temps 4 ≡ word_of (p % full (size_of w)) → v.temps 5 ≡ word_of (p / full (size_of w)) →
    v.flags 0 ≡ exceeds signed w (v.temps 4) (v.temps 5) → v.flags 4 ≡ v.flags 0 → BothHalves w (halves signed (size_of w) p) u v
known_product signed w p u v change l e g cf of =
    let low : p % full (size_of w) < full (size_of w) = mod_fits w p in
    let high : p / full (size_of w) < full (size_of w) = upper_fits w p l in
    let c : v.flags 0 ≡ word_of (one_if (not (p / full (size_of w) == upper_of signed (size_of w) (p % full (size_of w))))) = cf ∙ exceeds_words signed w (p % full (size_of w)) (p / full (size_of w)) (v.temps 4) (v.temps 5) e g low high in
    record { change = change; values = (known_matches w (p % full (size_of w)) (v.temps 4) e low, (known_matches w (p / full (size_of w)) (v.temps 5) g high, tt)); flags = record { cf = c; pf = tt; zf = tt; sf = tt; of = of ∙ c } }

-- what a half is where nothing is known
abbrev IsCut : Width → Word → Type 0
IsCut w y = CutMatches (size_of w) (cut (size_of w) no_word) y

mul_made : (signed : Bool) (w : Width) (a b x y : Word) (u v : Storage) → CutMatches (size_of w) a x → CutMatches (size_of w) b y → IsChangedByCore u v → IsCut w (v.temps 4) → IsCut w (v.temps 5) →
    ((n m : ℕ) → IsNumber w n x → IsNumber w m y → (v.temps 4 ≡ word_of (product signed (size_of w) n m % full (size_of w))) × (v.temps 5 ≡ word_of (product signed (size_of w) n m / full (size_of w)))) →
    v.flags 0 ≡ exceeds signed w (v.temps 4) (v.temps 5) → v.flags 4 ≡ v.flags 0 → BothHalves w (multiply signed (size_of w) a b) u v
unfolding multiply
mul_made signed w a b x y u v h k change low high known cf of = cases (number (size_of w) a) (number (size_of w) b) refl refl
  where
    none : BothHalves w (record { low = cut (size_of w) no_word; high = cut (size_of w) no_word; flags = no_flags }) u v
    none = record { change = change; values = (low, (high, tt)); flags = record { cf = tt; pf = tt; zf = tt; sf = tt; of = tt } }

    cases : (p q : Option ℕ) → number (size_of w) a ≡ p → number (size_of w) b ≡ q → BothHalves w (product_of signed (size_of w) p q) u v
    cases None q e g = none
    cases (Some n) None e g = none
    cases (Some n) (Some m) e g = let r = known n m (number_below w a n x e h) (number_below w b m y g k) in known_product signed w (product signed (size_of w) n m) u v change (product_below signed w n m) r.0 r.1 cf of

-- ---- four bytes
any_is_cut : (y : Word) → IsCut Four y
unfolding cut
any_is_cut y = record { b0 = tt; b1 = tt; b2 = tt; b3 = tt }

upper_words : (signed : Bool) (n m : ℕ) → n < 4294967296 → m < 4294967296 → upper_product_of signed (word_of n) (word_of m) ≡ word_of (product signed 4 n m / 4294967296)
unfolding upper_product_of multiply
upper_words signed n m h k = ap₂ (λ p q. (product_of signed 4 p q).high) (number_word n h) (number_word m k)

-- the lower half is that of the product without signs
lower_by : (p q : Bool) (n m : ℕ) → n < 4294967296 → m < 4294967296 →
    (n * m + 36893488147419103232 - (cond p (4294967296 * m) 0 + cond q (4294967296 * n) 0)) % 18446744073709551616 % 4294967296 ≡ n * m % 4294967296
lower_by false false n m h k = omega (arith, h, k)
lower_by true false n m h k = omega (arith, h, k)
lower_by false true n m h k = omega (arith, h, k)
lower_by true true n m h k = omega (arith, h, k)

lower_is : (signed : Bool) (n m : ℕ) → n < 4294967296 → m < 4294967296 → product signed 4 n m % 4294967296 ≡ n * m % 4294967296
lower_is false n m h k = omega arith
lower_is true n m h k = lower_by (is_negative 4 n) (is_negative 4 m) n m h k

wide_halves : (signed : Bool) (n m : ℕ) (x y : Word) → IsNumber Four n x → IsNumber Four m y → (calculations.product_of x y ≡ word_of (product signed 4 n m % 4294967296)) × (upper_product_of signed x y ≡ word_of (product signed 4 n m / 4294967296))
wide_halves signed n m x y hn hm =
    let h : n < 4294967296 = hn.fits in
    let k : m < 4294967296 = hm.fits in
    (ap₂ calculations.product_of hn.is hm.is ∙ product_words n m h k ∙ sym (word_mod (n * m)) ∙ same_word _ _ (sym (lower_is signed n m h k)), ap₂ (upper_product_of signed) hn.is hm.is ∙ upper_words signed n m h k)

-- ---- one and two bytes: the product is one of 32 bits
abbrev low_of : Width → Word → Word
low_of w z = and_of z (word_of (mask w))

abbrev high_of : Width → Word → Word
high_of w z = and_of (shifted_of shiftop.Shr z (word_of (width_bits w))) (word_of (mask w))

-- of a number p, of which the lowest bits are the product
record IsNarrow (w : Width) (p q : ℕ) : Type 0 where
  pub low : p % 4294967296 % full (size_of w) ≡ q % full (size_of w)
  pub high : p % 4294967296 / 2 ^ width_bits w % full (size_of w) ≡ q / full (size_of w)

bits_few : (w : Width) (p q : ℕ) → IsNarrow w p q → width_bits w < 32 → (z : Word) → z ≡ word_of p → (low_of w z ≡ word_of (q % full (size_of w))) × (high_of w z ≡ word_of (q / full (size_of w)))
bits_few w p q n l z e =
    let g : z ≡ word_of (p % 4294967296) = e ∙ sym (word_mod p) in (
      ap (λ z. and_of z (word_of (mask w))) g ∙ mask_words w (p % 4294967296) ∙ same_word _ _ n.low,
      ap (λ z. and_of (shifted_of shiftop.Shr z (word_of (width_bits w))) (word_of (mask w))) g ∙ ap (λ z. and_of z (word_of (mask w))) (shr_words (p % 4294967296) (width_bits w) (omega arith) l) ∙ mask_words w _ ∙ same_word _ _ n.high,
    )

unsigned_one : (n m : ℕ) → n < 256 → m < 256 → IsNarrow One (n * m) (product false 1 n m)
unsigned_one n m h k = let b : n * m ≤ 255 * 255 = mul-le n m 255 255 (omega (arith, h)) (omega (arith, k)) in record { low = omega (arith, b); high = omega (arith, b) }

unsigned_two : (n m : ℕ) → n < 65536 → m < 65536 → IsNarrow Two (n * m) (product false 2 n m)
unsigned_two n m h k = let b : n * m ≤ 65535 * 65535 = mul-le n m 65535 65535 (omega (arith, h)) (omega (arith, k)) in record { low = omega (arith, b); high = omega (arith, b) }

-- with copies of the sign above
expanded : (n m a b : ℕ) → (n + a) * (m + b) ≡ n * m + b * n + (a * m + a * b)
expanded n m a b = add-mul n a (m + b) ∙ ap₂ (λ s t. s + t) (mul_comm n (m + b) ∙ add-mul m b n ∙ ap (λ s. s + b * n) (mul_comm m n)) (mul_comm a (m + b) ∙ add-mul m b a ∙ ap₂ (λ s t. s + t) (mul_comm m a) (mul_comm b a))

one_by : (p q : Bool) (n m : ℕ) → n < 256 → m < 256 → (n + cond p 4294967040 0) * (m + cond q 4294967040 0) % 65536 ≡ (n * m + 131072 - (cond p (256 * m) 0 + cond q (256 * n) 0)) % 65536
one_by false false n m h k = ap (λ t. t % 65536) (expanded n m 0 0) ∙ (let e : (n * m + 0 * n + (0 * m + 0 * 0)) % 65536 ≡ (n * m + 131072 - (0 + 0)) % 65536 = omega (arith, h, k) in e)
one_by true false n m h k = ap (λ t. t % 65536) (expanded n m 4294967040 0) ∙ (let e : (n * m + 0 * n + (4294967040 * m + 4294967040 * 0)) % 65536 ≡ (n * m + 131072 - (256 * m + 0)) % 65536 = omega (arith, h, k) in e)
one_by false true n m h k = ap (λ t. t % 65536) (expanded n m 0 4294967040) ∙ (let e : (n * m + 4294967040 * n + (0 * m + 0 * 4294967040)) % 65536 ≡ (n * m + 131072 - (0 + 256 * n)) % 65536 = omega (arith, h, k) in e)
one_by true true n m h k = ap (λ t. t % 65536) (expanded n m 4294967040 4294967040) ∙ (let e : (n * m + 4294967040 * n + (4294967040 * m + 4294967040 * 4294967040)) % 65536 ≡ (n * m + 131072 - (256 * m + 256 * n)) % 65536 = omega (arith, h, k) in e)

two_by : (p q : Bool) (n m : ℕ) → n < 65536 → m < 65536 → (n + cond p 4294901760 0) * (m + cond q 4294901760 0) % 4294967296 ≡ (n * m + 8589934592 - (cond p (65536 * m) 0 + cond q (65536 * n) 0)) % 4294967296
two_by false false n m h k = ap (λ t. t % 4294967296) (expanded n m 0 0) ∙ (let e : (n * m + 0 * n + (0 * m + 0 * 0)) % 4294967296 ≡ (n * m + 8589934592 - (0 + 0)) % 4294967296 = omega (arith, h, k) in e)
two_by true false n m h k = ap (λ t. t % 4294967296) (expanded n m 4294901760 0) ∙ (let e : (n * m + 0 * n + (4294901760 * m + 4294901760 * 0)) % 4294967296 ≡ (n * m + 8589934592 - (65536 * m + 0)) % 4294967296 = omega (arith, h, k) in e)
two_by false true n m h k = ap (λ t. t % 4294967296) (expanded n m 0 4294901760) ∙ (let e : (n * m + 4294901760 * n + (0 * m + 0 * 4294901760)) % 4294967296 ≡ (n * m + 8589934592 - (0 + 65536 * n)) % 4294967296 = omega (arith, h, k) in e)
two_by true true n m h k = ap (λ t. t % 4294967296) (expanded n m 4294901760 4294901760) ∙ (let e : (n * m + 4294901760 * n + (4294901760 * m + 4294901760 * 4294901760)) % 4294967296 ≡ (n * m + 8589934592 - (65536 * m + 65536 * n)) % 4294967296 = omega (arith, h, k) in e)

extended_one : ℕ → ℕ
extended_one n = n + cond (is_negative 1 n) 4294967040 0

extended_two : ℕ → ℕ
extended_two n = n + cond (is_negative 2 n) 4294901760 0

narrow_one : (p q : ℕ) → p % 65536 ≡ q → IsNarrow One p q
narrow_one p q e = record { low = omega (arith, e); high = omega (arith, e) }

narrow_two : (p q : ℕ) → p % 4294967296 ≡ q → IsNarrow Two p q
narrow_two p q e = record { low = omega (arith, e); high = omega (arith, e) }

signed_one : (n m : ℕ) → n < 256 → m < 256 → IsNarrow One (extended_one n * extended_one m) (product true 1 n m)
unfolding extended_one
signed_one n m h k = narrow_one _ _ (one_by (is_negative 1 n) (is_negative 1 m) n m h k)

signed_two : (n m : ℕ) → n < 65536 → m < 65536 → IsNarrow Two (extended_two n * extended_two m) (product true 2 n m)
unfolding extended_two
signed_two n m h k = narrow_two _ _ (two_by (is_negative 2 n) (is_negative 2 m) n m h k)

-- the words of operands with copies of the sign above
abbrev widened : ℕ → Word → Word
widened n x = shifted_of shiftop.Sar (shifted_of shiftop.Shl x (word_of n)) (word_of n)

sign_one : (n : ℕ) → is_negative 4 (n * 16777216) ≡ is_negative 1 n
sign_one n = cases (leb 128 n) refl
  where
    cases : (b : Bool) → leb 128 n ≡ b → leb 2147483648 (n * 16777216) ≡ b
    cases true e = le-leb 2147483648 (n * 16777216) (let l : 128 ≤ n = leb-true 128 n e in omega (arith, l))
    cases false e = lt-leb 2147483648 (n * 16777216) (let l : n < 128 = leb-false 128 n e in omega (arith, l))

sign_two : (n : ℕ) → is_negative 4 (n * 65536) ≡ is_negative 2 n
sign_two n = cases (leb 32768 n) refl
  where
    cases : (b : Bool) → leb 32768 n ≡ b → leb 2147483648 (n * 65536) ≡ b
    cases true e = le-leb 2147483648 (n * 65536) (let l : 32768 ≤ n = leb-true 32768 n e in omega (arith, l))
    cases false e = lt-leb 2147483648 (n * 65536) (let l : n < 32768 = leb-false 32768 n e in omega (arith, l))

filled_one : (b : Bool) (n : ℕ) → n < 256 → (n * 16777216 + 4294967296 * cond b 16777215 0) / 16777216 % 4294967296 ≡ n + cond b 4294967040 0
filled_one true n h = omega (arith, h)
filled_one false n h = omega (arith, h)

filled_two : (b : Bool) (n : ℕ) → n < 65536 → (n * 65536 + 4294967296 * cond b 65535 0) / 65536 % 4294967296 ≡ n + cond b 4294901760 0
filled_two true n h = omega (arith, h)
filled_two false n h = omega (arith, h)

widened_one : (n : ℕ) (x : Word) → IsNumber One n x → widened 24 x ≡ word_of (extended_one n)
unfolding extended_one
widened_one n x h =
    let l : n < 256 = h.fits in
    ap (widened 24) h.is ∙ ap (λ z. shifted_of shiftop.Sar z (word_of 24)) (shl_words n 24 (omega (arith, l)) (lit< tt)) ∙ sar_words (n * 16777216) 24 (omega (arith, l)) (lit< tt) (lit< tt)
    ∙ same_word _ _ (ap (λ b. right_shifted 4 (n * 16777216) b 24) (sign_one n) ∙ filled_one (is_negative 1 n) n l)

widened_two : (n : ℕ) (x : Word) → IsNumber Two n x → widened 16 x ≡ word_of (extended_two n)
unfolding extended_two
widened_two n x h =
    let l : n < 65536 = h.fits in
    ap (widened 16) h.is ∙ ap (λ z. shifted_of shiftop.Sar z (word_of 16)) (shl_words n 16 (omega (arith, l)) (lit< tt)) ∙ sar_words (n * 65536) 16 (omega (arith, l)) (lit< tt) (lit< tt)
    ∙ same_word _ _ (ap (λ b. right_shifted 4 (n * 65536) b 16) (sign_two n) ∙ filled_two (is_negative 2 n) n l)

extended_one_fits : (n : ℕ) → n < 256 → extended_one n < 4294967296
unfolding extended_one
extended_one_fits n h = cases (leb 128 n)
  where
    cases : (b : Bool) → n + cond b 4294967040 0 < 4294967296
    cases true = omega (arith, h)
    cases false = omega (arith, h)

extended_two_fits : (n : ℕ) → n < 65536 → extended_two n < 4294967296
unfolding extended_two
extended_two_fits n h = cases (leb 32768 n)
  where
    cases : (b : Bool) → n + cond b 4294901760 0 < 4294967296
    cases true = omega (arith, h)
    cases false = omega (arith, h)

-- ---- the cores
abbrev Halves : Bool → Width → ℕ → ℕ → Word → Type 0
Halves signed w n m z = (low_of w z ≡ word_of (product signed (size_of w) n m % full (size_of w))) × (high_of w z ≡ word_of (product signed (size_of w) n m / full (size_of w)))

unsigned_one_halves : (n m : ℕ) (x y : Word) → IsNumber One n x → IsNumber One m y → Halves false One n m (calculations.product_of x y)
unsigned_one_halves n m x y hn hm = bits_few One (n * m) _ (unsigned_one n m hn.fits hm.fits) (lit< tt) _ (ap₂ calculations.product_of hn.is hm.is ∙ product_words n m (below_32 One n hn.fits) (below_32 One m hm.fits))

unsigned_two_halves : (n m : ℕ) (x y : Word) → IsNumber Two n x → IsNumber Two m y → Halves false Two n m (calculations.product_of x y)
unsigned_two_halves n m x y hn hm = bits_few Two (n * m) _ (unsigned_two n m hn.fits hm.fits) (lit< tt) _ (ap₂ calculations.product_of hn.is hm.is ∙ product_words n m (below_32 Two n hn.fits) (below_32 Two m hm.fits))

signed_one_halves : (n m : ℕ) (x y : Word) → IsNumber One n x → IsNumber One m y → Halves true One n m (calculations.product_of (widened 24 x) (widened 24 y))
signed_one_halves n m x y hn hm = bits_few One (extended_one n * extended_one m) _ (signed_one n m hn.fits hm.fits) (lit< tt) _ (ap₂ calculations.product_of (widened_one n x hn) (widened_one m y hm) ∙ product_words _ _ (extended_one_fits n hn.fits) (extended_one_fits m hm.fits))

signed_two_halves : (n m : ℕ) (x y : Word) → IsNumber Two n x → IsNumber Two m y → Halves true Two n m (calculations.product_of (widened 16 x) (widened 16 y))
signed_two_halves n m x y hn hm = bits_few Two (extended_two n * extended_two m) _ (signed_two n m hn.fits hm.fits) (lit< tt) _ (ap₂ calculations.product_of (widened_two n x hn) (widened_two m y hm) ∙ product_words _ _ (extended_two_fits n hn.fits) (extended_two_fits m hm.fits))

masked_is_cut : (w : Width) (y : Word) → IsCut w (and_of y (word_of (mask w)))
masked_is_cut w y = nothing_matches w y _ refl

pub mul_computes : (signed : Bool) (w : Width) → ComputesTwo (size_of w) (size_of w) (size_of w) (λ f x y. mul_computed signed (size_of w) x y) (mul_core signed w)
unfolding perform performs
mul_computes false One = record { computes = λ turn a b f u x y g. mul_made false One a b (u.temps 1) (u.temps 2) u _ x y (changed u _ refl refl refl refl refl) (masked_is_cut One _) (masked_is_cut One _) (λ n m hn hm. unsigned_one_halves n m _ _ hn hm) refl refl }
mul_computes false Two = record { computes = λ turn a b f u x y g. mul_made false Two a b (u.temps 1) (u.temps 2) u _ x y (changed u _ refl refl refl refl refl) (masked_is_cut Two _) (masked_is_cut Two _) (λ n m hn hm. unsigned_two_halves n m _ _ hn hm) refl refl }
mul_computes false Four = record { computes = λ turn a b f u x y g. mul_made false Four a b (u.temps 1) (u.temps 2) u _ x y (changed u _ refl refl refl refl refl) (any_is_cut _) (any_is_cut _) (λ n m hn hm. wide_halves false n m _ _ hn hm) refl refl }
mul_computes true One = record { computes = λ turn a b f u x y g. mul_made true One a b (u.temps 1) (u.temps 2) u _ x y (changed u _ refl refl refl refl refl) (masked_is_cut One _) (masked_is_cut One _) (λ n m hn hm. signed_one_halves n m _ _ hn hm) refl refl }
mul_computes true Two = record { computes = λ turn a b f u x y g. mul_made true Two a b (u.temps 1) (u.temps 2) u _ x y (changed u _ refl refl refl refl refl) (masked_is_cut Two _) (masked_is_cut Two _) (λ n m hn hm. signed_two_halves n m _ _ hn hm) refl refl }
mul_computes true Four = record { computes = λ turn a b f u x y g. mul_made true Four a b (u.temps 1) (u.temps 2) u _ x y (changed u _ refl refl refl refl refl) (any_is_cut _) (any_is_cut _) (λ n m hn hm. wide_halves true n m _ _ hn hm) refl refl }

-- the upper half is dropped
drop_upper : (w : Width) (p : Product) (u : Storage) (y : Result Storage End) → ComputationMatches (size_of w) (both_halves p) u y → ComputationMatches (size_of w) (outcomes.lower_half p) u y
drop_upper w p u (Ok v) h = lower_half w p u v h
drop_upper w p u (Err e) h = h

pub imul_computes : (w : Width) → ComputesTwo (size_of w) (size_of w) (size_of w) (λ f x y. imul_computed (size_of w) x y) (imul_core w)
imul_computes w = record { computes = λ turn a b f u x y g. drop_upper w (multiply true (size_of w) a b) u _ ((mul_computes true w).computes turn a b f u x y g) }
