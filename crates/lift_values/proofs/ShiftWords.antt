-- What shifts to the right with a sign, and masks of counts, come to as numbers.
use Rattle.std.proofs.Common.{◌≡◌, ℕ, ◌+◌, ◌-◌, ◌*◌, ◌/◌, ◌%◌, ◌^◌, ◌<◌, ◌≤◌, ◌==◌, Bool, true, false, cond, refl, sym, ◌∙◌, subst, arith}
use Rattle.std.proofs.lemmas.Bool.{eqb-true, eqb-false}
use Rattle.std.proofs.lemmas.Nat.{and_mask, or_shifted}
use Rattle.x86_values.specs.Words.{word_of}
use Rattle.x86_values.specs.Sizes.{bits, is_negative}
use Rattle.x86_values.specs.Shifts.{filled}
use Rattle.x86_types.specs.declared.operation.ShiftOp.TheVariants.{Sar}
use Rattle.x86_types.specs.declared.width.Width.{Width}
use Rattle.x86_types.specs.declared.width.Width.TheVariants.{One, Two, Four}
use Rattle.x86_types.specs.Numbers.{size_of}
use Rattle.flag_ir.specs.Calculations.{shifted_of, difference_of, and_of, or_of}
use Rattle.lift_values.specs.Terms.{top}
use Rattle.lift_values.proofs.WordLemmas.{same_word, word_mod, word_to, difference_words, and_words, or_words, unshifted_words}
use Rattle.lift_values.proofs.WordLemmas as words

-- ---- SAR by a count below 32, 0 too
-- where the count is 0 no copy of the sign enters
none_enters : (n : ℕ) (b : Bool) → n ≡ (n + 4294967296 * cond b (2 ^ 0 - 1) 0) / 2 ^ 0
none_enters n true = omega arith
none_enters n false = omega arith

pub sar_words : (n c : ℕ) → n < 4294967296 → c < 32 → shifted_of Sar (word_of n) (word_of c) ≡ word_of (filled 4 n (is_negative 4 n) c / 2 ^ c)
sar_words n c h k = cases (c == 0) refl
  where
    cases : (b : Bool) → (c == 0) ≡ b → shifted_of Sar (word_of n) (word_of c) ≡ word_of (filled 4 n (is_negative 4 n) c / 2 ^ c)
    cases true e = subst (λ c. shifted_of Sar (word_of n) (word_of c) ≡ word_of (filled 4 n (is_negative 4 n) c / 2 ^ c)) (sym (eqb-true c 0 e)) (unshifted_words Sar (word_of n) ∙ same_word _ _ (none_enters n (is_negative 4 n)))
    cases false e = let l : 0 < c = omega (arith, eqb-false c 0 e) in words.sar_words n c h l k ∙ word_mod (filled 4 n (is_negative 4 n) c / 2 ^ c)

-- ---- counts
pub count_mask : (n : ℕ) → and_of (word_of n) (word_of 31) ≡ word_of (n % 32)
count_mask n = and_words n 31 ∙ same_word _ _ (and_mask n 5)

-- modulo the bits of a width
pub rotate_mask : (w : Width) (c : ℕ) → and_of (word_of c) (word_of (top w)) ≡ word_of (c % bits (size_of w))
rotate_mask One c = and_words c 7 ∙ same_word _ _ (and_mask c 3)
rotate_mask Two c = and_words c 15 ∙ same_word _ _ (and_mask c 4)
rotate_mask Four c = and_words c 31 ∙ same_word _ _ (and_mask c 5)

-- a difference that doesn't wrap
pub rest_of_words : (n m : ℕ) → m ≤ n → n < 4294967296 → difference_of (word_of n) (word_of m) ≡ word_of (n - m)
rest_of_words n m h k = difference_words n m (omega (arith, h, k)) ∙ word_to _ _ (omega (arith, h, k))

-- ---- two parts that don't meet: OR is their sum
pub join_words : (a k b : ℕ) → b < 2 ^ k → or_of (word_of (a * 2 ^ k)) (word_of b) ≡ word_of (a * 2 ^ k + b)
join_words a k b h = or_words (a * 2 ^ k) b ∙ same_word _ _ (or_shifted a k b h)
