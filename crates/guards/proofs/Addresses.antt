-- What the operations compute of an address: whether it lies in the private area, and 0 in its place where it does.
use Rattle.std.proofs.Common.{◌≡◌, ℕ, ◌+◌, ◌-◌, ◌*◌, ◌/◌, ◌%◌, ◌<◌, ◌≤◌, ◌&&◌, Bool, true, false, cond, leb, ltb, Option, Some, None, refl, sym, ap, ◌∙◌, subst, arith}
use Rattle.std.proofs.lemmas.Bool.{le-ltb, leb-true, leb-false, ltb-true, ltb-false}
use Rattle.x86_values.specs.declared.byte.Byte.{Byte}
use Rattle.x86_values.specs.declared.byte.Byte.TheVariants.{Known, Unspecified}
use Rattle.x86_values.specs.declared.word.Word.{Word}
use Rattle.x86_values.specs.Words.{word_of, known, known_bytes}
use Rattle.x86_values.specs.Sizes.{no_word, number, cut}
use Rattle.x86_values.specs.Results.{no_result}
use Rattle.x86_values.specs.Sums.{sub, difference, of_known}
use Rattle.x86_values.specs.WordLaws.{WordLaws}
use Rattle.x86_values.specs.LessSpecified.{ByteLessSpecified, WordLessSpecified}
use Rattle.memory.specs.Memory.{wrapped}
use Rattle.flag_ir.specs.declared.variable.Term.TheVariants as term
use Rattle.flag_ir.specs.Storage.{Storage, term_in}
use Rattle.guards.specs.Guarding.{literal}
use Rattle.flag_ir.specs.Calculations.{one_if, compared, difference_of, below_of}
use Rattle.flag_ir.specs.Operations.{picked}
use Rattle.private_memory.specs.PrivateArea.{is_private}

-- ---- an address is below 2^32
some_is : (a b : ℕ) → Some a ≡ Some b → a ≡ b
some_is a b e = cc

bytes_small : (a b c d : Byte) (n : ℕ) → known_bytes a b c d ≡ Some n → ByteLessSpecified a a → ByteLessSpecified b b → ByteLessSpecified c c → ByteLessSpecified d d → n < 4294967296
bytes_small (Known a) (Known b) (Known c) (Known d) n e p q r s =
    let g : a + 256 * b + 65536 * c + 16777216 * d ≡ n = some_is _ n e in
    let ha : a < 256 = p.1 in
    let hb : b < 256 = q.1 in
    let hc : c < 256 = r.1 in
    let hd : d < 256 = s.1 in
    omega arith
bytes_small Unspecified b c d n e p q r s = absurd cc
bytes_small (Known a) Unspecified c d n e p q r s = absurd cc
bytes_small (Known a) (Known b) Unspecified d n e p q r s = absurd cc
bytes_small (Known a) (Known b) (Known c) Unspecified n e p q r s = absurd cc

number_small : (w : Word) (n : ℕ) → WordLessSpecified w w → known w ≡ Some n → n < 4294967296
unfolding known
number_small w n h e = bytes_small w.b0 w.b1 w.b2 w.b3 n e h.b0 h.b1 h.b2 h.b3

-- ---- the test
abbrev pub inside_of : Word → Word
inside_of w = below_of (difference_of w (word_of 0x60000000)) (word_of 0x1C000000)

abbrev pub tested_word : Word → Word
tested_word w = picked (known (inside_of w)) (word_of 0) w

abbrev distance : ℕ → ℕ
distance n = (4294967296 + n - (0x60000000 + 0)) % 4294967296

is_inside : (n : ℕ) → n < 4294967296 → ltb (distance n) 0x1C000000 ≡ is_private n
unfolding is_private
is_inside n low = above (leb 0x60000000 n) refl
  where
    same_test : (a b : ℕ) → (a < 0x1C000000 → b < 0x7C000000) → (b < 0x7C000000 → a < 0x1C000000) → ltb a 0x1C000000 ≡ ltb b 0x7C000000
    same_test a b f g = cases (ltb a 0x1C000000) (ltb b 0x7C000000) refl refl
      where
        cases : (p q : Bool) → ltb a 0x1C000000 ≡ p → ltb b 0x7C000000 ≡ q → p ≡ q
        cases true true e h = refl
        cases false false e h = refl
        cases true false e h = let l : b < 0x7C000000 = f (ltb-true a 0x1C000000 e) in let m : 0x7C000000 ≤ b = ltb-false b 0x7C000000 h in absurd (omega arith)
        cases false true e h = let l : a < 0x1C000000 = g (ltb-true b 0x7C000000 h) in let m : 0x1C000000 ≤ a = ltb-false a 0x1C000000 e in absurd (omega arith)

    above : (b : Bool) → leb 0x60000000 n ≡ b → ltb (distance n) 0x1C000000 ≡ (b && ltb n 0x7C000000)
    above true e =
        let l : 0x60000000 ≤ n = leb-true 0x60000000 n e in
        let d : (4294967296 + n - (0x60000000 + 0)) % 4294967296 ≡ n - 0x60000000 = omega arith in
        same_test (distance n) n (λ h. omega arith) (λ h. omega arith)
    above false e =
        let l : n < 0x60000000 = leb-false 0x60000000 n e in
        let d : (4294967296 + n - (0x60000000 + 0)) % 4294967296 ≡ 4294967296 + n - 0x60000000 = omega arith in
        le-ltb (distance n) 0x1C000000 (omega arith)

difference_is : (w : Word) (n : ℕ) → known w ≡ Some n → difference_of w (word_of 0x60000000) ≡ word_of (distance n)
unfolding difference_of sub difference number cut known word_of
difference_is w n h = ap (λ o. (of_known (difference 4) (no_result 4) o (Some 0x60000000) (Some false)).value) h

difference_none : (w : Word) → known w ≡ None → difference_of w (word_of 0x60000000) ≡ no_word
unfolding difference_of sub number cut known word_of
difference_none w h = ap (λ o. (of_known (difference 4) (no_result 4) o (Some 0x60000000) (Some false)).value) h

inside_is : (words : WordLaws) (w : Word) (n : ℕ) → known w ≡ Some n → n < 4294967296 → inside_of w ≡ word_of (one_if (is_private n))
unfolding below_of known word_of
inside_is words w n h low =
    let d : (4294967296 + n - (0x60000000 + 0)) % 4294967296 < 4294967296 = omega arith in
    ap (λ x. below_of x (word_of 0x1C000000)) (difference_is w n h)
    ∙ (ap (λ o. compared ltb o (Some 0x1C000000)) (words.known_word (distance n) d) ∙ ap (λ b. word_of (one_if b)) (is_inside n low))

inside_none : (w : Word) → known w ≡ None → known (inside_of w) ≡ None
unfolding below_of known
inside_none w h = ap (λ x. known (below_of x (word_of 0x1C000000))) (difference_none w h)

by_test : (b : Bool) (w : Word) → picked (known (word_of (one_if b))) (word_of 0) w ≡ cond b (word_of 0) w
unfolding known word_of
by_test true w = refl
by_test false w = refl

-- a word whose number is known stays, unless it lies in the area; one that isn't is unspecified
tested_known : WordLaws → (w : Word) (n : ℕ) → known w ≡ Some n → n < 4294967296 → tested_word w ≡ cond (is_private n) (word_of 0) w
tested_known words w n h low = ap (λ x. picked (known x) (word_of 0) w) (inside_is words w n h low) ∙ by_test (is_private n) w

tested_none : (w : Word) → known w ≡ None → known (tested_word w) ≡ None
unfolding known
tested_none w h = ap (λ o. known (picked o (word_of 0) w)) (inside_none w h)

-- ---- an address and what stands in its place
pub record StandsFor (w z : Word) : Type 0 where
  pub inside : (n : ℕ) → known w ≡ Some n → is_private n ≡ true → known z ≡ Some 0
  pub outside : (n : ℕ) → known w ≡ Some n → is_private n ≡ false → known z ≡ Some n
  pub none : known w ≡ None → known z ≡ None
  pub small : (n : ℕ) → known w ≡ Some n → n < 4294967296
  -- what stands there is outside the area
  pub plain : (n : ℕ) → known z ≡ Some n → is_private (wrapped n) ≡ false

zero_plain : is_private (wrapped 0) ≡ false
unfolding is_private
zero_plain = refl

known_zero : known (word_of 0) ≡ Some 0
unfolding known word_of
known_zero = refl

chosen : (w : Word) → ((n : ℕ) → known w ≡ Some n → n < 4294967296) → (z : Word) → (known w ≡ None → known z ≡ None) → ((n : ℕ) → known w ≡ Some n → z ≡ cond (is_private n) (word_of 0) w) → StandsFor w z
chosen w small z none some = record {
  inside = inside;
  outside = outside;
  none = none;
  small = small;
  plain = λ n e. plain n (known w) refl e;
}
  where
    inside : (n : ℕ) → known w ≡ Some n → is_private n ≡ true → known z ≡ Some 0
    inside n e p = ap known (some n e ∙ ap (λ b. cond b (word_of 0) w) p) ∙ known_zero

    outside : (n : ℕ) → known w ≡ Some n → is_private n ≡ false → known z ≡ Some n
    outside n e p = ap known (some n e ∙ ap (λ b. cond b (word_of 0) w) p) ∙ e

    same_small : (n : ℕ) → n < 4294967296 → wrapped n ≡ n
    same_small n l = omega arith

    by_place : (n m : ℕ) (b : Bool) → known w ≡ Some m → is_private m ≡ b → known z ≡ Some n → is_private (wrapped n) ≡ false
    by_place n m true e p f = let zero : 0 ≡ n = some_is 0 n (sym (inside m e p) ∙ f) in subst (λ k. is_private (wrapped k) ≡ false) zero zero_plain
    by_place n m false e p f =
        let same : m ≡ n = some_is m n (sym (outside m e p) ∙ f) in
        subst (λ k. is_private (wrapped k) ≡ false) same (ap is_private (same_small m (small m e)) ∙ p)

    plain : (n : ℕ) (o : Option ℕ) → known w ≡ o → known z ≡ Some n → is_private (wrapped n) ≡ false
    plain n None e f = let no : None ≡ Some n = sym (none e) ∙ f in absurd cc
    plain n (Some m) e f = by_place n m (is_private m) e refl f

-- by the operations
pub tested_stands : WordLaws → (w : Word) → WordLessSpecified w w → StandsFor w (tested_word w)
tested_stands words w formed = chosen w (known_small w formed) (tested_word w) (tested_none w) (λ n e. tested_known words w n e (known_small w formed n e))
  where
    known_small : (w : Word) → WordLessSpecified w w → (n : ℕ) → known w ≡ Some n → n < 4294967296
    known_small w h n e = number_small w n h e

-- written out
known_literal : (n : ℕ) → known (word_of n) ≡ Some (wrapped n)
unfolding known word_of
known_literal n = let e : n % 256 + 256 * (n / 256 % 256) + 65536 * (n / 65536 % 256) + 16777216 * (n / 16777216 % 256) ≡ n % 4294967296 = omega arith in ap (λ x. Some x) e

literal_is : (n : ℕ) (u : Storage) → term_in (literal n) u ≡ cond (is_private (wrapped n)) (word_of 0) (word_of n)
unfolding literal
literal_is n u = by (is_private (wrapped n))
  where
    by : (b : Bool) → term_in (cond b (term.Word 0) (term.Word n)) u ≡ cond b (word_of 0) (word_of n)
    by true = refl
    by false = refl

pub literal_stands : (n : ℕ) (u : Storage) → StandsFor (word_of n) (term_in (literal n) u)
literal_stands n u =
    chosen (word_of n) (λ m e. let same : wrapped n ≡ m = some_is _ m (sym (known_literal n) ∙ e) in let l : n % 4294967296 < 4294967296 = omega arith in subst (λ k. k < 4294967296) same l) (term_in (literal n) u)
    (λ e. let no : Some (wrapped n) ≡ None = sym (known_literal n) ∙ e in absurd cc)
    (λ m e. let same : wrapped n ≡ m = some_is _ m (sym (known_literal n) ∙ e) in literal_is n u ∙ ap (λ k. cond (is_private k) (word_of 0) (word_of n)) same)
