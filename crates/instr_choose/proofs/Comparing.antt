-- What the flags of a comparison say of two numbers.
use Rattle.std.proofs.Common.{◌≡◌, ℕ, ◌+◌, ◌-◌, ◌%◌, ◌<◌, ◌≤◌, ◌==◌, ◌&&◌, Bool, true, false, not, cond, leb, ltb, Option, Some, None, refl, ap, ◌∙◌, inl, inr, arith}
use Rattle.std.proofs.lemmas.Bool.{eqb-true, eq-eqb, ne_eqb, le-leb, lt-leb, lt-ltb, le-ltb, cases_lt}
use Rattle.x86_types.specs.declared.operation.Cond.{Cond}
use Rattle.x86_types.specs.declared.operation.Cond.TheVariants as condition_of
use Rattle.x86_values.specs.declared.word.Word.{Word}
use Rattle.x86_values.specs.Words.{word_of, known}
use Rattle.x86_values.specs.WordLaws.{WordLaws}
use Rattle.x86_values.specs.Sizes.{cut, number}
use Rattle.x86_values.specs.Results.{differ}
use Rattle.x86_values.specs.Sums.{raised, difference, sub}
use Rattle.x86_values.specs.Conditions.{condition}
use Rattle.x86_values.specs.LessSpecified.{WordLessSpecified}
use Rattle.x86_values.specs.LessSpecifiedLaws.{LessSpecifiedLaws}
use Rattle.x86_meaning.specs.Outcomes.{chosen}
use Rattle.flag_ir.specs.Calculations.{one_if, compared}
use Rattle.flag_ir.specs.Operations.{picked}
use Rattle.instr_choose.proofs.Items.{with_lowest_byte}
use Rattle.instr_choose.proofs.Below.{nothing, word_itself}

pub number_known : (x : Word) → number 4 x ≡ known x
unfolding number cut
number_known x = refl

zero_by : (n m : ℕ) → n < 4294967296 → m < 4294967296 → ((4294967296 + n - (m + 0)) % 4294967296 == 0) ≡ (n == m)
zero_by n m h k = cases (n == m) refl
  where
    cases : (b : Bool) → (n == m) ≡ b → ((4294967296 + n - (m + 0)) % 4294967296 == 0) ≡ b
    cases true e = let q : n ≡ m = eqb-true n m e in eq-eqb _ 0 (omega (arith, q, h))
    cases false e = ne_eqb _ 0 (λ q. let d : n ≡ m = omega (arith, q, h, k) in absurd (let t : (n == m) ≡ true = eq-eqb n m d in cc))

-- a condition says what a test of the numbers says
abbrev pub Says : Cond → (ℕ → ℕ → Bool) → Type 0
Says c test = (n m : ℕ) → n < 4294967296 → m < 4294967296 → condition c (difference 4 n m false).flags ≡ Some (test n m)

pub equal_says : Says condition_of.E (λ a b. a == b)
unfolding difference
equal_says n m h k = ap (λ (b : Bool). Some b) (zero_by n m h k)

pub below_says : Says condition_of.B ltb
unfolding difference
below_says n m h k = ap (λ (i : ℕ). Some (ltb n i)) (let q : m + 0 ≡ m = omega arith in q)

-- the sign of a difference differs from its overflow where the first raised number is less
by_signs : (H a b r : ℕ) → 0 < H → (b ≤ a → r + b ≡ a) → (a < b → r + b ≡ H + H + a) → differ (leb H r) (not (leb b (a + H) && ltb a (b + H))) ≡ ltb a b
by_signs H a b r z up down = elim (cases_lt a b) [
  | inl l ↦ elim (cases_lt (a + H) b) [
    | inl far ↦ rw (lt-leb b (a + H) far, lt-leb H r (omega (arith, far, down l)), lt-ltb a b l) refl
    | inr near ↦ rw (le-leb b (a + H) near, lt-ltb a (b + H) (omega (arith, l)), le-leb H r (omega (arith, near, down l)), lt-ltb a b l) refl
  ]
  | inr g ↦ elim (cases_lt a (b + H)) [
    | inl near ↦ rw (le-leb b (a + H) (omega (arith, g)), lt-ltb a (b + H) near, lt-leb H r (omega (arith, near, up g)), le-ltb a b g) refl
    | inr far ↦ rw (le-leb b (a + H) (omega (arith, g)), le-ltb a (b + H) far, le-leb H r (omega (arith, far, up g)), le-ltb a b g) refl
  ]
]

up_by : (n m : ℕ) → n < 4294967296 → m < 4294967296 → (m + 2147483648) % 4294967296 ≤ (n + 2147483648) % 4294967296 → (4294967296 + n - (m + 0)) % 4294967296 + (m + 2147483648) % 4294967296 ≡ (n + 2147483648) % 4294967296
up_by n m h k l = omega (arith, h, k, l)

down_by : (n m : ℕ) → n < 4294967296 → m < 4294967296 → (n + 2147483648) % 4294967296 < (m + 2147483648) % 4294967296 → (4294967296 + n - (m + 0)) % 4294967296 + (m + 2147483648) % 4294967296 ≡ 2147483648 + 2147483648 + (n + 2147483648) % 4294967296
down_by n m h k l = omega (arith, h, k, l)

signs : (n m : ℕ) → n < 4294967296 → m < 4294967296 → differ (leb 2147483648 ((4294967296 + n - (m + 0)) % 4294967296)) (not (leb ((m + 2147483648) % 4294967296) ((n + 2147483648) % 4294967296 + 2147483648) && ltb ((n + 2147483648) % 4294967296) ((m + 2147483648) % 4294967296 + 2147483648))) ≡ ltb ((n + 2147483648) % 4294967296) ((m + 2147483648) % 4294967296)
signs n m h k = by_signs 2147483648 _ _ _ (omega arith) (up_by n m h k) (down_by n m h k)

pub less_says : Says condition_of.L (λ a b. ltb (raised 4 a) (raised 4 b))
unfolding difference
less_says n m h k =
    let none : (m + 2147483648) % 4294967296 + 0 ≡ (m + 2147483648) % 4294967296 = omega arith in
    ap (λ (b : Bool). Some b)
    (ap (λ (x : ℕ). differ (leb 2147483648 ((4294967296 + n - (m + 0)) % 4294967296)) (not (leb x ((n + 2147483648) % 4294967296 + 2147483648) && ltb ((n + 2147483648) % 4294967296) (x + 2147483648)))) none
    ∙ signs n m h k)

-- ---- words
module _ (less : LessSpecifiedLaws) (words : WordLaws) where
  pub fits : (x y : Word) (n : ℕ) → WordLessSpecified x y → known x ≡ Some n → (number 4 y ≡ Some n) × (n < 4294967296)
  fits x y n h e = less.same_number 4 n x y refl h (number_known x ∙ e)

  one_word : (b : Bool) → with_lowest_byte (chosen (Some b) (word_of 0) (word_of 1)) (word_of 0) ≡ word_of (one_if b)
  unfolding word_of
  one_word true = refl
  one_word false = refl

  pub compared_less : (c : Cond) (test : ℕ → ℕ → Bool) → Says c test → (x y x' y' : Word) → WordLessSpecified x x' → WordLessSpecified y y' →
      WordLessSpecified (compared test (known x) (known y)) (with_lowest_byte (chosen (condition c (sub 4 x' y' (Some false)).flags) (word_of 0) (word_of 1)) (word_of 0))
  unfolding sub
  compared_less c test says x y x' y' h k = cases (known x) (known y) refl refl
    where
      cases : (a b : Option ℕ) → known x ≡ a → known y ≡ b → WordLessSpecified (compared test a b) (with_lowest_byte (chosen (condition c (sub 4 x' y' (Some false)).flags) (word_of 0) (word_of 1)) (word_of 0))
      cases None b e f = nothing _
      cases (Some n) None e f = nothing _
      cases (Some n) (Some m) e f =
          let i = fits x x' n h e in
          let j = fits y y' m k f in
          rw (i.0, j.0, says n m i.1 j.1, one_word (test n m)) (word_itself less words (one_if (test n m)))

  not_zero : (n : ℕ) → n < 4294967296 → condition condition_of.Ne (difference 4 n 0 false).flags ≡ Some (not (n == 0))
  unfolding difference
  not_zero n f = ap (λ (b : Bool). Some (not b)) (zero_by n 0 f (omega arith))

  -- a pick by a comparison with 0
  pub picked_less : (t x y t' x' y' : Word) → WordLessSpecified t t' → WordLessSpecified x x' → WordLessSpecified y y' → WordLessSpecified (picked (known t) x y) (chosen (condition condition_of.Ne (sub 4 t' (word_of 0) (Some false)).flags) y' x')
  unfolding sub
  picked_less t x y t' x' y' h k l = cases (known t) refl
    where
      zero_number : number 4 (word_of 0) ≡ Some 0
      zero_number = number_known (word_of 0) ∙ words.known_word 0 (omega arith)

      by_zero : (b : Bool) → WordLessSpecified (cond b y x) (chosen (Some (not b)) y' x')
      by_zero true = l
      by_zero false = k

      cases : (o : Option ℕ) → known t ≡ o → WordLessSpecified (picked o x y) (chosen (condition condition_of.Ne (sub 4 t' (word_of 0) (Some false)).flags) y' x')
      cases None e = nothing _
      cases (Some n) e = let i = fits t t' n h e in rw (i.0, zero_number, not_zero n i.1) (by_zero (n == 0))

  -- a comparison with 0 tells whether a number that is known is 0
  pub not_zero_says : (t t' : Word) (n : ℕ) → WordLessSpecified t t' → known t ≡ Some n → condition condition_of.Ne (sub 4 t' (word_of 0) (Some false)).flags ≡ Some (not (n == 0))
  unfolding sub
  not_zero_says t t' n h e =
      let i = fits t t' n h e in
      let zero : number 4 (word_of 0) ≡ Some 0 = number_known (word_of 0) ∙ words.known_word 0 (omega arith) in
      rw (i.0, zero, not_zero n i.1) refl
