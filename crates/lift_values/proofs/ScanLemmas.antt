-- The cores of BSF and BSR: the bit is found by halves.
use Rattle.std.proofs.Common.{◌≡◌, ℕ, ◌+◌, ◌-◌, ◌*◌, ◌/◌, ◌%◌, ◌^◌, ◌<◌, ◌≤◌, ◌==◌, Bool, true, false, cond, ltb, Option, Some, None, refl, sym, ◌∙◌, ap, ap₂, subst, arith, inl, inr, ◌⊎◌, lit<, bit_and}
use Rattle.std.proofs.lemmas.Bool.{eqb-true, eqb-false, ltb-true, ltb-false, cases_order}
use Rattle.std.proofs.lemmas.Nat.{and_mask, mod_below, pow_pos, pow-add, shl-shr, shr-shr, shr_le, mod-pow-add, div-add-mod'}
use Rattle.std.proofs.Math.Nat.{le-div_iff_mul-le, div-lt_iff_lt-mul, mul_assoc, mul-mod_left}
use Rattle.x86_types.specs.declared.operation.ShiftOp.TheVariants as shiftop
use Rattle.x86_types.specs.declared.width.Width.{Width}
use Rattle.x86_types.specs.declared.width.Width.TheVariants.{One, Two, Four}
use Rattle.x86_types.specs.Numbers.{size_of}
use Rattle.x86_values.specs.declared.word.Word.{Word}
use Rattle.x86_values.specs.Words.{word_of}
use Rattle.x86_values.specs.Sizes.{cut, no_word, number, full}
use Rattle.x86_values.specs.Results.{no_flags}
use Rattle.x86_values.specs.Scans.{lowest_bit, highest_bit, set_bit, scan_of, scan}
use Rattle.x86_values.specs.ScanLaws.{ScanLaws}
use Rattle.x86_meaning.specs.Outcomes.{scan_computed}
use Rattle.flag_ir.specs.Calculations.{one_if, sum_of, and_of, shifted_of, equal_of, below_of}
use Rattle.flag_ir.specs.Storage.{Storage}
use Rattle.flag_ir.specs.Operations.{perform, performs}
use Rattle.lift_relation.specs.Cores.{CutMatches, IsChangedByCore, ComputesOne}
use Rattle.lift_values.specs.Terms.{mask}
use Rattle.lift_values.specs.Scans.{scan_core}
use Rattle.lift_values.proofs.WordLemmas.{IsNumber, same_word, number_below, below_32, known_matches, nothing_matches, mask_words, small_mod, sum_words, and_words, equal_words, below_words, shl_words, shr_words, unshifted_words}
use Rattle.lift_values.proofs.FlagLemmas.{changed}
use Rattle.lift_values.proofs.AnswerLemmas.{Answers}

-- ---- there is one highest bit
one_gone : (d : ℕ) → 1 / 2 ^ (d + 1) ≡ 0
one_gone d =
    let p : 0 < 2 ^ d = pow_pos d in
    let e : 2 ^ (d + 1) ≡ 2 ^ d * 2 = pow-add 2 d 1 in
    let l : 1 / 2 ^ (d + 1) < 1 = (div-lt_iff_lt-mul (pow_pos (d + 1))).1 (omega (arith, p, e)) in
    omega (arith, l)

no_higher : (n r d : ℕ) → n / 2 ^ r ≡ 1 → n / 2 ^ (r + (d + 1)) ≡ 1 → ⊥
no_higher n r d e g = let q : n / 2 ^ (r + (d + 1)) ≡ 0 = sym (shr-shr n r (d + 1)) ∙ ap (λ t. t / 2 ^ (d + 1)) e ∙ one_gone d in omega (arith, q, g)

one_highest : (n r h : ℕ) → n / 2 ^ r ≡ 1 → n / 2 ^ h ≡ 1 → r ≡ h
one_highest n r h e g = cases (cases_order r h)
  where
    cases : (r ≡ h) ⊎ ((r < h) ⊎ (h < r)) → r ≡ h
    cases (inl q) = q
    cases (inr (inl l)) = absurd (no_higher n r (h - r - 1) e (ap (λ t. n / 2 ^ t) (let q : r + (h - r - 1 + 1) ≡ h = omega (arith, l) in q) ∙ g))
    cases (inr (inr l)) = absurd (no_higher n h (r - h - 1) g (ap (λ t. n / 2 ^ t) (let q : h + (r - h - 1 + 1) ≡ r = omega (arith, l) in q) ∙ e))

highest_quotient : (n h : ℕ) → 2 ^ h ≤ n → n < 2 ^ (h + 1) → n / 2 ^ h ≡ 1
highest_quotient n h l k =
    let e : 2 ^ (h + 1) ≡ 2 ^ h * 2 = pow-add 2 h 1 in
    let a : n / 2 ^ h < 2 = (div-lt_iff_lt-mul (pow_pos h)).1 (omega (arith, e, k)) in
    let b : 1 ≤ n / 2 ^ h = (le-div_iff_mul-le (pow_pos h)).1 (omega (arith, l)) in
    omega (arith, a, b)

-- ---- and one lowest bit
power_split : (y d r : ℕ) → y * 2 ^ (d + 1 + r) ≡ y * 2 ^ d * 2 * 2 ^ r
power_split y d r = ap (λ t. y * t) (pow-add 2 (d + 1) r ∙ ap (λ t. t * 2 ^ r) (pow-add 2 d 1)) ∙ sym (mul_assoc y (2 ^ d * 2) (2 ^ r)) ∙ ap (λ t. t * 2 ^ r) (sym (mul_assoc y (2 ^ d) 2))

no_lower : (x y r d : ℕ) → x * 2 ^ r ≡ y * 2 ^ (d + 1 + r) → x % 2 ≡ 1 → ⊥
no_lower x y r d e o =
    let q : x ≡ y * 2 ^ d * 2 = sym (shl-shr x r) ∙ ap (λ t. t / 2 ^ r) (e ∙ power_split y d r) ∙ shl-shr (y * 2 ^ d * 2) r in
    let z : x % 2 ≡ 0 = ap (λ t. t % 2) q ∙ mul-mod_left (y * 2 ^ d) 2 in
    omega (arith, z, o)

one_lowest : (x y r l : ℕ) → x * 2 ^ r ≡ y * 2 ^ l → x % 2 ≡ 1 → y % 2 ≡ 1 → r ≡ l
one_lowest x y r l e o p = cases (cases_order r l)
  where
    cases : (r ≡ l) ⊎ ((r < l) ⊎ (l < r)) → r ≡ l
    cases (inl q) = q
    cases (inr (inl k)) = absurd (no_lower x y r (l - r - 1) (e ∙ ap (λ t. y * 2 ^ t) (let q : l ≡ l - r - 1 + 1 + r = omega (arith, k) in q)) o)
    cases (inr (inr k)) = absurd (no_lower y x l (r - l - 1) (sym e ∙ ap (λ t. x * 2 ^ t) (let q : r ≡ r - l - 1 + 1 + l = omega (arith, k) in q)) p)

-- ---- words: what is left of the operand, and the count
abbrev test : Bool → ℕ → Word → Word
test true ones y = below_of (word_of ones) y
test false ones y = equal_of (and_of y (word_of ones)) (word_of 0)

abbrev moved : ℕ → Word → Word
moved log t = shifted_of shiftop.Shl t (word_of log)

abbrev rest_of : Bool → ℕ → ℕ → Word → Word
rest_of reverse ones log y = shifted_of shiftop.Shr y (moved log (test reverse ones y))

abbrev count_of : Bool → ℕ → ℕ → Word → Word → Word
count_of reverse ones log y z = sum_of z (moved log (test reverse ones y))

record IsMoved (b : Bool) (k x r : ℕ) (y z : Word) : Type 0 where
  pub rest : y ≡ word_of (cond b (x / 2 ^ k) x)
  pub count : z ≡ word_of (cond b (r + k) r)

is_moved : (b : Bool) (log k x r : ℕ) (y z t : Word) → y ≡ word_of x → z ≡ word_of r → t ≡ word_of (one_if b) → x < 4294967296 → log < 32 → 2 ^ log ≡ k → k < 32 → IsMoved b k x r (shifted_of shiftop.Shr y (moved log t)) (sum_of z (moved log t))
is_moved true log k x r y z t e f g l m p q =
    let s : moved log t ≡ word_of k = ap (moved log) g ∙ shl_words 1 log (lit< tt) m ∙ same_word _ _ (omega (arith, p)) in
    record { rest = ap₂ (shifted_of shiftop.Shr) e s ∙ shr_words x k l q; count = ap₂ sum_of f s ∙ sum_words r k }
is_moved false log k x r y z t e f g l m p q =
    let s : moved log t ≡ word_of 0 = ap (moved log) g ∙ shl_words 0 log (lit< tt) m ∙ same_word _ _ (omega arith) in
    record { rest = ap₂ (shifted_of shiftop.Shr) e s ∙ unshifted_words shiftop.Shr (word_of x); count = ap₂ sum_of f s ∙ sum_words r 0 ∙ same_word _ _ (omega arith) }

-- a step of the search, by 2 ^ log bits, whose ones are given
record IsStep (log k ones : ℕ) : Type 0 where
  pub power : 2 ^ log ≡ k
  pub all : ones + 1 ≡ 2 ^ k
  pub few : log < 32
  pub small : k < 32
  pub fits : ones < 4294967296
  pub masks : (x : ℕ) → bit_and x ones ≡ x % 2 ^ k

-- ---- the highest bit is among the lowest bits of what is left
record IsHigh (bits n : ℕ) (y z : Word) : Type 0 where
  pub left : ℕ
  pub passed : ℕ
  pub rest : y ≡ word_of left
  pub count : z ≡ word_of passed
  pub quotient : n / 2 ^ passed ≡ left
  pub positive : 0 < left
  pub fits : left < 4294967296
  pub below : left < 2 ^ bits
  pub small : passed + bits ≤ 32

high_step : (log k ones n : ℕ) (y z : Word) → IsStep log k ones → IsHigh (k + k) n y z → IsHigh k n (rest_of true ones log y) (count_of true ones log y z)
high_step log k ones n y z s h = cases (ltb ones h.left) refl
  where
    cases : (b : Bool) → ltb ones h.left ≡ b → IsHigh k n (rest_of true ones log y) (count_of true ones log y z)
    cases true e =
        let t : test true ones y ≡ word_of (one_if true) = ap (below_of (word_of ones)) h.rest ∙ below_words ones h.left s.fits h.fits ∙ ap (λ b. word_of (one_if b)) e in
        let m = is_moved true log k h.left h.passed y z (test true ones y) h.rest h.count t h.fits s.few s.power s.small in
        let g : ones < h.left = ltb-true ones h.left e in
        let l : 2 ^ k ≤ h.left = omega (arith, g, s.all) in
        let d : 1 ≤ h.left / 2 ^ k = (le-div_iff_mul-le (pow_pos k)).1 (omega (arith, l)) in
        let c : h.left / 2 ^ k ≤ h.left = shr_le h.left k in
        record {
          left = h.left / 2 ^ k;
          passed = h.passed + k;
          rest = m.rest;
          count = m.count;
          quotient = sym (shr-shr n h.passed k) ∙ ap (λ t. t / 2 ^ k) h.quotient;
          positive = omega (arith, d);
          fits = omega (arith, c, h.fits);
          below = (div-lt_iff_lt-mul (pow_pos k)).1 (subst (λ t. h.left < t) (pow-add 2 k k) h.below);
          small = omega (arith, h.small);
        }
    cases false e =
        let t : test true ones y ≡ word_of (one_if false) = ap (below_of (word_of ones)) h.rest ∙ below_words ones h.left s.fits h.fits ∙ ap (λ b. word_of (one_if b)) e in
        let m = is_moved false log k h.left h.passed y z (test true ones y) h.rest h.count t h.fits s.few s.power s.small in
        let g : h.left ≤ ones = ltb-false ones h.left e in
        record { left = h.left; passed = h.passed; rest = m.rest; count = m.count; quotient = h.quotient; positive = h.positive; fits = h.fits; below = omega (arith, g, s.all); small = omega (arith, h.small) }

-- ---- the lowest bit is among the lowest bits of what is left
record IsLow (bits n : ℕ) (y z : Word) : Type 0 where
  pub left : ℕ
  pub passed : ℕ
  pub rest : y ≡ word_of left
  pub count : z ≡ word_of passed
  pub product : n ≡ left * 2 ^ passed
  pub within : left % 2 ^ bits ≡ 0 → ⊥
  pub fits : left < 4294967296
  pub small : passed + bits ≤ 32

low_test : (ones k x : ℕ) (y : Word) → ((x : ℕ) → bit_and x ones ≡ x % 2 ^ k) → ones + 1 ≡ 2 ^ k → ones < 4294967296 → y ≡ word_of x → test false ones y ≡ word_of (one_if ((x % 2 ^ k) == 0))
low_test ones k x y masks all fits e =
    let l : x % 2 ^ k < 2 ^ k = mod_below x (2 ^ k) (pow_pos k) in
    ap (λ z. equal_of z (word_of 0)) (ap (λ z. and_of z (word_of ones)) e ∙ and_words x ones ∙ same_word _ _ (masks x)) ∙ equal_words (x % 2 ^ k) 0 (omega (arith, l, all, fits)) (lit< tt)

nothing_left : (p : ℕ) → 0 * p + 0 ≡ 0
nothing_left p = omega arith

low_step : (log k ones n : ℕ) (y z : Word) → IsStep log k ones → IsLow (k + k) n y z → IsLow k n (rest_of false ones log y) (count_of false ones log y z)
low_step log k ones n y z s h = cases ((h.left % 2 ^ k) == 0) refl
  where
    split : h.left / 2 ^ k * 2 ^ k + h.left % 2 ^ k ≡ h.left
    split = div-add-mod' h.left (2 ^ k)

    cases : (b : Bool) → ((h.left % 2 ^ k) == 0) ≡ b → IsLow k n (rest_of false ones log y) (count_of false ones log y z)
    cases true e =
        let t : test false ones y ≡ word_of (one_if true) = low_test ones k h.left y s.masks s.all s.fits h.rest ∙ ap (λ b. word_of (one_if b)) e in
        let m = is_moved true log k h.left h.passed y z (test false ones y) h.rest h.count t h.fits s.few s.power s.small in
        let g : h.left % 2 ^ k ≡ 0 = eqb-true (h.left % 2 ^ k) 0 e in
        let q : h.left ≡ h.left / 2 ^ k * 2 ^ k = omega (arith, split, g) in
        let c : h.left / 2 ^ k ≤ h.left = shr_le h.left k in
        record {
          left = h.left / 2 ^ k;
          passed = h.passed + k;
          rest = m.rest;
          count = m.count;
          product = h.product ∙ ap (λ t. t * 2 ^ h.passed) q ∙ mul_assoc (h.left / 2 ^ k) (2 ^ k) (2 ^ h.passed) ∙ ap (λ t. h.left / 2 ^ k * t) (sym (pow-add 2 k h.passed) ∙ ap (λ t. 2 ^ t) (let r : k + h.passed ≡ h.passed + k = omega arith in r));
          within = λ v. h.within (mod-pow-add h.left k k ∙ ap₂ (λ s t. s * 2 ^ k + t) v g ∙ nothing_left (2 ^ k));
          fits = omega (arith, c, h.fits);
          small = omega (arith, h.small);
        }
    cases false e =
        let t : test false ones y ≡ word_of (one_if false) = low_test ones k h.left y s.masks s.all s.fits h.rest ∙ ap (λ b. word_of (one_if b)) e in
        let m = is_moved false log k h.left h.passed y z (test false ones y) h.rest h.count t h.fits s.few s.power s.small in
        record { left = h.left; passed = h.passed; rest = m.rest; count = m.count; product = h.product; within = eqb-false (h.left % 2 ^ k) 0 e; fits = h.fits; small = omega (arith, h.small) }

-- ---- the five steps
by_16 : IsStep 4 16 0xFFFF
by_16 = record { power = refl; all = refl; few = lit< tt; small = lit< tt; fits = lit< tt; masks = λ x. and_mask x 16 }

by_8 : IsStep 3 8 0xFF
by_8 = record { power = refl; all = refl; few = lit< tt; small = lit< tt; fits = lit< tt; masks = λ x. and_mask x 8 }

by_4 : IsStep 2 4 0xF
by_4 = record { power = refl; all = refl; few = lit< tt; small = lit< tt; fits = lit< tt; masks = λ x. and_mask x 4 }

by_2 : IsStep 1 2 3
by_2 = record { power = refl; all = refl; few = lit< tt; small = lit< tt; fits = lit< tt; masks = λ x. and_mask x 2 }

by_1 : IsStep 0 1 1
by_1 = record { power = refl; all = refl; few = lit< tt; small = lit< tt; fits = lit< tt; masks = λ x. and_mask x 1 }

abbrev half : Bool → ℕ → ℕ → Word × Word → Word × Word
half reverse ones log p = (rest_of reverse ones log p.0, count_of reverse ones log p.0 p.1)

abbrev searched : Bool → Word → Word
searched reverse x = (half reverse 1 0 (half reverse 3 1 (half reverse 0xF 2 (half reverse 0xFF 3 (half reverse 0xFFFF 4 (x, word_of 0)))))).1

-- the count is that of a bit
record IsFound (bit : ℕ) (z : Word) : Type 0 where
  pub is : z ≡ word_of bit
  pub small : bit < 32

high_end : ScanLaws → (n : ℕ) (y z : Word) → 0 < n → n < 4294967296 → IsHigh 1 n y z → IsFound (highest_bit 32 n) z
high_end laws n y z p l h =
    let b = laws.highest n p l in
    let o : h.left ≡ 1 = (let a : h.left < 2 = h.below in let c : 0 < h.left = h.positive in omega (arith, a, c)) in
    let e : h.passed ≡ highest_bit 32 n = one_highest n h.passed (highest_bit 32 n) (h.quotient ∙ o) (highest_quotient n (highest_bit 32 n) b.0 b.1) in
    record { is = h.count ∙ same_word _ _ e; small = omega (arith, sym e, h.small) }

low_end : ScanLaws → (n : ℕ) (y z : Word) → 0 < n → n < 4294967296 → IsLow 1 n y z → IsFound (lowest_bit 32 n) z
low_end laws n y z p l h =
    let b = laws.lowest n p l in
    let o : h.left % 2 ≡ 1 = (let w : h.left % 2 ≡ 0 → ⊥ = h.within in omega (arith, w)) in
    let q : n ≡ n / 2 ^ lowest_bit 32 n * 2 ^ lowest_bit 32 n = (let d : n / 2 ^ lowest_bit 32 n * 2 ^ lowest_bit 32 n + n % 2 ^ lowest_bit 32 n ≡ n = div-add-mod' n (2 ^ lowest_bit 32 n) in let m : n % 2 ^ lowest_bit 32 n ≡ 0 = b.0 in omega (arith, d, m)) in
    let e : h.passed ≡ lowest_bit 32 n = one_lowest h.left (n / 2 ^ lowest_bit 32 n) h.passed (lowest_bit 32 n) (sym h.product ∙ q) o b.1 in
    record { is = h.count ∙ same_word _ _ e; small = omega (arith, sym e, h.small) }

found : ScanLaws → (reverse : Bool) (w : Width) (n : ℕ) (x : Word) → IsNumber w n x → 0 < n → IsFound (set_bit reverse n) (searched reverse x)
found laws true w n x h p =
    let l : n < 4294967296 = below_32 w n h.fits in
    let start : IsHigh 32 n x (word_of 0) = record { left = n; passed = 0; rest = h.is; count = refl; quotient = omega arith; positive = p; fits = l; below = l; small = omega arith } in
    high_end laws n _ _ p l (high_step 0 1 1 n _ _ by_1 (high_step 1 2 3 n _ _ by_2 (high_step 2 4 0xF n _ _ by_4 (high_step 3 8 0xFF n _ _ by_8 (high_step 4 16 0xFFFF n _ _ by_16 start)))))
found laws false w n x h p =
    let l : n < 4294967296 = below_32 w n h.fits in
    let start : IsLow 32 n x (word_of 0) = record { left = n; passed = 0; rest = h.is; count = refl; product = omega arith; within = λ (e : n % 4294967296 ≡ 0). omega (arith, e, l, p); fits = l; small = omega arith } in
    low_end laws n _ _ p l (low_step 0 1 1 n _ _ by_1 (low_step 1 2 3 n _ _ by_2 (low_step 2 4 0xF n _ _ by_4 (low_step 3 8 0xFF n _ _ by_8 (low_step 4 16 0xFFFF n _ _ by_16 start)))))

-- ---- the cores
bit_fits : (w : Width) (n : ℕ) → n < 32 → n < full (size_of w)
bit_fits One n h = omega (arith, h)
bit_fits Two n h = omega (arith, h)
bit_fits Four n h = omega (arith, h)

scan_made : ScanLaws → (reverse : Bool) (w : Width) (a x : Word) (u v : Storage) → CutMatches (size_of w) a x → IsChangedByCore u v → v.temps 4 ≡ and_of (searched reverse x) (word_of (mask w)) → v.flags 2 ≡ equal_of x (word_of 0) → Answers w (scan reverse (size_of w) a) u v
unfolding scan
scan_made laws reverse w a x u v h change e zf = by_number (number (size_of w) a) refl
  where
    empty : CutMatches (size_of w) (cut (size_of w) no_word) (v.temps 4)
    empty = nothing_matches w (searched reverse x) (v.temps 4) e

    is_zero : (n : ℕ) → IsNumber w n x → (b : Bool) → (n == 0) ≡ b → v.flags 2 ≡ word_of (one_if b)
    is_zero n q b g = zf ∙ ap (λ z. equal_of z (word_of 0)) q.is ∙ equal_words n 0 (below_32 w n q.fits) (lit< tt) ∙ ap (λ b. word_of (one_if b)) g

    by_bit : (n : ℕ) → IsNumber w n x → (b : Bool) → (n == 0) ≡ b → Answers w (cond b (record { value = cut (size_of w) no_word; flags = record no_flags { zf = Some true } }) (record { value = word_of (set_bit reverse n); flags = record no_flags { zf = Some false } })) u v
    by_bit n q true g = record { change = change; values = (empty, tt); flags = record { cf = tt; pf = tt; zf = is_zero n q true g; sf = tt; of = tt } }
    by_bit n q false g =
        let z : n ≡ 0 → ⊥ = eqb-false n 0 g in
        let f = found laws reverse w n x q (omega (arith, z)) in
        let l : set_bit reverse n < full (size_of w) = bit_fits w (set_bit reverse n) f.small in
        record {
          change = change;
          values = (known_matches w (set_bit reverse n) (v.temps 4) (e ∙ ap (λ y. and_of y (word_of (mask w))) f.is ∙ mask_words w (set_bit reverse n) ∙ same_word _ _ (small_mod w (set_bit reverse n) l)) l, tt);
          flags = record { cf = tt; pf = tt; zf = is_zero n q false g; sf = tt; of = tt };
        }

    by_number : (o : Option ℕ) → number (size_of w) a ≡ o → Answers w (scan_of reverse (size_of w) o) u v
    by_number None g = record { change = change; values = (empty, tt); flags = record { cf = tt; pf = tt; zf = tt; sf = tt; of = tt } }
    by_number (Some n) g = by_bit n (number_below w a n x g h) (n == 0) refl

pub scan_computes : ScanLaws → (reverse : Bool) (w : Width) → ComputesOne (size_of w) (size_of w) (λ f x. scan_computed reverse (size_of w) x) (scan_core reverse w)
unfolding perform performs
scan_computes laws true w = record { computes = λ turn a f u x g. scan_made laws true w a (u.temps 1) u _ x (changed u _ refl refl refl refl refl) refl refl }
scan_computes laws false w = record { computes = λ turn a f u x g. scan_made laws false w a (u.temps 1) u _ x (changed u _ refl refl refl refl refl) refl refl }
