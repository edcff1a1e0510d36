-- The cores of differences.
use Rattle.std.proofs.Common.{◌≡◌, ℕ, ◌+◌, ◌-◌, ◌%◌, ◌<◌, ◌≤◌, ◌&&◌, Bool, true, false, not, cond, leb, ltb, Option, Some, None, refl, sym, ◌∙◌, ap, ap₂, arith, inl, inr, ◌⊎◌, lit<}
use Rattle.std.proofs.lemmas.Bool.{le-leb, lt-leb, lt-ltb, le-ltb, leb-true, leb-false, cases_lt}
use Rattle.x86_types.specs.declared.operation.AluOp.TheVariants as alu
use Rattle.x86_types.specs.declared.operation.ShiftOp.TheVariants as shiftop
use Rattle.x86_types.specs.declared.width.Width.{Width}
use Rattle.x86_types.specs.declared.width.Width.TheVariants.{One, Two, Four}
use Rattle.x86_types.specs.Numbers.{size_of}
use Rattle.x86_values.specs.declared.word.Word.{Word}
use Rattle.x86_values.specs.Words.{word_of, known}
use Rattle.x86_values.specs.Sizes.{full, half, is_negative}
use Rattle.x86_values.specs.Results.{carry_number, differ}
use Rattle.x86_values.specs.Sums.{raised, difference, sub}
use Rattle.x86_meaning.specs.Outcomes.{with_carry, alu_computed, dec_computed, neg_computed}
use Rattle.flag_ir.specs.Calculations.{one_if, difference_of, and_of, xor_of, shifted_of, below_of}
use Rattle.flag_ir.specs.Storage.{Storage}
use Rattle.flag_ir.specs.Operations.{picked, perform, performs}
use Rattle.lift_relation.specs.Matching.{FlagMatches}
use Rattle.lift_relation.specs.Cores.{CutMatches, ComputesOne, ComputesTwo}
use Rattle.lift_values.specs.Terms.{mask, top}
use Rattle.lift_values.specs.Sums.{sub_core, sbb_core, dec_core, neg_core}
use Rattle.lift_values.proofs.WordLemmas.{IsNumber, same_word, difference_words, mask_words, top_words, xor_bits, and_bits, below_words, below_32, mod_fits, known_matches}
use Rattle.lift_values.proofs.AnswerLemmas.{Answers, ResultShape, result_shape, flags_alone, known_answer, no_answer, by_numbers, some_bool, is_carry, carry_bit, picked_bit}
use Rattle.lift_values.proofs.SumLemmas.{IsRaised, raised_is, twice_half, carry_fits, one_matches}

-- ---- signed overflow of a difference by the highest bits, over any half of a range
record IsDifference (H F n m c ra rb r : ℕ) : Type 0 where
  pub twice : F ≡ H + H
  pub first : IsRaised H n ra
  pub second : IsRaised H m rb
  pub result : (r + m + c ≡ n) ⊎ (r + m + c ≡ n + F)
  pub n_fits : n < F
  pub m_fits : m < F
  pub r_fits : r < F
  pub c_fits : c ≤ 1

out_low : (H x y : ℕ) → x + H < y → true ≡ not (leb y (x + H) && ltb x (y + H))
out_low H x y l = sym (ap (λ b. not (b && ltb x (y + H))) (lt-leb y (x + H) l))

out_high : (H x y : ℕ) → y + H ≤ x → true ≡ not (leb y (x + H) && ltb x (y + H))
out_high H x y l = sym (ap₂ (λ b c. not (b && c)) (le-leb y (x + H) (omega (arith, l))) (le-ltb x (y + H) l))

in_range : (H x y : ℕ) → y ≤ x + H → x < y + H → false ≡ not (leb y (x + H) && ltb x (y + H))
in_range H x y l k = sym (ap₂ (λ b c. not (b && c)) (le-leb y (x + H) l) (lt-ltb x (y + H) k))

overflow_by : (H F n m c ra rb r : ℕ) (p q s : Bool) → leb H n ≡ p → leb H m ≡ q → leb H r ≡ s → IsDifference H F n m c ra rb r → (differ p s && differ p q) ≡ not (leb (rb + c) (ra + H) && ltb ra (rb + c + H))
overflow_by H F n m c ra rb r true true true p q s h = in_range H _ _ (omega (arith, leb-true H n p, leb-true H m q, leb-true H r s, h)) (omega (arith, leb-true H n p, leb-true H m q, leb-true H r s, h))
overflow_by H F n m c ra rb r true true false p q s h = in_range H _ _ (omega (arith, leb-true H n p, leb-true H m q, leb-false H r s, h)) (omega (arith, leb-true H n p, leb-true H m q, leb-false H r s, h))
overflow_by H F n m c ra rb r true false true p q s h = in_range H _ _ (omega (arith, leb-true H n p, leb-false H m q, leb-true H r s, h)) (omega (arith, leb-true H n p, leb-false H m q, leb-true H r s, h))
overflow_by H F n m c ra rb r true false false p q s h = out_low H _ _ (omega (arith, leb-true H n p, leb-false H m q, leb-false H r s, h))
overflow_by H F n m c ra rb r false true true p q s h = out_high H _ _ (omega (arith, leb-false H n p, leb-true H m q, leb-true H r s, h))
overflow_by H F n m c ra rb r false true false p q s h = in_range H _ _ (omega (arith, leb-false H n p, leb-true H m q, leb-false H r s, h)) (omega (arith, leb-false H n p, leb-true H m q, leb-false H r s, h))
overflow_by H F n m c ra rb r false false true p q s h = in_range H _ _ (omega (arith, leb-false H n p, leb-false H m q, leb-true H r s, h)) (omega (arith, leb-false H n p, leb-false H m q, leb-true H r s, h))
overflow_by H F n m c ra rb r false false false p q s h = in_range H _ _ (omega (arith, leb-false H n p, leb-false H m q, leb-false H r s, h)) (omega (arith, leb-false H n p, leb-false H m q, leb-false H r s, h))

-- ---- numbers of a width: the difference as the definition has it
abbrev minus : ℕ → ℕ → ℕ → ℕ → ℕ
minus F n m c = (F + n - (m + c)) % F

minus_is : (w : Width) (n m c : ℕ) → n < full (size_of w) → m < full (size_of w) → c ≤ 1 → (minus (full (size_of w)) n m c + m + c ≡ n) ⊎ (minus (full (size_of w)) n m c + m + c ≡ n + full (size_of w))
minus_is One n m c h k l = cases (cases_lt n (m + c))
  where
    cases : (n < m + c) ⊎ (m + c ≤ n) → (minus 256 n m c + m + c ≡ n) ⊎ (minus 256 n m c + m + c ≡ n + 256)
    cases (inl q) = inr (omega (arith, l, h, k, q))
    cases (inr q) = inl (omega (arith, l, h, k, q))
minus_is Two n m c h k l = cases (cases_lt n (m + c))
  where
    cases : (n < m + c) ⊎ (m + c ≤ n) → (minus 65536 n m c + m + c ≡ n) ⊎ (minus 65536 n m c + m + c ≡ n + 65536)
    cases (inl q) = inr (omega (arith, l, h, k, q))
    cases (inr q) = inl (omega (arith, l, h, k, q))
minus_is Four n m c h k l = cases (cases_lt n (m + c))
  where
    cases : (n < m + c) ⊎ (m + c ≤ n) → (minus 4294967296 n m c + m + c ≡ n) ⊎ (minus 4294967296 n m c + m + c ≡ n + 4294967296)
    cases (inl q) = inr (omega (arith, l, h, k, q))
    cases (inr q) = inl (omega (arith, l, h, k, q))

-- it is what is left of one of 32 bits, and of one from which a carry is taken away too
plain_mod : (w : Width) (n m c : ℕ) → n < full (size_of w) → m < full (size_of w) → c ≡ 0 → (n + 4294967296 - m) % full (size_of w) ≡ minus (full (size_of w)) n m c
plain_mod One n m c h k e = omega (arith, h, k, e)
plain_mod Two n m c h k e = omega (arith, h, k, e)
plain_mod Four n m c h k e = omega (arith, h, k, e)

carried_mod : (w : Width) (n m c : ℕ) → n < full (size_of w) → m < full (size_of w) → c ≤ 1 → (n + 4294967296 - m + 4294967296 - c) % full (size_of w) ≡ minus (full (size_of w)) n m c
carried_mod One n m c h k l = omega (arith, h, k, l)
carried_mod Two n m c h k l = omega (arith, h, k, l)
carried_mod Four n m c h k l = omega (arith, h, k, l)

is_difference : (w : Width) (n m : ℕ) (c : Bool) → n < full (size_of w) → m < full (size_of w) → IsDifference (half (size_of w)) (full (size_of w)) n m (carry_number c) (raised (size_of w) n) (raised (size_of w) m) (minus (full (size_of w)) n m (carry_number c))
is_difference w n m c h k = record {
  twice = twice_half w;
  first = raised_is w n h;
  second = raised_is w m k;
  result = minus_is w n m (carry_number c) h k (carry_fits c);
  n_fits = h;
  m_fits = k;
  r_fits = mod_fits w (full (size_of w) + n - (m + carry_number c));
  c_fits = carry_fits c;
}

-- ---- what the list of a difference comes to, where X is the difference of 32 bits
abbrev pub DifferenceShape : Width → Word → Word → Word → Storage → Storage → Type 0
DifferenceShape w X x y u v =
    ResultShape w (and_of X (word_of (mask w))) (and_of (xor_of (shifted_of shiftop.Shr x (word_of (top w))) (v.flags 3)) (xor_of (shifted_of shiftop.Shr x (word_of (top w))) (shifted_of shiftop.Shr y (word_of (top w))))) u v

-- X is a word of the difference, modulo the range
abbrev Leaves : Width → Word → ℕ → Type 0
Leaves w X r = and_of X (word_of (mask w)) ≡ word_of r

difference_known : (w : Width) (n m : ℕ) (c : Bool) (k : Option Bool) (X x y : Word) (u v : Storage) → DifferenceShape w X x y u v → IsNumber w n x → IsNumber w m y → Leaves w X (minus (full (size_of w)) n m (carry_number c)) → FlagMatches k (v.flags 0) →
    Answers w (with_carry k (difference (size_of w) n m c)) u v
unfolding difference
difference_known w n m c k X x y u v s hn hm hX hc =
    let r = minus (full (size_of w)) n m (carry_number c) in
    let small : r < full (size_of w) = mod_fits w (full (size_of w) + n - (m + carry_number c)) in
    let e : v.temps 4 ≡ word_of r = s.result ∙ hX in
    let z : v.flags 3 ≡ word_of (one_if (is_negative (size_of w) r)) = s.sf ∙ ap (λ y. shifted_of shiftop.Shr y (word_of (top w))) e ∙ top_words w r small in
    let tn : shifted_of shiftop.Shr x (word_of (top w)) ≡ word_of (one_if (is_negative (size_of w) n)) = ap (λ y. shifted_of shiftop.Shr y (word_of (top w))) hn.is ∙ top_words w n hn.fits in
    let tm : shifted_of shiftop.Shr y (word_of (top w)) ≡ word_of (one_if (is_negative (size_of w) m)) = ap (λ y. shifted_of shiftop.Shr y (word_of (top w))) hm.is ∙ top_words w m hm.fits in
    let o : v.flags 4 ≡ word_of (one_if (differ (is_negative (size_of w) n) (is_negative (size_of w) r) && differ (is_negative (size_of w) n) (is_negative (size_of w) m))) =
    s.of ∙ ap₂ and_of (ap₂ xor_of tn z ∙ xor_bits _ _) (ap₂ xor_of tn tm ∙ xor_bits _ _) ∙ and_bits _ _ in
    let over = overflow_by (half (size_of w)) (full (size_of w)) n m (carry_number c) (raised (size_of w) n) (raised (size_of w) m) r _ _ _ refl refl refl (is_difference w n m c hn.fits hm.fits) in
    known_answer w r k _ u v s.change small e s.pf s.zf s.sf hc (o ∙ ap (λ b. word_of (one_if b)) over)

-- ---- the differences of words
pub plain_difference : (w : Width) (n m : ℕ) (c : Bool) (x y : Word) → IsNumber w n x → IsNumber w m y → c ≡ false → Leaves w (difference_of x y) (minus (full (size_of w)) n m (carry_number c))
plain_difference w n m c x y hn hm e =
    ap (λ z. and_of z (word_of (mask w))) (ap₂ difference_of hn.is hm.is ∙ difference_words n m (below_32 w m hm.fits)) ∙ mask_words w _ ∙ same_word _ _ (plain_mod w n m (carry_number c) hn.fits hm.fits (ap carry_number e))

bit_small : (c : ℕ) → c ≤ 1 → c < 4294967296
bit_small c h = omega (arith, h)

carried_difference : (w : Width) (n m : ℕ) (c : Bool) (x y z : Word) → IsNumber w n x → IsNumber w m y → z ≡ word_of (one_if c) → Leaves w (difference_of (difference_of x y) z) (minus (full (size_of w)) n m (carry_number c))
carried_difference w n m c x y z hn hm e =
    ap (λ z. and_of z (word_of (mask w))) (ap₂ difference_of (ap₂ difference_of hn.is hm.is ∙ difference_words n m (below_32 w m hm.fits)) (e ∙ same_word _ _ (carry_bit c)) ∙ difference_words _ (carry_number c) (bit_small (carry_number c) (carry_fits c)))
    ∙ mask_words w _ ∙ same_word _ _ (carried_mod w n m (carry_number c) hn.fits hm.fits (carry_fits c))

-- ---- CF
borrow : (w : Width) (n m : ℕ) (c : Bool) (x y : Word) → IsNumber w n x → IsNumber w m y → c ≡ false → below_of x y ≡ word_of (one_if (ltb n (m + carry_number c)))
borrow w n m c x y hn hm e = ap₂ below_of hn.is hm.is ∙ below_words n m (below_32 w n hn.fits) (below_32 w m hm.fits) ∙ ap (λ t. word_of (one_if (ltb n t))) (let z : carry_number c ≡ 0 = ap carry_number e in omega (arith, z))

not_above : (n m : ℕ) → differ (ltb m n) true ≡ ltb n (m + 1)
not_above n m = cases (cases_lt m n)
  where
    cases : (m < n) ⊎ (n ≤ m) → differ (ltb m n) true ≡ ltb n (m + 1)
    cases (inl l) = ap (λ b. differ b true) (lt-ltb m n l) ∙ sym (le-ltb n (m + 1) (omega (arith, l)))
    cases (inr l) = ap (λ b. differ b true) (le-ltb m n l) ∙ sym (lt-ltb n (m + 1) (omega (arith, l)))

borrow_with : (w : Width) (n m : ℕ) (c : Bool) (x y z : Word) → IsNumber w n x → IsNumber w m y → z ≡ word_of (one_if c) → picked (known z) (xor_of (below_of y x) (word_of 1)) (below_of x y) ≡ word_of (one_if (ltb n (m + carry_number c)))
borrow_with w n m c x y z hn hm e = ap (λ z. picked (known z) (xor_of (below_of y x) (word_of 1)) (below_of x y)) e ∙ picked_bit c _ _ ∙ cases c refl
  where
    cases : (b : Bool) → c ≡ b → cond b (xor_of (below_of y x) (word_of 1)) (below_of x y) ≡ word_of (one_if (ltb n (m + carry_number c)))
    cases false q = borrow w n m c x y hn hm q
    cases true q =
        ap (λ z. xor_of z (word_of 1)) (ap₂ below_of hm.is hn.is ∙ below_words m n (below_32 w m hm.fits) (below_32 w n hn.fits)) ∙ xor_bits (ltb m n) true
        ∙ ap (λ b. word_of (one_if b)) (not_above n m ∙ ap (λ t. ltb n (m + carry_number t)) (sym q))

-- ---- by what is known of the operands
sub_made : (w : Width) (a b x y : Word) (u v : Storage) → CutMatches (size_of w) a x → CutMatches (size_of w) b y → DifferenceShape w (difference_of x y) x y u v → v.flags 0 ≡ below_of x y → Answers w (sub (size_of w) a b (Some false)) u v
unfolding sub difference
sub_made w a b x y u v h k s cf = by_numbers w (difference (size_of w)) a b x y (Some false) (λ r. Answers w r u v) h k (no_answer w None (difference_of x y) u v s.change s.result tt) (λ n m c hn hm e.
    let z : c ≡ false = sym (some_bool false c e) in
    difference_known w n m c _ (difference_of x y) x y u v s hn hm (plain_difference w n m c x y hn hm z) (cf ∙ borrow w n m c x y hn hm z))

sbb_made : (w : Width) (a b x y z : Word) (c : Option Bool) (u v : Storage) → CutMatches (size_of w) a x → CutMatches (size_of w) b y → FlagMatches c z → DifferenceShape w (difference_of (difference_of x y) z) x y u v →
    v.flags 0 ≡ picked (known z) (xor_of (below_of y x) (word_of 1)) (below_of x y) → Answers w (sub (size_of w) a b c) u v
unfolding sub difference
sbb_made w a b x y z c u v h k hc s cf = by_numbers w (difference (size_of w)) a b x y c (λ r. Answers w r u v) h k (no_answer w None (difference_of (difference_of x y) z) u v s.change s.result tt) (λ n m d hn hm e.
    let q : z ≡ word_of (one_if d) = is_carry c d z e hc in
    difference_known w n m d _ (difference_of (difference_of x y) z) x y u v s hn hm (carried_difference w n m d x y z hn hm q) (cf ∙ borrow_with w n m d x y z hn hm q))

dec_made : (w : Width) (a b x y : Word) (k : Option Bool) (u v : Storage) → CutMatches (size_of w) a x → CutMatches (size_of w) b y → DifferenceShape w (difference_of x y) x y u v → FlagMatches k (v.flags 0) → Answers w (with_carry k (sub (size_of w) a b (Some false))) u v
unfolding sub
dec_made w a b x y o u v h k s cf = by_numbers w (difference (size_of w)) a b x y (Some false) (λ r. Answers w (with_carry o r) u v) h k (no_answer w o (difference_of x y) u v s.change s.result cf) (λ n m c hn hm e.
    difference_known w n m c o (difference_of x y) x y u v s hn hm (plain_difference w n m c x y hn hm (sym (some_bool false c e))) cf)

-- ---- the cores
pub sub_computes : (w : Width) → ComputesTwo (size_of w) (size_of w) (size_of w) (λ f x y. alu_computed alu.Sub (size_of w) f x y) (sub_core w)
unfolding perform performs
sub_computes w = record { computes = λ turn a b f u x y g. sub_made w a b (u.temps 1) (u.temps 2) u _ x y (result_shape w _ _ u _ refl refl refl refl refl refl refl refl refl refl) refl }

pub cmp_computes : (w : Width) → ComputesTwo (size_of w) (size_of w) (size_of w) (λ f x y. alu_computed alu.Cmp (size_of w) f x y) (sub_core w)
unfolding perform performs
cmp_computes w = record { computes = λ turn a b f u x y g. flags_alone w _ u _ (sub_made w a b (u.temps 1) (u.temps 2) u _ x y (result_shape w _ _ u _ refl refl refl refl refl refl refl refl refl refl) refl) }

pub sbb_computes : (w : Width) → ComputesTwo (size_of w) (size_of w) (size_of w) (λ f x y. alu_computed alu.Sbb (size_of w) f x y) (sbb_core w)
unfolding perform performs
sbb_computes w = record { computes = λ turn a b f u x y g. sbb_made w a b (u.temps 1) (u.temps 2) (u.flags 0) f.cf u _ x y g.cf (result_shape w _ _ u _ refl refl refl refl refl refl refl refl refl refl) refl }

pub dec_computes : (w : Width) → ComputesOne (size_of w) (size_of w) (λ f x. dec_computed (size_of w) f x) (dec_core w)
unfolding perform performs
dec_computes w = record { computes = λ turn a f u x g. dec_made w a (word_of 1) (u.temps 1) (word_of 1) f.cf u _ x (one_matches w) (result_shape w _ _ u _ refl refl refl refl refl refl refl refl refl refl) g.cf }

none_matches : (w : Width) → CutMatches (size_of w) (word_of 0) (word_of 0)
none_matches w = known_matches w 0 (word_of 0) refl (none_fits w)
  where
    none_fits : (w : Width) → 0 < full (size_of w)
    none_fits One = lit< tt
    none_fits Two = lit< tt
    none_fits Four = lit< tt

pub neg_computes : (w : Width) → ComputesOne (size_of w) (size_of w) (λ f x. neg_computed (size_of w) x) (neg_core w)
unfolding perform performs
neg_computes w = record { computes = λ turn a f u x g. sub_made w (word_of 0) a (word_of 0) (u.temps 1) u _ (none_matches w) x (result_shape w _ _ u _ refl refl refl refl refl refl refl refl refl refl) refl }
