-- The cores of sums.
use Rattle.std.proofs.Common.{◌≡◌, ℕ, ◌+◌, ◌%◌, ◌<◌, ◌≤◌, ◌&&◌, Bool, true, false, not, cond, leb, ltb, Option, Some, None, refl, sym, ◌∙◌, ap, ap₂, arith, inl, inr, ◌⊎◌, lit<, lit≤}
use Rattle.std.proofs.lemmas.Bool.{le-leb, lt-leb, lt-ltb, le-ltb, leb-true, leb-false, cases_lt}
use Rattle.x86_types.specs.declared.operation.ShiftOp.TheVariants as shiftop
use Rattle.x86_types.specs.declared.width.Width.{Width}
use Rattle.x86_types.specs.declared.width.Width.TheVariants.{One, Two, Four}
use Rattle.x86_types.specs.Numbers.{size_of}
use Rattle.x86_values.specs.declared.word.Word.{Word}
use Rattle.x86_values.specs.Words.{word_of, known}
use Rattle.x86_values.specs.Sizes.{full, half, is_negative}
use Rattle.x86_values.specs.Results.{carry_number, differ}
use Rattle.x86_values.specs.Sums.{raised, sum, add}
use Rattle.x86_meaning.specs.Outcomes.{with_carry, alu_computed, inc_computed}
use Rattle.x86_types.specs.declared.operation.AluOp.TheVariants as alu
use Rattle.flag_ir.specs.Calculations.{one_if, sum_of, and_of, xor_of, shifted_of, below_of}
use Rattle.flag_ir.specs.Storage.{Storage}
use Rattle.flag_ir.specs.Operations.{picked, perform, performs}
use Rattle.lift_relation.specs.Matching.{FlagMatches}
use Rattle.lift_relation.specs.Cores.{CutMatches, ComputesOne, ComputesTwo}
use Rattle.lift_values.specs.Terms.{mask, top}
use Rattle.lift_values.specs.Sums.{add_core, adc_core, inc_core}
use Rattle.lift_values.proofs.WordLemmas.{IsNumber, same_word, sum_words, mask_words, top_words, xor_bits, and_bits, below_words, below_32, mod_fits, known_matches}
use Rattle.lift_values.proofs.AnswerLemmas.{Answers, ResultShape, result_shape, known_answer, no_answer, by_numbers, some_bool, is_carry, carry_bit, picked_bit}

-- ---- signed overflow of a sum by the highest bits, over any half of a range
abbrev pub IsRaised : ℕ → ℕ → ℕ → Type 0
IsRaised H a x = ((a < H) × (x ≡ a + H)) ⊎ ((H ≤ a) × (x + H ≡ a))

out_low : (H F x : ℕ) → x < H → true ≡ not (leb H x && ltb x (F + H))
out_low H F x l = sym (ap (λ b. not (b && ltb x (F + H))) (lt-leb H x l))

out_high : (H F x : ℕ) → F + H ≤ x → true ≡ not (leb H x && ltb x (F + H))
out_high H F x l = sym (ap₂ (λ b c. not (b && c)) (le-leb H x (omega (arith, l))) (le-ltb x (F + H) l))

in_range : (H F x : ℕ) → H ≤ x → x < F + H → false ≡ not (leb H x && ltb x (F + H))
in_range H F x l k = sym (ap₂ (λ b c. not (b && c)) (le-leb H x l) (lt-ltb x (F + H) k))

record IsSum (H F n m c ra rb r : ℕ) : Type 0 where
  pub twice : F ≡ H + H
  pub first : IsRaised H n ra
  pub second : IsRaised H m rb
  pub result : (r ≡ n + m + c) ⊎ (r + F ≡ n + m + c)
  pub n_fits : n < F
  pub m_fits : m < F
  pub r_fits : r < F
  pub c_fits : c ≤ 1

overflow_by : (H F n m c ra rb r : ℕ) (p q s : Bool) → leb H n ≡ p → leb H m ≡ q → leb H r ≡ s → IsSum H F n m c ra rb r → (differ p s && differ q s) ≡ not (leb H (ra + rb + c) && ltb (ra + rb + c) (F + H))
overflow_by H F n m c ra rb r true true true p q s h = in_range H F _ (omega (arith, leb-true H n p, leb-true H m q, leb-true H r s, h)) (omega (arith, leb-true H n p, leb-true H m q, leb-true H r s, h))
overflow_by H F n m c ra rb r true true false p q s h = out_low H F _ (omega (arith, leb-true H n p, leb-true H m q, leb-false H r s, h))
overflow_by H F n m c ra rb r true false true p q s h = in_range H F _ (omega (arith, leb-true H n p, leb-false H m q, leb-true H r s, h)) (omega (arith, leb-true H n p, leb-false H m q, leb-true H r s, h))
overflow_by H F n m c ra rb r true false false p q s h = in_range H F _ (omega (arith, leb-true H n p, leb-false H m q, leb-false H r s, h)) (omega (arith, leb-true H n p, leb-false H m q, leb-false H r s, h))
overflow_by H F n m c ra rb r false true true p q s h = in_range H F _ (omega (arith, leb-false H n p, leb-true H m q, leb-true H r s, h)) (omega (arith, leb-false H n p, leb-true H m q, leb-true H r s, h))
overflow_by H F n m c ra rb r false true false p q s h = in_range H F _ (omega (arith, leb-false H n p, leb-true H m q, leb-false H r s, h)) (omega (arith, leb-false H n p, leb-true H m q, leb-false H r s, h))
overflow_by H F n m c ra rb r false false true p q s h = out_high H F _ (omega (arith, leb-false H n p, leb-false H m q, leb-true H r s, h))
overflow_by H F n m c ra rb r false false false p q s h = in_range H F _ (omega (arith, leb-false H n p, leb-false H m q, leb-false H r s, h)) (omega (arith, leb-false H n p, leb-false H m q, leb-false H r s, h))

-- ---- numbers of a width
pub raised_is : (w : Width) (n : ℕ) → n < full (size_of w) → IsRaised (half (size_of w)) n (raised (size_of w) n)
raised_is One n h = cases (cases_lt n 128)
  where
    cases : (n < 128) ⊎ (128 ≤ n) → IsRaised 128 n ((n + 128) % 256)
    cases (inl l) = inl (l, omega (arith, l))
    cases (inr l) = inr (l, omega (arith, l, h))
raised_is Two n h = cases (cases_lt n 32768)
  where
    cases : (n < 32768) ⊎ (32768 ≤ n) → IsRaised 32768 n ((n + 32768) % 65536)
    cases (inl l) = inl (l, omega (arith, l))
    cases (inr l) = inr (l, omega (arith, l, h))
raised_is Four n h = cases (cases_lt n 2147483648)
  where
    cases : (n < 2147483648) ⊎ (2147483648 ≤ n) → IsRaised 2147483648 n ((n + 2147483648) % 4294967296)
    cases (inl l) = inl (l, omega (arith, l))
    cases (inr l) = inr (l, omega (arith, l, h))

wraps : (w : Width) (t : ℕ) → t < full (size_of w) + full (size_of w) → (t % full (size_of w) ≡ t) ⊎ (t % full (size_of w) + full (size_of w) ≡ t)
wraps One t h = cases (cases_lt t 256)
  where
    cases : (t < 256) ⊎ (256 ≤ t) → (t % 256 ≡ t) ⊎ (t % 256 + 256 ≡ t)
    cases (inl l) = inl (omega (arith, l))
    cases (inr l) = inr (omega (arith, l, h))
wraps Two t h = cases (cases_lt t 65536)
  where
    cases : (t < 65536) ⊎ (65536 ≤ t) → (t % 65536 ≡ t) ⊎ (t % 65536 + 65536 ≡ t)
    cases (inl l) = inl (omega (arith, l))
    cases (inr l) = inr (omega (arith, l, h))
wraps Four t h = cases (cases_lt t 4294967296)
  where
    cases : (t < 4294967296) ⊎ (4294967296 ≤ t) → (t % 4294967296 ≡ t) ⊎ (t % 4294967296 + 4294967296 ≡ t)
    cases (inl l) = inl (omega (arith, l))
    cases (inr l) = inr (omega (arith, l, h))

pub twice_half : (w : Width) → full (size_of w) ≡ half (size_of w) + half (size_of w)
twice_half One = refl
twice_half Two = refl
twice_half Four = refl

pub carry_fits : (c : Bool) → carry_number c ≤ 1
carry_fits true = lit≤ tt
carry_fits false = lit≤ tt

is_sum : (w : Width) (n m : ℕ) (c : Bool) → n < full (size_of w) → m < full (size_of w) → IsSum (half (size_of w)) (full (size_of w)) n m (carry_number c) (raised (size_of w) n) (raised (size_of w) m) ((n + m + carry_number c) % full (size_of w))
is_sum w n m c h k = record {
  twice = twice_half w;
  first = raised_is w n h;
  second = raised_is w m k;
  result = wraps w (n + m + carry_number c) (let l : carry_number c ≤ 1 = carry_fits c in omega (arith, h, k, l));
  n_fits = h;
  m_fits = k;
  r_fits = mod_fits w (n + m + carry_number c);
  c_fits = carry_fits c;
}

-- CF: the result is below the first operand, or with a carry not above it
carry_below : (F n m c r : ℕ) → c ≡ 0 → m < F → (r ≡ n + m + c) ⊎ (r + F ≡ n + m + c) → ltb r n ≡ leb F (n + m + c) ⊎ (F ≤ r)
carry_below F n m c r z k (inl e) = cases (cases_lt r F)
  where
    cases : (r < F) ⊎ (F ≤ r) → ltb r n ≡ leb F (n + m + c) ⊎ (F ≤ r)
    cases (inl l) = inl (le-ltb r n (omega (arith, e)) ∙ sym (lt-leb F (n + m + c) (omega (arith, e, l))))
    cases (inr l) = inr l
carry_below F n m c r z k (inr e) = inl (lt-ltb r n (omega (arith, e, z, k)) ∙ sym (le-leb F (n + m + c) (omega (arith, e))))

carry_above : (F n m c r : ℕ) → c ≡ 1 → m < F → (r ≡ n + m + c) ⊎ (r + F ≡ n + m + c) → differ (ltb n r) true ≡ leb F (n + m + c) ⊎ (F ≤ r)
carry_above F n m c r z k (inl e) = cases (cases_lt r F)
  where
    cases : (r < F) ⊎ (F ≤ r) → differ (ltb n r) true ≡ leb F (n + m + c) ⊎ (F ≤ r)
    cases (inl l) = inl (ap (λ b. differ b true) (lt-ltb n r (omega (arith, e, z))) ∙ sym (lt-leb F (n + m + c) (omega (arith, e, l))))
    cases (inr l) = inr l
carry_above F n m c r z k (inr e) = inl (ap (λ b. differ b true) (le-ltb n r (omega (arith, e, z, k))) ∙ sym (le-leb F (n + m + c) (omega (arith, e))))

-- ---- what the list of a sum comes to, whose total is X
abbrev pub SumShape : Width → Word → Word → Word → Storage → Storage → Type 0
SumShape w X x y u v =
    ResultShape w (and_of X (word_of (mask w))) (and_of (xor_of (shifted_of shiftop.Shr x (word_of (top w))) (v.flags 3)) (xor_of (shifted_of shiftop.Shr y (word_of (top w))) (v.flags 3))) u v

sum_result : (w : Width) (n m : ℕ) (c : Bool) (X x y : Word) (u v : Storage) → SumShape w X x y u v → X ≡ word_of (n + m + carry_number c) → v.temps 4 ≡ word_of ((n + m + carry_number c) % full (size_of w))
sum_result w n m c X x y u v s hX = s.result ∙ ap (λ y. and_of y (word_of (mask w))) hX ∙ mask_words w _

-- the value, and all flags beside a carry that is given
sum_known : (w : Width) (n m : ℕ) (c : Bool) (k : Option Bool) (X x y : Word) (u v : Storage) → SumShape w X x y u v → IsNumber w n x → IsNumber w m y → X ≡ word_of (n + m + carry_number c) → FlagMatches k (v.flags 0) → Answers w (with_carry k (sum (size_of w) n m c)) u v
unfolding sum
sum_known w n m c k X x y u v s hn hm hX hc =
    let r = (n + m + carry_number c) % full (size_of w) in
    let small : r < full (size_of w) = mod_fits w (n + m + carry_number c) in
    let e : v.temps 4 ≡ word_of r = sum_result w n m c X x y u v s hX in
    let z : v.flags 3 ≡ word_of (one_if (is_negative (size_of w) r)) = s.sf ∙ ap (λ y. shifted_of shiftop.Shr y (word_of (top w))) e ∙ top_words w r small in
    let tn : shifted_of shiftop.Shr x (word_of (top w)) ≡ word_of (one_if (is_negative (size_of w) n)) = ap (λ y. shifted_of shiftop.Shr y (word_of (top w))) hn.is ∙ top_words w n hn.fits in
    let tm : shifted_of shiftop.Shr y (word_of (top w)) ≡ word_of (one_if (is_negative (size_of w) m)) = ap (λ y. shifted_of shiftop.Shr y (word_of (top w))) hm.is ∙ top_words w m hm.fits in
    let o : v.flags 4 ≡ word_of (one_if (differ (is_negative (size_of w) n) (is_negative (size_of w) r) && differ (is_negative (size_of w) m) (is_negative (size_of w) r))) =
    s.of ∙ ap₂ and_of (ap₂ xor_of tn z ∙ xor_bits _ _) (ap₂ xor_of tm z ∙ xor_bits _ _) ∙ and_bits _ _ in
    let over = overflow_by (half (size_of w)) (full (size_of w)) n m (carry_number c) (raised (size_of w) n) (raised (size_of w) m) r _ _ _ refl refl refl (is_sum w n m c hn.fits hm.fits) in
    known_answer w r k _ u v s.change small e s.pf s.zf s.sf hc (o ∙ ap (λ b. word_of (one_if b)) over)

-- ---- totals
pub plain_total : (w : Width) (n m : ℕ) (c : Bool) (x y : Word) → IsNumber w n x → IsNumber w m y → c ≡ false → sum_of x y ≡ word_of (n + m + carry_number c)
plain_total w n m c x y hn hm e = ap₂ sum_of hn.is hm.is ∙ sum_words n m ∙ same_word _ _ (let z : carry_number c ≡ 0 = ap carry_number e in omega (arith, z))

carried_total : (w : Width) (n m : ℕ) (c : Bool) (x y z : Word) → IsNumber w n x → IsNumber w m y → z ≡ word_of (one_if c) → sum_of (sum_of x y) z ≡ word_of (n + m + carry_number c)
carried_total w n m c x y z hn hm e = ap₂ sum_of (ap₂ sum_of hn.is hm.is ∙ sum_words n m) (e ∙ same_word _ _ (carry_bit c)) ∙ sum_words (n + m) (carry_number c)

-- ---- CF
settled : (F r : ℕ) (a b : Bool) → r < F → (a ≡ b) ⊎ (F ≤ r) → a ≡ b
settled F r a b l (inl e) = e
settled F r a b l (inr k) = absurd (omega (arith, l, k))

carry_out : (w : Width) (n m : ℕ) (c : Bool) (x y t : Word) → IsNumber w n x → IsNumber w m y → c ≡ false → t ≡ word_of ((n + m + carry_number c) % full (size_of w)) → below_of t x ≡ word_of (one_if (leb (full (size_of w)) (n + m + carry_number c)))
carry_out w n m c x y t hn hm e ht =
    let r = (n + m + carry_number c) % full (size_of w) in
    let small : r < full (size_of w) = mod_fits w (n + m + carry_number c) in
    let s = is_sum w n m c hn.fits hm.fits in
    ap₂ below_of ht hn.is ∙ below_words r n (below_32 w r small) (below_32 w n hn.fits)
    ∙ ap (λ b. word_of (one_if b)) (settled (full (size_of w)) r _ _ small (carry_below (full (size_of w)) n m (carry_number c) r (ap carry_number e) hm.fits s.result))

carry_out_with : (w : Width) (n m : ℕ) (c : Bool) (x y t z : Word) → IsNumber w n x → IsNumber w m y → z ≡ word_of (one_if c) → t ≡ word_of ((n + m + carry_number c) % full (size_of w)) →
    picked (known z) (xor_of (below_of x t) (word_of 1)) (below_of t x) ≡ word_of (one_if (leb (full (size_of w)) (n + m + carry_number c)))
carry_out_with w n m c x y t z hn hm e ht = ap (λ z. picked (known z) (xor_of (below_of x t) (word_of 1)) (below_of t x)) e ∙ picked_bit c _ _ ∙ cases c refl
  where
    cases : (b : Bool) → c ≡ b → cond b (xor_of (below_of x t) (word_of 1)) (below_of t x) ≡ word_of (one_if (leb (full (size_of w)) (n + m + carry_number c)))
    cases false q = carry_out w n m c x y t hn hm q ht
    cases true q =
        let r = (n + m + carry_number c) % full (size_of w) in
        let small : r < full (size_of w) = mod_fits w (n + m + carry_number c) in
        let s = is_sum w n m c hn.fits hm.fits in
        ap (λ z. xor_of z (word_of 1)) (ap₂ below_of hn.is ht ∙ below_words n r (below_32 w n hn.fits) (below_32 w r small)) ∙ xor_bits (ltb n r) true
        ∙ ap (λ b. word_of (one_if b)) (settled (full (size_of w)) r _ _ small (carry_above (full (size_of w)) n m (carry_number c) r (ap carry_number q) hm.fits s.result))

-- ---- by what is known of the operands
add_made : (w : Width) (a b x y : Word) (u v : Storage) → CutMatches (size_of w) a x → CutMatches (size_of w) b y → SumShape w (sum_of x y) x y u v → v.flags 0 ≡ below_of (v.temps 4) x → Answers w (add (size_of w) a b (Some false)) u v
unfolding add sum
add_made w a b x y u v h k s cf = by_numbers w (sum (size_of w)) a b x y (Some false) (λ r. Answers w r u v) h k (no_answer w None (sum_of x y) u v s.change s.result tt) (λ n m c hn hm e.
    let z : c ≡ false = sym (some_bool false c e) in
    let t = plain_total w n m c x y hn hm z in
    sum_known w n m c _ (sum_of x y) x y u v s hn hm t (cf ∙ carry_out w n m c x y (v.temps 4) hn hm z (sum_result w n m c _ x y u v s t)))

adc_made : (w : Width) (a b x y z : Word) (c : Option Bool) (u v : Storage) → CutMatches (size_of w) a x → CutMatches (size_of w) b y → FlagMatches c z → SumShape w (sum_of (sum_of x y) z) x y u v →
    v.flags 0 ≡ picked (known z) (xor_of (below_of x (v.temps 4)) (word_of 1)) (below_of (v.temps 4) x) → Answers w (add (size_of w) a b c) u v
unfolding add sum
adc_made w a b x y z c u v h k hc s cf = by_numbers w (sum (size_of w)) a b x y c (λ r. Answers w r u v) h k (no_answer w None (sum_of (sum_of x y) z) u v s.change s.result tt) (λ n m d hn hm e.
    let q : z ≡ word_of (one_if d) = is_carry c d z e hc in
    let t = carried_total w n m d x y z hn hm q in
    sum_known w n m d _ (sum_of (sum_of x y) z) x y u v s hn hm t (cf ∙ carry_out_with w n m d x y (v.temps 4) z hn hm q (sum_result w n m d _ x y u v s t)))

inc_made : (w : Width) (a b x y : Word) (k : Option Bool) (u v : Storage) → CutMatches (size_of w) a x → CutMatches (size_of w) b y → SumShape w (sum_of x y) x y u v → FlagMatches k (v.flags 0) → Answers w (with_carry k (add (size_of w) a b (Some false))) u v
unfolding add
inc_made w a b x y o u v h k s cf = by_numbers w (sum (size_of w)) a b x y (Some false) (λ r. Answers w (with_carry o r) u v) h k (no_answer w o (sum_of x y) u v s.change s.result cf) (λ n m c hn hm e.
    sum_known w n m c o (sum_of x y) x y u v s hn hm (plain_total w n m c x y hn hm (sym (some_bool false c e))) cf)

-- ---- the cores
pub add_computes : (w : Width) → ComputesTwo (size_of w) (size_of w) (size_of w) (λ f x y. alu_computed alu.Add (size_of w) f x y) (add_core w)
unfolding perform performs
add_computes w = record { computes = λ turn a b f u x y g. add_made w a b (u.temps 1) (u.temps 2) u _ x y (result_shape w _ _ u _ refl refl refl refl refl refl refl refl refl refl) refl }

pub adc_computes : (w : Width) → ComputesTwo (size_of w) (size_of w) (size_of w) (λ f x y. alu_computed alu.Adc (size_of w) f x y) (adc_core w)
unfolding perform performs
adc_computes w = record { computes = λ turn a b f u x y g. adc_made w a b (u.temps 1) (u.temps 2) (u.flags 0) f.cf u _ x y g.cf (result_shape w _ _ u _ refl refl refl refl refl refl refl refl refl refl) refl }

-- a constant operand is of the width
pub one_matches : (w : Width) → CutMatches (size_of w) (word_of 1) (word_of 1)
one_matches w = known_matches w 1 (word_of 1) refl (one_fits w)
  where
    one_fits : (w : Width) → 1 < full (size_of w)
    one_fits One = lit< tt
    one_fits Two = lit< tt
    one_fits Four = lit< tt

pub inc_computes : (w : Width) → ComputesOne (size_of w) (size_of w) (λ f x. inc_computed (size_of w) f x) (inc_core w)
unfolding perform performs
inc_computes w = record { computes = λ turn a f u x g. inc_made w a (word_of 1) (u.temps 1) (word_of 1) f.cf u _ x (one_matches w) (result_shape w _ _ u _ refl refl refl refl refl refl refl refl refl refl) g.cf }
