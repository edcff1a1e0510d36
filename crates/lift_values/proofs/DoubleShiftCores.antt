-- The lists of double shifts compute what the instructions compute.
use Rattle.std.proofs.Common.{◌≡◌, ℕ, ◌+◌, ◌-◌, ◌%◌, ◌<◌, ◌==◌, Bool, true, false, cond, Option, Some, None, refl, sym, ◌∙◌, ap, ap₂, subst, arith}
use Rattle.std.proofs.lemmas.Bool.{eqb-true}
use Rattle.x86_values.specs.declared.word.Word.{Word}
use Rattle.x86_values.specs.declared.word.Flags.{Flags}
use Rattle.x86_values.specs.Words.{word_of, known_byte}
use Rattle.x86_values.specs.Sizes.{cut, number, full, is_negative}
use Rattle.x86_values.specs.Results.{differ, no_result}
use Rattle.x86_values.specs.Shifts.{if_one}
use Rattle.x86_values.specs.DoubleShifts.{double_result, double_out, double_shifted, double_shifted_if, double_shift_by, double_shift}
use Rattle.x86_types.specs.declared.operation.ShiftOp.TheVariants.{Shl, Shr}
use Rattle.x86_types.specs.declared.width.Width.TheVariants.{Four}
use Rattle.x86_meaning.specs.Outcomes.{double_shift_computed}
use Rattle.flag_ir.specs.Calculations.{one_if, shifted_of, difference_of, and_of, or_of, xor_of}
use Rattle.flag_ir.specs.Storage.{Storage}
use Rattle.flag_ir.specs.Operations.{perform, performs}
use Rattle.lift_relation.specs.Matching.{FlagsMatch}
use Rattle.lift_relation.specs.Cores.{CutMatches, IsComputed, ComputationMatches, ComputesThree}
use Rattle.lift_values.specs.Terms.{mask}
use Rattle.lift_values.specs.DoubleShifts.{double_shift_core}
use Rattle.lift_values.proofs.WordLemmas.{number_below, same_word, mod_fits, xor_bits}
use Rattle.lift_values.proofs.FlagLemmas.{changed}
use Rattle.lift_values.proofs.ShiftNumbers.{shld_number, shrd_number}
use Rattle.lift_values.proofs.ShiftFacts.{Comes, one_matches, sign_words, rest_words, joined_words, left_out_words, shr_out_words}
use Rattle.lift_values.proofs.ShiftMade.{Leaves, RestSet, answers, Keeps, kept_set, lost_set, made_set, count_words, positive}

-- ---- the words of the result and of CF
abbrev joined : Bool → Word → Word → Word → Word
joined false x y c = and_of (or_of (shifted_of Shl x c) (shifted_of Shr y (difference_of (word_of 32) c))) (word_of (mask Four))
joined true x y c = and_of (or_of (shifted_of Shl y (difference_of (word_of 32) c)) (shifted_of Shr x c)) (word_of (mask Four))

abbrev last : Bool → Word → Word → Word
last false x c = and_of (shifted_of Shr x (difference_of (word_of 32) c)) (word_of 1)
last true x c = and_of (shifted_of Shr x (difference_of c (word_of 1))) (word_of 1)

abbrev turned : Word → Word → Word
turned x r = xor_of (shifted_of Shr x (word_of 31)) (shifted_of Shr r (word_of 31))

joined_is : (right : Bool) (a b k : ℕ) (x y c : Word) → x ≡ word_of a → a < full 4 → y ≡ word_of b → b < full 4 → c ≡ word_of k → 0 < k → k < 32 → joined right x y c ≡ word_of (double_result right a b k)
joined_is false a b k x y c e h f i g l s =
    let n : 32 - k < 32 = omega (arith, l, s) in
    let sum : k + (32 - k) ≡ 32 = omega (arith, s) in
    joined_words Four a b k (32 - k) x y _ _ e h f i g s (rest_words Four k c g (omega (arith, s))) n sum ∙ same_word _ _ (ap (λ m. m % 4294967296) (sym (shld_number a b k (32 - k) sum)))
joined_is true a b k x y c e h f i g l s =
    let n : 32 - k < 32 = omega (arith, l, s) in
    let sum : (32 - k) + k ≡ 32 = omega (arith, s) in
    joined_words Four b a (32 - k) k y x _ _ f i e h (rest_words Four k c g (omega (arith, s))) n g s sum ∙ same_word _ _ (ap (λ m. m % 4294967296) (sym (shrd_number a b (32 - k) k sum)))

result_fits : (right : Bool) (a b k : ℕ) → double_result right a b k < full 4
result_fits false a b k = mod_fits Four _
result_fits true a b k = mod_fits Four _

last_is : (right : Bool) (a b k : ℕ) (x c : Word) → x ≡ word_of a → a < full 4 → c ≡ word_of k → 0 < k → k < 32 → last right x c ≡ word_of (one_if (double_out right a b k))
last_is false a b k x c e h g l s = left_out_words Four a k x c e h g l s
last_is true a b k x c e h g l s = shr_out_words Four a k x c e h g l s

double_comes : (right : Bool) (a b k : ℕ) (x y c : Word) → x ≡ word_of a → a < full 4 → y ≡ word_of b → b < full 4 → c ≡ word_of k → 0 < k → k < 32 →
    let n = double_result right a b k in
    Comes Four n (Some (double_out right a b k)) (if_one k (differ (is_negative 4 a) (is_negative 4 n))) (joined right x y c) (last right x c) (turned x (joined right x y c))
double_comes right a b k x y c e h f i g l s =
    let is = joined_is right a b k x y c e h f i g l s in
    let fits = result_fits right a b k in
    record {
      is = is;
      fits = fits;
      carried = last_is right a b k x c e h g l s;
      overflowed = one_matches k _ _ (λ m. ap₂ xor_of (sign_words Four x a e h) (sign_words Four _ (double_result right a b k) is fits) ∙ xor_bits _ _);
    }

-- ---- by the count
abbrev Lost : Storage → Storage → Type 0
Lost u v = IsComputed 4 (answers (no_result 4)) u v

abbrev More : Bool → Word → Storage → Storage → Type 0
More right c u v = (a b k : ℕ) → u.temps 1 ≡ word_of a → a < full 4 → u.temps 2 ≡ word_of b → b < full 4 → c ≡ word_of k → 0 < k → k < 32 → IsComputed 4 (answers (double_shifted right a b k)) u v

by_operands : (right : Bool) (x y : Word) (c : Word) (k : ℕ) (u v : Storage) → CutMatches 4 x (u.temps 1) → CutMatches 4 y (u.temps 2) → Lost u v → More right c u v → c ≡ word_of k → 0 < k → k < 32 →
    (o p : Option ℕ) → number 4 x ≡ o → number 4 y ≡ p → IsComputed 4 (answers (double_shifted_if right o p k)) u v
by_operands right x y c k u v m n lost more e l s None p q r = lost
by_operands right x y c k u v m n lost more e l s (Some a) None q r = lost
by_operands right x y c k u v m n lost more e l s (Some a) (Some b) q r =
    let h = number_below Four x a (u.temps 1) q m in
    let i = number_below Four y b (u.temps 2) r n in
    more a b k h.is h.fits i.is i.fits e l s

by_zero : (right : Bool) (x y : Word) (f : Flags) (c : Word) (k : ℕ) (u v : Storage) → CutMatches 4 x (u.temps 1) → CutMatches 4 y (u.temps 2) → Lost u v → (c ≡ word_of 0 → Keeps Four x f u v) → More right c u v → c ≡ word_of k → k < 32 →
    (t : Bool) → (k == 0) ≡ t → IsComputed 4 (answers (cond t (record { value = x; flags = f }) (double_shifted_if right (number 4 x) (number 4 y) k))) u v
unfolding cut
by_zero right x y f c k u v m n lost keeps more e s true z = keeps (subst (λ j. c ≡ word_of j) (eqb-true k 0 z) e)
by_zero right x y f c k u v m n lost keeps more e s false z = by_operands right x y c k u v m n lost more e (positive k z) s (number 4 x) (number 4 y) refl refl

by_count : (right : Bool) (x y z : Word) (f : Flags) (u v : Storage) → CutMatches 4 x (u.temps 1) → CutMatches 4 y (u.temps 2) → CutMatches 1 z (u.temps 3) →
    Lost u v → (and_of (u.temps 3) (word_of 31) ≡ word_of 0 → Keeps Four x f u v) → More right (and_of (u.temps 3) (word_of 31)) u v → IsComputed 4 (answers (double_shift right x y z.b0 f)) u v
unfolding double_shift
by_count right x y z f u v m n q lost keeps more = cases (known_byte z.b0) refl
  where
    cases : (o : Option ℕ) → known_byte z.b0 ≡ o → IsComputed 4 (answers (double_shift_by right x y o f)) u v
    cases None e = lost
    cases (Some k) e = by_zero right x y f (and_of (u.temps 3) (word_of 31)) (k % 32) u v m n lost keeps more (count_words z (u.temps 3) k e q) (omega arith) (k % 32 == 0) refl

-- ---- the lists
double_made : (right : Bool) (x y z : Word) (f : Flags) (u v : Storage) →
    let c = and_of (u.temps 3) (word_of 31) in
    let r = joined right (u.temps 1) (u.temps 2) c in
    Leaves Four c r (last right (u.temps 1) c) (turned (u.temps 1) r) u v → RestSet Four c r u v →
    CutMatches 4 x (u.temps 1) → CutMatches 4 y (u.temps 2) → CutMatches 1 z (u.temps 3) → FlagsMatch f u.flags → IsComputed 4 (answers (double_shift right x y z.b0 f)) u v
unfolding double_shifted
double_made right x y z f u v h t m n q g =
    by_count right x y z f u v m n q (lost_set Four _ _ _ _ u v h) (kept_set Four x f _ _ _ _ u v h t m g)
    (λ a b k e l i j p o s. made_set Four _ _ _ _ _ _ _ k u v h t (double_comes right a b k (u.temps 1) (u.temps 2) _ e l i j p o s) p o s)

double_matches : (right : Bool) (turn : ℕ) (x y z : Word) (f : Flags) (u : Storage) → CutMatches 4 x (u.temps 1) → CutMatches 4 y (u.temps 2) → CutMatches 1 z (u.temps 3) → FlagsMatch f u.flags →
    ComputationMatches 4 (double_shift_computed right f x y z) u (performs turn (double_shift_core right) u)
unfolding performs perform double_shift_core
double_matches false turn x y z f u m n q g =
    double_made false x y z f u _ (record { change = changed u _ refl refl refl refl refl; value = refl; cf = refl; of = refl }) (record { pf = refl; zf = refl; sf = refl }) m n q g
double_matches true turn x y z f u m n q g =
    double_made true x y z f u _ (record { change = changed u _ refl refl refl refl refl; value = refl; cf = refl; of = refl }) (record { pf = refl; zf = refl; sf = refl }) m n q g

pub double_shift_computes : (right : Bool) → ComputesThree 4 4 1 4 (double_shift_computed right) (double_shift_core right)
double_shift_computes right = record { computes = λ turn x y z f u m n q g. double_matches right turn x y z f u m n q g }
