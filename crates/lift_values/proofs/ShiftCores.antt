-- The lists that shift and rotate compute what the instructions compute.
use Rattle.std.proofs.Common.{◌≡◌, ℕ, ◌%◌, ◌<◌, ◌==◌, Bool, true, false, cond, Option, Some, None, refl, subst, arith}
use Rattle.std.proofs.lemmas.Bool.{eqb-true}
use Rattle.x86_values.specs.declared.word.Word.{Word}
use Rattle.x86_values.specs.declared.word.Flags.{Flags}
use Rattle.x86_values.specs.Words.{word_of, known_byte}
use Rattle.x86_values.specs.Sizes.{cut, number, full}
use Rattle.x86_values.specs.Shifts.{shifted, not_shifted, shifted_if, shift_by, shift}
use Rattle.x86_types.specs.declared.operation.ShiftOp.{ShiftOp}
use Rattle.x86_types.specs.declared.operation.ShiftOp.TheVariants.{Rol, Ror, Shl, Shr, Sar}
use Rattle.x86_types.specs.declared.width.Width.{Width}
use Rattle.x86_types.specs.declared.width.Width.TheVariants.{One, Two, Four}
use Rattle.x86_types.specs.Numbers.{size_of}
use Rattle.x86_meaning.specs.Outcomes.{shift_computed}
use Rattle.flag_ir.specs.Calculations.{shifted_of, difference_of, and_of, or_of, xor_of}
use Rattle.flag_ir.specs.Storage.{Storage}
use Rattle.flag_ir.specs.Operations.{perform, performs}
use Rattle.lift_relation.specs.Matching.{FlagsMatch}
use Rattle.lift_relation.specs.Cores.{CutMatches, IsComputed, ComputationMatches, ComputesTwo}
use Rattle.lift_values.specs.Terms.{width_bits, top, mask}
use Rattle.lift_values.specs.Shifts.{second, shift_core}
use Rattle.lift_values.proofs.WordLemmas.{number_below}
use Rattle.lift_values.proofs.FlagLemmas.{changed}
use Rattle.lift_values.proofs.ShiftFacts.{extended_word, shl_comes, shr_comes, sar_comes, rol_comes, ror_comes}
use Rattle.lift_values.proofs.ShiftMade.{Leaves, RestSet, RestKept, answers, Keeps, kept_set, kept_kept, lost_set, lost_kept, made_set, made_kept, count_words, positive}

-- ---- by the count: it is unspecified, 0 modulo 32, or another, where the operand is unspecified or a number
abbrev Lost : ShiftOp → Width → Flags → Storage → Storage → Type 0
Lost kind w f u v = IsComputed (size_of w) (answers (not_shifted kind (size_of w) f)) u v

abbrev More : ShiftOp → Width → Flags → Word → Storage → Storage → Type 0
More kind w f c u v = (a k : ℕ) → u.temps 1 ≡ word_of a → a < full (size_of w) → c ≡ word_of k → 0 < k → k < 32 → IsComputed (size_of w) (answers (shifted kind (size_of w) a k f)) u v

by_operand : (kind : ShiftOp) (w : Width) (x : Word) (f : Flags) (c : Word) (k : ℕ) (u v : Storage) → CutMatches (size_of w) x (u.temps 1) → Lost kind w f u v → More kind w f c u v → c ≡ word_of k → 0 < k → k < 32 →
    (o : Option ℕ) → number (size_of w) x ≡ o → IsComputed (size_of w) (answers (shifted_if kind (size_of w) o k f)) u v
by_operand kind w x f c k u v m lost more e l s None q = lost
by_operand kind w x f c k u v m lost more e l s (Some a) q = let h = number_below w x a (u.temps 1) q m in more a k h.is h.fits e l s

by_zero : (kind : ShiftOp) (w : Width) (x : Word) (f : Flags) (c : Word) (k : ℕ) (u v : Storage) → CutMatches (size_of w) x (u.temps 1) → Lost kind w f u v → (c ≡ word_of 0 → Keeps w x f u v) → More kind w f c u v → c ≡ word_of k → k < 32 →
    (t : Bool) → (k == 0) ≡ t → IsComputed (size_of w) (answers (cond t (record { value = cut (size_of w) x; flags = f }) (shifted_if kind (size_of w) (number (size_of w) x) k f))) u v
by_zero kind w x f c k u v m lost keeps more e s true z = keeps (subst (λ n. c ≡ word_of n) (eqb-true k 0 z) e)
by_zero kind w x f c k u v m lost keeps more e s false z = by_operand kind w x f c k u v m lost more e (positive k z) s (number (size_of w) x) refl

by_count : (kind : ShiftOp) (w : Width) (x y : Word) (f : Flags) (u v : Storage) → CutMatches (size_of w) x (u.temps 1) → CutMatches 1 y (u.temps 2) →
    Lost kind w f u v → (and_of (u.temps 2) (word_of 31) ≡ word_of 0 → Keeps w x f u v) → More kind w f (and_of (u.temps 2) (word_of 31)) u v → IsComputed (size_of w) (answers (shift kind (size_of w) x y.b0 f)) u v
unfolding shift
by_count kind w x y f u v m n lost keeps more = cases (known_byte y.b0) refl
  where
    cases : (o : Option ℕ) → known_byte y.b0 ≡ o → IsComputed (size_of w) (answers (shift_by kind (size_of w) x o f)) u v
    cases None e = lost
    cases (Some k) e = by_zero kind w x f (and_of (u.temps 2) (word_of 31)) (k % 32) u v m lost keeps more (count_words y (u.temps 2) k e n) (omega arith) (k % 32 == 0) refl

-- ---- SHL
shl_made : (w : Width) (x y : Word) (f : Flags) (u v : Storage) →
    let c = and_of (u.temps 2) (word_of 31) in
    let r = and_of (shifted_of Shl (u.temps 1) c) (word_of (mask w)) in
    let o = and_of (shifted_of Shr (u.temps 1) (difference_of (word_of (width_bits w)) c)) (word_of 1) in
    Leaves w c r o (xor_of (shifted_of Shr r (word_of (top w))) o) u v → RestSet w c r u v →
    CutMatches (size_of w) x (u.temps 1) → CutMatches 1 y (u.temps 2) → FlagsMatch f u.flags → IsComputed (size_of w) (answers (shift Shl (size_of w) x y.b0 f)) u v
unfolding shifted
shl_made w x y f u v h t m n g =
    by_count Shl w x y f u v m n (lost_set w _ _ _ _ u v h) (kept_set w x f _ _ _ _ u v h t m g)
    (λ a k e l q p s. made_set w _ _ _ _ _ _ _ k u v h t (shl_comes w a k (u.temps 1) _ e l q p s) q p s)

shl_core : (turn : ℕ) (w : Width) (x y : Word) (f : Flags) (u : Storage) → CutMatches (size_of w) x (u.temps 1) → CutMatches 1 y (u.temps 2) → FlagsMatch f u.flags →
    ComputationMatches (size_of w) (shift_computed Shl (size_of w) f x y) u (performs turn (shift_core Shl w) u)
unfolding performs perform shift_core
shl_core turn w x y f u m n g =
    shl_made w x y f u _ (record { change = changed u _ refl refl refl refl refl; value = refl; cf = refl; of = refl }) (record { pf = refl; zf = refl; sf = refl }) m n g

-- ---- SHR
shr_made : (w : Width) (x y : Word) (f : Flags) (u v : Storage) →
    let c = and_of (u.temps 2) (word_of 31) in
    let r = shifted_of Shr (u.temps 1) c in
    let o = and_of (shifted_of Shr (u.temps 1) (difference_of c (word_of 1))) (word_of 1) in
    Leaves w c r o (shifted_of Shr (u.temps 1) (word_of (top w))) u v → RestSet w c r u v →
    CutMatches (size_of w) x (u.temps 1) → CutMatches 1 y (u.temps 2) → FlagsMatch f u.flags → IsComputed (size_of w) (answers (shift Shr (size_of w) x y.b0 f)) u v
unfolding shifted
shr_made w x y f u v h t m n g =
    by_count Shr w x y f u v m n (lost_set w _ _ _ _ u v h) (kept_set w x f _ _ _ _ u v h t m g)
    (λ a k e l q p s. made_set w _ _ _ _ _ _ _ k u v h t (shr_comes w a k (u.temps 1) _ e l q p s) q p s)

shr_core : (turn : ℕ) (w : Width) (x y : Word) (f : Flags) (u : Storage) → CutMatches (size_of w) x (u.temps 1) → CutMatches 1 y (u.temps 2) → FlagsMatch f u.flags →
    ComputationMatches (size_of w) (shift_computed Shr (size_of w) f x y) u (performs turn (shift_core Shr w) u)
unfolding performs perform shift_core
shr_core turn w x y f u m n g =
    shr_made w x y f u _ (record { change = changed u _ refl refl refl refl refl; value = refl; cf = refl; of = refl }) (record { pf = refl; zf = refl; sf = refl }) m n g

-- ---- SAR, whose operations differ by the width
sar_made : (w : Width) (x y : Word) (f : Flags) (u v : Storage) →
    let c = and_of (u.temps 2) (word_of 31) in
    let e = extended_word w (u.temps 1) in
    let r = and_of (shifted_of Sar e c) (word_of (mask w)) in
    Leaves w c r (and_of (shifted_of Sar e (difference_of c (word_of 1))) (word_of 1)) (word_of 0) u v → RestSet w c r u v →
    CutMatches (size_of w) x (u.temps 1) → CutMatches 1 y (u.temps 2) → FlagsMatch f u.flags → IsComputed (size_of w) (answers (shift Sar (size_of w) x y.b0 f)) u v
unfolding shifted
sar_made w x y f u v h t m n g =
    by_count Sar w x y f u v m n (lost_set w _ _ _ _ u v h) (kept_set w x f _ _ _ _ u v h t m g)
    (λ a k e l q p s. made_set w _ _ _ _ _ _ _ k u v h t (sar_comes w a k (u.temps 1) _ e l q p s) q p s)

sar_core : (turn : ℕ) (w : Width) (x y : Word) (f : Flags) (u : Storage) → CutMatches (size_of w) x (u.temps 1) → CutMatches 1 y (u.temps 2) → FlagsMatch f u.flags →
    ComputationMatches (size_of w) (shift_computed Sar (size_of w) f x y) u (performs turn (shift_core Sar w) u)
unfolding performs perform shift_core
sar_core turn One x y f u m n g =
    sar_made One x y f u _ (record { change = changed u _ refl refl refl refl refl; value = refl; cf = refl; of = refl }) (record { pf = refl; zf = refl; sf = refl }) m n g
sar_core turn Two x y f u m n g =
    sar_made Two x y f u _ (record { change = changed u _ refl refl refl refl refl; value = refl; cf = refl; of = refl }) (record { pf = refl; zf = refl; sf = refl }) m n g
sar_core turn Four x y f u m n g =
    sar_made Four x y f u _ (record { change = changed u _ refl refl refl refl refl; value = refl; cf = refl; of = refl }) (record { pf = refl; zf = refl; sf = refl }) m n g

-- ---- ROL
rol_made : (w : Width) (x y : Word) (f : Flags) (u v : Storage) →
    let c = and_of (u.temps 2) (word_of 31) in
    let p = and_of c (word_of (top w)) in
    let r = and_of (or_of (shifted_of Shl (u.temps 1) p) (shifted_of Shr (u.temps 1) (difference_of (word_of (width_bits w)) p))) (word_of (mask w)) in
    Leaves w c r (and_of r (word_of 1)) (xor_of (shifted_of Shr r (word_of (top w))) (and_of r (word_of 1))) u v → RestKept u v →
    CutMatches (size_of w) x (u.temps 1) → CutMatches 1 y (u.temps 2) → FlagsMatch f u.flags → IsComputed (size_of w) (answers (shift Rol (size_of w) x y.b0 f)) u v
unfolding shifted
rol_made w x y f u v h t m n g =
    by_count Rol w x y f u v m n (lost_kept w f _ _ _ _ u v h t g) (kept_kept w x f _ _ _ _ u v h t m g)
    (λ a k e l q p s. made_kept w _ _ _ f _ _ _ _ k u v h t g (rol_comes w a k (u.temps 1) _ e l q p s) q p s)

rol_core : (turn : ℕ) (w : Width) (x y : Word) (f : Flags) (u : Storage) → CutMatches (size_of w) x (u.temps 1) → CutMatches 1 y (u.temps 2) → FlagsMatch f u.flags →
    ComputationMatches (size_of w) (shift_computed Rol (size_of w) f x y) u (performs turn (shift_core Rol w) u)
unfolding performs perform shift_core
rol_core turn w x y f u m n g =
    rol_made w x y f u _ (record { change = changed u _ refl refl refl refl refl; value = refl; cf = refl; of = refl }) (record { pf = refl; zf = refl; sf = refl }) m n g

-- ---- ROR
ror_made : (w : Width) (x y : Word) (f : Flags) (u v : Storage) →
    let c = and_of (u.temps 2) (word_of 31) in
    let p = and_of c (word_of (top w)) in
    let r = and_of (or_of (shifted_of Shl (u.temps 1) (difference_of (word_of (width_bits w)) p)) (shifted_of Shr (u.temps 1) p)) (word_of (mask w)) in
    let o = shifted_of Shr r (word_of (top w)) in
    Leaves w c r o (xor_of o (and_of (shifted_of Shr r (word_of (second w))) (word_of 1))) u v → RestKept u v →
    CutMatches (size_of w) x (u.temps 1) → CutMatches 1 y (u.temps 2) → FlagsMatch f u.flags → IsComputed (size_of w) (answers (shift Ror (size_of w) x y.b0 f)) u v
unfolding shifted
ror_made w x y f u v h t m n g =
    by_count Ror w x y f u v m n (lost_kept w f _ _ _ _ u v h t g) (kept_kept w x f _ _ _ _ u v h t m g)
    (λ a k e l q p s. made_kept w _ _ _ f _ _ _ _ k u v h t g (ror_comes w a k (u.temps 1) _ e l q p s) q p s)

ror_core : (turn : ℕ) (w : Width) (x y : Word) (f : Flags) (u : Storage) → CutMatches (size_of w) x (u.temps 1) → CutMatches 1 y (u.temps 2) → FlagsMatch f u.flags →
    ComputationMatches (size_of w) (shift_computed Ror (size_of w) f x y) u (performs turn (shift_core Ror w) u)
unfolding performs perform shift_core
ror_core turn w x y f u m n g =
    ror_made w x y f u _ (record { change = changed u _ refl refl refl refl refl; value = refl; cf = refl; of = refl }) (record { pf = refl; zf = refl; sf = refl }) m n g

-- ---- all
shift_matches : (op : ShiftOp) (turn : ℕ) (w : Width) (x y : Word) (f : Flags) (u : Storage) → CutMatches (size_of w) x (u.temps 1) → CutMatches 1 y (u.temps 2) → FlagsMatch f u.flags →
    ComputationMatches (size_of w) (shift_computed op (size_of w) f x y) u (performs turn (shift_core op w) u)
shift_matches Rol = rol_core
shift_matches Ror = ror_core
shift_matches Shl = shl_core
shift_matches Shr = shr_core
shift_matches Sar = sar_core

pub shift_computes : (op : ShiftOp) (w : Width) → ComputesTwo (size_of w) 1 (size_of w) (shift_computed op (size_of w)) (shift_core op w)
shift_computes op w = record { computes = λ turn x y f u m n g. shift_matches op turn w x y f u m n g }
