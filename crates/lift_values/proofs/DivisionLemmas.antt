-- The cores of DIV and IDIV.
use Rattle.std.proofs.Common.{◌≡◌, ℕ, ◌+◌, ◌-◌, ◌*◌, ◌/◌, ◌%◌, ◌<◌, ◌≤◌, ◌==◌, Bool, true, false, cond, leb, [], Option, Some, None, refl, sym, ◌∙◌, ap, subst, arith}
use Rattle.std.proofs.lemmas.Bool.{eqb-false, leb-false, ltb-false}
use Rattle.std.proofs.lemmas.Nat.{mod_below}
use Rattle.x86_types.specs.declared.width.Width.{Width}
use Rattle.x86_types.specs.declared.width.Width.TheVariants.{One, Two, Four}
use Rattle.x86_types.specs.Numbers.{size_of}
use Rattle.x86_values.specs.declared.word.Word.{Word}
use Rattle.x86_values.specs.declared.divided.Divided.{Divided}
use Rattle.x86_values.specs.declared.divided.Divided.TheVariants as divided
use Rattle.x86_values.specs.Words.{word_of, known}
use Rattle.x86_values.specs.Sizes.{cut, number, full, half, is_negative}
use Rattle.x86_values.specs.Results.{differ}
use Rattle.x86_values.specs.Divisions.{with_sign, too_great, unsigned_quotient, signed_quotient, quotient, quotient_of, divide}
use Rattle.x86_meaning.specs.Outcomes.{quotient_and_remainder, div_computed}
use Rattle.flag_ir.specs.declared.variable.Var.TheVariants as var
use Rattle.flag_ir.specs.Storage.{Storage}
use Rattle.flag_ir.specs.Operations.{and_then, divided_into, perform, performs}
use Rattle.lift_relation.specs.Cores.{CutMatches, ComputesThree, ComputationMatches}
use Rattle.lift_values.specs.Divisions.{div_core}
use Rattle.lift_values.proofs.WordLemmas.{IsNumber, number_below, known_word, known_matches, cut_word, same_word, small_mod, mod_fits, below_32}
use Rattle.lift_values.proofs.FlagLemmas.{changed, no_flags_match}

-- ---- what is known is the same number on the right
number_again : (w : Width) (n : ℕ) (y : Word) → IsNumber w n y → number (size_of w) y ≡ Some n
unfolding number
number_again w n y h = ap (λ z. known (cut (size_of w) z)) h.is ∙ ap known (cut_word w n ∙ same_word _ _ (small_mod w n h.fits)) ∙ known_word n (below_32 w n h.fits)

-- ---- quotient and remainder are of the width
abbrev AreOfWidth : Width → Divided → Type 0
AreOfWidth w (divided.Got q r) = CutMatches (size_of w) q q × CutMatches (size_of w) r r
AreOfWidth w divided.Fault = Unit {0}
AreOfWidth w divided.Unspecified = Unit {0}

fits_itself : (w : Width) (n : ℕ) → n < full (size_of w) → CutMatches (size_of w) (word_of n) (word_of n)
fits_itself w n h = known_matches w n (word_of n) refl h

unsigned_fits : (w : Width) (n d : ℕ) → 0 < d → d < full (size_of w) → AreOfWidth w (unsigned_quotient (size_of w) n d)
unsigned_fits w n d l h = cases (leb (full (size_of w)) (n / d)) refl
  where
    cases : (b : Bool) → leb (full (size_of w)) (n / d) ≡ b → AreOfWidth w (cond b divided.Fault (divided.Got (word_of (n / d)) (word_of (n % d))))
    cases true e = tt
    cases false e = (fits_itself w (n / d) (leb-false (full (size_of w)) (n / d) e), fits_itself w (n % d) (let k : n % d < d = mod_below n d l in omega (arith, h, k)))

sign_fits : (w : Width) (b : Bool) (n : ℕ) → n < full (size_of w) → with_sign (full (size_of w)) b n < full (size_of w)
sign_fits w true n h = mod_fits w (full (size_of w) - n)
sign_fits w false n h = h

distance_positive : (w : Width) (b : Bool) (d : ℕ) → 0 < d → d < full (size_of w) → 0 < with_sign (full (size_of w)) b d
distance_positive w false d l h = l
distance_positive One true d l h = omega (arith, l, h)
distance_positive Two true d l h = omega (arith, l, h)
distance_positive Four true d l h = omega (arith, l, h)

half_below : (w : Width) → half (size_of w) < full (size_of w)
half_below One = omega arith
half_below Two = omega arith
half_below Four = omega arith

quotient_fits : (w : Width) (b : Bool) (q : ℕ) → too_great (size_of w) b q ≡ false → q < full (size_of w)
quotient_fits w true q e = let h : q ≤ half (size_of w) = ltb-false (half (size_of w)) q e in omega (arith, h, half_below w)
quotient_fits w false q e = let h : q < half (size_of w) = leb-false (half (size_of w)) q e in omega (arith, h, half_below w)

signed_fits : (w : Width) (s t : Bool) (n d : ℕ) → 0 < d → d < full (size_of w) → AreOfWidth w (signed_quotient (size_of w) s t n d)
signed_fits w s t n d l h = cases (too_great (size_of w) (differ s t) (n / d)) refl
  where
    cases : (b : Bool) → too_great (size_of w) (differ s t) (n / d) ≡ b → AreOfWidth w (cond b divided.Fault (divided.Got (word_of (with_sign (full (size_of w)) (differ s t) (n / d))) (word_of (with_sign (full (size_of w)) s (n % d)))))
    cases true e = tt
    cases false e = (fits_itself w _ (sign_fits w (differ s t) (n / d) (quotient_fits w (differ s t) (n / d) e)), fits_itself w _ (sign_fits w s (n % d) (let k : n % d < d = mod_below n d l in omega (arith, h, k))))

all_fit : (signed : Bool) (w : Width) (n d : ℕ) → d < full (size_of w) → AreOfWidth w (cond (d == 0) divided.Fault (quotient signed (size_of w) n d))
all_fit signed w n d h = cases signed (d == 0) refl
  where
    cases : (signed b : Bool) → (d == 0) ≡ b → AreOfWidth w (cond b divided.Fault (quotient signed (size_of w) n d))
    cases signed true e = tt
    cases false false e = unsigned_fits w n d (let z : d ≡ 0 → ⊥ = eqb-false d 0 e in omega (arith, z)) h
    cases true false e =
        let z : d ≡ 0 → ⊥ = eqb-false d 0 e in
        let l : 0 < d = omega (arith, z) in
        let t = is_negative (size_of w) d in
        signed_fits w _ t _ (with_sign (full (size_of w)) t d) (distance_positive w t d l h) (sign_fits w t d h)

-- ---- the same division on both sides
same_divided : (turn : ℕ) (w : Width) (d : Divided) (u : Storage) → AreOfWidth w d → ComputationMatches (size_of w) (quotient_and_remainder d) u (and_then (divided_into d (var.Temp 4) (var.Temp 5) u) (performs turn []))
unfolding performs
same_divided turn w (divided.Got q r) u h = record { change = changed u _ refl refl refl refl refl; values = (h.0, (h.1, tt)); flags = no_flags_match u.flags }
same_divided turn w divided.Fault u h = refl
same_divided turn w divided.Unspecified u h = tt

div_matches : (turn : ℕ) (signed : Bool) (w : Width) (a b c : Word) (u : Storage) → CutMatches (size_of w) a (u.temps 1) → CutMatches (size_of w) b (u.temps 2) → CutMatches (size_of w) c (u.temps 3) →
    ComputationMatches (size_of w) (div_computed signed (size_of w) a b c) u (and_then (divided_into (divide signed (size_of w) (u.temps 1) (u.temps 2) (u.temps 3)) (var.Temp 4) (var.Temp 5) u) (performs turn []))
unfolding divide
div_matches turn signed w a b c u x y z = cases (number (size_of w) a) (number (size_of w) b) (number (size_of w) c) refl refl refl
  where
    Matches : Option ℕ → Option ℕ → Option ℕ → Option ℕ → Option ℕ → Option ℕ → Type 0
    Matches p q r p' q' r' = ComputationMatches (size_of w) (quotient_and_remainder (quotient_of signed (size_of w) p q r)) u (and_then (divided_into (quotient_of signed (size_of w) p' q' r') (var.Temp 4) (var.Temp 5) u) (performs turn []))

    cases : (p q r : Option ℕ) → number (size_of w) a ≡ p → number (size_of w) b ≡ q → number (size_of w) c ≡ r → Matches p q r (number (size_of w) (u.temps 1)) (number (size_of w) (u.temps 2)) (number (size_of w) (u.temps 3))
    cases None q r e f g = tt
    cases (Some n) None r e f g = tt
    cases (Some n) (Some m) None e f g = tt
    cases (Some n) (Some m) (Some d) e f g =
        let hn = number_below w a n (u.temps 1) e x in
        let hm = number_below w b m (u.temps 2) f y in
        let hd = number_below w c d (u.temps 3) g z in
        subst (λ p. Matches (Some n) (Some m) (Some d) p (number (size_of w) (u.temps 2)) (number (size_of w) (u.temps 3))) (sym (number_again w n (u.temps 1) hn))
        (subst (λ q. Matches (Some n) (Some m) (Some d) (Some n) q (number (size_of w) (u.temps 3))) (sym (number_again w m (u.temps 2) hm))
        (subst (λ r. Matches (Some n) (Some m) (Some d) (Some n) (Some m) r) (sym (number_again w d (u.temps 3) hd)) (same_divided turn w _ u (all_fit signed w (n * full (size_of w) + m) d hd.fits))))

pub div_computes : (signed : Bool) (w : Width) → ComputesThree (size_of w) (size_of w) (size_of w) (size_of w) (λ f x y z. div_computed signed (size_of w) x y z) (div_core signed w)
unfolding perform performs
div_computes signed w = record { computes = λ turn a b c f u x y z g. div_matches turn signed w a b c u x y z }
