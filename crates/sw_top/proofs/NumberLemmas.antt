-- Which number of steps a text says.
use Rattle.std.proofs.Common.{◌≡◌, ℕ, ◌≤◌, ◌<◌, ◌^◌, ◌&&◌, Bool, true, false, cond, leb, List, Option, Some, None, Result, Ok, bytes_eq, decimal, refl, sym, ap, ◌∙◌, subst, arith}
use Rattle.std.proofs.lemmas.Bool.Decides.{nat_tests}
use Rattle.std.proofs.lemmas.Slice.Eq.{bytes_eq-Decides}
use Rattle.std.proofs.lemmas.Fmt.{decimal_is_IsNumeral, parse-decimal}
use Rattle.std.specs.Result.{result_ok}
use Rattle.std.specs.Str.Parse.{digits_value, ParsesUnsigned}
use Rattle.sw_top.specs.Commands.{steps_of, most_steps}

both : (p q : Bool) → (p && q) ≡ true → (p ≡ true) × (q ≡ true)
both true q e = (refl, e)
both false q e = cc

chosen : (b : Bool) (v n : ℕ) → cond b (Some v) None ≡ Some n → (b ≡ true) × (v ≡ n)
chosen true v n e = (refl, cc)
chosen false v n e = cc

taken : (b c : Bool) (v : ℕ) → b ≡ true → c ≡ true → cond (b && c) (Some v) None ≡ Some v
taken b c v p q = rw (p, q) refl

pub leb_is : (a b : ℕ) → leb a b ≡ true → a ≤ b
leb_is a b e = grind (arith, nat_tests)

pub is_leb : (a b : ℕ) → a ≤ b → leb a b ≡ true
is_leb a b h = grind (arith, nat_tests)

small : (n : ℕ) → n ≤ most_steps → n < 2 ^ 64
small n h = omega (arith, h)

-- a text says the number that it is written as
pub steps_of_is : (text : List ℕ) (n : ℕ) → steps_of text ≡ Some n → (text ≡ decimal n) × (n ≤ most_steps)
steps_of_is text n e =
    let number = digits_value 10 text in
    let is = chosen (bytes_eq text (decimal number) && leb number most_steps) number n e in
    let tests = both (bytes_eq text (decimal number)) (leb number most_steps) is.0 in
    let written : text ≡ decimal number = (bytes_eq-Decides text (decimal number)).0 tests.0 in
    let most : number ≤ most_steps = leb_is number most_steps tests.1 in
    (written ∙ ap decimal is.1, subst (λ v. v ≤ most_steps) is.1 most)

steps_of-decimal : (n : ℕ) → n ≤ most_steps → steps_of (decimal n) ≡ Some n
steps_of-decimal n h =
    let value : digits_value 10 (decimal n) ≡ n = (decimal_is_IsNumeral n (small n h)).1 in
    let P = λ (v : ℕ). cond (bytes_eq (decimal n) (decimal v) && leb v most_steps) (Some v) None ≡ Some n in
    subst P (sym value) (taken (bytes_eq (decimal n) (decimal n)) (leb n most_steps) n ((bytes_eq-Decides (decimal n) (decimal n)).1 refl) (is_leb n most_steps h))

pub steps_of_written : (text : List ℕ) (n : ℕ) → text ≡ decimal n → n ≤ most_steps → steps_of text ≡ Some n
steps_of_written text n e h = ap steps_of e ∙ steps_of-decimal n h

none_of : (o : Option ℕ) → ((n : ℕ) → o ≡ Some n → ⊥) → o ≡ None
none_of None h = refl
none_of (Some n) h = absurd (h n refl)

-- and no number where it is read as none, or as another
pub steps_of_none : {E : Type 0} (text : List ℕ) (r : Result ℕ E) → ParsesUnsigned 64 10 text r → ((n : ℕ) → r ≡ Ok n → text ≡ decimal n → n ≤ most_steps → ⊥) → steps_of text ≡ None
steps_of_none text r parses h =
    none_of (steps_of text) (λ n e.
    let is = steps_of_is text n e in
    h n (parse-decimal 64 n text r (small n is.1) (small n is.1) is.0 parses) is.0 is.1)

-- a parse that answers no number read none
pub not_read : {E : Type 0} (r : Result ℕ E) (o : Option ℕ) → o ≡ result_ok r → o ≡ None → (n : ℕ) → r ≡ Ok n → ⊥
not_read r o same none n is = let number : result_ok r ≡ Some n = ap result_ok is in cc

-- and one that answers this number read no other
pub one_read : {E : Type 0} (r : Result ℕ E) (o : Option ℕ) (s : ℕ) → o ≡ result_ok r → o ≡ Some s → (n : ℕ) → r ≡ Ok n → n ≡ s
one_read r o s same some n is = let number : result_ok r ≡ Some n = ap result_ok is in cc

-- a text that is tested against how a number is written
pub is_written : (written text : List ℕ) (n : ℕ) → written ≡ decimal n → bytes_eq written text ≡ true → text ≡ decimal n
is_written written text n e t = sym ((bytes_eq-Decides written text).0 t) ∙ e

pub not_written : (written text : List ℕ) (n : ℕ) → written ≡ decimal n → bytes_eq written text ≡ false → text ≡ decimal n → ⊥
not_written written text n e t is = let yes = (bytes_eq-Decides written text).1 (e ∙ sym is) in cc
