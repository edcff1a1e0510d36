-- Quotients and remainders are numbers of their size.
use Rattle.std.proofs.Common.{◌≡◌, ◌≢◌, ℕ, ◌+◌, ◌-◌, ◌*◌, ◌/◌, ◌%◌, ◌<◌, ◌≤◌, ◌==◌, Bool, true, false, cond, leb, Option, Some, None, refl, sym, ap, ◌∙◌, arith}
use Rattle.std.proofs.lemmas.Bool.{leb-true, leb-false, eqb-false}
use Rattle.std.proofs.lemmas.Nat.{mod_below}
use Rattle.x86_values.specs.declared.word.Word.{Word}
use Rattle.x86_values.specs.declared.divided.Divided.{Divided}
use Rattle.x86_values.specs.declared.divided.Divided.TheVariants as divide_to
use Rattle.x86_values.specs.Words.{word_of}
use Rattle.x86_values.specs.Sizes.{cut, number, full, half, is_negative}
use Rattle.x86_values.specs.Results.{differ}
use Rattle.x86_values.specs.Divisions.{with_sign, too_great, quotient, quotient_of, divide}

-- a word is that of a number of a size
pub record IsCut (size : ℕ) (w : Word) : Type 0 where
  pub number : ℕ
  pub fits : number < full size
  pub is : w ≡ word_of number

abbrev pub AreCut : ℕ → Divided → Type 0
AreCut size (divide_to.Got q r) = IsCut size q × IsCut size r
AreCut size divide_to.Fault = Unit {0}
AreCut size divide_to.Unspecified = Unit {0}

-- the sizes 1 and 2
pub data IsSmall : ℕ → Type 0 where
  one : IsSmall 1
  two : IsSmall 2

pub cut_itself : (size n : ℕ) → IsSmall size → n < full size → cut size (word_of n) ≡ word_of n
unfolding cut word_of
cut_itself _ n one h = rw ((let g : n / 256 % 256 ≡ 0 = omega (arith, h) in g), (let g : n / 65536 % 256 ≡ 0 = omega (arith, h) in g), (let g : n / 16777216 % 256 ≡ 0 = omega (arith, h) in g)) refl
cut_itself _ n two h = rw ((let g : n / 65536 % 256 ≡ 0 = omega (arith, h) in g), (let g : n / 16777216 % 256 ≡ 0 = omega (arith, h) in g)) refl

pub cut_word : (size : ℕ) (w : Word) → IsSmall size → IsCut size w → cut size w ≡ w
cut_word size w small h = ap (cut size) h.is ∙ cut_itself size h.number small h.fits ∙ sym h.is

cut_number : (size n : ℕ) → IsSmall size → n < full size → IsCut size (word_of n)
cut_number size n small h = record { number = n; fits = h; is = refl }

positive : (size : ℕ) → IsSmall size → (0 < half size) × (half size < full size)
positive _ one = (omega arith, omega arith)
positive _ two = (omega arith, omega arith)

signed_fits : (size n : ℕ) (s : Bool) → IsSmall size → n < full size → with_sign (full size) s n < full size
signed_fits size n true small h = mod_below (full size - n) (full size) (omega (arith, positive size small))
signed_fits size n false small h = h

distance_fits : (size d : ℕ) (t : Bool) → IsSmall size → d ≢ 0 → d < full size → is_negative size d ≡ t → (0 < with_sign (full size) t d) × (with_sign (full size) t d ≤ full size)
distance_fits size d false small n h e = (omega (arith, zero_not d n), omega (arith, h))
  where
    zero_not : (d : ℕ) → d ≢ 0 → 0 < d
    zero_not d n = grind (arith, n)
distance_fits _ d true one n h e = (omega (arith, h, leb-true (half 1) d e), omega (arith, h))
distance_fits _ d true two n h e = (omega (arith, h, leb-true (half 2) d e), omega (arith, h))

quotient_fits : (size q : ℕ) (s : Bool) → IsSmall size → too_great size s q ≡ false → with_sign (full size) s q < full size
quotient_fits size q true small e = mod_below (full size - q) (full size) (omega (arith, positive size small))
quotient_fits size q false small e = omega (arith, positive size small, leb-false (half size) q e)

unsigned_cut : (size n d : ℕ) (b : Bool) → IsSmall size → d ≢ 0 → d < full size → leb (full size) (n / d) ≡ b → AreCut size (cond b divide_to.Fault (divide_to.Got (word_of (n / d)) (word_of (n % d))))
unsigned_cut size n d true small z h e = tt
unsigned_cut size n d false small z h e = (cut_number size (n / d) small (leb-false (full size) (n / d) e), cut_number size (n % d) small (omega (arith, h, mod_below n d (not_zero d z))))
  where
    not_zero : (d : ℕ) → d ≢ 0 → 0 < d
    not_zero d n = grind (arith, n)

signed_cut : (size n d : ℕ) (s t b : Bool) → IsSmall size → 0 < d → d ≤ full size → too_great size (differ s t) (n / d) ≡ b → AreCut size (cond b divide_to.Fault (divide_to.Got (word_of (with_sign (full size) (differ s t) (n / d))) (word_of (with_sign (full size) s (n % d)))))
signed_cut size n d s t true small z h e = tt
signed_cut size n d s t false small z h e = (cut_number size _ small (quotient_fits size (n / d) (differ s t) small e), cut_number size _ small (signed_fits size (n % d) s small (omega (arith, h, mod_below n d z))))

quotient_cut : (signed : Bool) (size n d : ℕ) → IsSmall size → d ≢ 0 → d < full size → AreCut size (quotient signed size n d)
quotient_cut false size n d small z h = unsigned_cut size n d _ small z h refl
quotient_cut true size n d small z h =
    let s = leb (full size * half size) n in
    let t = is_negative size d in
    let fits = distance_fits size d t small z h refl in
    signed_cut size (with_sign (full size * full size) s n) (with_sign (full size) t d) s t _ small fits.0 fits.1 refl

-- both are numbers of the size, where the divisor is
pub divided_cut : (signed : Bool) (size : ℕ) (h l d : Word) → IsSmall size → ((n : ℕ) → number size d ≡ Some n → n < full size) → AreCut size (divide signed size h l d)
unfolding divide
divided_cut signed size h l d small fits = cases (number size h) (number size l) (number size d) refl
  where
    by_zero : (a b c : ℕ) (z : Bool) → c < full size → (c == 0) ≡ z → AreCut size (cond z divide_to.Fault (quotient signed size (a * full size + b) c))
    by_zero a b c true f e = tt
    by_zero a b c false f e = quotient_cut signed size (a * full size + b) c small (eqb-false c 0 e) f

    cases : (a b c : Option ℕ) → number size d ≡ c → AreCut size (quotient_of signed size a b c)
    cases None b c e = tt
    cases (Some a) None c e = tt
    cases (Some a) (Some b) None e = tt
    cases (Some a) (Some b) (Some c) e = by_zero a b c (c == 0) (fits c e) refl
