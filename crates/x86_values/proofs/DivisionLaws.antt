-- The laws of divisions.
use Rattle.std.proofs.Common.{◌≡◌, ◌↔◌, ℕ, ◌+◌, ◌*◌, ◌/◌, ◌%◌, ◌<◌, ◌≤◌, ◌==◌, Bool, true, false, cond, leb, Option, Some, None, refl, arith}
use Rattle.std.proofs.Math.Nat.{div-add-mod'}
use Rattle.std.proofs.lemmas.Nat.{mod_below, mul-le, le-div}
use Rattle.std.proofs.lemmas.Bool.Decides.{nat_tests}
use Rattle.x86_values.specs.declared.word.Word.{Word}
use Rattle.x86_values.specs.declared.divided.Divided.{Divided}
use Rattle.x86_values.specs.declared.divided.Divided.TheVariants.{Got, Fault}
use Rattle.x86_values.specs.Words.{word_of, known}
use Rattle.x86_values.specs.Sizes.{IsSize, number, full}
use Rattle.x86_values.specs.Divisions.{quotient, quotient_of, divide}
use Rattle.x86_values.specs.DivisionLaws.{DivisionLaws}
use Rattle.x86_values.specs.LessSpecified.{WordLessSpecified, DividedLessSpecified}
use Rattle.x86_values.proofs.LessSpecified.{same_number}
use Rattle.x86_values.proofs.SizeLemmas.{full_bounds}
use Rattle.x86_values.proofs.ResultsLess.{number_itself}
use Rattle.x86_values.proofs.Faults.{gives, no_fault}
use Rattle.x86_values.proofs.SignedDivisions.{signed}

-- ---- monotony
fault_or : (b : Bool) (m k : ℕ) → DividedLessSpecified (cond b Fault (Got (word_of m) (word_of k))) (cond b Fault (Got (word_of m) (word_of k)))
fault_or true m k = tt
fault_or false m k = (number_itself m, number_itself k)

quotient_itself : (signed : Bool) (size n d : ℕ) → DividedLessSpecified (quotient signed size n d) (quotient signed size n d)
quotient_itself false size n d = fault_or _ _ _
quotient_itself true size n d = fault_or _ _ _

divided_itself : (b : Bool) (q : Divided) → DividedLessSpecified q q → DividedLessSpecified (cond b Fault q) (cond b Fault q)
divided_itself true q h = tt
divided_itself false q h = h

divide_less : (signed : Bool) (size : ℕ) (x y z u v w : Word) → IsSize size → WordLessSpecified x u → WordLessSpecified y v → WordLessSpecified z w → DividedLessSpecified (divide signed size x y z) (divide signed size u v w)
unfolding divide
divide_less signed size x y z u v w s h k l = go (number size x) (number size y) (number size z) refl refl refl
  where
    go : (m n o : Option ℕ) → number size x ≡ m → number size y ≡ n → number size z ≡ o → DividedLessSpecified (quotient_of signed size m n o) (quotient_of signed size (number size u) (number size v) (number size w))
    go None n o e f g = tt
    go (Some a) None o e f g = tt
    go (Some a) (Some b) None e f g = tt
    go (Some a) (Some b) (Some d) e f g = rw ((same_number size a x u s h e).0, (same_number size b y v s k f).0, (same_number size d z w s l g).0)
        (divided_itself (d == 0) (quotient signed size (a * full size + b) d) (quotient_itself signed size (a * full size + b) d))

unsigned : (size n d i j : ℕ) (q r : Word) → IsSize size → 0 < d → d < full size → quotient false size n d ≡ Got q r → known q ≡ Some i → known r ≡ Some j → (i * d + j ≡ n) × (j < d)
unsigned size n d i j q r s h l e f g =
    let below : n / d < full size = let no : leb (full size) (n / d) ≡ false = no_fault (leb (full size) (n / d)) q r (word_of (n / d)) (word_of (n % d)) e in grind (arith, nat_tests) in
    let left : n % d < d = mod_below n d h in
    let small : full size ≤ 4294967296 = (full_bounds size s).0 in
    let are = gives (leb (full size) (n / d)) (n / d) (n % d) i j q r (omega arith) (omega arith) e f g in
    (rw (are.0, are.1) (div-add-mod' n d), rw (are.1) left)

unsigned_fault : (size n d : ℕ) → 0 < d → quotient false size n d ≡ Fault ↔ (full size * d ≤ n)
unsigned_fault size n d h = (go (leb (full size) (n / d)) refl, back)
  where
    go : (b : Bool) → leb (full size) (n / d) ≡ b → cond b Fault (Got (word_of (n / d)) (word_of (n % d))) ≡ Fault → full size * d ≤ n
    go true e f = let k : full size ≤ n / d = grind (arith, nat_tests) in omega (arith, mul-le (full size) d (n / d) d k (omega arith), div-add-mod' n d)
    go false e f = absurd cc

    back : full size * d ≤ n → quotient false size n d ≡ Fault
    back l = let k : full size ≤ n / d = le-div (full size) n d h l in let e : leb (full size) (n / d) ≡ true = grind (arith, nat_tests) in rw e refl

pub division_laws : DivisionLaws
division_laws = record { divide_less = divide_less; unsigned = unsigned; unsigned_fault = unsigned_fault; signed = signed }
