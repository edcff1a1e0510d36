-- Divisions are monotone in what is specified; quotient and remainder make up the dividend, and they have the signs that dividend
-- and divisor give them.
use Rattle.std.specs.Prelude.{◌≡◌, ◌↔◌, ℕ, ◌+◌, ◌*◌, ◌<◌, ◌≤◌, Bool, true, false, leb, Some}
use Rattle.x86_values.specs.declared.word.Word.{Word}
use Rattle.x86_values.specs.declared.divided.Divided.TheVariants.{Got, Fault}
use Rattle.x86_values.specs.Words.{known}
use Rattle.x86_values.specs.Sizes.{IsSize, full, half, is_negative}
use Rattle.x86_values.specs.Results.{differ}
use Rattle.x86_values.specs.Divisions.{with_sign, quotient, divide}
use Rattle.x86_values.specs.ProductLaws.{distance}
use Rattle.x86_values.specs.LessSpecified.{WordLessSpecified, DividedLessSpecified}

-- the sign of a number of twice the size, and how far it is from 0
abbrev pub is_double_negative : ℕ → ℕ → Bool
is_double_negative size n = leb (full size * half size) n

abbrev pub double_distance : ℕ → ℕ → ℕ
double_distance size n = with_sign (full size * full size) (is_double_negative size n) n

-- n divided by d, as signed numbers, is i with the remainder j
pub record IsSignedQuotient (size n d i j : ℕ) : Type 0 where
  pub joined : distance size i * distance size d + distance size j ≡ double_distance size n
  pub below : distance size j < distance size d
  pub quotient_sign : i ≡ with_sign (full size) (differ (is_double_negative size n) (is_negative size d)) (distance size i)
  pub remainder_sign : j ≡ with_sign (full size) (is_double_negative size n) (distance size j)

pub record DivisionLaws : Type 0 where
  pub divide_less : (signed : Bool) (size : ℕ) (x y z u v w : Word) → IsSize size → WordLessSpecified x u → WordLessSpecified y v → WordLessSpecified z w → DividedLessSpecified (divide signed size x y z) (divide signed size u v w)
  -- of an unsigned division: quotient times divisor and the remainder are the dividend, and the remainder is below the divisor
  pub unsigned : (size n d i j : ℕ) (q r : Word) → IsSize size → 0 < d → d < full size → quotient false size n d ≡ Got q r → known q ≡ Some i → known r ≡ Some j → (i * d + j ≡ n) × (j < d)
  -- it faults exactly where the quotient is none of the size
  pub unsigned_fault : (size n d : ℕ) → 0 < d → quotient false size n d ≡ Fault ↔ (full size * d ≤ n)
  pub signed : (size n d i j : ℕ) (q r : Word) → IsSize size → n < full size * full size → 0 < d → d < full size → quotient true size n d ≡ Got q r → known q ≡ Some i → known r ≡ Some j → IsSignedQuotient size n d i j
