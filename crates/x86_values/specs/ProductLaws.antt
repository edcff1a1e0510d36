-- Products are monotone in what is specified. A signed product has the distance from 0 and the sign that its factors give it, and CF
-- and OF say whether a product is a number of the size.
use Rattle.std.specs.Prelude.{◌≡◌, ℕ, ◌*◌, ◌<◌, Bool, true, false, leb, Some}
use Rattle.x86_values.specs.declared.word.Word.{Word}
use Rattle.x86_values.specs.Sizes.{IsSize, full, is_negative}
use Rattle.x86_values.specs.Results.{differ}
use Rattle.x86_values.specs.Divisions.{with_sign, too_great}
use Rattle.x86_values.specs.Products.{product, halves, multiply}
use Rattle.x86_values.specs.LessSpecified.{WordLessSpecified, ProductLessSpecified}

-- how far a number of the size is from 0, as a signed number
abbrev pub distance : ℕ → ℕ → ℕ
distance size a = with_sign (full size) (is_negative size a) a

pub record ProductLaws : Type 0 where
  pub multiply_less : (signed : Bool) (size : ℕ) (x y u v : Word) → IsSize size → WordLessSpecified x u → WordLessSpecified y v → ProductLessSpecified (multiply signed size x y) (multiply signed size u v)
  -- the product of the distances, with the sign of both factors, modulo the range of twice the size
  pub signed_product : (size a b : ℕ) → IsSize size → a < full size → b < full size → product true size a b ≡ with_sign (full size * full size) (differ (is_negative size a) (is_negative size b)) (distance size a * distance size b)
  -- OF, which is CF too, is set exactly where the product is no number of the size
  pub unsigned_exceeds : (size a b : ℕ) → IsSize size → a < full size → b < full size → (halves false size (product false size a b)).flags.of ≡ Some (leb (full size) (a * b))
  pub signed_exceeds : (size a b : ℕ) → IsSize size → a < full size → b < full size → (halves true size (product true size a b)).flags.of ≡ Some (too_great size (differ (is_negative size a) (is_negative size b)) (distance size a * distance size b))
