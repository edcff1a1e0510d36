-- Less specified: each byte or flag that is known on the left is the same on the right, and a byte that is known is below 256. So
-- what holds of each right side holds whatever the unspecified bytes of the left are.
use Rattle.std.specs.Prelude.{◌≡◌, ◌<◌, Bool, Option, Some, None, List, [], ◌∷◌}
use Rattle.x86_values.specs.declared.byte.Byte.{Byte}
use Rattle.x86_values.specs.declared.byte.Byte.TheVariants.{Known, Unspecified}
use Rattle.x86_values.specs.declared.word.Word.{Word}
use Rattle.x86_values.specs.declared.word.Flags.{Flags}
use Rattle.x86_values.specs.declared.answered.Answered.{Answered}
use Rattle.x86_values.specs.declared.product.Product.{Product}
use Rattle.x86_values.specs.declared.divided.Divided.{Divided}
use Rattle.x86_values.specs.declared.divided.Divided.TheVariants as divided

abbrev pub ByteLessSpecified : Byte → Byte → Type 0
ByteLessSpecified (Known a) y = (y ≡ Known a) × (a < 256)
ByteLessSpecified Unspecified y = Unit {0}

abbrev pub FlagLessSpecified : Option Bool → Option Bool → Type 0
FlagLessSpecified (Some b) g = g ≡ Some b
FlagLessSpecified None g = Unit {0}

pub record WordLessSpecified (x y : Word) : Type 0 where
  pub b0 : ByteLessSpecified x.b0 y.b0
  pub b1 : ByteLessSpecified x.b1 y.b1
  pub b2 : ByteLessSpecified x.b2 y.b2
  pub b3 : ByteLessSpecified x.b3 y.b3

pub record FlagsLessSpecified (f g : Flags) : Type 0 where
  pub cf : FlagLessSpecified f.cf g.cf
  pub pf : FlagLessSpecified f.pf g.pf
  pub zf : FlagLessSpecified f.zf g.zf
  pub sf : FlagLessSpecified f.sf g.sf
  pub of : FlagLessSpecified f.of g.of

-- so is a list of bytes, place by place
abbrev pub BytesLessSpecified : List Byte → List Byte → Type 0
BytesLessSpecified [] ys = ys ≡ []
BytesLessSpecified (x ∷ xs) [] = ⊥
BytesLessSpecified (x ∷ xs) (y ∷ ys) = ByteLessSpecified x y × BytesLessSpecified xs ys

-- results
pub record AnsweredLessSpecified (a b : Answered) : Type 0 where
  pub value : WordLessSpecified a.value b.value
  pub flags : FlagsLessSpecified a.flags b.flags

pub record ProductLessSpecified (a b : Product) : Type 0 where
  pub low : WordLessSpecified a.low b.low
  pub high : WordLessSpecified a.high b.high
  pub flags : FlagsLessSpecified a.flags b.flags

-- a division that comes to nothing excuses every other
abbrev pub DividedLessSpecified : Divided → Divided → Type 0
DividedLessSpecified (divided.Got q r) (divided.Got s t) = WordLessSpecified q s × WordLessSpecified r t
DividedLessSpecified (divided.Got q r) divided.Fault = ⊥
DividedLessSpecified (divided.Got q r) divided.Unspecified = ⊥
DividedLessSpecified divided.Fault (divided.Got s t) = ⊥
DividedLessSpecified divided.Fault divided.Fault = Unit {0}
DividedLessSpecified divided.Fault divided.Unspecified = ⊥
DividedLessSpecified divided.Unspecified b = Unit {0}
