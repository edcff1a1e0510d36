-- What is asked of two passes, one after the other, and what they give. All of this is own.
use Rattle.flag_ir.specs.Entering.{CodeUnit}
use Rattle.flag_ir.specs.Keeps.{Passes}

-- the first pass can be made, and whatever it gives of the unit can be taken by the second
pub record AreMet (first : CodeUnit → Type 0) (gives : CodeUnit → CodeUnit → Type 0) (second : CodeUnit → Type 0) (u : CodeUnit) : Type 0 where
  pub at_first : first u
  pub at_second : (v : CodeUnit) → Passes u v → gives u v → second v

-- there is a unit between, which the first made and the second took
pub record AreGiven (first second : CodeUnit → CodeUnit → Type 0) (u w : CodeUnit) : Type 0 where
  pub between : CodeUnit
  pub passed : Passes u between
  pub at_first : first u between
  pub passes : Passes between w
  pub at_second : second between w
