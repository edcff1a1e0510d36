-- The cores of DIV and IDIV (Intel SDM volume 2, "DIV", "IDIV"): the upper half of the dividend in temporary 1, the lower one in temporary 2,
-- the divisor in temporary 3; the quotient to temporary 4, the remainder to temporary 5.
use Rattle.std.specs.Prelude.{Bool, List, [], ◌∷◌}
use Rattle.x86_types.specs.declared.width.Width.{Width}
use Rattle.x86_types.specs.Numbers.{size_of}
use Rattle.flag_ir.specs.declared.variable.Var.TheVariants as var
use Rattle.flag_ir.specs.declared.operation.Op.{Op}
use Rattle.flag_ir.specs.declared.operation.Op.TheVariants as op
use Rattle.lift_values.specs.Terms.{temp}

abbrev pub div_core : Bool → Width → List Op
div_core signed w = op.Divide (var.Temp 4) (var.Temp 5) (temp 1) (temp 2) (temp 3) (size_of w) signed ∷ []
