-- The law of lowering: the unit that is made of another, its temporaries numbered anew, does what lowering promises.
use Rattle.std.specs.Prelude.{◌≡◌, false, [], All}
use Rattle.flag_ir.specs.Entering.{CodeUnit}
use Rattle.flag_ir.specs.Form.{IsInForm}
use Rattle.flag_ir.specs.Shape.{IsWellShaped}
use Rattle.guards.specs.Renumbering.{WritesFewTemps, renumbered_unit}
use Rattle.guards.specs.Guarding.{guarded_unit, AreAddresses}
use Rattle.guards.specs.Lowering.{Lowers}

abbrev pub LoweringLaw : Type 0
LoweringLaw = (u : CodeUnit) → IsInForm u → IsWellShaped u → u.lowered ≡ false → u.procs ≡ [] → All WritesFewTemps u.whole → AreAddresses u.whole → Lowers u (guarded_unit (renumbered_unit u))
