-- The law of the choice of instructions: the code that is made of a lowered unit does what is promised of it.
use Rattle.std.specs.Prelude.{◌≡◌, true}
use Rattle.flag_ir.specs.Entering.{CodeUnit}
use Rattle.flag_ir.specs.Form.{IsInForm}
use Rattle.flag_ir.specs.Shape.{IsWellShaped}
use Rattle.instr_choose.specs.Blocks.{choose_blocks, UnitHasNames}
use Rattle.instr_choose.specs.Words.{UnitFits}
use Rattle.instr_choose.specs.Choosing.{Chooses}

abbrev pub ChosenLaw : Type 0
ChosenLaw = (u : CodeUnit) → IsInForm u → IsWellShaped u → u.lowered ≡ true → UnitHasNames u → UnitFits u → Chooses u (choose_blocks u.whole)
