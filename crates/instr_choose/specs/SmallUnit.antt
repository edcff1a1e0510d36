-- A lowered unit of one block, for a test.
use Rattle.std.specs.Prelude.{true, [], ◌∷◌}
use Rattle.flag_ir.specs.declared.variable.Var.TheVariants as var
use Rattle.flag_ir.specs.declared.variable.Term.TheVariants as term
use Rattle.flag_ir.specs.declared.operation.Calc.TheVariants as calc
use Rattle.flag_ir.specs.declared.operation.Op.TheVariants as op
use Rattle.flag_ir.specs.declared.block.Block.{Block}
use Rattle.flag_ir.specs.declared.block.Exit.TheVariants as exit
use Rattle.flag_ir.specs.Entering.{CodeUnit}

abbrev pub small_block : Block
small_block = record { number = 0; at = 4096; ops = op.Calc (var.Reg 3) calc.Add (term.Var (var.Flag 0)) (term.Word 5) ∷ []; exit = exit.Stop }

abbrev pub small_unit : CodeUnit
small_unit = record { lowered = true; whole = small_block ∷ []; procs = [] }
