-- A worked unit: it counts down from a number, an operation and an exit a turn, then writes the two bytes at esp, and exits with 7. All of this
-- is own.
use Rattle.std.specs.Prelude.{ℕ, false, List, [], ◌∷◌}
use Rattle.flag_ir.specs.declared.variable.Var.{Var}
use Rattle.flag_ir.specs.declared.variable.Var.TheVariants as var
use Rattle.flag_ir.specs.declared.variable.Term.TheVariants as term
use Rattle.flag_ir.specs.declared.operation.Op.{Op}
use Rattle.flag_ir.specs.declared.operation.Op.TheVariants as op
use Rattle.flag_ir.specs.declared.operation.Calc.TheVariants as calc
use Rattle.flag_ir.specs.declared.block.Block.{Block}
use Rattle.flag_ir.specs.declared.block.Exit.TheVariants as exit
use Rattle.flag_ir.specs.Entering.{CodeUnit}

abbrev pub reg : ℕ → Var
reg n = var.Reg n

abbrev pub count_ops : ℕ → List Op
count_ops n = op.Set (reg 1) (term.Word n) ∷ []

abbrev pub step_ops : List Op
step_ops = op.Calc (reg 1) calc.Sub (term.Var (reg 1)) (term.Word 1) ∷ []

abbrev pub last_ops : List Op
last_ops =
    op.Set (reg 0) (term.Word 4) ∷ op.Set (reg 3) (term.Word 1) ∷ op.Set (reg 1) (term.Var (reg 4)) ∷ op.Set (reg 2) (term.Word 2) ∷ op.System ∷
    op.Set (reg 0) (term.Word 1) ∷ op.Set (reg 3) (term.Word 7) ∷ op.System ∷ []

abbrev pub first_block : ℕ → Block
first_block n = record { number = 0; at = 0x1000; ops = count_ops n; exit = exit.Go 1 }

abbrev pub loop_block : Block
loop_block = record { number = 1; at = 0x1010; ops = step_ops; exit = exit.Branch (term.Var (reg 1)) 1 2 }

abbrev pub last_block : Block
last_block = record { number = 2; at = 0; ops = last_ops; exit = exit.Stop }

abbrev pub counting : ℕ → CodeUnit
counting n = record { lowered = false; whole = first_block n ∷ loop_block ∷ last_block ∷ []; procs = [] }
