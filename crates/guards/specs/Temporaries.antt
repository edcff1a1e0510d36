-- Which temporaries a unit names. All of this is own.
use Rattle.std.specs.Prelude.{ℕ, ◌<◌, List, All, Contains}
use Rattle.flag_ir.specs.declared.variable.Var.{Var}
use Rattle.flag_ir.specs.declared.variable.Var.TheVariants as var
use Rattle.flag_ir.specs.declared.variable.Term.{Term}
use Rattle.flag_ir.specs.declared.variable.Term.TheVariants as term
use Rattle.flag_ir.specs.declared.operation.Op.{Op}
use Rattle.flag_ir.specs.declared.operation.Op.TheVariants as op
use Rattle.flag_ir.specs.declared.block.Block.{Block}
use Rattle.flag_ir.specs.declared.block.Exit.{Exit}
use Rattle.flag_ir.specs.declared.block.Exit.TheVariants as exit

-- a variable that is no temporary with this number or a greater one
abbrev pub IsVarBelow : ℕ → Var → Type 0
IsVarBelow limit (var.Reg n) = Unit {0}
IsVarBelow limit (var.Flag n) = Unit {0}
IsVarBelow limit (var.Temp n) = n < limit
IsVarBelow limit (var.Local n) = Unit {0}

abbrev pub IsTermBelow : ℕ → Term → Type 0
IsTermBelow limit (term.Var v) = IsVarBelow limit v
IsTermBelow limit (term.Word n) = Unit {0}

-- so with all that an operation or an exit names
abbrev pub IsOpBelow : ℕ → Op → Type 0
IsOpBelow limit (op.Set to from) = IsVarBelow limit to × IsTermBelow limit from
IsOpBelow limit (op.Calc to calc left right) = IsVarBelow limit to × IsTermBelow limit left × IsTermBelow limit right
IsOpBelow limit (op.Forget to) = IsVarBelow limit to
IsOpBelow limit (op.Pick to test x y) = IsVarBelow limit to × IsTermBelow limit test × IsTermBelow limit x × IsTermBelow limit y
IsOpBelow limit (op.Need from) = IsTermBelow limit from
IsOpBelow limit (op.Divide quotient remainder high low by size signed) = IsVarBelow limit quotient × IsVarBelow limit remainder × IsTermBelow limit high × IsTermBelow limit low × IsTermBelow limit by
IsOpBelow limit (op.Load to size at) = IsVarBelow limit to × IsTermBelow limit at
IsOpBelow limit (op.Store size at from) = IsTermBelow limit at × IsTermBelow limit from
IsOpBelow limit (op.NearLoad to size at) = IsVarBelow limit to × IsTermBelow limit at
IsOpBelow limit (op.NearStore size at from) = IsTermBelow limit at × IsTermBelow limit from
IsOpBelow limit (op.Get to size offset) = IsVarBelow limit to
IsOpBelow limit (op.Put size offset from) = IsTermBelow limit from
IsOpBelow limit op.System = Unit {0}
IsOpBelow limit op.NearSystem = Unit {0}

abbrev pub IsExitBelow : ℕ → Exit → Type 0
IsExitBelow limit (exit.Go n) = Unit {0}
IsExitBelow limit (exit.Branch test m n) = IsTermBelow limit test
IsExitBelow limit (exit.Jump to) = IsTermBelow limit to
IsExitBelow limit (exit.CallProc entry back) = Unit {0}
IsExitBelow limit exit.Return = Unit {0}
IsExitBelow limit exit.Fault = Unit {0}
IsExitBelow limit exit.Stop = Unit {0}

pub record IsBlockBelow (limit : ℕ) (b : Block) : Type 0 where
  pub ops : All (IsOpBelow limit) b.ops
  pub exit : IsExitBelow limit b.exit

abbrev pub HasTempsBelow : ℕ → List Block → Type 0
HasTempsBelow limit blocks = (b : Block) → Contains blocks b → IsBlockBelow limit b
