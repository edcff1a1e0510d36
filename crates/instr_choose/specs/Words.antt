-- The words and block numbers that the text of a unit holds: below 2^32. All of this is own.
use Rattle.std.specs.Prelude.{ℕ, ◌<◌, ◌^◌, All}
use Rattle.flag_ir.specs.declared.variable.Term.{Term}
use Rattle.flag_ir.specs.declared.variable.Term.TheVariants as term
use Rattle.flag_ir.specs.declared.operation.Op.{Op}
use Rattle.flag_ir.specs.declared.operation.Op.TheVariants as op
use Rattle.flag_ir.specs.declared.block.Block.{Block}
use Rattle.flag_ir.specs.declared.block.Exit.{Exit}
use Rattle.flag_ir.specs.declared.block.Exit.TheVariants as exit
use Rattle.flag_ir.specs.Entering.{CodeUnit}

abbrev pub IsWord : ℕ → Type 0
IsWord n = n < 2 ^ 32

abbrev pub TermFits : Term → Type 0
TermFits (term.Var v) = Unit {0}
TermFits (term.Word n) = IsWord n

abbrev pub OpFits : Op → Type 0
OpFits (op.Set to from) = TermFits from
OpFits (op.Calc to calc left right) = TermFits left × TermFits right
OpFits (op.Forget to) = Unit {0}
OpFits (op.Pick to test x y) = TermFits test × TermFits x × TermFits y
OpFits (op.Need from) = TermFits from
OpFits (op.Divide quotient remainder high low by size signed) = TermFits high × TermFits low × TermFits by
OpFits (op.Load to size at) = TermFits at
OpFits (op.Store size at from) = TermFits at × TermFits from
OpFits (op.NearLoad to size at) = TermFits at
OpFits (op.NearStore size at from) = TermFits at × TermFits from
OpFits (op.Get to size offset) = Unit {0}
OpFits (op.Put size offset from) = TermFits from
OpFits op.System = Unit {0}
OpFits op.NearSystem = Unit {0}

abbrev pub ExitFits : Exit → Type 0
ExitFits (exit.Go n) = IsWord n
ExitFits (exit.Branch test m n) = TermFits test × IsWord m × IsWord n
ExitFits (exit.Jump to) = TermFits to
ExitFits (exit.CallProc entry back) = IsWord entry × IsWord back
ExitFits exit.Return = Unit {0}
ExitFits exit.Fault = Unit {0}
ExitFits exit.Stop = Unit {0}

pub record BlockFits (b : Block) : Type 0 where
  pub ops : All OpFits b.ops
  pub exit : ExitFits b.exit

abbrev pub UnitFits : CodeUnit → Type 0
UnitFits unit = All BlockFits unit.whole
