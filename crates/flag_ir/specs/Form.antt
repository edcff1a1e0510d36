-- Units in form: what a text of a unit can hold, and what each call takes and gives. Every unit has a meaning, in form or not.
use Rattle.std.specs.Prelude.{◌≡◌, ℕ, ◌<◌, true, List, [], map, length, slice_get, All, Contains, Some}
use Rattle.x86_values.specs.Sizes.{IsSize}
use Rattle.flag_ir.specs.declared.variable.Var.{Var}
use Rattle.flag_ir.specs.declared.variable.Var.TheVariants as var
use Rattle.flag_ir.specs.declared.variable.Term.{Term}
use Rattle.flag_ir.specs.declared.variable.Term.TheVariants as term
use Rattle.flag_ir.specs.declared.operation.Op.{Op}
use Rattle.flag_ir.specs.declared.operation.Op.TheVariants as op
use Rattle.flag_ir.specs.declared.block.Block.{Block}
use Rattle.flag_ir.specs.declared.block.Exit.{Exit}
use Rattle.flag_ir.specs.declared.block.Exit.TheVariants as exit
use Rattle.flag_ir.specs.declared.procedure.Proc.{Proc}
use Rattle.flag_ir.specs.Entering.{CodeUnit}

-- ---- variables and terms, of a part with so many locals
abbrev pub IsVar : ℕ → Var → Type 0
IsVar locals (var.Reg n) = n < 8
IsVar locals (var.Flag n) = n < 5
IsVar locals (var.Temp n) = Unit {0}
IsVar locals (var.Local n) = n < locals

abbrev pub IsTerm : ℕ → Term → Type 0
IsTerm locals (term.Var v) = IsVar locals v
IsTerm locals (term.Word n) = Unit {0}

-- ---- operations and exits
abbrev pub IsOp : ℕ → Op → Type 0
IsOp locals (op.Set to from) = IsVar locals to × IsTerm locals from
IsOp locals (op.Calc to calc left right) = IsVar locals to × IsTerm locals left × IsTerm locals right
IsOp locals (op.Forget to) = IsVar locals to
IsOp locals (op.Pick to test x y) = IsVar locals to × IsTerm locals test × IsTerm locals x × IsTerm locals y
IsOp locals (op.Need from) = IsTerm locals from
IsOp locals (op.Divide quotient remainder high low by size signed) = IsVar locals quotient × IsVar locals remainder × IsTerm locals high × IsTerm locals low × IsTerm locals by × IsSize size
IsOp locals (op.Load to size at) = IsVar locals to × IsSize size × IsTerm locals at
IsOp locals (op.Store size at from) = IsSize size × IsTerm locals at × IsTerm locals from
IsOp locals (op.NearLoad to size at) = IsVar locals to × IsSize size × IsTerm locals at
IsOp locals (op.NearStore size at from) = IsSize size × IsTerm locals at × IsTerm locals from
IsOp locals (op.Get to size offset) = IsVar locals to × IsSize size
IsOp locals (op.Put size offset from) = IsSize size × IsTerm locals from
IsOp locals op.System = Unit {0}
IsOp locals op.NearSystem = Unit {0}

-- each block and each entry that is named is there
abbrev pub IsExit : ℕ → ℕ → List Proc → Exit → Type 0
IsExit locals blocks procs (exit.Go n) = n < blocks
IsExit locals blocks procs (exit.Branch test m n) = IsTerm locals test × (m < blocks) × (n < blocks)
IsExit locals blocks procs (exit.Jump to) = IsTerm locals to
IsExit locals blocks procs (exit.CallProc entry back) = Contains (map (λ p. p.entry) procs) entry × (back < blocks)
IsExit locals blocks procs exit.Return = Unit {0}
IsExit locals blocks procs exit.Fault = Unit {0}
IsExit locals blocks procs exit.Stop = Unit {0}

-- ---- parts: the blocks are numbered 0, 1, 2 and so on
pub record IsPartInForm (locals : ℕ) (procs : List Proc) (blocks : List Block) : Type 0 where
  pub numbers : (k : ℕ) (b : Block) → slice_get blocks k ≡ Some b → b.number ≡ k
  pub ops : (b : Block) → Contains blocks b → All (IsOp locals) b.ops
  pub exits : (b : Block) → Contains blocks b → IsExit locals (length blocks) procs b.exit

pub record IsProcInForm (procs : List Proc) (p : Proc) : Type 0 where
  pub locals : All (λ s. IsSize s.size) p.locals
  pub blocks : IsPartInForm (length p.locals) procs p.blocks

-- ---- what needs an open frame
abbrev pub IsFrameless : Op → Type 0
IsFrameless (op.NearLoad to size at) = ⊥
IsFrameless (op.NearStore size at from) = ⊥
IsFrameless (op.Get to size offset) = ⊥
IsFrameless (op.Put size offset from) = ⊥
IsFrameless op.NearSystem = ⊥
IsFrameless _ = Unit {0}

abbrev pub IsFramelessExit : Exit → Type 0
IsFramelessExit (exit.CallProc entry back) = ⊥
IsFramelessExit exit.Return = ⊥
IsFramelessExit _ = Unit {0}

pub record IsFramelessBlock (b : Block) : Type 0 where
  pub ops : All IsFrameless b.ops
  pub exit : IsFramelessExit b.exit

-- a lowered unit has no procedures, and needs no frame
pub record IsLoweredInForm (unit : CodeUnit) : Type 0 where
  pub procs : unit.procs ≡ []
  pub blocks : All IsFramelessBlock unit.whole

pub record IsInForm (unit : CodeUnit) : Type 0 where
  pub whole : IsPartInForm 0 unit.procs unit.whole
  pub procs : (p : Proc) → Contains unit.procs p → IsProcInForm unit.procs p
  pub lowered : unit.lowered ≡ true → IsLoweredInForm unit
