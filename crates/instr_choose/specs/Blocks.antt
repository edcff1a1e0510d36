-- Which instructions are chosen for a block, and the names that a unit takes. All of this is own.
use Rattle.std.specs.Prelude.{◌<◌, List, [], ◌∷◌, ◌++◌, All, map}
use Rattle.x86_types.specs.declared.operand.Reg.TheVariants.{Eax}
use Rattle.x86_types.specs.declared.operand.Rm.TheVariants as rm
use Rattle.x86_types.specs.declared.operation.AluOp.TheVariants as alu
use Rattle.x86_types.specs.declared.operation.Cond.TheVariants as condition
use Rattle.x86_types.specs.declared.width.Width.TheVariants.{Four}
use Rattle.x86_types.specs.declared.instr.Instr.TheVariants as instr
use Rattle.flag_ir.specs.declared.variable.Var.{Var}
use Rattle.flag_ir.specs.declared.variable.Var.TheVariants as var
use Rattle.flag_ir.specs.declared.variable.Term.{Term}
use Rattle.flag_ir.specs.declared.variable.Term.TheVariants as term
use Rattle.flag_ir.specs.declared.operation.Op.{Op}
use Rattle.flag_ir.specs.declared.operation.Op.TheVariants as op
use Rattle.flag_ir.specs.declared.block.Block.{Block}
use Rattle.flag_ir.specs.declared.block.Exit.{Exit}
use Rattle.flag_ir.specs.declared.block.Exit.TheVariants as exit
use Rattle.flag_ir.specs.Entering.{CodeUnit}
use Rattle.named_code.specs.declared.slot.Slot.TheVariants.{Fixed}
use Rattle.named_code.specs.declared.named.VInstr.{VInstr}
use Rattle.named_code.specs.declared.named.VBlock.{VBlock}
use Rattle.instr_choose.specs.Lists.{made, put, alu_by, load_by, choose_ops}

-- ---- exits: a fault is a load from address 0, at which nothing is mapped, and a stop falls off the end of its block behind one
-- instruction. A lowered unit has no other exits.
unfoldable pub choose_exit : Exit → List VInstr
choose_exit (exit.Go n) = made (instr.Jmp n) [] ∷ []
choose_exit (exit.Branch test m n) = put (Fixed Eax) test ∷ alu_by alu.Cmp (Fixed Eax) (term.Word 0) ∷ made (instr.Jcc condition.Ne m) [] ∷ made (instr.Jmp n) [] ∷ []
choose_exit (exit.Jump to) = put (Fixed Eax) to ∷ made (instr.JmpTo (rm.Reg Eax)) (Fixed Eax ∷ []) ∷ []
choose_exit (exit.CallProc entry back) = []
choose_exit exit.Return = []
choose_exit exit.Fault = load_by Four (Fixed Eax) (term.Word 0) ∷ []
choose_exit exit.Stop = made instr.Nop [] ∷ []

-- ---- each block becomes one, with its number and its old address
abbrev pub choose_block : Block → VBlock
choose_block b = record { number = b.number; at = b.at; code = choose_ops b.ops ++ choose_exit b.exit }

abbrev pub choose_blocks : List Block → List VBlock
choose_blocks blocks = map choose_block blocks

-- ---- the names of temporaries have cells: their numbers are below 1,400,000
abbrev pub VarHasName : Var → Type 0
VarHasName (var.Temp n) = n < 1400000
VarHasName (var.Reg n) = Unit {0}
VarHasName (var.Flag n) = Unit {0}
VarHasName (var.Local n) = Unit {0}

abbrev pub TermHasName : Term → Type 0
TermHasName (term.Var v) = VarHasName v
TermHasName (term.Word n) = Unit {0}

abbrev pub OpHasNames : Op → Type 0
OpHasNames (op.Set to from) = VarHasName to × TermHasName from
OpHasNames (op.Calc to calc left right) = VarHasName to × TermHasName left × TermHasName right
OpHasNames (op.Forget to) = VarHasName to
OpHasNames (op.Pick to test x y) = VarHasName to × TermHasName test × TermHasName x × TermHasName y
OpHasNames (op.Need from) = TermHasName from
OpHasNames (op.Divide quotient remainder high low by size signed) = VarHasName quotient × VarHasName remainder × TermHasName high × TermHasName low × TermHasName by
OpHasNames (op.Load to size at) = VarHasName to × TermHasName at
OpHasNames (op.Store size at from) = TermHasName at × TermHasName from
OpHasNames (op.NearLoad to size at) = VarHasName to × TermHasName at
OpHasNames (op.NearStore size at from) = TermHasName at × TermHasName from
OpHasNames (op.Get to size offset) = VarHasName to
OpHasNames (op.Put size offset from) = TermHasName from
OpHasNames op.System = Unit {0}
OpHasNames op.NearSystem = Unit {0}

abbrev pub ExitHasNames : Exit → Type 0
ExitHasNames (exit.Go n) = Unit {0}
ExitHasNames (exit.Branch test m n) = TermHasName test
ExitHasNames (exit.Jump to) = TermHasName to
ExitHasNames (exit.CallProc entry back) = Unit {0}
ExitHasNames exit.Return = Unit {0}
ExitHasNames exit.Fault = Unit {0}
ExitHasNames exit.Stop = Unit {0}

pub record BlockHasNames (b : Block) : Type 0 where
  pub ops : All OpHasNames b.ops
  pub exit : ExitHasNames b.exit

abbrev pub UnitHasNames : CodeUnit → Type 0
UnitHasNames unit = All BlockHasNames unit.whole
