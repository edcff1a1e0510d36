-- Small numbers of temporaries have names.
use Rattle.std.proofs.Common.{List, All, Contains, get_or}
use Rattle.std.proofs.lemmas.List.Elements.{All-contains_itself}
use Rattle.flag_ir.specs.declared.variable.Var.{Var}
use Rattle.flag_ir.specs.declared.variable.Var.TheVariants as var
use Rattle.flag_ir.specs.declared.variable.Term.{Term}
use Rattle.flag_ir.specs.declared.variable.Term.TheVariants as term
use Rattle.flag_ir.specs.declared.operation.Op.{Op}
use Rattle.flag_ir.specs.declared.operation.Op.TheVariants as op
use Rattle.flag_ir.specs.declared.block.Block.{Block}
use Rattle.flag_ir.specs.declared.block.Exit.{Exit}
use Rattle.flag_ir.specs.declared.block.Exit.TheVariants as exit
use Rattle.flag_ir.specs.Entering.{CodeUnit}
use Rattle.guards.specs.Temporaries.{IsVarBelow, IsTermBelow, IsOpBelow, IsExitBelow, HasTempsBelow}
use Rattle.instr_choose.specs.Blocks.{VarHasName, TermHasName, OpHasNames, ExitHasNames, BlockHasNames, UnitHasNames}

var_name : (v : Var) → IsVarBelow 1400000 v → VarHasName v
var_name (var.Reg n) h = tt
var_name (var.Flag n) h = tt
var_name (var.Temp n) h = h
var_name (var.Local n) h = tt

term_name : (t : Term) → IsTermBelow 1400000 t → TermHasName t
term_name (term.Var v) h = var_name v h
term_name (term.Word n) h = tt

op_names : (o : Op) → IsOpBelow 1400000 o → OpHasNames o
op_names (op.Set to from) h = (var_name to h.0, term_name from h.1)
op_names (op.Calc to calc left right) h = (var_name to h.0, term_name left h.1, term_name right h.2)
op_names (op.Forget to) h = var_name to h
op_names (op.Pick to test x y) h = (var_name to h.0, term_name test h.1, term_name x h.2, term_name y h.3)
op_names (op.Need from) h = term_name from h
op_names (op.Divide quotient remainder high low by size signed) h = (var_name quotient h.0, var_name remainder h.1, term_name high h.2, term_name low h.3, term_name by h.4)
op_names (op.Load to size at) h = (var_name to h.0, term_name at h.1)
op_names (op.Store size at from) h = (term_name at h.0, term_name from h.1)
op_names (op.NearLoad to size at) h = (var_name to h.0, term_name at h.1)
op_names (op.NearStore size at from) h = (term_name at h.0, term_name from h.1)
op_names (op.Get to size offset) h = var_name to h
op_names (op.Put size offset from) h = term_name from h
op_names op.System h = tt
op_names op.NearSystem h = tt

exit_names : (e : Exit) → IsExitBelow 1400000 e → ExitHasNames e
exit_names (exit.Go n) h = tt
exit_names (exit.Branch test m n) h = term_name test h
exit_names (exit.Jump to) h = term_name to h
exit_names (exit.CallProc entry back) h = tt
exit_names exit.Return h = tt
exit_names exit.Fault h = tt
exit_names exit.Stop h = tt

pub unit_names : (u : CodeUnit) → HasTempsBelow 1400000 u.whole → UnitHasNames u
unit_names u h = λ k d l.
    let b : Block = get_or u.whole k d in
    let below = h b (All-contains_itself u.whole k d l) in
    record { ops = λ i o m. op_names (get_or b.ops i o) (below.ops i o m); exit = exit_names b.exit below.exit }
