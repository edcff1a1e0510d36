-- Whether a unit is in form, and whether it needs no frame, as tests. All of this is own.
use Rattle.std.specs.Prelude.{ℕ, ◌+◌, ◌==◌, ◌&&◌, ◌||◌, Bool, true, false, not, ltb, List, [], ◌∷◌, length}
use Rattle.std.specs.List.{list_all, list_any}
use Rattle.flag_ir.specs.declared.variable.Var.{Var}
use Rattle.flag_ir.specs.declared.variable.Var.TheVariants as var
use Rattle.flag_ir.specs.declared.variable.Term.{Term}
use Rattle.flag_ir.specs.declared.variable.Term.TheVariants as term
use Rattle.flag_ir.specs.declared.operation.Op.{Op}
use Rattle.flag_ir.specs.declared.operation.Op.TheVariants as op
use Rattle.flag_ir.specs.declared.block.Block.{Block}
use Rattle.flag_ir.specs.declared.block.Exit.{Exit}
use Rattle.flag_ir.specs.declared.block.Exit.TheVariants as exit
use Rattle.flag_ir.specs.declared.procedure.Proc.{Proc}
use Rattle.flag_ir.specs.Entering.{CodeUnit}

abbrev pub size_fits : ℕ → Bool
size_fits size = size == 1 || size == 2 || size == 4

abbrev pub var_fits : ℕ → Var → Bool
var_fits locals (var.Reg n) = ltb n 8
var_fits locals (var.Flag n) = ltb n 5
var_fits locals (var.Temp n) = true
var_fits locals (var.Local n) = ltb n locals

abbrev pub term_fits : ℕ → Term → Bool
term_fits locals (term.Var v) = var_fits locals v
term_fits locals (term.Word n) = true

abbrev pub op_fits : ℕ → Op → Bool
op_fits locals (op.Set to from) = var_fits locals to && term_fits locals from
op_fits locals (op.Calc to calc left right) = var_fits locals to && (term_fits locals left && term_fits locals right)
op_fits locals (op.Forget to) = var_fits locals to
op_fits locals (op.Pick to test x y) = var_fits locals to && (term_fits locals test && (term_fits locals x && term_fits locals y))
op_fits locals (op.Need from) = term_fits locals from
op_fits locals (op.Divide quotient remainder high low by size signed) = var_fits locals quotient && (var_fits locals remainder && (term_fits locals high && (term_fits locals low && (term_fits locals by && size_fits size))))
op_fits locals (op.Load to size at) = var_fits locals to && (size_fits size && term_fits locals at)
op_fits locals (op.Store size at from) = size_fits size && (term_fits locals at && term_fits locals from)
op_fits locals (op.NearLoad to size at) = var_fits locals to && (size_fits size && term_fits locals at)
op_fits locals (op.NearStore size at from) = size_fits size && (term_fits locals at && term_fits locals from)
op_fits locals (op.Get to size offset) = var_fits locals to && size_fits size
op_fits locals (op.Put size offset from) = size_fits size && term_fits locals from
op_fits locals op.System = true
op_fits locals op.NearSystem = true

abbrev pub has_entry : ℕ → List Proc → Bool
has_entry entry procs = list_any (λ p. p.entry == entry) procs

abbrev pub exit_fits : ℕ → ℕ → List Proc → Exit → Bool
exit_fits locals blocks procs (exit.Go n) = ltb n blocks
exit_fits locals blocks procs (exit.Branch test m n) = term_fits locals test && (ltb m blocks && ltb n blocks)
exit_fits locals blocks procs (exit.Jump to) = term_fits locals to
exit_fits locals blocks procs (exit.CallProc entry back) = has_entry entry procs && ltb back blocks
exit_fits locals blocks procs exit.Return = true
exit_fits locals blocks procs exit.Fault = true
exit_fits locals blocks procs exit.Stop = true

abbrev pub block_fits : ℕ → ℕ → List Proc → Block → Bool
block_fits locals count procs b = list_all (op_fits locals) b.ops && exit_fits locals count procs b.exit

-- the blocks are numbered from one number on
abbrev pub numbered_from : ℕ → List Block → Bool
numbered_from n [] = true
numbered_from n (b ∷ bs) = (b.number == n) && numbered_from (n + 1) bs

abbrev pub part_fits : ℕ → List Proc → List Block → Bool
part_fits locals procs blocks = numbered_from 0 blocks && list_all (block_fits locals (length blocks) procs) blocks

abbrev pub proc_fits : List Proc → Proc → Bool
proc_fits procs p = list_all (λ s. size_fits s.size) p.locals && part_fits (length p.locals) procs p.blocks

-- ---- what needs an open frame
abbrev pub needs_no_frame : Op → Bool
needs_no_frame (op.NearLoad to size at) = false
needs_no_frame (op.NearStore size at from) = false
needs_no_frame (op.Get to size offset) = false
needs_no_frame (op.Put size offset from) = false
needs_no_frame op.NearSystem = false
needs_no_frame _ = true

abbrev pub leaves_no_frame : Exit → Bool
leaves_no_frame (exit.CallProc entry back) = false
leaves_no_frame exit.Return = false
leaves_no_frame _ = true

abbrev pub frameless : Block → Bool
frameless b = list_all needs_no_frame b.ops && leaves_no_frame b.exit

-- ---- units
abbrev pub lowered_fits : CodeUnit → Bool
lowered_fits u = (length u.procs == 0) && list_all frameless u.whole

abbrev pub form_fits : CodeUnit → Bool
form_fits u = part_fits 0 u.procs u.whole && (list_all (proc_fits u.procs) u.procs && (not u.lowered || lowered_fits u))
