-- The temporaries of each block numbered anew, in the order of their first writing. All of this is own.
use Rattle.std.specs.Prelude.{◌≡◌, ℕ, ◌==◌, ◌≤◌, not, List, [], ◌∷◌, ◌++◌, map, flat_map, filter, length}
use Rattle.std.specs.List.{position_or_len}
use Rattle.flag_ir.specs.declared.variable.Var.{Var}
use Rattle.flag_ir.specs.declared.variable.Var.TheVariants as var
use Rattle.flag_ir.specs.declared.variable.Term.{Term}
use Rattle.flag_ir.specs.declared.variable.Term.TheVariants as term
use Rattle.flag_ir.specs.declared.operation.Op.{Op}
use Rattle.flag_ir.specs.declared.operation.Op.TheVariants as op
use Rattle.flag_ir.specs.declared.block.Block.{Block}
use Rattle.flag_ir.specs.declared.block.Exit.{Exit}
use Rattle.flag_ir.specs.declared.block.Exit.TheVariants as exit
use Rattle.flag_ir.specs.Entering.{CodeUnit}
use Rattle.flag_ir.specs.Costs.{Costing}

-- ---- other numbers of temporaries: f gives the number that stands in place of each
abbrev pub renumbered_var : (ℕ → ℕ) → Var → Var
renumbered_var f (var.Reg n) = var.Reg n
renumbered_var f (var.Flag n) = var.Flag n
renumbered_var f (var.Temp n) = var.Temp (f n)
renumbered_var f (var.Local n) = var.Local n

abbrev pub renumbered_term : (ℕ → ℕ) → Term → Term
renumbered_term f (term.Var v) = term.Var (renumbered_var f v)
renumbered_term f (term.Word n) = term.Word n

abbrev pub renumbered_op : (ℕ → ℕ) → Op → Op
renumbered_op f (op.Set to from) = op.Set (renumbered_var f to) (renumbered_term f from)
renumbered_op f (op.Calc to calc left right) = op.Calc (renumbered_var f to) calc (renumbered_term f left) (renumbered_term f right)
renumbered_op f (op.Forget to) = op.Forget (renumbered_var f to)
renumbered_op f (op.Pick to test x y) = op.Pick (renumbered_var f to) (renumbered_term f test) (renumbered_term f x) (renumbered_term f y)
renumbered_op f (op.Need from) = op.Need (renumbered_term f from)
renumbered_op f (op.Divide quotient remainder high low by size signed) =
    op.Divide (renumbered_var f quotient) (renumbered_var f remainder) (renumbered_term f high) (renumbered_term f low) (renumbered_term f by) size signed
renumbered_op f (op.Load to size at) = op.Load (renumbered_var f to) size (renumbered_term f at)
renumbered_op f (op.Store size at from) = op.Store size (renumbered_term f at) (renumbered_term f from)
renumbered_op f (op.NearLoad to size at) = op.NearLoad (renumbered_var f to) size (renumbered_term f at)
renumbered_op f (op.NearStore size at from) = op.NearStore size (renumbered_term f at) (renumbered_term f from)
renumbered_op f (op.Get to size offset) = op.Get (renumbered_var f to) size offset
renumbered_op f (op.Put size offset from) = op.Put size offset (renumbered_term f from)
renumbered_op f op.System = op.System
renumbered_op f op.NearSystem = op.NearSystem

abbrev pub renumbered_exit : (ℕ → ℕ) → Exit → Exit
renumbered_exit f (exit.Go n) = exit.Go n
renumbered_exit f (exit.Branch test m n) = exit.Branch (renumbered_term f test) m n
renumbered_exit f (exit.Jump to) = exit.Jump (renumbered_term f to)
renumbered_exit f (exit.CallProc entry back) = exit.CallProc entry back
renumbered_exit f exit.Return = exit.Return
renumbered_exit f exit.Fault = exit.Fault
renumbered_exit f exit.Stop = exit.Stop

-- ---- the temporaries that are written
abbrev pub temp_of : Var → List ℕ
temp_of (var.Temp n) = n ∷ []
temp_of _ = []

abbrev pub temps_written : Op → List ℕ
temps_written (op.Set to from) = temp_of to
temps_written (op.Calc to calc left right) = temp_of to
temps_written (op.Forget to) = temp_of to
temps_written (op.Pick to test x y) = temp_of to
temps_written (op.Need from) = []
temps_written (op.Divide quotient remainder high low by size signed) = temp_of quotient ++ temp_of remainder
temps_written (op.Load to size at) = temp_of to
temps_written (op.Store size at from) = []
temps_written (op.NearLoad to size at) = temp_of to
temps_written (op.NearStore size at from) = []
temps_written (op.Get to size offset) = temp_of to
temps_written (op.Put size offset from) = []
temps_written op.System = []
temps_written op.NearSystem = []

-- each number where it first stands, and nowhere again
abbrev pub without_repeats : List ℕ → List ℕ
without_repeats [] = []
without_repeats (n ∷ ns) = n ∷ filter (λ k. not (k == n)) (without_repeats ns)

abbrev pub written_temps : List Op → List ℕ
written_temps ops = without_repeats (flat_map temps_written ops)

abbrev pub WritesFewTemps : Block → Type 0
WritesFewTemps b = length (written_temps b.ops) ≤ 524288

-- ---- blocks and units
-- a temporary that is written has its place among them; one that isn't is unspecified, and all of these have the number behind the last
abbrev pub new_number : List ℕ → ℕ → ℕ
new_number written n = position_or_len (λ k. n == k) written

abbrev pub block_numbers : Block → ℕ → ℕ
block_numbers b = new_number (written_temps b.ops)

abbrev pub renumbered_block : Block → Block
renumbered_block b = record b { ops = map (renumbered_op (block_numbers b)) b.ops; exit = renumbered_exit (block_numbers b) b.exit }

-- the blocks of procedures stay as they are
abbrev pub renumbered_unit : CodeUnit → CodeUnit
renumbered_unit u = record u { whole = map renumbered_block u.whole }

-- ---- costs that look at no number of a temporary
pub record IgnoresTemps (c : Costing) : Type 0 where
  pub op : (f : ℕ → ℕ) (o : Op) → c.op (renumbered_op f o) ≡ c.op o
  pub exit : (f : ℕ → ℕ) (e : Exit) → c.exit (renumbered_exit f e) ≡ c.exit e
