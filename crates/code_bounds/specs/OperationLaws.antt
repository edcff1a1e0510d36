-- What each operation and each exit becomes takes no more steps and bytes than is said of it.
use Rattle.std.specs.Prelude.{ℕ, ◌≤◌}
use Rattle.flag_ir.specs.declared.operation.Op.{Op}
use Rattle.flag_ir.specs.declared.block.Exit.{Exit}
use Rattle.flag_ir.specs.Costs.{Costing}
use Rattle.guards.specs.Guarding.{turn_store, lowered_costing}
use Rattle.instr_choose.specs.Choosing.{chosen_costing}
use Rattle.code_bounds.specs.Steps.{steps}
use Rattle.code_bounds.specs.Bytes.{bytes}
use Rattle.code_bounds.specs.Operations.{op_steps, exit_steps, store_steps, op_bytes, exit_bytes, store_bytes}

-- of a lowered unit, and of the unit that is lowered
abbrev pub step_costing : Costing
step_costing = chosen_costing steps

abbrev pub byte_costing : Costing
byte_costing = chosen_costing bytes

pub record OperationLaws : Type 0 where
  pub op_in_steps : (o : Op) → (lowered_costing step_costing).op o ≤ op_steps
  pub exit_in_steps : (e : Exit) → step_costing.exit e ≤ exit_steps
  -- the store with which a turn begins
  pub store_in_steps : (at : ℕ) → step_costing.op (turn_store at) ≤ store_steps
  pub op_in_bytes : (o : Op) → (lowered_costing byte_costing).op o ≤ op_bytes o
  pub exit_in_bytes : (e : Exit) → byte_costing.exit e ≤ exit_bytes e
  pub store_in_bytes : (at : ℕ) → byte_costing.op (turn_store at) ≤ store_bytes
