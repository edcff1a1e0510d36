-- The law of numbering anew: nothing that is seen of a unit changes.
use Rattle.std.specs.Prelude.{◌≡◌, ℕ, List, map, All}
use Rattle.outside.specs.Environment.{Environment}
use Rattle.memory.specs.Memory.{Memory}
use Rattle.flag_ir.specs.Entering.{CodeUnit}
use Rattle.flag_ir.specs.UnitRun.{unit_run}
use Rattle.flag_ir.specs.Form.{IsInForm}
use Rattle.flag_ir.specs.Shape.{Part, IsWellShaped}
use Rattle.flag_ir.specs.Costs.{Costing, BoundsTurns}
use Rattle.guards.specs.Temporaries.{HasTempsBelow}
use Rattle.guards.specs.Lowering.{names_of}
use Rattle.guards.specs.Renumbering.{WritesFewTemps, renumbered_unit, IgnoresTemps}

-- over each memory, from each start and over each environment the same is seen of both
abbrev pub HasRunsOf : CodeUnit → CodeUnit → Type 0
HasRunsOf u v = (m : Memory) (entry esp0 : ℕ) (stack : List ℕ) (left : Environment) (n : ℕ) → unit_run v m entry esp0 stack left n ≡ unit_run u m entry esp0 stack left n

pub record Renumbers (u v : CodeUnit) : Type 0 where
  pub runs : HasRunsOf u v
  pub form : IsInForm u → IsInForm v
  pub shape : IsWellShaped u → IsWellShaped v
  pub lowered : v.lowered ≡ u.lowered
  pub procs : v.procs ≡ u.procs
  pub ats : map names_of v.whole ≡ map names_of u.whole
  pub temps : All WritesFewTemps u.whole → HasTempsBelow 524289 v.whole
  pub costs : (c : Costing) (w : ℕ) (rest : Part → ℕ → ℕ) → IgnoresTemps c → BoundsTurns c w rest u → BoundsTurns c w rest v

abbrev pub RenumberingLaw : Type 0
RenumberingLaw = (u : CodeUnit) → Renumbers u (renumbered_unit u)
