-- What lowering promises. All of this is own.
use Rattle.std.specs.Prelude.{◌≡◌, ℕ, ◌+◌, ◌≤◌, true, List, [], map, All}
use Rattle.outside.specs.Environment.{Environment, IsEnvironment}
use Rattle.traces.specs.Trace.{Label}
use Rattle.traces.specs.Steps.{Reaches}
use Rattle.traces.specs.Turns.{RefinesByTurns}
use Rattle.memory.specs.Memory.{Memory, HasBytes}
use Rattle.x86_meaning.specs.Run.{IsStart}
use Rattle.flag_ir.specs.declared.block.Block.{Block}
use Rattle.flag_ir.specs.Entering.{CodeUnit}
use Rattle.flag_ir.specs.UnitRun.{UnitState, next, first_state, unit_run}
use Rattle.flag_ir.specs.MoveAccesses.{move_accesses}
use Rattle.flag_ir.specs.Form.{IsInForm}
use Rattle.flag_ir.specs.Shape.{Part, IsWellShaped}
use Rattle.flag_ir.specs.Costs.{Costing, BoundsTurns}
use Rattle.private_memory.specs.PrivateArea.{without_private, IsUsual, IsApartAccess}
use Rattle.guards.specs.Temporaries.{HasTempsBelow}
use Rattle.guards.specs.Renumbering.{IgnoresTemps}
use Rattle.guards.specs.Guarding.{turn_store, lowered_costing}

-- over every usual memory, from every start, the second unit does by turns what the first one does over that memory without its
-- private area
abbrev pub KeepsWithoutArea : CodeUnit → CodeUnit → Type 0
KeepsWithoutArea u v =
    (m : Memory) (entry esp0 : ℕ) (stack : List ℕ) (left : Environment) → HasBytes m → IsUsual esp0 m → IsStart esp0 stack → IsEnvironment left →
    RefinesByTurns (unit_run u (without_private m) entry esp0 stack left) (unit_run v m entry esp0 stack left)

-- and each access of each state that it comes to is apart from what the program mustn't reach
abbrev pub KeepsApart : CodeUnit → Type 0
KeepsApart v =
    (m : Memory) (entry esp0 : ℕ) (stack : List ℕ) (left : Environment) → HasBytes m → IsUsual esp0 m → IsStart esp0 stack → IsEnvironment left →
    (n : ℕ) (ls : List Label) (t : UnitState) → Reaches (next v) (first_state v m entry esp0 stack left) n ls t → All (IsApartAccess t.storage.memory) (move_accesses v t)

-- the number of a block and the address at which it begins a turn
abbrev pub names_of : Block → ℕ × ℕ
names_of b = (b.number, b.at)

-- a turn costs what its operations become, and one more store at most, by each costing that looks at no number of a temporary
abbrev pub LoweredCosts : CodeUnit → CodeUnit → Type 0
LoweredCosts u v =
    (c : Costing) (w store : ℕ) (rest : Part → ℕ → ℕ) → IgnoresTemps c → ((at : ℕ) → c.op (turn_store at) ≤ store) → BoundsTurns (lowered_costing c) w rest u → BoundsTurns c (w + store) rest v

pub record Lowers (u v : CodeUnit) : Type 0 where
  pub form : IsInForm v
  pub shape : IsWellShaped v
  pub lowered : v.lowered ≡ true
  pub procs : v.procs ≡ []
  pub keeps : KeepsWithoutArea u v
  pub apart : KeepsApart v
  pub ats : map names_of v.whole ≡ map names_of u.whole
  pub costs : LoweredCosts u v
  pub temps : HasTempsBelow 1400000 v.whole
