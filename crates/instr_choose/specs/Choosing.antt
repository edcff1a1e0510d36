-- What the code of a lowered unit promises. All of this is own.
use Rattle.std.specs.Prelude.{ℕ, ◌≤◌, List, map, None}
use Rattle.outside.specs.Environment.{Environment, IsEnvironment}
use Rattle.traces.specs.Turns.{RefinesByTurns}
use Rattle.traces.specs.Agree.{outside_run}
use Rattle.memory.specs.Memory.{Memory, HasBytes}
use Rattle.x86_meaning.specs.Run.{IsStart}
use Rattle.private_memory.specs.PrivateArea.{IsUsual}
use Rattle.flag_ir.specs.Entering.{CodeUnit}
use Rattle.flag_ir.specs.UnitRun.{unit_run}
use Rattle.flag_ir.specs.Shape.{Part}
use Rattle.flag_ir.specs.Costs.{Costing, BoundsTurns}
use Rattle.named_code.specs.declared.named.VBlock.{VBlock}
use Rattle.named_code.specs.Items.{Item, named_item, named_blocks}
use Rattle.named_code.specs.CodeRun.{named_run}
use Rattle.named_code.specs.ApartRun.{apart_run}
use Rattle.named_code.specs.Form.{IsCodeInForm}
use Rattle.named_code.specs.Weight.{items_cost, BoundsCode}
use Rattle.name_cells.specs.Cells.{name_count}
use Rattle.name_cells.specs.CanBePlaced.{CanBePlaced}
use Rattle.instr_choose.specs.Marks.{HasNamesOf, marks_of}
use Rattle.instr_choose.specs.Apart.{UnitIsApart, StaysApart}
use Rattle.instr_choose.specs.Lists.{choose_op}
use Rattle.instr_choose.specs.Blocks.{choose_exit}

-- ---- over every usual memory, from every start, the code does by turns what the unit does, and ends outside where the unit stops
abbrev pub RefinesUnit : CodeUnit → List VBlock → Type 0
RefinesUnit u code =
    (m : Memory) (entry esp0 : ℕ) (stack : List ℕ) (left : Environment) → HasBytes m → IsUsual esp0 m → IsStart esp0 stack → IsEnvironment left →
    RefinesByTurns (outside_run (unit_run u m entry esp0 stack left)) (named_run (marks_of u) code m entry esp0 stack left)

-- ---- where the unit's accesses are apart, so does the run that ends, as if an unspecified value were used, at an access that isn't. The
-- layers below agree with it, with no word on accesses
abbrev pub RefinesUnitApart : CodeUnit → List VBlock → Type 0
RefinesUnitApart u code =
    UnitIsApart u → (m : Memory) (entry esp0 : ℕ) (stack : List ℕ) (left : Environment) → HasBytes m → IsUsual esp0 m → IsStart esp0 stack → IsEnvironment left →
    RefinesByTurns (outside_run (unit_run u m entry esp0 stack left)) (apart_run (marks_of u) code m entry esp0 stack left)

-- ---- costs: an operation and an exit cost what their instructions cost
abbrev pub chosen_costing : (Item → ℕ) → Costing
chosen_costing c = record { op = λ o. items_cost c (map named_item (choose_op o)); exit = λ e. items_cost c (map named_item (choose_exit e)) }

-- a turn of the code costs what a turn of the unit does
abbrev pub CostsAsUnit : CodeUnit → List VBlock → Type 0
CostsAsUnit u code = (c : Item → ℕ) (w : ℕ) (rest : Part → ℕ → ℕ) → BoundsTurns (chosen_costing c) w rest u → BoundsCode (marks_of u) c (rest None) w (named_blocks code)

pub record Chooses (u : CodeUnit) (code : List VBlock) : Type 0 where
  pub form : IsCodeInForm code
  -- it can be placed with its names in cells, of which there are enough
  pub placeable : CanBePlaced code
  pub names : name_count code ≤ 1400013
  pub ats : HasNamesOf u code
  pub keeps : RefinesUnit u code
  pub costs : CostsAsUnit u code
  pub apart : StaysApart u code
  pub keeps_apart : RefinesUnitApart u code
