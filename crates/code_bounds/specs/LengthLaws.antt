-- What is written for one instruction over names takes no more steps and bytes than is said of it.
use Rattle.std.specs.Prelude.{ℕ, ◌≤◌, List, length, map}
use Rattle.x86_types.specs.declared.instr.Instr.{Instr}
use Rattle.x86_types.specs.Registers.{Renaming, renamed}
use Rattle.named_code.specs.declared.named.VInstr.{VInstr}
use Rattle.named_code.specs.declared.placed.Home.{Home}
use Rattle.named_code.specs.Items.{Item, named_item, placed_item}
use Rattle.name_cells.specs.Placing.{place_instr}
use Rattle.named_code.specs.Weight.{items_cost}
use Rattle.laid_code.specs.LaidRun.{laid_steps}
use Rattle.code_bounds.specs.Steps.{steps}
use Rattle.code_bounds.specs.Bytes.{own_bytes, placed_bytes, most_bytes, bytes}

abbrev pub items_of : List Home → ℕ → VInstr → List Item
items_of homes spare x = map (placed_item homes) (place_instr spare x)

pub record LengthLaws : Type 0 where
  -- with whatever registers in its fields
  pub shape : (f : Renaming) (i : Instr) → own_bytes (renamed f i) ≤ most_bytes i
  -- among its names' cells
  pub placed_steps_within : (homes : List Home) (spare : ℕ) (x : VInstr) → length x.slots ≤ 3 → items_cost laid_steps (items_of homes spare x) ≤ steps (named_item x)
  pub placed_bytes_within : (homes : List Home) (spare : ℕ) (x : VInstr) → length x.slots ≤ 3 → items_cost placed_bytes (items_of homes spare x) ≤ bytes (named_item x)
