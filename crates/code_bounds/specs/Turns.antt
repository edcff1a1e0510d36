-- How many steps a turn of placed code takes at most. All of this is own.
use Rattle.std.specs.Prelude.{ℕ, ◌+◌, ◌*◌, List}
use Rattle.flag_ir.specs.Entering.{CodeUnit}
use Rattle.flag_ir.specs.Shape.{Part}
use Rattle.flag_ir.specs.Costs.{one_each, BoundsTurns}
use Rattle.guards.specs.Lowering.{Lowers}
use Rattle.named_code.specs.declared.named.VBlock.{VBlock}
use Rattle.named_code.specs.declared.placed.Placed.{Placed}
use Rattle.named_code.specs.Items.{placed_blocks}
use Rattle.named_code.specs.Weight.{BoundsCode}
use Rattle.name_cells.specs.PlacesCode.{HasShortTurns, PlacesCode}
use Rattle.instr_choose.specs.Marks.{marks_of}
use Rattle.instr_choose.specs.Choosing.{Chooses}
use Rattle.laid_code.specs.LaidRun.{laid_steps}
use Rattle.code_bounds.specs.Operations.{op_steps, store_steps}

-- where a turn of the unit has w operations and exits at most, and the store with which it begins
abbrev pub turn_steps : ℕ → ℕ
turn_steps w = op_steps * w + store_steps

pub record HasTurnBounds (v : CodeUnit) (code : List VBlock) (p : Placed) (w : ℕ) : Type 0 where
  pub short : HasShortTurns (marks_of v) code
  pub laid : (rest : ℕ → ℕ) × BoundsCode (marks_of v) laid_steps rest (turn_steps w) (placed_blocks p)

-- u is lowered to v, of which code is chosen, which is placed
abbrev pub TurnBounds : Type 0
TurnBounds =
    (u v : CodeUnit) (code : List VBlock) (p : Placed) (w : ℕ) (rest : Part → ℕ → ℕ) → BoundsTurns one_each w rest u → Lowers u v → Chooses v code → PlacesCode code p →
    HasTurnBounds v code p w
