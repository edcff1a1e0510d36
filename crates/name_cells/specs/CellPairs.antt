-- Positions of named code beside those of the placed code whose names live in cells. All of this is own.
use Rattle.std.specs.Prelude.{ℕ, ◌+◌, List, map, All}
use Rattle.named_code.specs.declared.named.VInstr.{VInstr}
use Rattle.named_code.specs.declared.named.VBlock.{VBlock}
use Rattle.named_code.specs.Items.{named_item, placed_item}
use Rattle.named_code.specs.Running.{CodeState, CodePoint, AtNumber, AtOld, Inside, CodePosition, standing_at}
use Rattle.name_cells.specs.Cells.{homes_of, name_count}
use Rattle.name_cells.specs.CanBePlaced.{IsInstrPlaceable}
use Rattle.name_cells.specs.MovedNames.{HaveCells}
use Rattle.name_cells.specs.Placing.{place_instrs}
use Rattle.name_cells.specs.Living.{LiveInCells}

-- an instruction that can be placed where so many names have cells
pub record Fits (count : ℕ) (x : VInstr) : Type 0 where
  pub placeable : IsInstrPlaceable x
  pub names : HaveCells count x.slots

-- at a jump to a block by its number, at a jump to an old address, or within a block, before these instructions
pub data PairPoint : Type 0 where
  ToNumber : (number : ℕ) → PairPoint
  ToOld : (at : ℕ) → PairPoint
  Before : (instrs : List VInstr) → PairPoint

abbrev pub PointFits : ℕ → PairPoint → Type 0
PointFits count (ToNumber n) = Unit {0}
PointFits count (ToOld a) = Unit {0}
PointFits count (Before xs) = All (Fits count) xs

abbrev pub named_point : PairPoint → CodePoint
named_point (ToNumber n) = AtNumber n
named_point (ToOld a) = AtOld a
named_point (Before xs) = Inside (map named_item xs)

abbrev pub placed_point : ℕ → PairPoint → CodePoint
placed_point count (ToNumber n) = AtNumber n
placed_point count (ToOld a) = AtOld a
placed_point count (Before xs) = Inside (map (placed_item (homes_of (count + 1))) (place_instrs count xs))

-- both stand at the same point, in states in which the names live in their cells
pub record CellPair (code : List VBlock) : Type 0 where
  pub point : PairPoint
  pub fits : PointFits (name_count code) point
  pub named : CodeState
  pub placed : CodeState
  pub living : LiveInCells (name_count code) named placed

abbrev pub named_position : (code : List VBlock) → CellPair code → CodePosition
named_position code p = standing_at (named_point p.point) p.named

abbrev pub placed_position : (code : List VBlock) → CellPair code → CodePosition
placed_position code p = standing_at (placed_point (name_count code) p.point) p.placed
