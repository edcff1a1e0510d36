-- The placed code is as is promised of it.
use Rattle.std.proofs.Common.{◌≡◌, List, sym, subst}
use Rattle.traces.specs.MoveLaws.{MoveLaws}
use Rattle.traces.specs.SimulationLaws.{SimulationLaws}
use Rattle.x86_grammar.specs.Renamings.{SpellingIsKept}
use Rattle.named_code.specs.declared.named.VBlock.{VBlock}
use Rattle.named_code.specs.declared.placed.Placed.{Placed}
use Rattle.named_code.specs.Running.{CodePosition}
use Rattle.name_cells.specs.CanBePlaced.{CanBePlaced}
use Rattle.name_cells.specs.CellPairs.{CellPair}
use Rattle.name_cells.specs.Placing.{cells_of}
use Rattle.name_cells.specs.PlacesCode.{PlacesCode, PlacingLaw}
use Rattle.name_cells.proofs.Forming.{in_form, blocks_kept}
use Rattle.name_cells.proofs.Costing.{costs}
use Rattle.name_cells.proofs.Meets.{CellLawsBelow}
use Rattle.name_cells.proofs.Starting.{keeps}

pub placed_code : CellLawsBelow → MoveLaws CodePosition → ((code : List VBlock) → SimulationLaws CodePosition CodePosition (CellPair code)) → SpellingIsKept → PlacingLaw
placed_code laws moves simulation spelling code can = record {
  form = in_form spelling code can;
  ats = blocks_kept code;
  keeps = keeps laws moves simulation code can;
  costs = costs code can;
}

pub of_blocks : PlacingLaw → (code : List VBlock) (p : Placed) → p ≡ cells_of code → CanBePlaced code → PlacesCode code p
of_blocks law code p e can = subst (PlacesCode code) (sym e) (law code can)
