use Rattle.name_cells.proofs.SmallCodes.{small_can_be_placed}
use Rattle.name_cells.proofs.tests.places_a_condition.Goals as goal

pub in_cells-requires : goal.in_cells-requires
in_cells-requires g c = small_can_be_placed _ c.in_ok-code.ensures
