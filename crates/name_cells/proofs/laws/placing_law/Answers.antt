use Rattle.name_cells.proofs.PlacedCode.{placed_code}
use Rattle.name_cells.proofs.laws.placing_law.Goals as goal

pub returns : goal.returns
returns c =
    placed_code
    (record {
      runs = c.run_laws.ensures;
      meetings = c.meeting_laws.ensures;
      memories = c.memory_laws.ensures;
      areas = c.private_access_laws.ensures;
      fields = c.field_place_laws.ensures;
      looks = c.access_laws.ensures;
      steps = c.step_laws.ensures;
      tested = c.tested_laws.ensures;
    })
    c.move_laws.ensures c.simulation_laws.ensures c.renaming_laws.ensures.kept
