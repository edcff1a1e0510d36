use Rattle.name_cells.proofs.FewItems.{few_items}
use Rattle.name_cells.proofs.OwnItems.{own_accesses, own_effect}
use Rattle.name_cells.proofs.CellMoves.{fetches_run, keeps_run}
use Rattle.name_cells.proofs.MovedNames.{fetched_alike, kept_there, kept_elsewhere}
use Rattle.name_cells.proofs.OwnSteps.{own_step}
use Rattle.name_cells.proofs.WholeInstrs.{items_run}
use Rattle.name_cells.proofs.laws.cell_laws.Goals as goal

pub returns : goal.returns
returns c =
    let memories = c.memory_laws.ensures in
    let areas = c.private_access_laws.ensures in
    let tested = c.tested_laws.ensures in
    record {
      few_items = few_items;
      own_accesses = own_accesses c.field_place_laws.ensures;
      own_effect = own_effect c.field_place_laws.ensures;
      own_step = λ x rest rest' s t h b m. own_step memories c.field_place_laws.ensures c.access_laws.ensures c.step_laws.ensures x h s t b rest rest' m;
      fetches_run = λ marks code count byte last slots rest t small. fetches_run memories areas tested marks code count small byte last rest slots t;
      keeps_run = λ marks code count byte last slots rest t small. keeps_run memories areas tested marks code count small byte last rest slots t;
      fetched_alike = fetched_alike;
      kept_there = kept_there memories areas;
      kept_elsewhere = kept_elsewhere memories areas;
      items_run = λ marks code count x rest rest' s t h small have l m.
          items_run c.run_laws.ensures memories areas c.field_place_laws.ensures c.access_laws.ensures c.step_laws.ensures tested marks code count small x h have rest rest' s t l m;
    }
