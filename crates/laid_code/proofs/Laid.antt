-- The law of laid code.
use Rattle.traces.specs.SimulationLaws.{SimulationLaws}
use Rattle.x86_meaning.specs.Step.{State, next}
use Rattle.private_memory.specs.PrivateArea.{is_clear_access}
use Rattle.named_code.specs.Running.{CodePosition}
use Rattle.named_code.specs.TestedRun.{tested_next}
use Rattle.named_code.specs.Weight.{step_cost}
use Rattle.laid_code.specs.LaidRun.{LaidCode, BesidePair, laid_steps, LaidLaws}
use Rattle.laid_code.proofs.Given.{Given}
use Rattle.laid_code.proofs.Simulating.{position_met}

pub laid_laws : Given → ((x : LaidCode) → SimulationLaws CodePosition State (BesidePair x)) → LaidLaws
laid_laws given simulations = record {
  follows = λ marks blocks l code first layable laid table p t beside.
      let x : LaidCode = record { places = l; code = code; blocks = blocks; first = first } in
      (simulations x).simulation_by_costs (tested_next is_clear_access marks blocks) (next code) (λ (i : BesidePair x). i.position) (λ (i : BesidePair x). i.state) (step_cost laid_steps blocks) 0
      (λ (i : BesidePair x). position_met given l code blocks first laid table layable marks i.position i.state i.beside) (record { position = p; state = t; beside = beside });
}
