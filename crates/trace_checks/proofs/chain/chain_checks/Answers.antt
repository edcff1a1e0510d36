use Rattle.trace_checks.proofs.UnitChain.{ChainLaws, unit_refines_cut, swept_refines_unit, code_refines_swept}
use Rattle.trace_checks.proofs.LaidCode.{code_costs_swept, laid_follows_unit, laid_agrees_with_cut, refuses_two_steps}
use Rattle.trace_checks.proofs.chain.chain_checks.Goals as goal

laws : goal.After-simulation_laws-3 → ChainLaws
laws c = record {
  cut_runs = c.run_laws.ensures;
  cut_moves = c.move_laws.ensures;
  unit_runs = c.run_laws-2.ensures;
  unit_moves = c.move_laws-2.ensures;
  code_runs = c.run_laws-3.ensures;
  code_moves = c.move_laws-3.ensures;
  laid_runs = c.run_laws-4.ensures;
  to_unit = c.simulation_laws.ensures;
  to_swept = c.simulation_laws-2.ensures;
  to_code = c.simulation_laws-3.ensures;
  meetings = c.meeting_laws.ensures;
  turns = c.turn_laws.ensures;
  agreements = c.agreement_laws.ensures;
}

pub returns-clause-unit_refines_cut : goal.returns-clause-unit_refines_cut
returns-clause-unit_refines_cut c = unit_refines_cut (laws c)

pub returns-clause-swept_refines_unit : goal.returns-clause-swept_refines_unit
returns-clause-swept_refines_unit c = swept_refines_unit (laws c)

pub returns-clause-code_refines_swept : goal.returns-clause-code_refines_swept
returns-clause-code_refines_swept c = code_refines_swept (laws c)

pub returns-clause-code_costs_swept : goal.returns-clause-code_costs_swept
returns-clause-code_costs_swept c = code_costs_swept (laws c) c.weighs.ensures c.costs.ensures

pub returns-clause-laid_follows_unit : goal.returns-clause-laid_follows_unit
returns-clause-laid_follows_unit c = laid_follows_unit (laws c) c.weighs.ensures c.costs.ensures

pub returns-clause-laid_agrees_with_cut : goal.returns-clause-laid_agrees_with_cut
returns-clause-laid_agrees_with_cut c = laid_agrees_with_cut (laws c) c.weighs.ensures c.costs.ensures

pub returns-clause-refuses_two_steps : goal.returns-clause-refuses_two_steps
returns-clause-refuses_two_steps c = refuses_two_steps c.run_laws.ensures c.run_laws-4.ensures
