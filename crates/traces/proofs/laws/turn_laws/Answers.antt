use Rattle.traces.proofs.CodeCosts.{code_costs}
use Rattle.traces.proofs.TurnBounds.{turns_then_costs, paced_then_costs, refines_then_turns, cut_then_turns, turns_agree, paced_then_follows, turns_then_follows, cut_then_follows, refines_then_follows}
use Rattle.traces.proofs.laws.turn_laws.Goals as goal

pub returns : goal.returns
returns c = record {
  code_costs = code_costs;
  turns_then_costs = turns_then_costs;
  paced_then_costs = paced_then_costs;
  refines_then_turns = refines_then_turns;
  cut_then_turns = cut_then_turns;
  turns_agree = turns_agree;
  paced_then_follows = paced_then_follows;
  turns_then_follows = turns_then_follows;
  cut_then_follows = cut_then_follows;
  refines_then_follows = refines_then_follows;
}
