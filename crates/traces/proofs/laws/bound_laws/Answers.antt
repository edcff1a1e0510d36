use Rattle.traces.proofs.Weights.{paced_within, paced_times}
use Rattle.traces.proofs.Compose.{costs_within, agrees_within, costs_agree}
use Rattle.traces.proofs.TurnBounds.{turns_within, turns_times}
use Rattle.traces.proofs.laws.bound_laws.Goals as goal

pub returns : goal.returns
returns c = record {
  costs_within = costs_within;
  agrees_within = agrees_within;
  paced_within = paced_within;
  turns_within = turns_within;
  paced_times = paced_times;
  turns_times = turns_times;
  costs_agree = costs_agree;
}
