use Rattle.traces.proofs.Simulate.{simulation_by_costs, forward_simulation}
use Rattle.traces.proofs.Meet.{refines_by_meeting, cut_by_meeting}
use Rattle.traces.proofs.machine.simulation_laws.Goals as goal

pub returns : goal.returns
returns g c index = record {
  simulation_by_costs = simulation_by_costs;
  forward_simulation = forward_simulation;
  refines_by_meeting = refines_by_meeting;
  cut_by_meeting = cut_by_meeting;
}
