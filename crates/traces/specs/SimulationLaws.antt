-- How a relation of the states of two machines relates their runs. P is the type of the pairs of states that are related.
use Rattle.std.specs.Prelude.{ℕ}
use Rattle.traces.specs.Trace.{Move, run}
use Rattle.traces.specs.Steps.{clock_of}
use Rattle.traces.specs.Turns.{RefinesByTurns, RefinesCut}
use Rattle.traces.specs.Weight.{Paced, Ticks, OneEvent, StartsWithNoMore}
use Rattle.traces.specs.Agree.{Covers, Costs, Follows}
use Rattle.traces.specs.Simulation.{Simulates, Fits, SameEvents, Paired}
use Rattle.traces.specs.Meeting.{SeenRefines, SeenRefinesCut, Meets}

-- the laws of simulation
pub record SimulationLaws (S T P : Type 0) : Type 0 where
  -- forward simulation by costs: the target simulates each move of the source from a related pair, a step by 1 to as many steps as
  -- the step costs and an end by b more. Then its run takes at most what the source's steps cost, and b more
  pub simulation_by_costs : (source : S → Move S) (target : T → Move T) (left : P → S) (right : P → T) (cost : S → ℕ) (b : ℕ) → ((p : P) → Simulates target Fits SameEvents (Paired left right) (cost (left p)) b (source (left p)) (right p)) → (p : P) → Covers (Costs (clock_of source cost (left p)) b) (run source (left p)) (run target (right p))
  -- forward simulation with a bound: the target simulates each step by 1 to K steps
  pub forward_simulation : (source : S → Move S) (target : T → Move T) (left : P → S) (right : P → T) (K b : ℕ) → ((p : P) → Simulates target Fits SameEvents (Paired left right) K b (source (left p)) (right p)) → (p : P) → Covers (Follows K b) (run source (left p)) (run target (right p))
  -- the second of two machines that meet refines the first, where it has a weight and shows its events one by one
  pub refines_by_meeting : (source : S → Move S) (target : T → Move T) (left : P → S) (right : P → T) (w b : ℕ) → Meets source target left right SeenRefines → (p : P) → Paced w b (run target (right p)) → OneEvent (run target (right p)) → StartsWithNoMore (run source (left p)) (run target (right p)) → RefinesByTurns (run source (left p)) (run target (right p))
  -- a unit that meets a cut run each of whose steps is a turn refines it
  pub cut_by_meeting : (source : S → Move S) (target : T → Move T) (left : P → S) (right : P → T) (reports w b : ℕ) → Meets source target left right (SeenRefinesCut reports) → (p : P) → Ticks (run source (left p)) → Paced 1 0 (run source (left p)) → Paced w b (run target (right p)) → OneEvent (run target (right p)) → StartsWithNoMore (run source (left p)) (run target (right p)) → RefinesCut reports (run source (left p)) (run target (right p))
