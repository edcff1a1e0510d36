-- When a run by steps does what a unit does by turns, within a bound for each turn.
use Rattle.std.specs.Prelude.{◌≡◌, ℕ, ◌+◌, ◌*◌, ◌≤◌}
use Rattle.traces.specs.Trace.{Seen, Behaviour, events, turns}
use Rattle.traces.specs.Turns.{IsDefined, ShowsByTurns}
use Rattle.traces.specs.Agree.{Does}

-- what the unit shows within n turns the run does within steps that cost at most w * n + b
pub record DoesWithin (clock : ℕ → ℕ) (w b : ℕ) (V R : Behaviour) (n : ℕ) : Type 0 where
  pub common : Seen
  pub shows : ShowsByTurns V n common
  pub steps : ℕ
  pub bound : clock steps ≤ w * n + b
  pub fits : IsDefined common → Does n common steps (R steps)

-- the events of the unit within k steps are exactly those of the run within steps that cost at most w for each of those turns,
-- and b more
pub record EventsWithin (clock : ℕ → ℕ) (w b : ℕ) (V R : Behaviour) (k : ℕ) : Type 0 where
  pub steps : ℕ
  pub bound : clock steps ≤ w * turns (V k).trace + b
  pub exact : events (R steps).trace ≡ events (V k).trace

-- the run does what the unit does by turns, at a cost of at most w for each turn and b more. While the unit runs it takes at least
-- one step for each turn. The clock tells what the first n steps of the run cost
pub record CostsByTurns (clock : ℕ → ℕ) (w b : ℕ) (V R : Behaviour) : Type 0 where
  pub does : (n : ℕ) → DoesWithin clock w b V R n
  pub moments : (k : ℕ) → EventsWithin clock w b V R k

-- the run does what the unit does by turns, within w steps for each turn and b more
abbrev pub FollowsByTurns : ℕ → ℕ → Behaviour → Behaviour → Type 0
FollowsByTurns w b = CostsByTurns (λ n. n) w b
