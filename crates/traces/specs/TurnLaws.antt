-- How the costs of steps, summed over a turn, bound an agreement.
use Rattle.std.specs.Prelude.{ℕ, ◌+◌, ◌*◌}
use Rattle.traces.specs.Trace.{Behaviour, Grows}
use Rattle.traces.specs.Turns.{RefinesByTurns, RefinesCut}
use Rattle.traces.specs.Weight.{PacedBy, Paced}
use Rattle.traces.specs.Agree.{Covers, Costs, Follows, Agrees, AgreeByTurns, outside_run}
use Rattle.traces.specs.TurnBounds.{CostsByTurns, FollowsByTurns}

-- the laws of runs that do what a unit does by turns
pub record TurnLaws : Type 0 where
  -- code that refines a unit costs for each turn of the unit what its own turns cost
  pub code_costs : (clock : ℕ → ℕ) (w b : ℕ) (V R : Behaviour) → PacedBy clock w b R → RefinesByTurns (outside_run V) R → CostsByTurns clock w b V R
  -- other code that takes for each step of the code what the step costs takes for each turn what the turn costs, and the constants
  -- are added
  pub turns_then_costs : (clock : ℕ → ℕ) (w b b' : ℕ) (V R T : Behaviour) → CostsByTurns clock w b V R → Covers (Costs clock b') R T → FollowsByTurns w (b + b') V T
  -- code that takes for each step of a unit what the step costs takes for each turn what the turn costs, and the constants are added
  pub paced_then_costs : (clock : ℕ → ℕ) (w b b' : ℕ) (V R : Behaviour) → PacedBy clock w b V → Covers (Costs clock b') V R → FollowsByTurns w (b + b') V R
  -- code of a unit is code of each unit that this one refines
  pub refines_then_turns : (clock : ℕ → ℕ) (w b : ℕ) (U V R : Behaviour) → Grows V → RefinesByTurns U V → CostsByTurns clock w b V R → CostsByTurns clock w b U R
  -- code of a unit that refines a cut run agrees with the cut run
  pub cut_then_turns : (w b reports : ℕ) (C V R : Behaviour) → Grows V → RefinesCut reports C V → FollowsByTurns w b V R → Covers (Agrees w b) C R
  -- code of a unit, whatever it costs, does nothing else than the unit
  pub turns_agree : (clock : ℕ → ℕ) (w b : ℕ) (U R : Behaviour) → Grows R → CostsByTurns clock w b U R → AgreeByTurns U R
  -- code that takes at most a steps for each of a unit takes a times the weight of the unit for each turn
  pub paced_then_follows : (w b a b' : ℕ) (V R : Behaviour) → Paced w b V → Covers (Follows a b') V R → FollowsByTurns (a * w) (a * b + b') V R
  -- other code that takes at most a steps for each of the code takes a times as many for each turn
  pub turns_then_follows : (w b a b' : ℕ) (V R T : Behaviour) → FollowsByTurns w b V R → Covers (Follows a b') R T → FollowsByTurns (a * w) (a * b + b') V T
  -- code that takes at most a steps for each of a unit that refines a cut run agrees with the cut run
  pub cut_then_follows : (w b a b' reports : ℕ) (C V R : Behaviour) → Paced w b V → RefinesCut reports C V → Covers (Follows a b') V R → Covers (Agrees (a * w) (a * b + b')) C R
  -- code that takes at most a steps for each of a unit does nothing else than a unit that this one refines
  pub refines_then_follows : (w b a b' : ℕ) (U V R : Behaviour) → Paced w b V → RefinesByTurns U V → Covers (Follows a b') V R → Grows R → AgreeByTurns U R
