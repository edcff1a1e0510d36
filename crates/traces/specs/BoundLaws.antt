-- When one bound serves in place of another.
use Rattle.std.specs.Prelude.{ℕ, ◌*◌, ◌≤◌}
use Rattle.traces.specs.Trace.{Behaviour}
use Rattle.traces.specs.Weight.{PacedBy}
use Rattle.traces.specs.Agree.{Covers, Costs, Agrees}
use Rattle.traces.specs.TurnBounds.{CostsByTurns}

-- the laws of bounds
pub record BoundLaws : Type 0 where
  -- a simulation holds by a clock that tells more. So where the clock tells at most K * n, `Follows K b` holds
  pub costs_within : (clock clock' : ℕ → ℕ) (b b' : ℕ) (C R : Behaviour) → ((n : ℕ) → clock n ≤ clock' n) → b ≤ b' → Covers (Costs clock b) C R → Covers (Costs clock' b') C R
  -- an agreement holds with greater numbers
  pub agrees_within : (a b a' b' : ℕ) (C R : Behaviour) → a ≤ a' → b ≤ b' → Covers (Agrees a b) C R → Covers (Agrees a' b') C R
  -- a weight holds with greater numbers, by a clock that tells less. So where the clock tells at least n, `Paced w b` holds
  pub paced_within : (clock clock' : ℕ → ℕ) (w b w' b' : ℕ) (R : Behaviour) → ((n : ℕ) → clock' n ≤ clock n) → w ≤ w' → b ≤ b' → PacedBy clock w b R → PacedBy clock' w' b' R
  -- a bound for each turn holds with greater numbers, by a clock that tells less
  pub turns_within : (clock clock' : ℕ → ℕ) (w b w' b' : ℕ) (V R : Behaviour) → ((n : ℕ) → clock' n ≤ clock n) → w ≤ w' → b ≤ b' → CostsByTurns clock w b V R → CostsByTurns clock' w' b' V R
  -- where each step costs a times as much, each turn costs a times as much
  pub paced_times : (a : ℕ) (clock : ℕ → ℕ) (w b : ℕ) (R : Behaviour) → PacedBy clock w b R → PacedBy (λ n. a * clock n) (a * w) (a * b) R
  -- where each step of code costs a times as much, each turn of the unit costs a times as much
  pub turns_times : (a : ℕ) (clock : ℕ → ℕ) (w b : ℕ) (V R : Behaviour) → CostsByTurns clock w b V R → CostsByTurns (λ n. a * clock n) (a * w) (a * b) V R
  -- a simulation by a clock that tells at most a * n is an agreement with a
  pub costs_agree : (clock : ℕ → ℕ) (a b : ℕ) (C R : Behaviour) → ((n : ℕ) → clock n ≤ a * n) → Covers (Costs clock b) C R → Covers (Agrees a b) C R
