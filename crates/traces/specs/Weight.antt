-- What the steps of a turn cost, and how many turns and events a step shows.
use Rattle.std.specs.Prelude.{◌≡◌, ℕ, suc, ◌+◌, ◌*◌, ◌≤◌, ◌<◌, length, None}
use Rattle.traces.specs.Trace.{Behaviour, events, turns}
use Rattle.traces.specs.Turns.{within_turns}

-- what is seen within k steps is seen within some steps that cost at most w for each turn seen and b more. They are the k steps
-- themselves where the run has not ended. The clock tells what the first n steps cost
pub record SeenWithin (clock : ℕ → ℕ) (w b : ℕ) (R : Behaviour) (k : ℕ) : Type 0 where
  pub steps : ℕ
  pub few : clock steps ≤ w * turns (R k).trace + b
  pub same : R steps ≡ R k
  pub running : (R k).end ≡ None → steps ≡ k

-- a run has weight w with constant b by a clock. Each step begins at most one turn; the turns seen so far cost together at most w
-- each and b more, for steps before the first turn (so a long turn may follow short ones); before each turn there is a moment
pub record PacedBy (clock : ℕ → ℕ) (w b : ℕ) (R : Behaviour) : Type 0 where
  pub at_most : (k : ℕ) → turns (R k).trace ≤ k
  pub weight : (k : ℕ) → SeenWithin clock w b R k
  pub moment : (k n : ℕ) → n < turns (R k).trace → (j : ℕ) × (R j ≡ within_turns n (R k))

-- a run has weight w with constant b in steps
abbrev pub Paced : ℕ → ℕ → Behaviour → Type 0
Paced w b = PacedBy (λ n. n) w b

-- each step begins exactly one turn
pub record Ticks (C : Behaviour) : Type 0 where
  pub at_most : (n : ℕ) → turns (C n).trace ≤ n
  pub running : (n : ℕ) → (C n).end ≡ None → turns (C n).trace ≡ n
  pub goes_on : (n : ℕ) → (C n).end ≡ None → n < turns (C (suc n)).trace

-- each step shows at most one event
abbrev pub OneEvent : Behaviour → Type 0
OneEvent R = (k : ℕ) → length (events (R (suc k)).trace) ≤ suc (length (events (R k).trace))

-- before the first step the second has shown no more events than the first
abbrev pub StartsWithNoMore : Behaviour → Behaviour → Type 0
StartsWithNoMore U V = length (events (V 0).trace) ≤ length (events (U 0).trace)
