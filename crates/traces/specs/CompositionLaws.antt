-- How relations between runs compose.
use Rattle.std.specs.Prelude.{ℕ, ◌+◌, ◌*◌}
use Rattle.traces.specs.Trace.{Behaviour, Grows}
use Rattle.traces.specs.Steps.{Rises}
use Rattle.traces.specs.Turns.{RefinesByTurns, RefinesCut}
use Rattle.traces.specs.Weight.{Paced}
use Rattle.traces.specs.Agree.{Covers, Costs, Follows, Agrees}

-- the laws of composition
pub record CompositionLaws : Type 0 where
  -- a unit with a weight refines itself
  pub refines_itself : (w b : ℕ) (U : Behaviour) → Paced w b U → RefinesByTurns U U
  -- what refines a unit that refines another refines that one
  pub refines_then : (U V W : Behaviour) → Grows V → RefinesByTurns U V → RefinesByTurns V W → RefinesByTurns U W
  -- what refines a unit that refines a cut run refines the cut run
  pub cut_then_refines : (reports : ℕ) (C U V : Behaviour) → Grows U → RefinesCut reports C U → RefinesByTurns U V → RefinesCut reports C V
  -- two simulations with bounds are one, whose bounds are multiplied
  pub follows_then : (a b a' b' : ℕ) (C R T : Behaviour) → Covers (Follows a b) C R → Covers (Follows a' b') R T → Covers (Follows (a' * a) (a' * b + b')) C T
  -- two simulations by costs are one: it costs what the second clock tells of the most steps that the first simulation takes
  pub costs_then : (clock clock' : ℕ → ℕ) (b b' : ℕ) (C R T : Behaviour) → Rises clock' → Covers (Costs clock b) C R → Covers (Costs clock' b') R T → Covers (Costs (λ n. clock' (clock n + b)) b') C T
  -- an agreement and a simulation are one agreement
  pub agrees_then_follows : (a b a' b' : ℕ) (C R T : Behaviour) → Covers (Agrees a b) C R → Covers (Follows a' b') R T → Covers (Agrees (a' * a) (a' * b + b')) C T
