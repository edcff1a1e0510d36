-- What holds of runs that show more as they end.
use Rattle.std.specs.Prelude.{ℕ, ◌+◌}
use Rattle.traces.specs.Trace.{Behaviour, Grows}
use Rattle.traces.specs.Turns.{RefinesByTurns, RefinesCut}
use Rattle.traces.specs.Weight.{PacedBy}
use Rattle.traces.specs.Endings.{Ending, with_ending, IsEnding, IsReport, EndsQuietly, StartsAs, StartsAsCut}

-- the laws of endings
pub record EndingLaws : Type 0 where
  -- a unit that refines another refines it where both show more as they end
  pub refines_with_ending : (f : Ending) → IsEnding f → (U V : Behaviour) → Grows U → StartsAs U V → EndsQuietly f V → RefinesByTurns U V → RefinesByTurns (with_ending f U) (with_ending f V)
  -- a unit that refines a cut run refines it where both show more as they end
  pub cut_with_ending : (reports more : ℕ) (f : Ending) → IsEnding f → IsReport reports more f → (C U : Behaviour) → Grows C → StartsAsCut C U → EndsQuietly f U → RefinesCut reports C U → RefinesCut (reports + more) (with_ending f C) (with_ending f U)
  -- a run with an ending only grows
  pub grows_with_ending : (f : Ending) (R : Behaviour) → Grows R → Grows (with_ending f R)
  -- the turns of a run with an ending cost what they cost without it
  pub paced_with_ending : (f : Ending) → IsEnding f → (clock : ℕ → ℕ) (w b : ℕ) (R : Behaviour) → PacedBy clock w b R → PacedBy clock w b (with_ending f R)
