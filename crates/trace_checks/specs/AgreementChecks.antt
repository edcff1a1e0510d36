-- What agreement within 4096 * n + 256 steps refuses and lets pass.
use Rattle.std.specs.Prelude.{◌≡◌, ℕ, [], ◌∷◌, None}
use Rattle.traces.specs.Trace.{Code, End, Exited, Outside, Unspecified, Guard, Behaviour, run, events}
use Rattle.traces.specs.Agree.{Covers, Follows}
use Rattle.traces.specs.Plain.{AgreePlainly}
use Rattle.trace_checks.specs.Played.{played, played_on, counted_down, repeat, alternate, one, two}

-- agreement with the numbers of the written file
abbrev pub Agreed : Behaviour → Behaviour → Type 0
Agreed C R = AgreePlainly 4096 256 C R

-- a new run that drops an event is refused
abbrev pub RefusesDroppedEvent : Type 0
RefusesDroppedEvent = Agreed (played ((one ∷ []) ∷ []) (Exited 0)) (played [] (Exited 0)) → ⊥

-- so is one that makes another event
abbrev pub RefusesOtherEvent : Type 0
RefusesOtherEvent = Agreed (played ((one ∷ []) ∷ []) (Exited 0)) (played ((two ∷ []) ∷ []) (Exited 0)) → ⊥

-- one that ends where the old one runs on for ever
abbrev pub RefusesEarlyEnd : Type 0
RefusesEarlyEnd = (e : End) → Agreed (played_on []) (played [] e) → ⊥

-- one that runs on for ever where the old one exits
abbrev pub RefusesEndlessRun : Type 0
RefusesEndlessRun = Agreed (played [] (Exited 0)) (played_on []) → ⊥

-- one that exits with another status
abbrev pub RefusesOtherStatus : Type 0
RefusesOtherStatus = Agreed (played [] (Exited 0)) (played [] (Exited 1)) → ⊥

-- one that makes one more event than the old one, which has ended
abbrev pub RefusesExtraEvent : Type 0
RefusesExtraEvent = Agreed (played ((one ∷ []) ∷ []) (Exited 0)) (played ((one ∷ []) ∷ (two ∷ []) ∷ []) (Exited 0)) → ⊥

-- one that drops an event that the old one made before it used an unspecified value
abbrev pub RefusesDroppedBeforeUnspecified : Type 0
RefusesDroppedBeforeUnspecified = (e : End) → Agreed (played ((one ∷ []) ∷ []) Unspecified) (played [] e) → ⊥

-- one that exits in place of a guard event
abbrev pub RefusesExitAtGuard : Type 0
RefusesExitAtGuard = Agreed (played [] (Guard Code 5)) (played [] (Exited 0)) → ⊥

-- one that takes one step more than the bound
abbrev pub RefusesSlowExit : Type 0
RefusesSlowExit = Agreed (played ([] ∷ []) (Exited 0)) (counted_down 4353 (Exited 0)) → ⊥

-- one that takes fewer steps than the old one, which takes one step of two to show nothing, whatever the bound: it shows the same
-- events, but must have taken as many steps as the old one where that hasn't ended
abbrev pub RefusesFewerSteps : Type 0
RefusesFewerSteps = (a b : ℕ) → AgreePlainly a b (run (alternate (one ∷ [])) 0) (run (repeat (one ∷ [])) 0) → ⊥

-- what follows the use of an unspecified value is free, where the events before it are made first
abbrev pub AllowsAnythingAfterUnspecified : Type 0
AllowsAnythingAfterUnspecified = (R : Behaviour) → events (R 0).trace ≡ [] → (R 0).end ≡ None → events (R 1).trace ≡ events (one ∷ []) → Agreed (played ((one ∷ []) ∷ []) Unspecified) R

-- a guard event may end as a place outside, a step late
abbrev pub AllowsOutsideAtGuard : Type 0
AllowsOutsideAtGuard = Agreed (played [] (Guard Code 5)) (counted_down 4352 Outside)

-- the bound itself may be reached
abbrev pub AllowsSlowExit : Type 0
AllowsSlowExit = Agreed (played ([] ∷ []) (Exited 0)) (counted_down 4352 (Exited 0))

-- a simulation by steps, whatever its bound, refuses a target that takes no step for a step that shows nothing: it must take as
-- many steps as the source, also where it would have no use for them
abbrev pub RefusesStepLeftOut : Type 0
RefusesStepLeftOut = (a b : ℕ) → Covers (Follows a b) (run (alternate (one ∷ [])) 0) (run (repeat (one ∷ [])) 0) → ⊥
