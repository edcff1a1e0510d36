-- What the relations by turns refuse and let pass.
use Rattle.std.specs.Prelude.{[], ◌∷◌}
use Rattle.traces.specs.TurnBounds.{FollowsByTurns}
use Rattle.traces.specs.Trace.{Turn, Code, Exited, Unspecified, Guard, Stopped, run}
use Rattle.traces.specs.Turns.{RefinesByTurns, RefinesCut}
use Rattle.traces.specs.Weight.{Paced}
use Rattle.trace_checks.specs.Played.{played, repeat, alternate, one, two}

-- by turns, an event that moves to the next turn is refused
abbrev pub RefusesMovedEvent : Type 0
RefusesMovedEvent = RefinesByTurns (played ((Turn 1 ∷ []) ∷ (one ∷ []) ∷ (Turn 2 ∷ []) ∷ []) (Exited 0)) (played ((Turn 1 ∷ []) ∷ (Turn 2 ∷ []) ∷ (one ∷ []) ∷ []) (Exited 0)) → ⊥

-- a turn at another address is refused
abbrev pub RefusesOtherAddress : Type 0
RefusesOtherAddress = RefinesByTurns (played ((Turn 1 ∷ []) ∷ (Turn 2 ∷ []) ∷ []) (Exited 0)) (played ((Turn 1 ∷ []) ∷ (Turn 3 ∷ []) ∷ []) (Exited 0)) → ⊥

-- a run with no moment at which exactly the events are seen that came before an unspecified value was used is refused
abbrev pub RefusesLostMoment : Type 0
RefusesLostMoment = RefinesByTurns (played ((Turn 1 ∷ one ∷ []) ∷ []) Unspecified) (played ((Turn 1 ∷ one ∷ two ∷ []) ∷ []) (Exited 0)) → ⊥

-- a guard event that comes two turns later is refused
abbrev pub RefusesLateGuard : Type 0
RefusesLateGuard = RefinesCut 0 (played [] (Guard Code 5)) (played ((Turn 5 ∷ []) ∷ (Turn 5 ∷ []) ∷ []) (Stopped 5)) → ⊥

-- a guard event that is reported before its turn begins is refused
abbrev pub RefusesEarlyReport : Type 0
RefusesEarlyReport = RefinesCut 1 (played ((Turn 4 ∷ []) ∷ (one ∷ []) ∷ []) (Guard Code 5)) (played ((Turn 4 ∷ []) ∷ (one ∷ []) ∷ (Turn 5 ∷ []) ∷ []) (Stopped 5)) → ⊥

-- several events of one step may be made one by one
abbrev pub AllowsSplitEvents : Type 0
AllowsSplitEvents = RefinesByTurns (played ((Turn 1 ∷ one ∷ two ∷ []) ∷ []) (Exited 0)) (played ((Turn 1 ∷ []) ∷ (one ∷ []) ∷ (two ∷ []) ∷ []) (Exited 0))

-- a weight bounds all turns so far together: a turn of three steps passes after one of one step, with weight 2
abbrev pub AllowsLongTurn : Type 0
AllowsLongTurn = Paced 2 0 (played ((Turn 1 ∷ []) ∷ (Turn 2 ∷ []) ∷ [] ∷ [] ∷ []) (Exited 0))

-- a step that shows nothing may be left out, where only turns are counted
abbrev pub AllowsStepLeftOut : Type 0
AllowsStepLeftOut = FollowsByTurns 1 0 (run (alternate (Turn 1 ∷ one ∷ [])) 1) (run (repeat (Turn 1 ∷ one ∷ [])) 0)
