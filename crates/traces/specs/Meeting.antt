-- Two machines that meet again and again: each goes on by one step or several, to states that are related again.
use Rattle.std.specs.Prelude.{◌≡◌, ℕ, ◌≤◌, ◌<◌, List, Option, Some, None, ◌⊎◌, ◌≢◌}
use Rattle.traces.specs.Trace.{Label, GuardKind, End, Unspecified, Guard, Stopped, Seen, Move, run, events, turns, IsPrefix}
use Rattle.traces.specs.Turns.{IsDefined, IsOpen, within, TraceAt}
use Rattle.traces.specs.Steps.{Goes}
use Rattle.traces.specs.Simulation.{Paired}

-- both go on, with the same labels, to states that are related
pub record OnBoth {S T : Type 0} (source : S → Move S) (target : T → Move T) (Rel : S → T → Type 0) (s : S) (t : T) : Type 0 where
  pub steps : ℕ
  pub trace : List Label
  pub state : S
  pub goes : Goes source s steps trace state
  pub steps' : ℕ
  pub state' : T
  pub goes' : Goes target t steps' trace state'
  pub related : Rel state state'

-- the first ends, and what is seen of the second fits
pub record EndBoth {S T : Type 0} (source : S → Move S) (target : T → Move T) (P : Seen → Seen → Type 0) (s : S) (t : T) : Type 0 where
  pub steps : ℕ
  pub ended : (run source s steps).end ≢ None
  pub steps' : ℕ
  pub fits : P (run source s steps) (run target t steps')

-- the second trace has the turns of the first but for the last, and the events of the first
pub record Ahead (a b : List Label) : Type 0 where
  pub as_many : turns a ≤ turns b
  pub same : (q : ℕ) → q < turns a → (e e' : Option End) → within b q e' ≡ within a q e
  pub front : (q : ℕ) (e e' : Option End) → IsPrefix (events (within a q e).trace) (events (within b q e').trace)

-- the same is seen of both, or the first used an unspecified value and the second is ahead
pub record SeenRefines (c r : Seen) : Type 0 where
  pub defined : IsDefined c → r ≡ c
  pub unspecified : c.end ≡ Some Unspecified → Ahead c.trace r.trace

-- what is seen of a cut run, and of a unit beside it
pub record SeenRefinesCut (reports : ℕ) (c r : Seen) : Type 0 where
  pub open_same : IsOpen c → r ≡ c
  pub guard : (k : GuardKind) (a : ℕ) → c.end ≡ Some (Guard k a) → (r.end ≡ Some (Stopped a)) × TraceAt reports a c.trace r.trace
  pub unspecified : c.end ≡ Some Unspecified → Ahead c.trace r.trace

-- two machines meet where, from each related pair of states, both go on with the same labels to a related pair, or the first ends
-- and what is seen of the second fits
abbrev pub Meets : {P S T : Type 0} → (S → Move S) → (T → Move T) → (P → S) → (P → T) → (Seen → Seen → Type 0) → Type 0
Meets {P} source target left right F = (p : P) → OnBoth source target (Paired left right) (left p) (right p) ⊎ EndBoth source target F (left p) (right p)
