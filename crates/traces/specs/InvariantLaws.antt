-- What holds of runs under an invariant of states: a type I, with a map to the states in which it holds.
use Rattle.std.specs.Prelude.{◌≡◌, ℕ, ◌*◌, ◌≤◌, List, [], Bool, true, Some}
use Rattle.traces.specs.Trace.{Label, End, Move, run, input_left}
use Rattle.traces.specs.Steps.{Reaches, clock_of}
use Rattle.traces.specs.Weight.{PacedBy, Paced, OneEvent}
use Rattle.traces.specs.Machines.{noted}
use Rattle.traces.specs.Moves.{PacedMove, OneEventMove, OneEventStep, EndsIn, InputMove, Holds, IsKept, GoesTo}
use Rattle.traces.specs.Plain.{NeverEnds}
use Rattle.traces.specs.Endings.{Ending, with_ending, EndsQuietly, QuietMove, NotedMove}

-- the laws of invariants
pub record InvariantLaws (S I : Type 0) : Type 0 where
  -- an invariant that each step keeps holds at each state that is reached
  pub holds_reached : (next : S → Move S) (state : I → S) → IsKept state next → (i : I) (n : ℕ) (ls : List Label) (t : S) → Reaches next (state i) n ls t → Holds state t
  -- a machine that goes on from each of these states to another never ends
  pub never_ends : (next : S → Move S) (state : I → S) → ((i : I) → GoesTo (Holds state) (next (state i))) → (i : I) → NeverEnds (run next (state i))
  -- the laws of moves, where they are asked of these states alone
  pub ends_by_moves : (next : S → Move S) (state : I → S) → IsKept state next → (passes : End → Bool) → ((i : I) → EndsIn (λ e. passes e ≡ true) (next (state i))) → (i : I) (n : ℕ) (e : End) → (run next (state i) n).end ≡ Some e → passes e ≡ true
  pub paced_by_moves : (next : S → Move S) (state : I → S) → IsKept state next → (w b : ℕ) (left : S → ℕ) → ((i : I) → PacedMove w left (left (state i)) 1 (next (state i))) → (i : I) → left (state i) ≤ b → Paced w b (run next (state i))
  pub paced_by_costs : (next : S → Move S) (state : I → S) → IsKept state next → (cost : S → ℕ) (w b : ℕ) (left : S → ℕ) → ((i : I) → PacedMove w left (left (state i)) (cost (state i)) (next (state i))) → (i : I) → left (state i) ≤ b → PacedBy (clock_of next cost (state i)) w b (run next (state i))
  pub paced_in_steps : (next : S → Move S) (state : I → S) → IsKept state next → (cost : S → ℕ) (w b : ℕ) (left : S → ℕ) → ((i : I) → 1 ≤ cost (state i)) → ((i : I) → PacedMove w left (left (state i)) (cost (state i)) (next (state i))) → (i : I) → left (state i) ≤ b → Paced w b (run next (state i))
  pub clock_at_most : (next : S → Move S) (state : I → S) → IsKept state next → (cost : S → ℕ) (K : ℕ) → ((i : I) → cost (state i) ≤ K) → (i : I) (n : ℕ) → clock_of next cost (state i) n ≤ K * n
  pub one_event_by_moves : (next : S → Move S) (state : I → S) → IsKept state next → ((i : I) → OneEventMove next (next (state i))) → (i : I) → OneEvent (run next (state i))
  pub one_event_by_steps : (next : S → Move S) (state : I → S) → IsKept state next → ((i : I) → OneEventStep (next (state i))) → (i : I) → OneEvent (run next (state i))
  pub ends_quietly : (f : Ending) (next : S → Move S) (state : I → S) → IsKept state next → ((i : I) → QuietMove f next (next (state i))) → (i : I) → EndsQuietly f (run next (state i))
  pub input_reached : (next : S → Move S) (state : I → S) → IsKept state next → (input : S → List ℕ) → ((i : I) → InputMove input (input (state i)) (next (state i))) → (i : I) (n : ℕ) (ls : List Label) (t : S) → Reaches next (state i) n ls t → input t ≡ input_left (input (state i)) ls
  -- where each state comes after a trace, and tells what the ending shows after that trace, the machine that shows it too has the run
  -- with that ending
  pub noted_run : (note : S → End → List Label) (next : S → Move S) (f : Ending) (trace : I → List Label) (state : I → S) → ((i : I) → NotedMove (note (state i)) f trace state (trace i) (next (state i))) → (i : I) → trace i ≡ [] → (n : ℕ) → run (noted note next) (state i) n ≡ with_ending f (run next (state i)) n
