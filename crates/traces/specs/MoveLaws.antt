-- What holds of every run of a machine because of its moves. A law is one for each state type, so the record takes it.
use Rattle.std.specs.Prelude.{◌≡◌, ℕ, ◌≤◌, List, Bool, true, Option, Some}
use Rattle.traces.specs.Trace.{Label, End, Behaviour, Move, run, input_left}
use Rattle.traces.specs.Steps.{Reaches, clock_of}
use Rattle.traces.specs.Turns.{RefinesByTurns}
use Rattle.traces.specs.Weight.{PacedBy, Paced, Ticks, OneEvent, StartsWithNoMore}
use Rattle.traces.specs.Agree.{Unmarked, outside_run}
use Rattle.traces.specs.Machines.{turned, Cut, UnturnedCut, guarded, outside_machine}
use Rattle.traces.specs.Moves.{PacedMove, OneEventMove, OneEventStep, Ticking, Unturned, EndsIn, InputMove}
use Rattle.traces.specs.Endings.{Ending, EndsQuietly, QuietMove}

-- the laws of moves
pub record MoveLaws (S : Type 0) : Type 0 where
  -- where the end of each move passes a test, the end of the run does
  pub ends_by_moves : (next : S → Move S) (passes : End → Bool) → ((s : S) → EndsIn (λ e. passes e ≡ true) (next s)) → (s : S) (n : ℕ) (e : End) → (run next s n).end ≡ Some e → passes e ≡ true
  -- a machine has a weight where each state tells how many steps are left of its turn, and each move takes one of them or begins a
  -- turn; it begins where at most b are left
  pub paced_by_moves : (next : S → Move S) (w b : ℕ) (left : S → ℕ) → ((s : S) → PacedMove w left (left s) 1 (next s)) → (s : S) → left s ≤ b → Paced w b (run next s)
  -- it has a weight by the clock where each state tells what is left of its turn in costs, and each move takes its cost from it or
  -- begins a turn
  pub paced_by_costs : (next : S → Move S) (cost : S → ℕ) (w b : ℕ) (left : S → ℕ) → ((s : S) → PacedMove w left (left s) (cost s) (next s)) → (s : S) → left s ≤ b → PacedBy (clock_of next cost s) w b (run next s)
  -- it has that weight in steps too where each step costs at least 1
  pub paced_in_steps : (next : S → Move S) (cost : S → ℕ) (w b : ℕ) (left : S → ℕ) → ((s : S) → 1 ≤ cost s) → ((s : S) → PacedMove w left (left s) (cost s) (next s)) → (s : S) → left s ≤ b → Paced w b (run next s)
  -- it shows its events one by one where each move shows at most one, with those that are shown where it stands after it
  pub one_event_by_moves : (next : S → Move S) → ((s : S) → OneEventMove next (next s)) → (s : S) → OneEvent (run next s)
  -- the same where each move shows at most one, and none where it stands
  pub one_event_by_steps : (next : S → Move S) → ((s : S) → OneEventStep (next s)) → (s : S) → OneEvent (run next s)
  -- before its first step it shows no more events than any other run where it shows none as it stands
  pub starts_by_move : (next : S → Move S) (U : Behaviour) (s : S) → OneEventStep (next s) → StartsWithNoMore U (run next s)
  -- it begins one turn with each step where each move begins one
  pub ticks_by_moves : (next : S → Move S) → ((s : S) → Ticking (next s)) → (s : S) → Ticks (run next s)
  -- a machine each of whose steps is made a turn begins a turn with each step, and its turns take one step each
  pub turned_ticks : (at : S → ℕ) (next : S → Move S) → ((s : S) → Unturned (next s)) → (s : S) → Ticks (run (turned at next) s) × Paced 1 0 (run (turned at next) s)
  -- such a machine shows the same events and ends as before
  pub turned_unmarked : (at : S → ℕ) (next : S → Move S) (s : S) (n : ℕ) → Unmarked (run (turned at next) s n) (run next s n)
  -- a machine that is cut begins no turn where neither its moves nor its cuts begin one
  pub guarded_unturned : (event : S → Option Cut) (next : S → Move S) → ((s : S) → UnturnedCut (event s)) → ((s : S) → Unturned (next s)) → (s : S) → Unturned (guarded event next s)
  -- the run of a machine that ends `Outside` is the machine's run that ends so
  pub runs_outside : (next : S → Move S) (s : S) (n : ℕ) → run (outside_machine next) s n ≡ outside_run (run next s) n
  -- what refines the run of that machine refines that run
  pub refines_outside : (next : S → Move S) (s : S) (R : Behaviour) → RefinesByTurns (run (outside_machine next) s) R → RefinesByTurns (outside_run (run next s)) R
  -- a run ends quietly where each move ends quietly
  pub ends_quietly : (f : Ending) (next : S → Move S) → ((s : S) → QuietMove f next (next s)) → (s : S) → EndsQuietly f (run next s)
  -- where each state tells what is left of the input, and each move leaves what its reads don't take, a state that is reached with
  -- some labels has what these leave of the first input
  pub input_reached : (next : S → Move S) (input : S → List ℕ) → ((s : S) → InputMove input (input s) (next s)) → (s : S) (n : ℕ) (ls : List Label) (t : S) → Reaches next s n ls t → input t ≡ input_left (input s) ls
