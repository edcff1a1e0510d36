-- The laws of runs of every machine. A law is one for each state type, so the record takes it.
use Rattle.std.specs.Prelude.{◌≡◌, ℕ, suc, ◌+◌, ◌≤◌, List, [], ◌∷◌, ◌++◌, Some, None}
use Rattle.traces.specs.Trace.{Label, Turn, End, Behaviour, Move, Stand, Go, Halt, Grows, EndsAt, seen, before, run, turns}
use Rattle.traces.specs.Steps.{Goes, Reaches, EndsFrom}
use Rattle.traces.specs.Turns.{RefinesByTurns}
use Rattle.traces.specs.Weight.{Paced}
use Rattle.traces.specs.Machines.{marked}
use Rattle.traces.specs.Agree.{Covers, Costs, Agrees, Agree}

-- the laws of runs
pub record RunLaws (S : Type 0) : Type 0 where
  -- where the machine stands this is seen within each number of steps
  pub run_stand : (next : S → Move S) (s : S) (ls : List Label) (e : End) → next s ≡ Stand ls e → (n : ℕ) → run next s n ≡ seen ls (Some e)
  -- nothing is seen before a step by which it goes on, and its labels with it
  pub rest_go : (next : S → Move S) (s : S) (ls : List Label) (t : S) → next s ≡ Go ls t → run next s 0 ≡ seen [] None
  pub run_go : (next : S → Move S) (s : S) (ls : List Label) (t : S) → next s ≡ Go ls t → (n : ℕ) → run next s (suc n) ≡ before ls (run next t n)
  -- nothing is seen before a step by which it halts, and its labels and the end with it
  pub rest_halt : (next : S → Move S) (s : S) (ls : List Label) (e : End) → next s ≡ Halt ls e → run next s 0 ≡ seen [] None
  pub run_halt : (next : S → Move S) (s : S) (ls : List Label) (e : End) → next s ≡ Halt ls e → (n : ℕ) → run next s (suc n) ≡ seen ls (Some e)
  -- it goes on by one step, and by several in turn
  pub goes_step : (next : S → Move S) (s : S) (ls : List Label) (t : S) → next s ≡ Go ls t → Goes next s 1 ls t
  pub goes_then : (next : S → Move S) (s : S) (k : ℕ) (ls : List Label) (t : S) (k' : ℕ) (ls' : List Label) (u : S) → Goes next s k ls t → Goes next t k' ls' u → Goes next s (k + k') (ls ++ ls') u
  -- a state is reached by one step, and by several in turn
  pub reaches_step : (next : S → Move S) (s : S) (ls : List Label) (t : S) → next s ≡ Go ls t → Reaches next s 1 ls t
  pub reaches_then : (next : S → Move S) (s : S) (n : ℕ) (ls : List Label) (t : S) (n' : ℕ) (ls' : List Label) (u : S) → Reaches next s n ls t → Reaches next t n' ls' u → Reaches next s (n + n') (ls ++ ls') u
  -- n steps reach one state
  pub reaches_once : (next : S → Move S) (s : S) (n : ℕ) (ls : List Label) (t : S) (ls' : List Label) (t' : S) → Reaches next s n ls t → Reaches next s n ls' t' → (ls ≡ ls') × (t ≡ t')
  -- what is seen after n steps is what is seen from the state that they reach
  pub reaches_run : (next : S → Move S) (s : S) (n : ℕ) (ls : List Label) (t : S) → Reaches next s n ls t → (j : ℕ) → run next s (n + j) ≡ before ls (run next t j)
  pub reaches_goes : (next : S → Move S) (s : S) (n : ℕ) (ls : List Label) (t : S) → Reaches next s (suc n) ls t → Goes next s (suc n) ls t
  -- a run that has not ended within n steps has reached a state by n steps, with exactly the labels that are seen
  pub running_reaches : (next : S → Move S) (s : S) (n : ℕ) → (run next s n).end ≡ None → (t : S) × Reaches next s n (run next s n).trace t
  -- a run that has ended reached a state in which the machine ends
  pub ended_reaches : (next : S → Move S) (s : S) (n : ℕ) (e : End) → (run next s n).end ≡ Some e → EndsFrom next s n (run next s n).trace e
  -- a machine is deterministic: more steps show the same and more, and an end stays
  pub run_grows : (next : S → Move S) (s : S) → Grows (run next s)
  -- a run that has ended within n steps ended so by a first step of its own
  pub end_comes : (next : S → Move S) (s : S) (n : ℕ) (e : End) → (run next s n).end ≡ Some e → (m : ℕ) × (m ≤ n) × EndsAt (run next s) m e
  -- a run ends once
  pub ends_once : (next : S → Move S) (s : S) (n m : ℕ) (e e' : End) → EndsAt (run next s) n e → EndsAt (run next s) m e' → (n ≡ m) × (e ≡ e')
  -- what agrees with a machine's run in one direction agrees with it
  pub agrees_with_run : (a b : ℕ) (C : Behaviour) (next : S → Move S) (s : S) → Covers (Agrees a b) C (run next s) → Agree a b C (run next s)
  -- a beginning of k steps that shows nothing adds k to the bound of a simulation
  pub costs_after : (next : S → Move S) (clock : ℕ → ℕ) (b : ℕ) (C : Behaviour) (s : S) (k : ℕ) (t : S) → Goes next s k [] t → Covers (Costs clock b) C (run next t) → Covers (Costs clock (b + k)) C (run next s)
  -- a beginning of k steps that begins no turn adds k to the constant of a weight
  pub paced_after : (next : S → Move S) (w b : ℕ) (s : S) (k : ℕ) (ls : List Label) (t : S) → Goes next s k ls t → turns ls ≡ 0 → Paced w b (run next t) → Paced w (b + k) (run next s)
  -- a beginning that shows nothing changes nothing by turns
  pub refines_after : (next : S → Move S) (U : Behaviour) (s : S) (k : ℕ) (t : S) → Goes next s k [] t → RefinesByTurns U (run next t) → RefinesByTurns U (run next s)
  -- where two states have the same move, the same is seen from both
  pub same_run : (next : S → Move S) (s t : S) → next s ≡ next t → (n : ℕ) → run next s n ≡ run next t n
  pub same_goes : (next : S → Move S) (s t : S) → next s ≡ next t → (k : ℕ) (ls : List Label) (u : S) → Goes next t k ls u → Goes next s k ls u
  -- where the move of one state is that of the other, but a turn begins with it, that turn is seen first
  pub marked_run : (next : S → Move S) (s t : S) (a : ℕ) → next s ≡ marked a (next t) → run next t 0 ≡ seen [] None → (n : ℕ) → run next s (suc n) ≡ before (Turn a ∷ []) (run next t (suc n))
  pub marked_goes : (next : S → Move S) (s t : S) (a : ℕ) → next s ≡ marked a (next t) → (k : ℕ) (ls : List Label) (u : S) → Goes next t k ls u → Goes next s k (Turn a ∷ ls) u
