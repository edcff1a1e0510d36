-- Forward simulation: a target machine follows a source machine, one move at a time.
use Rattle.std.specs.Prelude.{◌≡◌, ℕ, ◌+◌, ◌≤◌, List, [], Some, None}
use Rattle.traces.specs.Trace.{Label, Seen, Move, Stand, Go, Halt, seen, run, events}
use Rattle.traces.specs.Steps.{Goes}
use Rattle.traces.specs.Turns.{IsDefined}
use Rattle.traces.specs.Agree.{end_as, outside}

-- within some steps, at most K, what is seen of the target fits what is seen of the source where it ends
pub record Ends {T : Type 0} (next : T → Move T) (P : Seen → Seen → Type 0) (K : ℕ) (c : Seen) (t : T) : Type 0 where
  pub steps : ℕ
  pub few : steps ≤ K
  pub fits : P c (run next t steps)

-- one step of the source, to s with labels ls, is matched by 1 to K steps of the target, to a state that is related to s, whose
-- labels fit
pub record Matched {S T : Type 0} (next : T → Move T) (L : List Label → List Label → Type 0) (Rel : S → T → Type 0) (K : ℕ) (ls : List Label) (s : S) (t : T) : Type 0 where
  pub steps : ℕ
  pub few : steps ≤ K
  pub trace : List Label
  pub state : T
  pub fits : L ls trace
  pub goes : Goes next t steps trace state
  pub related : Rel s state

-- the target simulates a move of the source from t: a step by at most K steps, where the source stands by at most b, and a step
-- that halts by at most K + b, the target not having ended before its first
abbrev pub Simulates : {S T : Type 0} → (T → Move T) → (Seen → Seen → Type 0) → (List Label → List Label → Type 0) → (S → T → Type 0) → (K b : ℕ) → Move S → T → Type 0
Simulates next P L Rel K b (Stand ls e) t = Ends next P b (seen ls (Some e)) t
Simulates next P L Rel K b (Go ls s) t = Matched next L Rel K ls s t
Simulates next P L Rel K b (Halt ls e) t = Ends next P (K + b) (seen ls (Some e)) t × (run next t 0 ≡ seen [] None)

-- the second shows the events of the first, and its end where no unspecified value was used
pub record Fits (c r : Seen) : Type 0 where
  pub same_events : events r.trace ≡ events c.trace
  pub same_end : IsDefined c → r.end ≡ end_as outside c.end

-- two lists of labels have the same events
abbrev pub SameEvents : List Label → List Label → Type 0
SameEvents ls ls' = events ls' ≡ events ls

-- a pair of states that are related
pub record RelatedPair {S T : Type 0} (Rel : S → T → Type 0) : Type 0 where
  pub left : S
  pub right : T
  pub related : Rel left right

-- two states are related where one pair has them as its parts. So any relation of states is a type of pairs
abbrev pub Paired : {P S T : Type 0} → (P → S) → (P → T) → S → T → Type 0
Paired {P} left right s t = (p : P) × (left p ≡ s) × (right p ≡ t)
