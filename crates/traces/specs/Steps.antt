-- Several steps of a machine, and what they cost.
use Rattle.std.specs.Prelude.{◌≡◌, ◌⊎◌, ℕ, zero, suc, ◌+◌, ◌≤◌, ◌<◌, List, [], ◌++◌, None}
use Rattle.traces.specs.Trace.{Label, End, Move, Stand, Go, Halt, seen, before, run}

-- the machine goes on from a state to another in k steps, at least one, and shows these labels
pub record Goes {T : Type 0} (next : T → Move T) (t : T) (k : ℕ) (ls : List Label) (t' : T) : Type 0 where
  pub some : 1 ≤ k
  pub awake : run next t 0 ≡ seen [] None
  pub by : (j : ℕ) → run next t (k + j) ≡ before ls (run next t' j)

-- the machine is in a state after exactly n steps from another, and has shown these labels
pub data Reaches {S : Type 0} (next : S → Move S) : S → ℕ → List Label → S → Type 0 where
  rests : (s : S) → Reaches next s 0 [] s
  goes : (s : S) → (ls : List Label) → (t : S) → (n : ℕ) → (rest : List Label) → (u : S) → next s ≡ Go ls t → Reaches next t n rest u → Reaches next s (suc n) (ls ++ rest) u

-- a run that has ended within n steps has reached a state in which the machine stands, or halts by one step more, with this end. Its
-- labels are those up to that state and those of the last move
pub record EndsFrom {S : Type 0} (next : S → Move S) (s : S) (n : ℕ) (ls : List Label) (e : End) : Type 0 where
  pub steps : ℕ
  pub first : List Label
  pub state : S
  pub last : List Label
  pub reaches : Reaches next s steps first state
  pub trace : ls ≡ first ++ last
  pub by : ((next state ≡ Stand last e) × (steps ≤ n)) ⊎ ((next state ≡ Halt last e) × (steps < n))

-- the cost of a move and of what follows it. To stand costs nothing
abbrev pub moved_cost : {S : Type 0} → ℕ → Move S → (S → ℕ) → ℕ
moved_cost c (Stand ls e) rest = 0
moved_cost c (Go ls s) rest = c + rest s
moved_cost c (Halt ls e) rest = c

-- what the first n steps from a state cost, where each state tells the cost of its step
unfoldable pub clock_of : {S : Type 0} → (S → Move S) → (S → ℕ) → S → ℕ → ℕ
clock_of next cost s zero = 0
clock_of next cost s (suc n) = moved_cost (cost s) (next s) (λ t. clock_of next cost t n)

-- a clock tells no less for more steps
abbrev pub Rises : (ℕ → ℕ) → Type 0
Rises clock = (n m : ℕ) → n ≤ m → clock n ≤ clock m
