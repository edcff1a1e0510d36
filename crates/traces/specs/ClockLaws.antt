-- What the first n steps of a machine cost, where each state tells the cost of its step.
use Rattle.std.specs.Prelude.{◌≡◌, ℕ, suc, ◌+◌, ◌*◌, ◌≤◌, List}
use Rattle.traces.specs.Trace.{Label, End, Move, Stand, Go, Halt, run, turns}
use Rattle.traces.specs.Steps.{Reaches, clock_of, Rises}
use Rattle.traces.specs.Weight.{PacedBy}

-- the laws of clocks
pub record ClockLaws (S : Type 0) : Type 0 where
  -- before the first step nothing is paid, nor where the machine stands
  pub clock_rest : (next : S → Move S) (cost : S → ℕ) (s : S) → clock_of next cost s 0 ≡ 0
  pub clock_stand : (next : S → Move S) (cost : S → ℕ) (s : S) (ls : List Label) (e : End) → next s ≡ Stand ls e → (n : ℕ) → clock_of next cost s n ≡ 0
  -- each step costs what its state tells
  pub clock_go : (next : S → Move S) (cost : S → ℕ) (s : S) (ls : List Label) (t : S) → next s ≡ Go ls t → (n : ℕ) → clock_of next cost s (suc n) ≡ cost s + clock_of next cost t n
  pub clock_halt : (next : S → Move S) (cost : S → ℕ) (s : S) (ls : List Label) (e : End) → next s ≡ Halt ls e → (n : ℕ) → clock_of next cost s (suc n) ≡ cost s
  -- more steps cost more
  pub clock_rises : (next : S → Move S) (cost : S → ℕ) (s : S) → Rises (clock_of next cost s)
  -- n steps that cost at most K each cost at most K * n
  pub clock_at_most : (next : S → Move S) (cost : S → ℕ) (K : ℕ) → ((s : S) → cost s ≤ K) → (s : S) (n : ℕ) → clock_of next cost s n ≤ K * n
  -- the steps up to a state that is reached cost their part, and those from it theirs
  pub clock_reaches : (next : S → Move S) (cost : S → ℕ) (s : S) (n : ℕ) (ls : List Label) (t : S) → Reaches next s n ls t → (j : ℕ) → clock_of next cost s (n + j) ≡ clock_of next cost s n + clock_of next cost t j
  -- a beginning that begins no turn adds its cost to the constant of a weight
  pub paced_after : (next : S → Move S) (cost : S → ℕ) (w b : ℕ) (s : S) (k : ℕ) (ls : List Label) (t : S) → Reaches next s k ls t → turns ls ≡ 0 → PacedBy (clock_of next cost t) w b (run next t) → PacedBy (clock_of next cost s) w (b + clock_of next cost s k) (run next s)
