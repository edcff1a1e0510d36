-- What is asked of each move so that something holds of a run.
use Rattle.std.specs.Prelude.{◌≡◌, ℕ, ◌+◌, ◌*◌, ◌≤◌, List, [], ◌∷◌, length}
use Rattle.traces.specs.Trace.{Label, End, Move, Stand, Go, Halt, events, turns, at_rest, input_left}

-- a turn begins only as the first of a step's labels
abbrev pub OneTurn : List Label → Type 0
OneTurn [] = Unit {0}
OneTurn (x ∷ ls) = turns ls ≡ 0

-- a step that begins at most one turn. Before it `l` is left of the turn, after it `after`; it takes its cost from what is left,
-- and each turn that it begins adds w
pub record PacedStep (w l cost after : ℕ) (ls : List Label) : Type 0 where
  pub one_turn : OneTurn ls
  pub left : after + cost ≤ l + w * turns ls

-- the same of a move that costs so much, where `left` tells what is left of the turn in each state
abbrev pub PacedMove : {S : Type 0} → ℕ → (S → ℕ) → (l cost : ℕ) → Move S → Type 0
PacedMove w left l cost (Stand ls e) = turns ls ≡ 0
PacedMove w left l cost (Go ls s) = PacedStep w l cost (left s) ls
PacedMove w left l cost (Halt ls e) = PacedStep w l cost 0 ls

-- a move that shows at most one event, with those of a state in which it stands after it
abbrev pub OneEventMove : {S : Type 0} → (S → Move S) → Move S → Type 0
OneEventMove next (Stand ls e) = Unit {0}
OneEventMove next (Go ls s) = length (events ls) + length (events (at_rest (next s)).trace) ≤ 1
OneEventMove next (Halt ls e) = length (events ls) ≤ 1

-- a move that shows at most one event, and none where it stands
abbrev pub OneEventStep : {S : Type 0} → Move S → Type 0
OneEventStep (Stand ls e) = events ls ≡ []
OneEventStep (Go ls s) = length (events ls) ≤ 1
OneEventStep (Halt ls e) = length (events ls) ≤ 1

-- a move that begins one turn, and none where it stands
abbrev pub Ticking : {S : Type 0} → Move S → Type 0
Ticking (Stand ls e) = turns ls ≡ 0
Ticking (Go ls s) = turns ls ≡ 1
Ticking (Halt ls e) = turns ls ≡ 1

-- a move that begins no turn
abbrev pub Unturned : {S : Type 0} → Move S → Type 0
Unturned (Stand ls e) = turns ls ≡ 0
Unturned (Go ls s) = turns ls ≡ 0
Unturned (Halt ls e) = turns ls ≡ 0

-- a move that ends, if it does, with an end of this kind
abbrev pub EndsIn : {S : Type 0} → (End → Type 0) → Move S → Type 0
EndsIn P (Stand ls e) = P e
EndsIn P (Go ls s) = Unit {0}
EndsIn P (Halt ls e) = P e

-- a move that leaves of the input what its reads don't take, where each state tells the input that is left
abbrev pub InputMove : {S : Type 0} → (S → List ℕ) → List ℕ → Move S → Type 0
InputMove input l (Stand ls e) = Unit {0}
InputMove input l (Go ls s) = input s ≡ input_left l ls
InputMove input l (Halt ls e) = Unit {0}

-- a move to a state in which something holds
abbrev pub To : {S : Type 0} → (S → Type 0) → Move S → Type 0
To Inv (Stand ls e) = Unit {0}
To Inv (Go ls s) = Inv s
To Inv (Halt ls e) = Unit {0}

-- a move that goes on, to a state in which something holds
abbrev pub GoesTo : {S : Type 0} → (S → Type 0) → Move S → Type 0
GoesTo Inv (Stand ls e) = ⊥
GoesTo Inv (Go ls s) = Inv s
GoesTo Inv (Halt ls e) = ⊥

-- a state in which an invariant holds
pub record HoldingState {S : Type 0} (Inv : S → Type 0) : Type 0 where
  pub state : S
  pub holds : Inv state

-- in a clause an invariant is a type with a map to states, as the type of `HoldingState`s is; it holds in the states of the map
abbrev pub Holds : {S I : Type 0} → (I → S) → S → Type 0
Holds {S} {I} state s = (i : I) × (state i ≡ s)

-- each step from such a state goes to another
abbrev pub IsKept : {S I : Type 0} → (I → S) → (S → Move S) → Type 0
IsKept {S} {I} state next = (i : I) → To (Holds state) (next (state i))
