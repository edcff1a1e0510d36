-- Small machines, whose runs are written down as lists of labels.
use Rattle.std.specs.Prelude.{ℕ, zero, suc, List, [], ◌∷◌}
use Rattle.traces.specs.Trace.{Write, Label, Made, End, Move, Stand, Go, Behaviour, run}

-- a machine that shows these labels, a list at each step, and then has ended
abbrev pub play : End → List (List Label) → Move (List (List Label))
play e [] = Stand [] e
play e (ls ∷ rest) = Go ls rest

-- its run
abbrev pub played : List (List Label) → End → Behaviour
played ls e = run (play e) ls

-- a machine that shows these labels, a list at each step, and then runs on for ever and shows nothing
abbrev pub play_on : List (List Label) → Move (List (List Label))
play_on [] = Go [] []
play_on (ls ∷ rest) = Go ls rest

-- its run
abbrev pub played_on : List (List Label) → Behaviour
played_on ls = run play_on ls

-- a machine that ends after so many steps that show nothing
abbrev pub count_down : End → ℕ → Move ℕ
count_down e zero = Stand [] e
count_down e (suc n) = Go [] n

-- its run
abbrev pub counted_down : ℕ → End → Behaviour
counted_down n e = run (count_down e) n

-- a machine that shows these labels at every step
abbrev pub repeat : List Label → ℕ → Move ℕ
repeat ls n = Go ls n

-- a machine that shows these labels at every other step
abbrev pub alternate : List Label → ℕ → Move ℕ
alternate ls zero = Go [] 1
alternate ls (suc n) = Go ls 0

-- a write of one byte
abbrev pub one : Label
one = Made (Write 1 (7 ∷ []) 1)

-- a write of another byte
abbrev pub two : Label
two = Made (Write 1 (8 ∷ []) 1)
