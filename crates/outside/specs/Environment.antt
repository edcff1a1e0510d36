-- The outside of a run: the input and the answers that are left.
use Rattle.std.specs.Prelude.{ℕ, ◌^◌, ◌<◌, ◌≤◌, List, [], ◌∷◌, All}
use Rattle.outside.specs.declared.answer.Answer.{Answer}
use Rattle.outside.specs.declared.answer.Answer.TheVariants.{Take, Fail}

-- the input that is left and the answers that are left
pub record Environment : Type 0 where
  pub input : List ℕ
  pub answers : List Answer

-- an answer takes fewer bytes than 2^32, or has an error number of Linux, from 1 to 4,095
abbrev pub IsAnswer : Answer → Type 0
IsAnswer (Take k) = k < 2 ^ 32
IsAnswer (Fail e) = (1 ≤ e) × (e ≤ 4095)

-- an input is a list of bytes, and the answers are in their ranges
pub record IsEnvironment (left : Environment) : Type 0 where
  pub input : All (λ b. b < 256) left.input
  pub answers : All IsAnswer left.answers

-- the greatest number of bytes that one call moves (own)
abbrev pub cap : ℕ
cap = 65536

-- the next answer; where none is left it takes as much as one call can (own)
abbrev pub next_answer : List Answer → Answer
next_answer [] = Take cap
next_answer (x ∷ xs) = x

-- the answers after the next one
abbrev pub answers_after : List Answer → List Answer
answers_after [] = []
answers_after (x ∷ xs) = xs
