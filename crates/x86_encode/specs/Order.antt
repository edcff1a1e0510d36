-- Which of two lists of bytes comes first: the shorter, and of two as long the one with the less byte where
-- they first differ.
use Rattle.std.specs.Prelude.{◌≡◌, ℕ, ◌<◌, List, [], ◌∷◌, length, ◌⊎◌}

-- the less byte where they first differ
abbrev pub BeforeByBytes : List ℕ → List ℕ → Type 0
BeforeByBytes [] b = ⊥
BeforeByBytes (x ∷ a) [] = ⊥
BeforeByBytes (x ∷ a) (y ∷ b) = (x < y) ⊎ ((x ≡ y) × BeforeByBytes a b)

-- the shorter, or as long and before by bytes
abbrev pub Before : List ℕ → List ℕ → Type 0
Before a b = (length a < length b) ⊎ ((length a ≡ length b) × BeforeByBytes a b)
