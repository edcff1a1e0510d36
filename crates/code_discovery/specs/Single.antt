-- At most one address, as a list.
use Rattle.std.specs.Prelude.{ℕ, List, [], ◌∷◌, Option, Some, None}

abbrev pub single : Option ℕ → List ℕ
single None = []
single (Some a) = a ∷ []
