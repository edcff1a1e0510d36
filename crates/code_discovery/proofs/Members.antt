-- What a list has among its elements.
use Rattle.std.proofs.Common.{◌≡◌, ◌⊎◌, zero, suc, ◌<◌, List, [], ◌∷◌, Contains, Option, Some, None, refl, inl, inr, arith}
use Rattle.std.specs.Option.{IsSome}
use Rattle.std.proofs.lemmas.List.Elements.{Contains-append_right}

pub none_in : {X : Type 0} (x : X) → Contains [] x → ⊥
none_in x c = let low : c.0 < 0 = c.1 in omega arith

pub head_in : {X : Type 0} (x : X) (xs : List X) → Contains (x ∷ xs) x
head_in x xs = (0, omega arith, refl)

pub tail_in : {X : Type 0} (x : X) (xs : List X) (y : X) → Contains xs y → Contains (x ∷ xs) y
tail_in x xs y c = Contains-append_right (x ∷ []) xs y c

pub cases_in : {X : Type 0} (x : X) (xs : List X) (y : X) → Contains (x ∷ xs) y → (x ≡ y) ⊎ Contains xs y
cases_in x xs y (zero, low, is) = inl is
cases_in x xs y (suc k, low, is) = inr (k, omega arith, is)

-- a value that is there
pub some_of : {X : Type 0} (o : Option X) → IsSome o → (x : X) × (o ≡ Some x)
some_of None h = cc
some_of (Some x) h = (x, refl)
