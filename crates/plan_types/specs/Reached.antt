-- What a walk over found code has reached: the words of the walk's own functions.
use Rattle.std.specs.Prelude.{ℕ, ◌==◌, Bool, true, cond, List, [], ◌∷◌, ◌++◌, fold, position, slice_index_or, slice_set, Option, Some, None}
use Rattle.plan_types.specs.declared.place.Place.{Place}

-- whether the place at each index is reached, and the indices of those that are, in the order in which they were
pub record ReachedContents : Type 0 where
  pub marks : List Bool
  pub order : List ℕ

-- one index more, unless it is reached already
unfoldable pub with_index : ReachedContents → Option ℕ → ReachedContents
with_index r None = r
with_index r (Some k) = cond (slice_index_or r.marks k true) r (record { marks = slice_set r.marks k true; order = r.order ++ k ∷ [] })

-- the place at an address, where one is listed
unfoldable pub with_address : List Place → ReachedContents → ℕ → ReachedContents
with_address code r a = with_index r (position (λ p. p.at == a) code)

-- those at some addresses
abbrev pub with_addresses : List Place → ReachedContents → List ℕ → ReachedContents
with_addresses code r addresses = fold (with_address code) r addresses

-- the addresses of the places that are reached, in the order of the places
abbrev pub marked_addresses : List Bool → List Place → List ℕ
marked_addresses [] places = []
marked_addresses (b ∷ marks) [] = []
marked_addresses (b ∷ marks) (p ∷ places) = cond b (p.at ∷ marked_addresses marks places) (marked_addresses marks places)
