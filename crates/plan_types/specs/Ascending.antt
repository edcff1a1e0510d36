-- The order in which found code is listed.
use Rattle.std.specs.Prelude.{ℕ, List, map}
use Rattle.std.specs.List.Sorted.{IsStrictlyIncreasing}
use Rattle.plan_types.specs.declared.place.Place.{Place}
use Rattle.plan_types.specs.declared.table.Table.{Table}

-- the addresses of some places
abbrev pub addresses_of : List Place → List ℕ
addresses_of places = map (λ p. p.at) places

-- each list ascends, and no address stands in it twice
pub record Ascends (code : List Place) (procs : List ℕ) (tables : List Table) : Type 0 where
  pub by_place : IsStrictlyIncreasing (addresses_of code)
  pub by_procedure : IsStrictlyIncreasing procs
  pub by_jump : IsStrictlyIncreasing (map (λ t. t.jump) tables)
