-- What a contract sees of found code.
use Rattle.std.specs.Prelude.{ℕ, List}
use Rattle.plan_types.specs.declared.place.Place.{Place}
use Rattle.plan_types.specs.declared.table.Table.{Table}

-- the instructions with their places, the addresses of the procedures, and the tables of the table jumps
pub record FoundContents : Type 0 where
  pub code : List Place
  pub procs : List ℕ
  pub tables : List Table
