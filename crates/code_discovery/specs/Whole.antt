-- All that is found is kept.
use Rattle.std.specs.Prelude.{ℕ, true, List, Contains}
use Rattle.image.specs.declared.image.Image.{Image}
use Rattle.plan_types.specs.declared.table.Table.{Table}
use Rattle.plan_types.specs.FoundCode.{Stands, IsTableFrom, IsStored, NoneGiven, IsApart}
use Rattle.code_discovery.specs.Kept.{FoundSoFar}
use Rattle.code_discovery.specs.Settled.{IsClosed}

abbrev pub HasEntry : Image → FoundSoFar → Type 0
HasEntry image k = Stands image image.entry → Contains k.procs image.entry

-- the stored addresses are given
abbrev pub HasStored : Image → FoundSoFar → Type 0
HasStored image k = (a : ℕ) → IsStored image a → Stands image a → Contains k.procs a

-- all that is kept has been looked at, and so have the entry and what is stored
pub record IsAllFound (image : Image) (k : FoundSoFar) : Type 0 where
  pub closed : IsClosed image k
  pub entry : HasEntry image k
  pub stored : HasStored image k

-- some tables share no byte with a word
abbrev pub AreTablesApart : List Table → ℕ → Type 0
AreTablesApart tables at = (t : Table) → Contains tables t → IsApart at t

-- where they share none, no table that is found where nothing is given does
abbrev pub TellsApart : Image → List Table → Type 0
TellsApart image tables = (at : ℕ) → AreTablesApart tables at → (t : Table) → IsTableFrom image NoneGiven t → IsApart at t

-- the stored addresses are given from now on
abbrev pub with_stored : FoundSoFar → FoundSoFar
with_stored k = record k { stored = true }
