-- Tables by their jumps.
use Rattle.std.specs.Prelude.{◌≡◌, ◌↔◌, ◌⊎◌, ℕ, List, length, Contains, All, Option, Some, None}
use Rattle.std.specs.Ordering.{nat_cmp}
use Rattle.std.specs.BTreeMap.{BTreeMap, IsOrdered}
use Rattle.plan_types.specs.declared.table.Table.{Table}

-- a map in order has each table at its jump
pub record IsTableMap (m : BTreeMap ℕ Table) : Type 0 where
  pub keyed : All (λ e. e.0 ≡ e.1.jump) m.entries
  pub ordered : IsOrdered nat_cmp m

-- the table of a jump has so many words
pub record HasLength (tables : List Table) (jump n : ℕ) : Type 0 where
  pub table : Table
  pub listed : Contains tables table
  pub at : table.jump ≡ jump
  pub words : length table.targets ≡ n
  pub only : (t : Table) → Contains tables t → t.jump ≡ jump → length t.targets ≡ n

-- the number of words of the table of a jump, none where it has no table
abbrev pub IsLengthAt : List Table → ℕ → Option ℕ → Type 0
IsLengthAt tables jump None = (t : Table) → Contains tables t → t.jump ≡ jump → ⊥
IsLengthAt tables jump (Some n) = HasLength tables jump n

-- a table is put in place of the one of its jump
pub record IsPut (old : List Table) (table : Table) (new : List Table) : Type 0 where
  pub members : (t : Table) → Contains new t ↔ ((table ≡ t) ⊎ (Contains old t × (t.jump ≡ table.jump → ⊥)))
