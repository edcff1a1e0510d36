-- What is kept after one thing more is kept.
use Rattle.std.specs.Prelude.{◌≡◌, ◌↔◌, ◌⊎◌, ℕ, ◌+◌, List, [], ◌∷◌, ◌++◌, length, Contains}
use Rattle.plan_types.specs.declared.table.Table.{Table}
use Rattle.code_discovery.specs.declared.work.Work.TheVariants.{Instruction, Leader}
use Rattle.code_discovery.specs.Tables.{IsPut}
use Rattle.code_discovery.specs.Kept.{FoundSoFar}

-- one address more
pub record IsInserted (old : List ℕ) (at : ℕ) (new : List ℕ) : Type 0 where
  pub members : (a : ℕ) → Contains new a ↔ ((at ≡ a) ⊎ Contains old a)
  pub size : length new ≡ length old + 1

-- an instruction's address more, which is to be looked at
abbrev pub with_code : FoundSoFar → List ℕ → ℕ → FoundSoFar
with_code k code at = record k { code = code; todo = k.todo ++ Instruction at ∷ [] }

-- a leader more, which is to be looked at
abbrev pub with_leaders : FoundSoFar → List ℕ → ℕ → FoundSoFar
with_leaders k leaders at = record k { leaders = leaders; todo = k.todo ++ Leader at ∷ [] }

-- other procedures
abbrev pub with_procedures : FoundSoFar → List ℕ → FoundSoFar
with_procedures k procs = record k { procs = procs }

-- other tables
abbrev pub with_tables : FoundSoFar → List Table → FoundSoFar
with_tables k tables = record k { tables = tables }

-- one instruction is added
pub record IsCodeAdded (old : FoundSoFar) (at : ℕ) (new : FoundSoFar) : Type 0 where
  pub code : List ℕ
  pub inserted : IsInserted old.code at code
  pub is : new ≡ with_code old code at

-- one leader is added
pub record IsLeaderAdded (old : FoundSoFar) (at : ℕ) (new : FoundSoFar) : Type 0 where
  pub leaders : List ℕ
  pub inserted : IsInserted old.leaders at leaders
  pub is : new ≡ with_leaders old leaders at

-- one procedure is added
pub record IsProcedureAdded (old : FoundSoFar) (at : ℕ) (new : FoundSoFar) : Type 0 where
  pub procs : List ℕ
  pub inserted : IsInserted old.procs at procs
  pub is : new ≡ with_procedures old procs

-- one table is put in place of the one of its jump
pub record IsTableAdded (old : FoundSoFar) (table : Table) (new : FoundSoFar) : Type 0 where
  pub tables : List Table
  pub put : IsPut old.tables table tables
  pub is : new ≡ with_tables old tables
