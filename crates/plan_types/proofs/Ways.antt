-- How the code goes on behind an instruction.
use Rattle.std.proofs.Common.{◌≡◌, ℕ, ◌==◌, false, [], ◌∷◌, find, Contains, Option, Some, None, refl, inl, inr}
use Rattle.x86_types.specs.declared.instr.Instr.{Instr}
use Rattle.x86_types.specs.declared.instr.Instr.TheVariants.{Jmp, Jcc, JmpTo, Ret}
use Rattle.plan_types.specs.declared.place.Place.{Place}
use Rattle.plan_types.specs.declared.table.Table.{Table}
use Rattle.plan_types.specs.Contents.{FoundContents}
use Rattle.plan_types.specs.Straight.{ends_run}
use Rattle.plan_types.specs.Leading.{next_of, target_of, leaders_in}
use Rattle.plan_types.specs.Body.{targets_in, targets_at, successors_in}
use Rattle.plan_types.proofs.Members.{none_in, only_in, cases_in, found_in}

-- the code goes on at the next instruction, as a leader, or by a table
pub data IsWay (found : FoundContents) (p : Place) (i : Instr) (a : ℕ) : Type 0 where
  on : ends_run i ≡ false → next_of p ≡ a → IsWay found p i a
  leads : Contains (leaders_in p i) a → IsWay found p i a
  by_table : Contains (targets_at found p.at) a → IsWay found p i a

pub way_of : (found : FoundContents) (p : Place) (i : Instr) (a : ℕ) → Contains (successors_in found p i) a → IsWay found p i a
way_of found p (Jmp by) a c = leads c
way_of found p (Jcc cc by) a c = elim (cases_in (next_of p) (target_of p by ∷ []) a c) [
  | inl e ↦ on refl e
  | inr more ↦ leads more
]
way_of found p (JmpTo to) a c = by_table c
way_of found p (Ret drop) a c = absurd (none_in a c)
way_of found p _ a c = on refl (only_in (next_of p) a c)

-- a table has the address among its targets
pub record IsByTable (found : FoundContents) (at a : ℕ) : Type 0 where
  pub table : Table
  pub listed : Contains found.tables table
  pub target : Contains table.targets a

by_option : (found : FoundContents) (at a : ℕ) (o : Option Table) → find (λ t. t.jump == at) found.tables ≡ o → Contains (targets_in o) a → IsByTable found at a
by_option found at a None e c = absurd (none_in a c)
by_option found at a (Some t) e c = record { table = t; listed = (found_in (λ t. t.jump == at) found.tables t e).0; target = c }

pub table_of_target : (found : FoundContents) (at a : ℕ) → Contains (targets_at found at) a → IsByTable found at a
table_of_target found at a c = by_option found at a (find (λ t. t.jump == at) found.tables) refl c
