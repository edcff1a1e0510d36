-- What has been looked at, while an image is searched for code.
use Rattle.std.specs.Prelude.{◌≡◌, ◌⊎◌, ℕ, ◌+◌, ◌≤◌, false, List, length, Contains, Option, Some}
use Rattle.image.specs.declared.image.Image.{Image}
use Rattle.x86_code.specs.Code.{code_of}
use Rattle.plan_types.specs.declared.place.Place.{Place}
use Rattle.plan_types.specs.declared.table.Table.{Table}
use Rattle.plan_types.specs.Straight.{ends_run}
use Rattle.plan_types.specs.Tables.{table_in}
use Rattle.plan_types.specs.Leading.{next_of, leaders_of, procedures_of}
use Rattle.plan_types.specs.FoundCode.{Stands, run_in}
use Rattle.code_discovery.specs.declared.work.Work.{Work}
use Rattle.code_discovery.specs.declared.work.Work.TheVariants.{Instruction, Leader}
use Rattle.code_discovery.specs.Kept.{FoundSoFar, IsSoundSoFar}

-- a table of the same jump is at least as long
pub record IsAsLong (tables : List Table) (t : Table) : Type 0 where
  pub kept : Table
  pub listed : Contains tables kept
  pub jump : kept.jump ≡ t.jump
  pub longer : length t.targets ≤ length kept.targets

-- a table of its jump that is at least as long is kept, and its targets lead
pub record IsCovered (image : Image) (k : FoundSoFar) (t : Table) : Type 0 where
  pub kept : IsAsLong k.tables t
  pub targets : (a : ℕ) → Contains t.targets a → Stands image a → Contains k.leaders a

-- where an instruction leads is kept, and so is the table of a jump that stands eight instructions behind it
pub record IsSettledPlace (image : Image) (k : FoundSoFar) (p : Place) : Type 0 where
  pub leads : (a : ℕ) → Contains (leaders_of p) a → Stands image a → Contains k.leaders a
  pub names : (a : ℕ) → Contains (procedures_of image p) a → Stands image a → Contains k.procs a
  pub next : ends_run p.instr ≡ false → Stands image (next_of p) → Contains k.code (next_of p)
  pub table : (t : Table) → length (run_in image 9 p.at) ≡ 9 → table_in image (run_in image 9 p.at) ≡ Some t → IsCovered image k t

abbrev pub IsSettledCode : Image → FoundSoFar → ℕ → Type 0
IsSettledCode image k a = (p : Place) → p.at ≡ a → code_of image a ≡ Some (p.instr, p.len) → IsSettledPlace image k p

-- the table of a jump among the first nine instructions of the run of a leader is kept
abbrev pub IsSettledLeader : Image → FoundSoFar → ℕ → Type 0
IsSettledLeader image k a = (t : Table) → table_in image (run_in image 9 a) ≡ Some t → IsCovered image k t

-- all but what is still to be looked at, and what is looked at now, has been looked at
pub record IsSettling (image : Image) (k : FoundSoFar) (now : Option Work) : Type 0 where
  pub code : (a : ℕ) → Contains k.code a → IsSettledCode image k a ⊎ (Contains k.todo (Instruction a) ⊎ (now ≡ Some (Instruction a)))
  pub leaders : (a : ℕ) → Contains k.leaders a → IsSettledLeader image k a ⊎ (Contains k.todo (Leader a) ⊎ (now ≡ Some (Leader a)))

-- all has been looked at
pub record IsClosed (image : Image) (k : FoundSoFar) : Type 0 where
  pub code : (a : ℕ) → Contains k.code a → IsSettledCode image k a
  pub leaders : (a : ℕ) → Contains k.leaders a → IsSettledLeader image k a

-- what was kept stays, and each table has one of the same jump that is at least as long
pub record KeepsFound (old new : FoundSoFar) : Type 0 where
  pub code : (a : ℕ) → Contains old.code a → Contains new.code a
  pub leaders : (a : ℕ) → Contains old.leaders a → Contains new.leaders a
  pub procs : (a : ℕ) → Contains old.procs a → Contains new.procs a
  pub tables : (t : Table) → Contains old.tables t → IsAsLong new.tables t

-- how many have been looked at
abbrev pub looked_at : FoundSoFar → ℕ
looked_at k = length k.code + length k.leaders

-- More is kept: what is kept is found, all that has been looked at still is, and what is new is to be looked at.
pub record IsMore (image : Image) (old new : FoundSoFar) : Type 0 where
  pub sound : IsSoundSoFar image new
  pub grows : KeepsFound old new
  pub settling : (now : Option Work) → IsSettling image old now → IsSettling image new now
  pub sized : length new.todo + looked_at old ≡ length old.todo + looked_at new
  pub stored : new.stored ≡ old.stored
