-- The found code of an image: the least set closed under six rules. (own)
use Rattle.std.specs.Prelude.{◌≡◌, ◌↔◌, ◌⊎◌, ℕ, suc, ◌+◌, ◌*◌, ◌%◌, ◌≤◌, true, List, length, Contains, All, Option, Some, IsSome}
use Rattle.std.specs.List.Sorted.{IsStrictlyIncreasing}
use Rattle.image.specs.declared.image.Image.{Image}
use Rattle.image.specs.Addresses.{byte_at, can_run}
use Rattle.x86_code.specs.Code.{code_of}
use Rattle.plan_types.specs.declared.place.Place.{Place}
use Rattle.plan_types.specs.declared.table.Table.{Table}
use Rattle.plan_types.specs.Contents.{FoundContents}
use Rattle.plan_types.specs.Ascending.{addresses_of}
use Rattle.plan_types.specs.Straight.{straight_run}
use Rattle.plan_types.specs.Tables.{word_with, table_in}
use Rattle.plan_types.specs.Leading.{leaders_of, procedures_of}

-- an instruction stands at an address
abbrev pub Stands : Image → ℕ → Type 0
Stands image a = IsSome (code_of image a)

-- a straight run of an image, at most n instructions of it
abbrev pub run_in : Image → ℕ → ℕ → List Place
run_in image n leader = straight_run (code_of image) n leader

-- Leaders, where some procedures are given beforehand: the entry, what is given, and where an instruction in the run of a leader leads,
-- by its table, as a procedure or as the place where the code goes on. No place where no instruction stands is one.
pub data IsLeader (image : Image) (Given : ℕ → Type 0) : ℕ → Type 0 where
  entry : Stands image image.entry → IsLeader image Given image.entry
  given : {a : ℕ} → Given a → Stands image a → IsLeader image Given a
  leader : {a : ℕ} → (from n : ℕ) → (p : Place) → IsLeader image Given from → Contains (run_in image n from) p → Contains (leaders_of p) a → Stands image a → IsLeader image Given a
  procedure : {a : ℕ} → (from n : ℕ) → (p : Place) → IsLeader image Given from → Contains (run_in image n from) p → Contains (procedures_of image p) a → Stands image a → IsLeader image Given a
  target : {a : ℕ} → (from n : ℕ) → (t : Table) → IsLeader image Given from → table_in image (run_in image n from) ≡ Some t → Contains t.targets a → Stands image a → IsLeader image Given a

-- an instruction is found: it stands in the run of a leader
pub record IsFoundFrom (image : Image) (Given : ℕ → Type 0) (p : Place) : Type 0 where
  pub from : ℕ
  pub n : ℕ
  pub leader : IsLeader image Given from
  pub within : Contains (run_in image n from) p

-- a table is one of a run of a leader
pub record IsTableFrom (image : Image) (Given : ℕ → Type 0) (t : Table) : Type 0 where
  pub from : ℕ
  pub n : ℕ
  pub leader : IsLeader image Given from
  pub table : table_in image (run_in image n from) ≡ Some t

-- the procedures among the leaders: the entry, what is given, and what a found instruction names
pub data IsProcedureFrom (image : Image) (Given : ℕ → Type 0) : ℕ → Type 0 where
  entry : Stands image image.entry → IsProcedureFrom image Given image.entry
  given : {a : ℕ} → Given a → Stands image a → IsProcedureFrom image Given a
  named : {a : ℕ} → (p : Place) → IsFoundFrom image Given p → Contains (procedures_of image p) a → Stands image a → IsProcedureFrom image Given a

-- nothing is given
abbrev pub NoneGiven : ℕ → Type 0
NoneGiven a = ⊥

-- the word of the image at an address
abbrev pub word_at : Image → ℕ → Option ℕ
word_at image a = word_with (byte_at image a) (byte_at image (a + 1)) (byte_at image (a + 2)) (byte_at image (a + 3))

-- a word shares no byte with a table
abbrev pub IsApart : ℕ → Table → Type 0
IsApart at t = (at + 4 ≤ t.start) ⊎ (t.start + 4 * length t.targets ≤ at)

-- An address that the image holds as a word: at a multiple of four, leading to a byte that can be run, and outside the tables of what is
-- found where nothing is given.
pub record IsStored (image : Image) (a : ℕ) : Type 0 where
  pub at : ℕ
  pub aligned : at % 4 ≡ 0
  pub word : word_at image at ≡ Some a
  pub runs : can_run image a ≡ true
  pub apart : (t : Table) → IsTableFrom image NoneGiven t → IsApart at t

-- ---- found code: the stored addresses are given
abbrev pub IsFound : Image → Place → Type 0
IsFound image p = IsFoundFrom image (IsStored image) p

abbrev pub IsProcedure : Image → ℕ → Type 0
IsProcedure image a = IsProcedureFrom image (IsStored image) a

-- the table of a jump that stands in several runs is the longest
pub record IsTable (image : Image) (t : Table) : Type 0 where
  pub found : IsTableFrom image (IsStored image) t
  pub longest : (u : Table) → IsTableFrom image (IsStored image) u → u.jump ≡ t.jump → length u.targets ≤ length t.targets

-- what is listed is what is found, both ways
pub record IsFoundCode (image : Image) (found : FoundContents) : Type 0 where
  pub code : (p : Place) → Contains found.code p ↔ IsFound image p
  pub procs : (a : ℕ) → Contains found.procs a ↔ IsProcedure image a
  pub tables : (t : Table) → Contains found.tables t ↔ IsTable image t

-- more than so many instructions are found
pub record IsMoreThan (image : Image) (count : ℕ) : Type 0 where
  pub places : List Place
  pub ascending : IsStrictlyIncreasing (addresses_of places)
  pub many : length places ≡ suc count
  pub found : All (IsFound image) places
