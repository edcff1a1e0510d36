-- What is found so far, while an image is searched for code.
use Rattle.std.specs.Prelude.{◌≡◌, ℕ, Bool, true, List, Contains}
use Rattle.image.specs.declared.image.Image.{Image}
use Rattle.plan_types.specs.declared.place.Place.{Place}
use Rattle.plan_types.specs.declared.table.Table.{Table}
use Rattle.plan_types.specs.FoundCode.{IsLeader, IsFoundFrom, IsTableFrom, IsProcedureFrom, IsStored}
use Rattle.code_discovery.specs.declared.work.Work.{Work}
use Rattle.code_discovery.specs.declared.work.Work.TheVariants.{Instruction, Leader}

-- the addresses of instructions, of leaders and of procedures, the tables, what is still to be looked at, and whether the stored addresses are given
pub record FoundSoFar : Type 0 where
  pub code : List ℕ
  pub leaders : List ℕ
  pub procs : List ℕ
  pub tables : List Table
  pub todo : List Work
  pub stored : Bool

-- what is given beforehand: the stored addresses or nothing
abbrev pub GivenIn : Image → Bool → ℕ → Type 0
GivenIn image stored a = (stored ≡ true) × IsStored image a

-- an instruction is found at an address
pub record IsFoundAt (image : Image) (stored : Bool) (a : ℕ) : Type 0 where
  pub place : Place
  pub at : place.at ≡ a
  pub found : IsFoundFrom image (GivenIn image stored) place

pub record IsLedAt (image : Image) (k : FoundSoFar) (a : ℕ) : Type 0 where
  pub leader : IsLeader image (GivenIn image k.stored) a
  pub code : Contains k.code a

pub record IsNamedAt (image : Image) (k : FoundSoFar) (a : ℕ) : Type 0 where
  pub procedure : IsProcedureFrom image (GivenIn image k.stored) a
  pub leads : Contains k.leaders a

-- what is to be looked at is kept
abbrev pub IsWorkKept : FoundSoFar → Work → Type 0
IsWorkKept k (Instruction a) = Contains k.code a
IsWorkKept k (Leader a) = Contains k.leaders a

-- what is kept is found
pub record IsSoundSoFar (image : Image) (k : FoundSoFar) : Type 0 where
  pub code : (a : ℕ) → Contains k.code a → IsFoundAt image k.stored a
  pub leaders : (a : ℕ) → Contains k.leaders a → IsLedAt image k a
  pub procs : (a : ℕ) → Contains k.procs a → IsNamedAt image k a
  pub tables : (t : Table) → Contains k.tables t → IsTableFrom image (GivenIn image k.stored) t
  pub todo : (w : Work) → Contains k.todo w → IsWorkKept k w
