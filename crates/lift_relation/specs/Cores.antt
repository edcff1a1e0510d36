-- Lists of operations that compute what an instruction computes. Operands stand in the temporaries 1, 2 and 3, results in those from 4 on,
-- and temporary 0 may hold an address. All of this is own.
use Rattle.std.specs.Prelude.{◌≡◌, ℕ, suc, ◌<◌, Bool, List, [], ◌∷◌, Option, Some, None, Result, Ok, Err}
use Rattle.x86_values.specs.declared.word.Word.{Word}
use Rattle.x86_values.specs.declared.word.Flags.{Flags}
use Rattle.x86_values.specs.Sizes.{cut}
use Rattle.x86_values.specs.LessSpecified.{WordLessSpecified}
use Rattle.traces.specs.Trace.{End, DivideFault}
use Rattle.x86_meaning.specs.declared.stop.Stop.{Stop}
use Rattle.x86_meaning.specs.declared.stop.Stop.TheVariants as stop
use Rattle.x86_meaning.specs.Outcomes.{Computation, Computed}
use Rattle.flag_ir.specs.declared.operation.Op.{Op}
use Rattle.flag_ir.specs.Storage.{Storage}
use Rattle.flag_ir.specs.Operations.{performs}
use Rattle.lift_relation.specs.Matching.{FlagMatches, FlagsMatch}

-- the lowest bytes of a word match, and 0 stands above them
abbrev pub CutMatches : ℕ → Word → Word → Type 0
CutMatches size x y = WordLessSpecified (cut size x) y

-- flags and temporaries from 4 on alone are changed
pub record IsChangedByCore (u v : Storage) : Type 0 where
  pub same : v ≡ record u { flags = v.flags; temps = v.temps }
  pub kept : (j : ℕ) → j < 4 → v.temps j ≡ u.temps j

-- results stand in the temporaries from one on
abbrev pub ResultsMatch : ℕ → ℕ → List Word → (ℕ → Word) → Type 0
ResultsMatch size k [] temps = Unit {0}
ResultsMatch size k (w ∷ ws) temps = CutMatches size w (temps k) × ResultsMatch size (suc k) ws temps

pub record IsComputed (size : ℕ) (c : Computed) (u v : Storage) : Type 0 where
  pub change : IsChangedByCore u v
  pub values : ResultsMatch size 4 c.values v.temps
  pub flags : FlagsMatch c.flags v.flags

-- a stop for the use of an unspecified value asks for nothing; a computation makes no access
abbrev pub StopMatches : Stop → Result Storage End → Type 0
StopMatches stop.Unspecified y = Unit {0}
StopMatches stop.DivideFault y = y ≡ Err DivideFault
StopMatches stop.MemoryFault y = ⊥

abbrev pub ComputationMatches : ℕ → Computation → Storage → Result Storage End → Type 0
ComputationMatches size (Ok c) u (Ok v) = IsComputed size c u v
ComputationMatches size (Ok c) u (Err e) = ⊥
ComputationMatches size (Err x) u y = StopMatches x y

-- ---- a list computes what is computed of one, two or three operands of some sizes; its results have a size
pub record ComputesOne (from to : ℕ) (make : Flags → Word → Computation) (core : List Op) : Type 0 where
  pub computes : (turn : ℕ) (x : Word) (f : Flags) (u : Storage) → CutMatches from x (u.temps 1) → FlagsMatch f u.flags → ComputationMatches to (make f x) u (performs turn core u)

pub record ComputesTwo (first second to : ℕ) (make : Flags → Word → Word → Computation) (core : List Op) : Type 0 where
  pub computes : (turn : ℕ) (x y : Word) (f : Flags) (u : Storage) → CutMatches first x (u.temps 1) → CutMatches second y (u.temps 2) → FlagsMatch f u.flags → ComputationMatches to (make f x y) u (performs turn core u)

pub record ComputesThree (first second third to : ℕ) (make : Flags → Word → Word → Word → Computation) (core : List Op) : Type 0 where
  pub computes : (turn : ℕ) (x y z : Word) (f : Flags) (u : Storage) → CutMatches first x (u.temps 1) → CutMatches second y (u.temps 2) → CutMatches third z (u.temps 3) → FlagsMatch f u.flags → ComputationMatches to (make f x y z) u (performs turn core u)

-- a list puts what a test of the flags comes to, 1 or 0, into temporary 4, and keeps the flags
pub record Tests (test : Flags → Option Bool) (core : List Op) : Type 0 where
  pub tests : (turn : ℕ) (f : Flags) (u : Storage) → FlagsMatch f u.flags → (v : Storage) × (performs turn core u ≡ Ok v) × (v ≡ record u { temps = v.temps }) × ((j : ℕ) → j < 4 → v.temps j ≡ u.temps j) × FlagMatches (test f) (v.temps 4)
