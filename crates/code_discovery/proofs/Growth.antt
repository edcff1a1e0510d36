-- What has been looked at stays so where more is kept.
use Rattle.std.proofs.Common.{◌≡◌, ℕ, ◌≤◌, List, length, Contains, refl, ◌∙◌, arith}
use Rattle.image.specs.declared.image.Image.{Image}
use Rattle.plan_types.specs.declared.place.Place.{Place}
use Rattle.plan_types.specs.declared.table.Table.{Table}
use Rattle.code_discovery.specs.Kept.{FoundSoFar, IsSoundSoFar}
use Rattle.code_discovery.specs.Settled.{IsAsLong, IsCovered, IsSettledPlace, IsSettledCode, IsSettledLeader, KeepsFound, IsMore}

pub as_long_itself : (tables : List Table) (t : Table) → Contains tables t → IsAsLong tables t
as_long_itself tables t c = record { kept = t; listed = c; jump = refl; longer = omega arith }

pub as_long_then : (tables : List Table) (t u : Table) → u.jump ≡ t.jump → length t.targets ≤ length u.targets → IsAsLong tables u → IsAsLong tables t
as_long_then tables t u same longer more = record { kept = more.kept; listed = more.listed; jump = more.jump ∙ same; longer = omega (arith, more.longer) }

module _ (image : Image) (old new : FoundSoFar) (more : KeepsFound old new) where
  pub as_long_still : (t : Table) → IsAsLong old.tables t → IsAsLong new.tables t
  as_long_still t long = as_long_then new.tables t long.kept long.jump long.longer (more.tables long.kept long.listed)

  pub covered_still : (t : Table) → IsCovered image old t → IsCovered image new t
  covered_still t covered = record { kept = as_long_still t covered.kept; targets = λ a c stands. more.leaders a (covered.targets a c stands) }

  pub place_still : (p : Place) → IsSettledPlace image old p → IsSettledPlace image new p
  place_still p settled = record {
    leads = λ a c stands. more.leaders a (settled.leads a c stands);
    names = λ a c stands. more.procs a (settled.names a c stands);
    next = λ on stands. more.code _ (settled.next on stands);
    table = λ t nine e. covered_still t (settled.table t nine e);
  }

  pub code_still : (a : ℕ) → IsSettledCode image old a → IsSettledCode image new a
  code_still a settled = λ p at e. place_still p (settled p at e)

  pub leader_still : (a : ℕ) → IsSettledLeader image old a → IsSettledLeader image new a
  leader_still a settled = λ t e. covered_still t (settled t e)

pub grows_itself : (k : FoundSoFar) → KeepsFound k k
grows_itself k = record { code = λ a c. c; leaders = λ a c. c; procs = λ a c. c; tables = λ t c. as_long_itself k.tables t c }

pub grows_then : (r s t : FoundSoFar) → KeepsFound r s → KeepsFound s t → KeepsFound r t
grows_then r s t one two = record {
  code = λ a c. two.code a (one.code a c);
  leaders = λ a c. two.leaders a (one.leaders a c);
  procs = λ a c. two.procs a (one.procs a c);
  tables = λ u c. let long = one.tables u c in as_long_then t.tables u long.kept long.jump long.longer (two.tables long.kept long.listed);
}

pub more_itself : (image : Image) (k : FoundSoFar) → IsSoundSoFar image k → IsMore image k k
more_itself image k sound = record { sound = sound; grows = grows_itself k; settling = λ now s. s; sized = refl; stored = refl }

pub more_then : (image : Image) (r s t : FoundSoFar) → IsMore image r s → IsMore image s t → IsMore image r t
more_then image r s t one two = record {
  sound = two.sound;
  grows = grows_then r s t one.grows two.grows;
  settling = λ now settling. two.settling now (one.settling now settling);
  sized = omega (arith, one.sized, two.sized);
  stored = two.stored ∙ one.stored;
}
