-- What has been found is looked at, one step after the other.
use Rattle.std.proofs.Common.{◌≡◌, ℕ, Bool, false, length, Contains, Option, Some, None, refl, sym, ap, ◌∙◌, subst}
use Rattle.image.specs.declared.image.Image.{Image}
use Rattle.x86_types.specs.declared.instr.Instr.{Instr}
use Rattle.x86_code.specs.Code.{Code, code_of}
use Rattle.plan_types.specs.declared.place.Place.{Place}
use Rattle.plan_types.specs.declared.table.Table.{Table}
use Rattle.plan_types.specs.Straight.{place_with, ends_run}
use Rattle.plan_types.specs.Tables.{table_in}
use Rattle.plan_types.specs.Leading.{next_of, leaders_of, procedures_of}
use Rattle.plan_types.specs.RunLaws.{RunLaws}
use Rattle.plan_types.specs.FoundCode.{Stands, run_in, IsFoundFrom}
use Rattle.code_scan.specs.Places.{placed, standing_place}
use Rattle.code_discovery.specs.Kept.{FoundSoFar, GivenIn, IsFoundAt}
use Rattle.code_discovery.specs.Settled.{IsCovered, IsSettledPlace, IsSettledCode, IsMore}

pub found_then : (image : Image) (old new : FoundSoFar) → IsMore image old new → (p : Place) → IsFoundFrom image (GivenIn image old.stored) p → IsFoundFrom image (GivenIn image new.stored) p
found_then image old new more p found = subst (λ (b : Bool). IsFoundFrom image (GivenIn image b) p) (sym more.stored) found

-- each of the four steps keeps its part
pub place_settled : (image : Image) (p : Place) (one two three four : FoundSoFar) → IsMore image one two → IsMore image two three → IsMore image three four
    → ((a : ℕ) → Contains (leaders_of p) a → Stands image a → Contains one.leaders a)
    → ((a : ℕ) → Contains (procedures_of image p) a → Stands image a → Contains two.procs a)
    → (ends_run p.instr ≡ false → Stands image (next_of p) → Contains three.code (next_of p))
    → ((t : Table) → length (run_in image 9 p.at) ≡ 9 → table_in image (run_in image 9 p.at) ≡ Some t → IsCovered image four t)
    → IsSettledPlace image four p
place_settled image p one two three four second third fourth leads names next table = record {
  leads = λ a c s. fourth.grows.leaders a (third.grows.leaders a (second.grows.leaders a (leads a c s)));
  names = λ a c s. fourth.grows.procs a (third.grows.procs a (names a c s));
  next = λ on s. fourth.grows.code (next_of p) (next on s);
  table = table;
}

-- ---- the place at an address
together : (a b : ℕ) (i j : Instr) (l m : ℕ) → a ≡ b → i ≡ j → l ≡ m → ◌≡◌ {A = Place} (record { at = a; instr = i; len = l }) (record { at = b; instr = j; len = m })
together a b i j l m ea ei el = cc

pub same_place : (code : Code) (p q : Place) → p.at ≡ q.at → code p.at ≡ Some (p.instr, p.len) → code q.at ≡ Some (q.instr, q.len) → p ≡ q
same_place code p q at ps qs =
    let there : ◌≡◌ {A = Option (Instr × ℕ)} (Some (p.instr, p.len)) (Some (q.instr, q.len)) = sym ps ∙ (ap (λ n. code n) at ∙ qs) in
    let pair : ◌≡◌ {A = Instr × ℕ} (p.instr, p.len) (q.instr, q.len) = cc in
    together p.at q.at p.instr q.instr p.len q.len at (ap (λ (r : Instr × ℕ). r.0) pair) (ap (λ (r : Instr × ℕ). r.1) pair)

pub record StandsAt (image : Image) (a : ℕ) (p : Place) : Type 0 where
  pub at : p.at ≡ a
  pub stands : code_of image p.at ≡ Some (p.instr, p.len)

placed_by : (image : Image) (a : ℕ) (p : Place) (o : Option (Instr × ℕ)) → code_of image a ≡ o → Some p ≡ placed a o → StandsAt image a p
placed_by image a p None e is = cc
placed_by image a p (Some q) e is = let same : place_with a q.0 q.1 ≡ p = cc in subst (λ (r : Place). StandsAt image a r) same (record { at = refl; stands = e })

pub place_stands : (image : Image) (a : ℕ) (p : Place) → Some p ≡ standing_place image a → StandsAt image a p
place_stands image a p is = placed_by image a p (code_of image a) refl is

none_by : (a : ℕ) (o : Option (Instr × ℕ)) (q : Instr × ℕ) → None ≡ placed a o → o ≡ Some q → ⊥
none_by a None q is e = cc
none_by a (Some r) q is e = cc

pub none_stands : (image : Image) (a : ℕ) (q : Instr × ℕ) → None ≡ standing_place image a → code_of image a ≡ Some q → ⊥
none_stands image a q is e = none_by a (code_of image a) q is e

pub found_there : (image : Image) (laws : RunLaws) (stored : Bool) (a : ℕ) (p : Place) → IsFoundAt image stored a → Some p ≡ standing_place image a → IsFoundFrom image (GivenIn image stored) p
found_there image laws stored a p f is =
    let s = place_stands image a p is in
    let stands = laws.stands image f.found.n f.found.from f.place f.found.within in
    subst (λ (r : Place). IsFoundFrom image (GivenIn image stored) r) (same_place (code_of image) f.place p (f.at ∙ sym s.at) stands s.stands) f.found

pub settled_there : (image : Image) (k : FoundSoFar) (a : ℕ) (p : Place) → Some p ≡ standing_place image a → IsSettledPlace image k p → IsSettledCode image k a
settled_there image k a p is settled = λ q at e.
    let s = place_stands image a p is in
    subst (λ (r : Place). IsSettledPlace image k r) (same_place (code_of image) p q (s.at ∙ sym at) s.stands (ap (λ n. code_of image n) at ∙ e)) settled

pub settled_none : (image : Image) (k : FoundSoFar) (a : ℕ) → None ≡ standing_place image a → IsSettledCode image k a
settled_none image k a is = λ q at e. absurd (none_stands image a (q.instr, q.len) is e)
