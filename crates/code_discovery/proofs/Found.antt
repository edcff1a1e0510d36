-- What is found by one step more.
use Rattle.std.proofs.Common.{◌≡◌, ℕ, suc, ◌≤◌, Bool, false, List, length, Contains, Some, refl, ap, ◌∙◌, arith}
use Rattle.image.specs.declared.image.Image.{Image}
use Rattle.x86_code.specs.Code.{code_of}
use Rattle.plan_types.specs.declared.place.Place.{Place}
use Rattle.plan_types.specs.declared.table.Table.{Table}
use Rattle.plan_types.specs.Straight.{place_with, ends_run}
use Rattle.plan_types.specs.Tables.{table_in}
use Rattle.plan_types.specs.Leading.{next_of, leaders_of, procedures_of}
use Rattle.plan_types.specs.RunLaws.{RunLaws}
use Rattle.plan_types.specs.FoundCode as spec
use Rattle.plan_types.specs.FoundCode.{Stands, run_in, IsLeader, IsFoundFrom, IsTableFrom, IsProcedureFrom}
use Rattle.code_discovery.specs.Kept.{GivenIn, IsFoundAt}
use Rattle.code_discovery.proofs.Members.{some_of}
use Rattle.code_discovery.proofs.Runs.{begins, end_of_run, table_near}

-- ---- a leader
pub leader_found : (image : Image) (stored : Bool) (a : ℕ) → IsLeader image (GivenIn image stored) a → Stands image a → IsFoundAt image stored a
leader_found image stored a led stands =
    let q = some_of (code_of image a) stands in
    record { place = place_with a q.0.0 q.0.1; at = refl; found = record { from = a; n = 1; leader = led; within = begins (code_of image) 0 a q.0 q.1 } }

module _ (image : Image) (Given : ℕ → Type 0) where
  pub target_leads : (t : Table) (a : ℕ) → IsTableFrom image Given t → Contains t.targets a → Stands image a → IsLeader image Given a
  target_leads t a f c stands = spec.target f.from f.n t f.leader f.table c stands

  pub leader_table : (a : ℕ) (t : Table) → IsLeader image Given a → table_in image (run_in image 9 a) ≡ Some t → IsTableFrom image Given t
  leader_table a t led is = record { from = a; n = 9; leader = led; table = is }

  -- ---- an instruction
  module _ (p : Place) (f : IsFoundFrom image Given p) where
    pub leader_leads : (a : ℕ) → Contains (leaders_of p) a → Stands image a → IsLeader image Given a
    leader_leads a c stands = spec.leader f.from f.n p f.leader f.within c stands

    pub procedure_leads : (a : ℕ) → Contains (procedures_of image p) a → Stands image a → IsLeader image Given a
    procedure_leads a c stands = spec.procedure f.from f.n p f.leader f.within c stands

    pub procedure_named : (a : ℕ) → Contains (procedures_of image p) a → Stands image a → IsProcedureFrom image Given a
    procedure_named a c stands = spec.named p f c stands

    pub place_table : (t : Table) → length (run_in image 9 p.at) ≡ 9 → table_in image (run_in image 9 p.at) ≡ Some t → IsTableFrom image Given t
    place_table t nine is =
        let end = end_of_run (code_of image) f.n 9 f.from p f.within in
        record {
          from = f.from;
          n = end.n;
          leader = f.leader;
          table = ap (λ (run : List Place). table_in image run) end.is ∙ (table_near image end.before (run_in image 9 p.at) (let far : 9 ≤ length (run_in image 9 p.at) = omega arith in far) ∙ is);
        }

pub next_found : (image : Image) (stored : Bool) (laws : RunLaws) (p : Place) → IsFoundFrom image (GivenIn image stored) p → ends_run p.instr ≡ false → Stands image (next_of p) → IsFoundAt image stored (next_of p)
next_found image stored laws p f on stands =
    let q = some_of (code_of image (next_of p)) stands in
    record {
      place = place_with (next_of p) q.0.0 q.0.1;
      at = refl;
      found = record { from = f.from; n = suc f.n; leader = f.leader; within = laws.goes_on image f.n f.from p q.0.0 q.0.1 f.within on q.1 };
    }
