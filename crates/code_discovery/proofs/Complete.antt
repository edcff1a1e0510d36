-- Where all has been looked at, all that is found is kept.
use Rattle.std.proofs.Common.{◌≡◌, ℕ, zero, suc, ◌+◌, ◌<◌, ◌≤◌, Bool, true, false, List, [], ◌∷◌, length, Contains, Option, Some, None, refl, sym, ap, ◌∙◌, subst, inl, inr, arith}
use Rattle.std.specs.Option.{IsSome}
use Rattle.std.proofs.lemmas.Bool.{cases_lt}
use Rattle.image.specs.declared.image.Image.{Image}
use Rattle.x86_types.specs.declared.instr.Instr.{Instr}
use Rattle.x86_code.specs.Code.{Code, code_of}
use Rattle.plan_types.specs.declared.place.Place.{Place}
use Rattle.plan_types.specs.declared.table.Table.{Table}
use Rattle.plan_types.specs.Straight.{place_with, ends_run, unless_ended, straight_by, straight_run}
use Rattle.plan_types.specs.Tables.{table_in}
use Rattle.plan_types.specs.RunLaws.{RunLaws}
use Rattle.plan_types.specs.FoundCode as spec
use Rattle.plan_types.specs.FoundCode.{Stands, run_in, IsLeader, IsFoundFrom, IsTableFrom, IsProcedureFrom}
use Rattle.code_discovery.specs.Kept.{FoundSoFar, IsSoundSoFar}
use Rattle.code_discovery.specs.Settled.{IsCovered, IsSettledPlace, IsClosed}
use Rattle.code_discovery.proofs.Members.{none_in, cases_in, some_of}
use Rattle.code_discovery.proofs.Runs.{table_ends, table_near, ended_same}

-- a run that has an instruction begins with one
first_by : (o : Option (Instr × ℕ)) (at : ℕ) (rest : ℕ → List Place) → 0 < length (straight_by o at rest) → IsSome o
first_by None at rest some = absurd (omega arith)
first_by (Some q) at rest some = refl

pub first_stands : (code : Code) (n at : ℕ) → 0 < length (straight_run code n at) → IsSome (code at)
unfolding straight_run
first_stands code zero at some = absurd (omega arith)
first_stands code (suc n) at some = first_by (code at) at (λ next. straight_run code n next) some

some_there : (run : List Place) (p : Place) → Contains run p → 0 < length run
some_there [] p c = absurd (none_in p c)
some_there (q ∷ run) p c = omega arith

module _ (image : Image) (k : FoundSoFar) (laws : RunLaws) (sound : IsSoundSoFar image k) (closed : IsClosed image k) where
  settled_at : (a : ℕ) (q : Instr × ℕ) → Contains k.code a → code_of image a ≡ Some q → IsSettledPlace image k (place_with a q.0 q.1)
  settled_at a q c stands = closed.code a c (place_with a q.0 q.1) refl stands

  -- ---- the run of an instruction that is kept is kept
  in_rest : (a : ℕ) (q : Instr × ℕ) → Contains k.code a → code_of image a ≡ Some q → (n : ℕ)
      → ((next : ℕ) → Contains k.code next → (p : Place) → Contains (run_in image n next) p → Contains k.code p.at)
      → (b : Bool) → ends_run q.0 ≡ b → (p : Place) → Contains (unless_ended b (λ next. run_in image n next) (a + q.1)) p → Contains k.code p.at
  in_rest a q c stands n later true e p there = absurd (none_in p there)
  in_rest a q c stands n later false e p there =
      let next = (settled_at a q c stands).next e (first_stands (code_of image) n (a + q.1) (some_there (run_in image n (a + q.1)) p there)) in
      later (a + q.1) next p there

  code_by : (n a : ℕ) → Contains k.code a → ((next : ℕ) → Contains k.code next → (p : Place) → Contains (run_in image n next) p → Contains k.code p.at)
      → (o : Option (Instr × ℕ)) → code_of image a ≡ o → (p : Place) → Contains (straight_by o a (λ next. run_in image n next)) p → Contains k.code p.at
  code_by n a c later None stands p there = absurd (none_in p there)
  code_by n a c later (Some q) stands p there =
      elim (cases_in (place_with a q.0 q.1) (unless_ended (ends_run q.0) (λ next. run_in image n next) (a + q.1)) p there) [
        | inl same ↦ subst (λ (r : Place). Contains k.code r.at) same c
        | inr more ↦ in_rest a q c stands n later (ends_run q.0) refl p more
      ]

  pub all_code : (n a : ℕ) → Contains k.code a → (p : Place) → Contains (run_in image n a) p → Contains k.code p.at
  unfolding straight_run
  all_code zero a c p there = absurd (none_in p there)
  all_code (suc n) a c p there = code_by n a c (λ next c p there. all_code n next c p there) (code_of image a) refl p there

  -- ---- tables of the runs of instructions
  table_nine : (n a : ℕ) (t : Table) → Contains k.code a → table_in image (run_in image n a) ≡ Some t → length (run_in image n a) ≡ 9 → IsCovered image k t
  table_nine n a t c e nine =
      let same : run_in image 9 a ≡ run_in image n a = ended_same (code_of image) n 9 a (table_ends laws.jumps image (run_in image n a) t e) (omega arith) in
      let q = some_of (code_of image a) (first_stands (code_of image) n a (omega arith)) in
      (settled_at a q.0 c q.1).table t (ap (λ (run : List Place). length run) same ∙ nine) (ap (λ (run : List Place). table_in image run) same ∙ e)

  Covers : ℕ → ℕ → Table → Type 0
  Covers n a t = Contains k.code a → table_in image (run_in image n a) ≡ Some t → 9 ≤ length (run_in image n a) → IsCovered image k t

  far_rest : (n a : ℕ) (t : Table) (q : Instr × ℕ) → ((next : ℕ) → Covers n next t) → Contains k.code a → code_of image a ≡ Some q → (b : Bool) → ends_run q.0 ≡ b
      → table_in image (place_with a q.0 q.1 ∷ unless_ended b (λ next. run_in image n next) (a + q.1)) ≡ Some t
      → 9 ≤ length (unless_ended b (λ next. run_in image n next) (a + q.1)) → IsCovered image k t
  unfolding Covers
  far_rest n a t q later c stands true e is far = absurd (omega arith)
  far_rest n a t q later c stands false e is far =
      let next = (settled_at a q c stands).next e (first_stands (code_of image) n (a + q.1) (omega arith)) in
      later (a + q.1) next (sym (table_near image (place_with a q.0 q.1 ∷ []) (run_in image n (a + q.1)) far) ∙ is) far

  far_by : (n a : ℕ) (t : Table) → ((next : ℕ) → Covers n next t) → Contains k.code a → (o : Option (Instr × ℕ)) → code_of image a ≡ o
      → table_in image (straight_by o a (λ next. run_in image n next)) ≡ Some t → 9 < length (straight_by o a (λ next. run_in image n next)) → IsCovered image k t
  far_by n a t later c None stands is far = absurd (omega arith)
  far_by n a t later c (Some q) stands is far = far_rest n a t q later c stands (ends_run q.0) refl is (omega arith)

  far_run : (n a : ℕ) (t : Table) → ((next : ℕ) → Covers n next t) → Contains k.code a → table_in image (run_in image (suc n) a) ≡ Some t → 9 < length (run_in image (suc n) a) → IsCovered image k t
  unfolding straight_run
  far_run n a t later c is far = far_by n a t later c (code_of image a) refl is far

  none_far : (a : ℕ) → 9 ≤ length (run_in image 0 a) → ⊥
  unfolding straight_run
  none_far a far = omega arith

  covered : (n a : ℕ) (t : Table) → Covers n a t
  unfolding Covers
  covered zero a t c is far = absurd (none_far a far)
  covered (suc n) a t c is far = elim (cases_lt 9 (length (run_in image (suc n) a))) [
    | inl more ↦ far_run n a t (λ next. covered n next t) c is more
    | inr nine ↦ table_nine (suc n) a t c is (omega arith)
  ]

  -- ---- tables of the runs of leaders
  pub leader_covered : (n a : ℕ) (t : Table) → Contains k.leaders a → table_in image (run_in image n a) ≡ Some t → IsCovered image k t
  unfolding Covers
  leader_covered n a t c is = elim (cases_lt 8 (length (run_in image n a))) [
    | inl far ↦ covered n a t (sound.leaders a c).code is (omega arith)
    | inr near ↦
        let same : run_in image 9 a ≡ run_in image n a = ended_same (code_of image) n 9 a (table_ends laws.jumps image (run_in image n a) t is) (omega arith) in
        closed.leaders a c t (ap (λ (run : List Place). table_in image run) same ∙ is)
  ]

  -- ---- what is given and the entry are kept
  module _ (Given : ℕ → Type 0) (entry : Stands image image.entry → Contains k.procs image.entry) (given : (a : ℕ) → Given a → Stands image a → Contains k.procs a) where
    named_place : (p : Place) (n from : ℕ) → Contains k.leaders from → Contains (run_in image n from) p → IsSettledPlace image k p
    named_place p n from c there = closed.code p.at (all_code n from (sound.leaders from c).code p there) p refl (laws.stands image n from p there)

    pub all_leaders : (a : ℕ) → IsLeader image Given a → Contains k.leaders a
    all_leaders a (spec.entry stands) = (sound.procs image.entry (entry stands)).leads
    all_leaders a (spec.given g stands) = (sound.procs a (given a g stands)).leads
    all_leaders a (spec.leader from n p led there c stands) = (named_place p n from (all_leaders from led) there).leads a c stands
    all_leaders a (spec.procedure from n p led there c stands) = (sound.procs a ((named_place p n from (all_leaders from led) there).names a c stands)).leads
    all_leaders a (spec.target from n t led is c stands) = (leader_covered n from t (all_leaders from led) is).targets a c stands

    pub all_found : (p : Place) → IsFoundFrom image Given p → Contains k.code p.at
    all_found p f = all_code f.n f.from (sound.leaders f.from (all_leaders f.from f.leader)).code p f.within

    pub all_procedures : (a : ℕ) → IsProcedureFrom image Given a → Contains k.procs a
    all_procedures a (spec.entry stands) = entry stands
    all_procedures a (spec.given g stands) = given a g stands
    all_procedures a (spec.named p f c stands) = (named_place p f.n f.from (all_leaders f.from f.leader) f.within).names a c stands

    pub all_tables : (t : Table) → IsTableFrom image Given t → IsCovered image k t
    all_tables t f = leader_covered f.n f.from t (all_leaders f.from f.leader) f.table
