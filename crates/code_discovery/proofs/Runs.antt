-- Straight runs, where they end, and the tables of their last nine instructions.
use Rattle.std.proofs.Common.{◌≡◌, ℕ, zero, suc, ◌+◌, ◌≤◌, Bool, true, false, List, [], ◌∷◌, ◌++◌, length, reverse, Contains, Option, Some, None, refl, sym, ap, ◌∙◌, subst, inl, inr, arith}
use Rattle.std.proofs.lemmas.List.{reverse-append, reverse-reverse, length-reverse, take-append-le}
use Rattle.image.specs.declared.image.Image.{Image}
use Rattle.x86_types.specs.declared.operand.Reg.{Reg}
use Rattle.x86_types.specs.declared.instr.Instr.{Instr}
use Rattle.x86_code.specs.Code.{Code}
use Rattle.plan_types.specs.declared.place.Place.{Place}
use Rattle.plan_types.specs.declared.table.Table.{Table}
use Rattle.plan_types.specs.Straight.{place_with, ends_run, unless_ended, straight_by, straight_run}
use Rattle.plan_types.specs.Tables.{table_jump, bound_behind, targets_by, table_of, table_at_head, table_in}
use Rattle.code_discovery.proofs.Members.{none_in, head_in, cases_in}

-- ---- a list that ends in an instruction that ends runs
abbrev EndsBy : Place → List Place → Type 0
EndsBy p [] = ends_run p.instr ≡ true
EndsBy p (q ∷ more) = EndsBy q more

abbrev pub Ends : List Place → Type 0
Ends [] = ⊥
Ends (p ∷ more) = EndsBy p more

ends_last_by : (p : Place) (before : List Place) (last : Place) → ends_run last.instr ≡ true → EndsBy p (before ++ last ∷ [])
ends_last_by p [] last e = e
ends_last_by p (q ∷ before) last e = ends_last_by q before last e

ends_last : (before : List Place) (last : Place) → ends_run last.instr ≡ true → Ends (before ++ last ∷ [])
ends_last [] last e = e
ends_last (p ∷ before) last e = ends_last_by p before last e

abbrev pub Jumps : Type 0
Jumps = (i : Instr) (index : Reg) (start : ℕ) → table_jump i ≡ Some (index, start) → ends_run i ≡ true

-- a run with a table ends in its jump
jump_at_head : Jumps → (image : Image) (p : Place) (before : List Place) (t : Table) (o : Option (Reg × ℕ)) → table_jump p.instr ≡ o → table_of image p.at before o ≡ Some t → ends_run p.instr ≡ true
jump_at_head jumps image p before t None e is = cc
jump_at_head jumps image p before t (Some j) e is = jumps p.instr j.0 j.1 e

ends_by_head : Jumps → (image : Image) (run turned : List Place) (t : Table) → reverse run ≡ turned → table_at_head image turned ≡ Some t → Ends run
ends_by_head jumps image run [] t e is = cc
ends_by_head jumps image run (p ∷ before) t e is =
    let back : reverse before ++ p ∷ [] ≡ run = sym (reverse-append (p ∷ []) before) ∙ (ap reverse (sym e) ∙ reverse-reverse run) in
    subst Ends back (ends_last (reverse before) p (jump_at_head jumps image p before t (table_jump p.instr) refl is))

pub table_ends : Jumps → (image : Image) (run : List Place) (t : Table) → table_in image run ≡ Some t → Ends run
unfolding table_in
table_ends jumps image run t is = ends_by_head jumps image run (reverse run) t refl is

-- ---- the table of a run is that of its last nine places
table_of_near : (image : Image) (jump : ℕ) (b x : List Place) (o : Option (Reg × ℕ)) → 8 ≤ length b → table_of image jump (b ++ x) o ≡ table_of image jump b o
table_of_near image jump b x None far = refl
table_of_near image jump b x (Some j) far =
    ap (λ (w : List Place). Some (record { jump = jump; start = j.1; targets = targets_by image j.1 (bound_behind j.0 false w) })) (take-append-le 8 b x far)

at_head_near : (image : Image) (r x : List Place) → 9 ≤ length r → table_at_head image (r ++ x) ≡ table_at_head image r
at_head_near image [] x far = absurd (omega arith)
at_head_near image (p ∷ b) x far = table_of_near image p.at b x (table_jump p.instr) (omega arith)

pub table_near : (image : Image) (before run : List Place) → 9 ≤ length run → table_in image (before ++ run) ≡ table_in image run
unfolding table_in
table_near image before run far =
    ap (λ (r : List Place). table_at_head image r) (reverse-append before run)
    ∙ at_head_near image (reverse run) (reverse before) (omega (arith, length-reverse run))

-- ---- a run that has ended stays as it is
same_by : (o : Option (Instr × ℕ)) (at m : ℕ) (rest more : ℕ → List Place)
    → ((next : ℕ) → Ends (rest next) → length (rest next) ≤ m → more next ≡ rest next) → Ends (straight_by o at rest) → length (straight_by o at rest) ≤ suc m → straight_by o at more ≡ straight_by o at rest
same_by None at m rest more later e few = refl
same_by (Some q) at m rest more later e few = same_unless (ends_run q.0) refl e few
  where
    same_rest : (run : List Place) → rest (at + q.1) ≡ run → ends_run q.0 ≡ false → EndsBy (place_with at q.0 q.1) run → Ends (rest (at + q.1))
    same_rest [] is on e = let no : ends_run q.0 ≡ true = e in cc
    same_rest (p ∷ others) is on e = subst Ends (sym is) e

    same_unless : (b : Bool) → ends_run q.0 ≡ b → EndsBy (place_with at q.0 q.1) (unless_ended b rest (at + q.1)) → suc (length (unless_ended b rest (at + q.1))) ≤ suc m
        → place_with at q.0 q.1 ∷ unless_ended b more (at + q.1) ≡ place_with at q.0 q.1 ∷ unless_ended b rest (at + q.1)
    same_unless true b e few = refl
    same_unless false b e few = ap (λ (run : List Place). place_with at q.0 q.1 ∷ run) (later (at + q.1) (same_rest (rest (at + q.1)) refl b e) (omega arith))

short : (run : List Place) → Ends run → length run ≤ 0 → ⊥
short [] e none = e
short (p ∷ run) e none = omega arith

-- as many instructions as it has are the run
pub ended_same : (code : Code) (n m at : ℕ) → Ends (straight_run code n at) → length (straight_run code n at) ≤ m → straight_run code m at ≡ straight_run code n at
unfolding straight_run
ended_same code zero m at e few = absurd e
ended_same code (suc n) zero at e few = absurd (short (straight_by (code at) at (λ next. straight_run code n next)) e few)
ended_same code (suc n) (suc m) at e few =
    same_by (code at) at m (λ next. straight_run code n next) (λ next. straight_run code m next) (λ next e few. ended_same code n m next e few) e few

-- ---- a run from a place of a run
-- the run from a place is the end of a run
pub record IsEndOfRun (code : Code) (at : ℕ) (run : List Place) : Type 0 where
  pub n : ℕ
  pub before : List Place
  pub is : straight_run code n at ≡ before ++ run

unended_end : (code : Code) (ended : Bool) (rest : ℕ → List Place) (next : ℕ) (p : Place) (run : List Place)
    → (Contains (rest next) p → IsEndOfRun code next run) → Contains (unless_ended ended rest next) p → (ended ≡ false) × IsEndOfRun code next run
unended_end code true rest next p run later c = absurd (none_in p c)
unended_end code false rest next p run later c = (refl, later c)

-- one instruction more before a run
longer_by : (code : Code) (at : ℕ) (q : Instr × ℕ) (run : List Place) → code at ≡ Some q → ends_run q.0 ≡ false → IsEndOfRun code (at + q.1) run → IsEndOfRun code at run
unfolding straight_run
longer_by code at q run stands on end = record {
  n = suc end.n;
  before = place_with at q.0 q.1 ∷ end.before;
  is = ap (λ o. straight_by o at (λ next. straight_run code end.n next)) stands
      ∙ (ap (λ b. place_with at q.0 q.1 ∷ unless_ended b (λ next. straight_run code end.n next) (at + q.1)) on
      ∙ ap (λ (more : List Place). place_with at q.0 q.1 ∷ more) end.is);
}

end_by : (code : Code) (at m : ℕ) (o : Option (Instr × ℕ)) → code at ≡ o → (rest : ℕ → List Place)
    → ((next : ℕ) (p : Place) → Contains (rest next) p → IsEndOfRun code next (straight_run code m p.at))
    → (p : Place) → Contains (straight_by o at rest) p → IsEndOfRun code at (straight_run code m p.at)
end_by code at m None stands rest later p c = absurd (none_in p c)
end_by code at m (Some q) stands rest later p c = elim (cases_in (place_with at q.0 q.1) (unless_ended (ends_run q.0) rest (at + q.1)) p c) [
  | inl same ↦ record { n = m; before = []; is = ap (λ (r : Place). straight_run code m r.at) same }
  | inr more ↦
      let next = unended_end code (ends_run q.0) rest (at + q.1) p (straight_run code m p.at) (λ c. later (at + q.1) p c) more in
      longer_by code at q (straight_run code m p.at) stands next.0 next.1
]

-- what stands from a place of a run on is the end of a run
pub end_of_run : (code : Code) (n m at : ℕ) (p : Place) → Contains (straight_run code n at) p → IsEndOfRun code at (straight_run code m p.at)
unfolding straight_run
end_of_run code zero m at p c = absurd (none_in p c)
end_of_run code (suc n) m at p c = end_by code at m (code at) refl (λ next. straight_run code n next) (λ next q c. end_of_run code n m next q c) p c

-- a run begins with the instruction that stands at its address
pub begins : (code : Code) (n at : ℕ) (q : Instr × ℕ) → code at ≡ Some q → Contains (straight_run code (suc n) at) (place_with at q.0 q.1)
unfolding straight_run
begins code n at q e =
    subst (λ o. Contains (straight_by o at (λ next. straight_run code n next)) (place_with at q.0 q.1)) (sym e)
    (head_in (place_with at q.0 q.1) (unless_ended (ends_run q.0) (λ next. straight_run code n next) (at + q.1)))

few_by : (o : Option (Instr × ℕ)) (at n : ℕ) (rest : ℕ → List Place) → ((next : ℕ) → length (rest next) ≤ n) → length (straight_by o at rest) ≤ suc n
few_by None at n rest few = omega arith
few_by (Some q) at n rest few = few_unless (ends_run q.0)
  where
    few_unless : (b : Bool) → suc (length (unless_ended b rest (at + q.1))) ≤ suc n
    few_unless true = omega arith
    few_unless false = let h = few (at + q.1) in omega arith

-- a run has at most as many instructions as it may have
pub few_in_run : (code : Code) (n at : ℕ) → length (straight_run code n at) ≤ n
unfolding straight_run
few_in_run code zero at = omega arith
few_in_run code (suc n) at = few_by (code at) at n (λ next. straight_run code n next) (λ next. few_in_run code n next)
