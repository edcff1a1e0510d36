-- What stands in a straight run.
use Rattle.std.proofs.Common.{◌≡◌, ℕ, zero, suc, ◌+◌, Bool, true, false, List, [], ◌∷◌, ◌++◌, Contains, Option, Some, None, refl, ap, subst, inl, inr}
use Rattle.x86_types.specs.declared.instr.Instr.{Instr}
use Rattle.x86_code.specs.Code.{Code}
use Rattle.plan_types.specs.declared.place.Place.{Place}
use Rattle.plan_types.specs.Straight.{place_with, ends_run, unless_ended, straight_by, straight_run}
use Rattle.plan_types.specs.Leading.{next_of}
use Rattle.plan_types.proofs.Members.{none_in, head_in, tail_in, cases_in}

-- the instruction of a place stands there
abbrev pub StandsThere : Code → Place → Type 0
StandsThere code p = code p.at ≡ Some (p.instr, p.len)

unended_in : (ended : Bool) (rest : ℕ → List Place) (next : ℕ) (p : Place) → Contains (unless_ended ended rest next) p → Contains (rest next) p
unended_in true rest next p c = absurd (none_in p c)
unended_in false rest next p c = c

stands_by : (code : Code) (o : Option (Instr × ℕ)) (at : ℕ) (rest : ℕ → List Place) → code at ≡ o → ((next : ℕ) (q : Place) → Contains (rest next) q → StandsThere code q) → (p : Place) → Contains (straight_by o at rest) p → StandsThere code p
stands_by code None at rest e later p c = absurd (none_in p c)
stands_by code (Some q) at rest e later p c = elim (cases_in (place_with at q.0 q.1) (unless_ended (ends_run q.0) rest (at + q.1)) p c) [
  | inl same ↦ subst (λ r. StandsThere code r) same e
  | inr more ↦ later (at + q.1) p (unended_in (ends_run q.0) rest (at + q.1) p more)
]

-- each place of a run has the instruction that stands there
pub stands_in : (code : Code) (n at : ℕ) (p : Place) → Contains (straight_run code n at) p → StandsThere code p
unfolding straight_run
stands_in code zero at p c = absurd (none_in p c)
stands_in code (suc n) at p c = stands_by code (code at) at (λ next. straight_run code n next) refl (λ next q. stands_in code n next q) p c

begins_by : (o : Option (Instr × ℕ)) (at : ℕ) (rest : ℕ → List Place) (q : Instr × ℕ) → o ≡ Some q → Contains (straight_by o at rest) (place_with at q.0 q.1)
begins_by None at rest q e = cc
begins_by (Some p) at rest q e = let same : p ≡ q = cc in subst (λ r. Contains (straight_by (Some p) at rest) (place_with at r.0 r.1)) same (head_in (place_with at p.0 p.1) (unless_ended (ends_run p.0) rest (at + p.1)))

-- a run begins with the instruction that stands at its address
pub begins : (code : Code) (n at : ℕ) (q : Instr × ℕ) → code at ≡ Some q → Contains (straight_run code (suc n) at) (place_with at q.0 q.1)
unfolding straight_run
begins code n at q e = begins_by (code at) at (λ next. straight_run code n next) q e

-- the next instruction behind one that ends no run
abbrev Next : Code → Place → Instr × ℕ → List Place → Type 0
Next code p q run = ends_run p.instr ≡ false → code (next_of p) ≡ Some q → Contains run (place_with (next_of p) q.0 q.1)

-- of what follows an instruction, in a run and in one that may have an instruction more
unended_on : (code : Code) (ended : Bool) (rest longer : ℕ → List Place) (next : ℕ) (p : Place) (q : Instr × ℕ)
    → ((p : Place) → Contains (rest next) p → Next code p q (longer next))
    → Contains (unless_ended ended rest next) p → Next code p q (unless_ended ended longer next)
unended_on code true rest longer next p q later c = absurd (none_in p c)
unended_on code false rest longer next p q later c = later p c

head_on : (code : Code) (ended : Bool) (longer : ℕ → List Place) (next : ℕ) (q : Instr × ℕ)
    → ((at : ℕ) → code at ≡ Some q → Contains (longer at) (place_with at q.0 q.1))
    → ended ≡ false → code next ≡ Some q → Contains (unless_ended ended longer next) (place_with next q.0 q.1)
head_on code true longer next q first e stands = cc
head_on code false longer next q first e stands = first next stands

goes_on_by : (code : Code) (o : Option (Instr × ℕ)) (at : ℕ) (rest longer : ℕ → List Place) (q : Instr × ℕ)
    → ((at : ℕ) → code at ≡ Some q → Contains (longer at) (place_with at q.0 q.1))
    → ((next : ℕ) (p : Place) → Contains (rest next) p → Next code p q (longer next))
    → (p : Place) → Contains (straight_by o at rest) p → Next code p q (straight_by o at longer)
goes_on_by code None at rest longer q first later p c = absurd (none_in p c)
goes_on_by code (Some i) at rest longer q first later p c = λ ended stands. elim (cases_in (place_with at i.0 i.1) (unless_ended (ends_run i.0) rest (at + i.1)) p c) [
  | inl same ↦ tail_in (place_with at i.0 i.1) (unless_ended (ends_run i.0) longer (at + i.1)) (place_with (next_of p) q.0 q.1)
      (subst (λ r. ends_run r.instr ≡ false → code (next_of r) ≡ Some q → Contains (unless_ended (ends_run i.0) longer (at + i.1)) (place_with (next_of r) q.0 q.1)) same
      (λ ended stands. head_on code (ends_run i.0) longer (at + i.1) q first ended stands) ended stands)
  | inr more ↦ tail_in (place_with at i.0 i.1) (unless_ended (ends_run i.0) longer (at + i.1)) (place_with (next_of p) q.0 q.1)
      (unended_on code (ends_run i.0) rest longer (at + i.1) p q (λ p c. later (at + i.1) p c) more ended stands)
]

-- behind an instruction that ends no run the next one stands in a run that may have one more
pub goes_on : (code : Code) (n at : ℕ) (p : Place) (q : Instr × ℕ) → Contains (straight_run code n at) p → Next code p q (straight_run code (suc n) at)
unfolding straight_run
goes_on code zero at p q c = absurd (none_in p c)
goes_on code (suc n) at p q c = goes_on_by code (code at) at (λ next. straight_run code n next) (λ next. straight_run code (suc n) next) q (λ at e. begins code n at q e) (λ next p c. goes_on code n next p q c) p c

-- an instruction is the last of a list
pub record IsLast (run : List Place) (p : Place) : Type 0 where
  pub before : List Place
  pub is : run ≡ before ++ p ∷ []

unended_last : (ended : Bool) (rest : ℕ → List Place) (next : ℕ) (p : Place) → ((p : Place) → Contains (rest next) p → ends_run p.instr ≡ true → IsLast (rest next) p) → Contains (unless_ended ended rest next) p → ends_run p.instr ≡ true → IsLast (unless_ended ended rest next) p
unended_last true rest next p later c e = absurd (none_in p c)
unended_last false rest next p later c e = later p c e

alone_last : (ended : Bool) (rest : ℕ → List Place) (next : ℕ) (p : Place) → ended ≡ true → IsLast (p ∷ unless_ended ended rest next) p
alone_last true rest next p e = record { before = []; is = refl }
alone_last false rest next p e = cc

last_by : (o : Option (Instr × ℕ)) (at : ℕ) (rest : ℕ → List Place) → ((next : ℕ) (p : Place) → Contains (rest next) p → ends_run p.instr ≡ true → IsLast (rest next) p) → (p : Place) → Contains (straight_by o at rest) p → ends_run p.instr ≡ true → IsLast (straight_by o at rest) p
last_by None at rest later p c e = absurd (none_in p c)
last_by (Some i) at rest later p c e = elim (cases_in (place_with at i.0 i.1) (unless_ended (ends_run i.0) rest (at + i.1)) p c) [
  | inl same ↦ subst (λ r. ends_run r.instr ≡ true → IsLast (place_with at i.0 i.1 ∷ unless_ended (ends_run i.0) rest (at + i.1)) r) same
      (λ e. alone_last (ends_run i.0) rest (at + i.1) (place_with at i.0 i.1) e) e
  | inr more ↦ let l = unended_last (ends_run i.0) rest (at + i.1) p (λ p c e. later (at + i.1) p c e) more e in
      record { before = place_with at i.0 i.1 ∷ l.before; is = ap (λ r. place_with at i.0 i.1 ∷ r) l.is }
]

-- an instruction that ends a run is its last one
pub last_in : (code : Code) (n at : ℕ) (p : Place) → Contains (straight_run code n at) p → ends_run p.instr ≡ true → IsLast (straight_run code n at) p
unfolding straight_run
last_in code zero at p c e = absurd (none_in p c)
last_in code (suc n) at p c e = last_by (code at) at (λ next. straight_run code n next) (λ next p c e. last_in code n next p c e) p c e
