-- What an agreement says, and how one direction of it gives both.
use Rattle.std.specs.Prelude.{◌≡◌, ◌≢◌, ℕ, ◌*◌, ◌≤◌, Some}
use Rattle.traces.specs.Trace.{Seen, End, Unspecified, Behaviour, Grows}
use Rattle.traces.specs.Turns.{ShowsByTurns}
use Rattle.traces.specs.Agree.{Covers, Costs, Follows, Agrees, Agree, Unmarked}
use Rattle.traces.specs.Plain.{AgreePlainly, NeverEnds, NeverStops}

-- the laws of agreement
pub record AgreementLaws : Type 0 where
  -- within n turns a run shows one thing
  pub shows_once : (R : Behaviour) → Grows R → (n : ℕ) (s t : Seen) → ShowsByTurns R n s → ShowsByTurns R n t → s ≡ t
  -- a simulation is an agreement, since a guard event only adds one to n
  pub follows_agrees : (a b : ℕ) (C R : Behaviour) → Covers (Follows a b) C R → Covers (Agrees a b) C R
  -- an agreement holds of each first run with the same events and ends
  pub agrees_unmarked : (a b : ℕ) (C D R : Behaviour) → ((n : ℕ) → Unmarked (C n) (D n)) → Covers (Agrees a b) C R → Covers (Agrees a b) D R
  -- one direction of an agreement gives the other, since the second run only grows
  pub one_direction : (a b : ℕ) (C R : Behaviour) → Grows R → Covers (Agrees a b) C R → Agree a b C R
  -- an agreement is one as a reader would ask for it
  pub says_plainly : (a b : ℕ) (C R : Behaviour) → NeverStops C → Agree a b C R → AgreePlainly a b C R
  -- a simulation gives an agreement as a reader would ask for it, with any greater numbers
  pub follows_plainly : (a b a' b' : ℕ) (C R : Behaviour) → a ≤ a' → b ≤ b' → Grows R → NeverStops C → Covers (Follows a b) C R → AgreePlainly a' b' C R
  -- a simulation by a clock that tells at most a' * n gives one too
  pub costs_plainly : (clock : ℕ → ℕ) (b a' b' : ℕ) (C R : Behaviour) → ((n : ℕ) → clock n ≤ a' * n) → b ≤ b' → Grows R → NeverStops C → Covers (Costs clock b) C R → AgreePlainly a' b' C R
  -- one direction of an agreement gives one too
  pub agrees_plainly : (a b a' b' : ℕ) (C R : Behaviour) → a ≤ a' → b ≤ b' → Grows R → NeverStops C → Covers (Agrees a b) C R → AgreePlainly a' b' C R
  -- where the first run never ends the second doesn't either
  pub neither_ends : (a b : ℕ) (C R : Behaviour) → AgreePlainly a b C R → NeverEnds C → NeverEnds R
  -- where the second run never ends the first ends, if at all, by the use of an unspecified value
  pub neither_ended : (a b : ℕ) (C R : Behaviour) → AgreePlainly a b C R → NeverEnds R → (n : ℕ) (e : End) → (C n).end ≡ Some e → e ≢ Unspecified → ⊥
