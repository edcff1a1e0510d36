-- One thing after the other is looked at, until all has been.
use Rattle.std.proofs.Common.{◌≡◌, ◌⊎◌, ℕ, ◌+◌, List, [], ◌∷◌, ◌++◌, length, Contains, Some, None, refl, sym, ap, ◌∙◌, subst, inl, inr}
use Rattle.std.proofs.lemmas.List.{length_push}
use Rattle.std.proofs.lemmas.List.Elements.{Contains-append_left, Contains-push, Contains-push_cases}
use Rattle.image.specs.declared.image.Image.{Image}
use Rattle.code_discovery.specs.declared.work.Work.{Work}
use Rattle.code_discovery.specs.declared.work.Work.TheVariants.{Instruction, Leader}
use Rattle.code_discovery.specs.Kept.{FoundSoFar, IsWorkKept, IsSoundSoFar}
use Rattle.code_discovery.specs.Popped.{with_todo, IsWithout}
use Rattle.code_discovery.specs.Settled.{IsSettledCode, IsSettledLeader, IsSettling, IsClosed, KeepsFound, looked_at}
use Rattle.code_discovery.proofs.Members.{none_in}
use Rattle.code_discovery.proofs.Growth.{as_long_itself, place_still, covered_still}

-- ---- what was looked at is done
pub code_done : (image : Image) (k : FoundSoFar) (at : ℕ) → IsSettling image k (Some (Instruction at)) → IsSettledCode image k at → IsSettling image k None
code_done image k at s settled = record {
  code = λ a c. elim (s.code a c) [
    | inl done ↦ inl done
    | inr later ↦ elim later [
      | inl todo ↦ inr (inl todo)
      | inr is ↦ let same : at ≡ a = cc in inl (subst (λ n. IsSettledCode image k n) same settled)
    ]
  ];
  leaders = λ a c. elim (s.leaders a c) [
    | inl done ↦ inl done
    | inr later ↦ elim later [ inl todo ↦ inr (inl todo) | inr is ↦ absurd (let no : ⊥ = cc in no) ]
  ];
}

pub leader_done : (image : Image) (k : FoundSoFar) (at : ℕ) → IsSettling image k (Some (Leader at)) → IsSettledLeader image k at → IsSettling image k None
leader_done image k at s settled = record {
  code = λ a c. elim (s.code a c) [
    | inl done ↦ inl done
    | inr later ↦ elim later [ inl todo ↦ inr (inl todo) | inr is ↦ absurd (let no : ⊥ = cc in no) ]
  ];
  leaders = λ a c. elim (s.leaders a c) [
    | inl done ↦ inl done
    | inr later ↦ elim later [
      | inl todo ↦ inr (inl todo)
      | inr is ↦ let same : at ≡ a = cc in inl (subst (λ n. IsSettledLeader image k n) same settled)
    ]
  ];
}

-- ---- the next is taken
pub record IsTaken (image : Image) (old : FoundSoFar) (w : Work) (new : FoundSoFar) : Type 0 where
  pub sound : IsSoundSoFar image new
  pub kept : IsWorkKept new w
  pub settling : IsSettling image new (Some w)
  pub grows : KeepsFound old new
  pub stored : new.stored ≡ old.stored
  pub sized : length old.todo ≡ length new.todo + 1
  pub looked : looked_at new ≡ looked_at old

open_or : (rest : List Work) (w v : Work) → Contains (rest ++ w ∷ []) v ⊎ (None ≡ Some v) → Contains rest v ⊎ (Some w ≡ Some v)
open_or rest w v (inl c) = elim (Contains-push_cases rest w v c) [ inl there ↦ inl there | inr same ↦ inr (ap Some same) ]
open_or rest w v (inr is) = absurd (let no : ⊥ = cc in no)

module _ (image : Image) (k : FoundSoFar) (rest : List Work) (w : Work) (was : k.todo ≡ rest ++ w ∷ []) (sound : IsSoundSoFar image k) (s : IsSettling image k None) where
  todo_grows : KeepsFound k (with_todo k rest)
  todo_grows = record { code = λ a c. c; leaders = λ a c. c; procs = λ a c. c; tables = λ t c. as_long_itself k.tables t c }

  kept_rest : (v : Work) → IsWorkKept k v → IsWorkKept (with_todo k rest) v
  kept_rest (Instruction a) c = c
  kept_rest (Leader a) c = c

  todo_was : (v : Work) → Contains (rest ++ w ∷ []) v → IsWorkKept (with_todo k rest) v
  todo_was v c = kept_rest v (sound.todo v (subst (λ (ws : List Work). Contains ws v) (sym was) c))

  code_later : (a : ℕ) → IsSettledCode image k a → IsSettledCode image (with_todo k rest) a
  code_later a settled = λ p at e. place_still image k (with_todo k rest) todo_grows p (settled p at e)

  leader_later : (a : ℕ) → IsSettledLeader image k a → IsSettledLeader image (with_todo k rest) a
  leader_later a settled = λ t e. covered_still image k (with_todo k rest) todo_grows t (settled t e)

  taken_by : IsTaken image k w (with_todo k rest)
  taken_by = record {
    sound = record {
      code = λ a c. sound.code a c;
      leaders = λ a c. let led = sound.leaders a c in record { leader = led.leader; code = led.code };
      procs = λ a c. let named = sound.procs a c in record { procedure = named.procedure; leads = named.leads };
      tables = λ t c. sound.tables t c;
      todo = λ v c. todo_was v (Contains-append_left rest (w ∷ []) v c);
    };
    kept = todo_was w (Contains-push rest w);
    settling = record {
      code = λ a c. elim (s.code a c) [
        | inl done ↦ inl (code_later a done)
        | inr later ↦ inr (open_or rest w (Instruction a) (subst (λ (ws : List Work). Contains ws (Instruction a) ⊎ (None ≡ Some (Instruction a))) was later))
      ];
      leaders = λ a c. elim (s.leaders a c) [
        | inl done ↦ inl (leader_later a done)
        | inr later ↦ inr (open_or rest w (Leader a) (subst (λ (ws : List Work). Contains ws (Leader a) ⊎ (None ≡ Some (Leader a))) was later))
      ];
    };
    grows = todo_grows;
    stored = refl;
    sized = ap (λ (ws : List Work). length ws) was ∙ length_push rest w;
    looked = refl;
  }

pub taken : (image : Image) (old : FoundSoFar) (w : Work) (new : FoundSoFar) → IsWithout old w new → IsSoundSoFar image old → IsSettling image old None → IsTaken image old w new
taken image old w new popped sound s = subst (λ (k : FoundSoFar). IsTaken image old w k) (sym popped.is) (taken_by image old popped.rest w popped.was sound s)

-- ---- nothing is left
none_left : (todo : List Work) (v : Work) → todo ≡ [] → Contains todo v ⊎ (None ≡ Some v) → ⊥
none_left todo v empty (inl c) = none_in v (subst (λ (ws : List Work). Contains ws v) empty c)
none_left todo v empty (inr is) = let no : ⊥ = cc in no

pub all_closed : (image : Image) (k : FoundSoFar) → k.todo ≡ [] → IsSettling image k None → IsClosed image k
all_closed image k empty s = record {
  code = λ a c. elim (s.code a c) [ inl done ↦ done | inr later ↦ absurd (none_left k.todo (Instruction a) empty later) ];
  leaders = λ a c. elim (s.leaders a c) [ inl done ↦ done | inr later ↦ absurd (none_left k.todo (Leader a) empty later) ];
}
