-- What is in a map of files after one was stored.
use Rattle.std.proofs.Common.{◌≡◌, ◌≢◌, ℕ, false, cond, List, Some, refl, ap, ◌∙◌}
use Rattle.std.specs.Ordering.{nat_cmp}
use Rattle.std.specs.Cmp.Lexicographic.{slice_cmp}
use Rattle.std.proofs.lemmas.Cmp.{nat_list_cmp_total, tied_itself}
use Rattle.std.specs.FinMap.{get, insert, get-insert, nat_cmp-IsAntisymmetric, slice_cmp-IsAntisymmetric}
use Rattle.std.specs.declared.cmp.Ordering.{Ordering}
use Rattle.std.specs.declared.cmp.Ordering.TheVariants.{Less, Equal, Greater}
use Rattle.std.specs.Ordering.{is_eq}
use Rattle.sw_host.specs.Told.{Files}

-- the stored file
pub get-insert_same : (m : Files) (name bytes : List ℕ) → get (insert m name bytes) name ≡ Some bytes
get-insert_same m name bytes =
    get-insert nat_list_cmp_total m name bytes name ∙ ap (λ o. cond (is_eq o) (Some bytes) (get m name)) (tied_itself nat_list_cmp_total name)

-- names that the order tells apart
untied : (o : Ordering) → (o ≡ Equal → ⊥) → is_eq o ≡ false
untied Less apart = refl
untied Equal apart = absurd (apart refl)
untied Greater apart = refl

-- another file
pub get-insert_other : (m : Files) (name bytes q : List ℕ) → q ≢ name → get (insert m name bytes) q ≡ get m q
get-insert_other m name bytes q other =
    get-insert nat_list_cmp_total m name bytes q ∙ ap (λ b. cond b (Some bytes) (get m q)) (untied (slice_cmp nat_cmp q name) (λ e. other (slice_cmp-IsAntisymmetric nat_cmp-IsAntisymmetric q name e)))

pub ruleset stored = (get-insert_same, get-insert_other)
