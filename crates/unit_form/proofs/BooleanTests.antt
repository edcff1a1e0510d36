-- A test is true exactly where a fact holds.
use Rattle.std.proofs.Common.{◌≡◌, ℕ, ◌<◌, ◌&&◌, Bool, true, false, ltb, List, [], ◌∷◌, length, get_or, refl}
use Rattle.std.specs.Prelude.{◌↔◌, ◌==◌, map}
use Rattle.std.specs.List.{All, Contains, list_all, list_any}
use Rattle.std.proofs.lemmas.Bool.{ltb-true, lt-ltb, eqb-true, eq-eqb, and_parts, and_from, false≢true}
use Rattle.std.proofs.lemmas.List.Sums.{AllPass-from_list_all, list_all-from_AllPass}

pub true_exact : (true ≡ true) ↔ Unit {0}
true_exact = (λ _. tt, λ _. refl)

pub false_exact : (false ≡ true) ↔ ⊥
false_exact = (λ e. false≢true e, λ v. absurd v)

pub below_exact : (m n : ℕ) → (ltb m n ≡ true) ↔ (m < n)
below_exact m n = (ltb-true m n, lt-ltb m n)

pub same_exact : (b : Bool) → (b ≡ true) ↔ (b ≡ true)
same_exact b = (λ e. e, λ e. e)

pub and_exact : {P Q : Type 0} (x y : Bool) → ((x ≡ true) ↔ P) → ((y ≡ true) ↔ Q) → ((x && y) ≡ true) ↔ (P × Q)
and_exact x y f g = (λ e. let both = and_parts x y e in (f.0 both.0, g.0 both.1), λ h. and_from x y (f.1 h.0) (g.1 h.1))

pub three : {P Q R : Type 0} {b : Bool} → ((b ≡ true) ↔ (P × (Q × R))) → (b ≡ true) ↔ (P × Q × R)
three f = (λ e. let h = f.0 e in (h.0, h.1.0, h.1.1), λ h. f.1 (h.0, (h.1, h.2)))

pub four : {P Q R S : Type 0} {b : Bool} → ((b ≡ true) ↔ (P × (Q × (R × S)))) → (b ≡ true) ↔ (P × Q × R × S)
four f = (λ e. let h = f.0 e in (h.0, h.1.0, h.1.1.0, h.1.1.1), λ h. f.1 (h.0, (h.1, (h.2, h.3))))

pub six : {P Q R S T U : Type 0} {b : Bool} → ((b ≡ true) ↔ (P × (Q × (R × (S × (T × U)))))) → (b ≡ true) ↔ (P × Q × R × S × T × U)
six f = (λ e. let h = f.0 e in (h.0, h.1.0, h.1.1.0, h.1.1.1.0, h.1.1.1.1.0, h.1.1.1.1.1), λ h. f.1 (h.0, (h.1, (h.2, (h.3, (h.4, h.5))))))

pub all_exact : {X : Type 0} (p : X → Bool) (P : X → Type 0) (xs : List X) → ((x : X) → (p x ≡ true) ↔ P x) → (list_all p xs ≡ true) ↔ All P xs
all_exact p P xs f = (
  λ e k d h. (f (get_or xs k d)).0 (AllPass-from_list_all p xs e k d h),
  λ all. list_all-from_AllPass p xs (λ k d h. (f (get_or xs k d)).1 (all k d h)),
)
