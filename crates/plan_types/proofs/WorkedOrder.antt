-- Found code that is worked by hand ascends.
use Rattle.std.proofs.Common.{◌≡◌, ℕ, zero, suc, ◌+◌, ◌<◌, ◌&&◌, Bool, true, List, [], ◌∷◌, get_or, map, ltb, refl, sym, subst, arith}
use Rattle.std.specs.List.Sorted.{IsStrictlyIncreasing}
use Rattle.std.proofs.lemmas.Bool.{and_parts, ltb-true}
use Rattle.plan_types.specs.declared.place.Place.{Place}
use Rattle.plan_types.specs.declared.table.Table.{Table}
use Rattle.plan_types.specs.Ascending.{addresses_of, Ascends}
use Rattle.plan_types.specs.Worked.{worked_addresses, worked_procedures}

-- whether each number is below the next
abbrev goes_up : List ℕ → Bool
goes_up [] = true
goes_up (x ∷ []) = true
goes_up (x ∷ y ∷ xs) = ltb x y && goes_up (y ∷ xs)

increases : (xs : List ℕ) → goes_up xs ≡ true → IsStrictlyIncreasing xs
increases [] e k low = absurd (omega arith)
increases (x ∷ []) e k low = absurd (omega arith)
increases (x ∷ y ∷ xs) e zero low = ltb-true x y (and_parts (ltb x y) (goes_up (y ∷ xs)) e).0
increases (x ∷ y ∷ xs) e (suc k) low =
    let on : suc (k + 1) ≡ suc k + 1 = omega arith in
    subst (λ n. get_or (y ∷ xs) k 0 < get_or (x ∷ y ∷ xs) n 0) on (increases (y ∷ xs) (and_parts (ltb x y) (goes_up (y ∷ xs)) e).1 k (omega arith))

pub worked_ascends : (code : List Place) (procs : List ℕ) (tables : List Table) → addresses_of code ≡ worked_addresses → procs ≡ worked_procedures → tables ≡ [] → Ascends code procs tables
worked_ascends code procs tables c p t = record {
  by_place = subst (λ (xs : List ℕ). IsStrictlyIncreasing xs) (sym c) (increases worked_addresses refl);
  by_procedure = subst (λ (xs : List ℕ). IsStrictlyIncreasing xs) (sym p) (increases worked_procedures refl);
  by_jump = subst (λ (ts : List Table). IsStrictlyIncreasing (map (λ (t : Table). t.jump) ts)) (sym t) (increases [] refl);
}
