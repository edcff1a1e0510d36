-- A list that ascends by a number of its elements is known by its elements.
use Rattle.std.proofs.Common.{◌≡◌, ◌↔◌, ℕ, suc, ◌<◌, List, [], ◌∷◌, length, get_or, map, Contains, AllPairs, refl, sym, ap, ◌∙◌, subst, inl, inr, arith}
use Rattle.std.specs.List.Sorted.{IsStrictlyIncreasing}
use Rattle.std.proofs.lemmas.List.{get_or-map, length-map, map-id}
use Rattle.std.proofs.lemmas.List.Kept.{AllPairs-from_increasing}
use Rattle.plan_types.proofs.Members.{none_in, head_in, tail_in, cases_in}

-- each number is below those of the elements behind it
abbrev pub Rises : {X : Type 0} → (X → ℕ) → List X → Type 0
Rises key [] = Unit {0}
Rises {X} key (x ∷ xs) = ((y : X) → Contains xs y → key x < key y) × Rises key xs

rises_by_pairs : {X : Type 0} (key : X → ℕ) (xs : List X) → AllPairs (λ a b. a < b) (map key xs) → Rises key xs
rises_by_pairs key [] pairs = tt
rises_by_pairs key (x ∷ xs) pairs = (
  λ y c. let low : suc c.0 < length (map key (x ∷ xs)) = omega (arith, length-map xs key, c.1) in
      let below = pairs 0 (suc c.0) 0 (omega arith) low in
      let is : get_or (map key xs) c.0 0 ≡ key y = get_or-map key xs c.0 y 0 c.1 ∙ ap key c.2 in
      subst (λ n. key x < n) is below,
  rises_by_pairs key xs (λ i j d before low. pairs (suc i) (suc j) d (omega arith) (omega arith)),
)

pub rises : {X : Type 0} (key : X → ℕ) (xs : List X) → IsStrictlyIncreasing (map key xs) → Rises key xs
rises key xs up = rises_by_pairs key xs (AllPairs-from_increasing (map key xs) up)

pub rises_itself : (xs : List ℕ) → IsStrictlyIncreasing xs → Rises (λ (x : ℕ). x) xs
rises_itself xs up = rises (λ (x : ℕ). x) xs (subst IsStrictlyIncreasing (sym (map-id xs)) up)

-- the elements of one are those of the other
abbrev pub SameElements : {X : Type 0} → List X → List X → Type 0
SameElements {X} xs ys = (x : X) → Contains xs x ↔ Contains ys x

same_head : {X : Type 0} (key : X → ℕ) (x : X) (xs : List X) (y : X) (ys : List X) → Rises key (x ∷ xs) → Rises key (y ∷ ys) → SameElements (x ∷ xs) (y ∷ ys) → x ≡ y
same_head key x xs y ys rx ry same =
    elim (cases_in y ys x ((same x).0 (head_in x xs))) [
      | inl e ↦ sym e
      | inr x_later ↦ elim (cases_in x xs y ((same y).1 (head_in y ys))) [
        | inl e ↦ e
        | inr y_later ↦ let one : key y < key x = ry.0 x x_later in let two : key x < key y = rx.0 y y_later in absurd (omega arith)
      ]
    ]

-- an element of the rest of one is in the rest of the other
later_in : {X : Type 0} (key : X → ℕ) (x : X) (xs ys : List X) → Rises key (x ∷ xs) → ((z : X) → Contains (x ∷ xs) z → Contains (x ∷ ys) z) → (z : X) → Contains xs z → Contains ys z
later_in key x xs ys rx into z c =
    elim (cases_in x ys z (into z (tail_in x xs z c))) [
      | inl e ↦ let below : key x < key z = rx.0 z c in let same : key x ≡ key z = ap key e in absurd (omega arith)
      | inr more ↦ more
    ]

pub same_list : {X : Type 0} (key : X → ℕ) (xs ys : List X) → Rises key xs → Rises key ys → SameElements xs ys → xs ≡ ys
same_list key [] [] rx ry same = refl
same_list key [] (y ∷ ys) rx ry same = absurd (none_in y ((same y).1 (head_in y ys)))
same_list key (x ∷ xs) [] rx ry same = absurd (none_in x ((same x).0 (head_in x xs)))
same_list {X} key (x ∷ xs) (y ∷ ys) rx ry same =
    let e : x ≡ y = same_head key x xs y ys rx ry same in
    let there : SameElements (x ∷ xs) (x ∷ ys) = subst (λ z. SameElements (x ∷ xs) (z ∷ ys)) (sym e) same in
    let up : Rises key (x ∷ ys) = subst (λ z. Rises key (z ∷ ys)) (sym e) ry in
    let rest : xs ≡ ys = same_list key xs ys rx.1 ry.1 (λ z. (later_in key x xs ys rx (λ z c. (there z).0 c) z, later_in key x ys xs up (λ z c. (there z).1 c) z)) in
    cc
