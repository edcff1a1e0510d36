-- What a list has among its elements.
use Rattle.std.proofs.Common.{◌≡◌, ◌⊎◌, ℕ, zero, suc, ◌<◌, Bool, true, false, cond, List, [], ◌∷◌, map, reverse, find, Contains, Option, Some, None, refl, ap, ◌∙◌, subst, inl, inr, arith}
use Rattle.std.specs.Option.{IsSome}
use Rattle.std.proofs.lemmas.Bool.{cases_eq}
use Rattle.std.proofs.lemmas.List.{get_or-map, length-map}
use Rattle.std.proofs.lemmas.List.Elements.{Contains-append_right}
use Rattle.std.proofs.lemmas.List.Sorted.{IsPermutation-reverse, IsPermutation-sym, Contains-permutation}

pub none_in : {X : Type 0} (x : X) → Contains [] x → ⊥
none_in x c = let low : c.0 < 0 = c.1 in omega arith

pub head_in : {X : Type 0} (x : X) (xs : List X) → Contains (x ∷ xs) x
head_in x xs = (0, omega arith, refl)

pub tail_in : {X : Type 0} (x : X) (xs : List X) (y : X) → Contains xs y → Contains (x ∷ xs) y
tail_in x xs y c = Contains-append_right (x ∷ []) xs y c

pub cases_in : {X : Type 0} (x : X) (xs : List X) (y : X) → Contains (x ∷ xs) y → (x ≡ y) ⊎ Contains xs y
cases_in x xs y (zero, low, is) = inl is
cases_in x xs y (suc k, low, is) = inr (k, omega arith, is)

pub only_in : {X : Type 0} (x y : X) → Contains (x ∷ []) y → x ≡ y
only_in x y c = elim (cases_in x [] y c) [ inl e ↦ e | inr more ↦ absurd (none_in y more) ]

-- what a function gives of an element
pub map_in : {X Y : Type 0} (f : X → Y) (xs : List X) (x : X) → Contains xs x → Contains (map f xs) (f x)
map_in f xs x c = (c.0, omega (arith, length-map xs f, c.1), get_or-map f xs c.0 x (f x) c.1 ∙ ap f c.2)

-- an element of which a function gives this
pub record IsMapped {X Y : Type 0} (f : X → Y) (xs : List X) (y : Y) : Type 0 where
  pub of : X
  pub among : Contains xs of
  pub gives : f of ≡ y

pub mapped_in : {X Y : Type 0} (f : X → Y) (xs : List X) (y : Y) → Contains (map f xs) y → IsMapped f xs y
mapped_in f [] y c = absurd (none_in y c)
mapped_in f (x ∷ xs) y c = elim (cases_in (f x) (map f xs) y c) [
  | inl e ↦ record { of = x; among = head_in x xs; gives = e }
  | inr more ↦ let m = mapped_in f xs y more in record { of = m.of; among = tail_in x xs m.of m.among; gives = m.gives }
]

pub reverse_in : {X : Type 0} (xs : List X) (x : X) → Contains (reverse xs) x → Contains xs x
reverse_in xs x c = Contains-permutation (reverse xs) xs x (IsPermutation-sym xs (reverse xs) (IsPermutation-reverse xs)) c

-- the first that passes a test is one, and passes it
pub found_in : {X : Type 0} (test : X → Bool) (xs : List X) (x : X) → find test xs ≡ Some x → Contains xs x × (test x ≡ true)
found_in test [] x e = cc
found_in test (y ∷ ys) x e =
    (elim (test y) as (λ b. test y ≡ b → cond b (Some y) (find test ys) ≡ Some x → Contains (y ∷ ys) x × (test x ≡ true)) [
      | true ↦ λ passes e. let same : y ≡ x = cc in (subst (λ z. Contains (y ∷ ys) z) same (head_in y ys), subst (λ z. test z ≡ true) same passes)
      | false ↦ λ fails e. let more = found_in test ys x e in (tail_in y ys x more.0, more.1)
    ]) refl e

-- a value that is there
pub some_of : {X : Type 0} (o : Option X) → IsSome o → (x : X) × (o ≡ Some x)
some_of None h = cc
some_of (Some x) h = (x, refl)

-- of a list with a number for each element, an element with this number, or none
pub data HasKey {X : Type 0} (key : X → ℕ) (xs : List X) (n : ℕ) : Type 0 where
  with_key : (x : X) → Contains xs x → key x ≡ n → HasKey key xs n
  without : ((x : X) → Contains xs x → key x ≡ n → ⊥) → HasKey key xs n

pub key_in : {X : Type 0} (key : X → ℕ) (n : ℕ) (xs : List X) → HasKey key xs n
key_in key n [] = without (λ x c e. none_in x c)
key_in key n (x ∷ xs) = elim (cases_eq (key x) n) [
  | inl same ↦ with_key x (head_in x xs) same
  | inr other ↦ elim (key_in key n xs) [
    | with_key y c e ↦ with_key y (tail_in x xs y c) e
    | without none ↦ without (λ y c e. elim (cases_in x xs y c) [ inl is ↦ other (ap key is ∙ e) | inr more ↦ none y more e ])
  ]
]
