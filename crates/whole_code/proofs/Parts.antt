-- The elements of lists one behind the other, by their index.
use Rattle.std.proofs.Common.{◌≡◌, ℕ, zero, suc, ◌+◌, ◌⊎◌, List, [], ◌∷◌, ◌++◌, length, slice_get, Contains, Some, refl, ap, ◌∙◌, inl, inr, arith}
use Rattle.std.proofs.lemmas.Option.{slice_get_within, get_or_from_slice_get, slice_get-get_or}

pub get_left : {X : Type 0} (xs ys : List X) (k : ℕ) (x : X) → slice_get xs k ≡ Some x → slice_get (xs ++ ys) k ≡ Some x
get_left [] ys k x e = absurd cc
get_left (y ∷ xs) ys zero x e = e
get_left (y ∷ xs) ys (suc k) x e = get_left xs ys k x e

pub get_right : {X : Type 0} (xs ys : List X) (k j : ℕ) → j ≡ length xs + k → slice_get (xs ++ ys) j ≡ slice_get ys k
get_right [] ys k j e = let same : j ≡ k = omega arith in ap (slice_get ys) same
get_right (x ∷ xs) ys k zero e = absurd (omega arith)
get_right (x ∷ xs) ys k (suc j) e = get_right xs ys k j (omega arith)

pub get_last : {X : Type 0} (xs : List X) (y : X) → slice_get (xs ++ y ∷ []) (length xs) ≡ Some y
get_last xs y = get_right xs (y ∷ []) 0 (length xs) (omega arith)

-- an element of both is one of the first, or one of the second
pub record IsRight {X : Type 0} (xs ys : List X) (k : ℕ) (x : X) : Type 0 where
  pub index : ℕ
  pub place : k ≡ length xs + index
  pub there : slice_get ys index ≡ Some x

right_later : {X : Type 0} (y : X) (xs ys : List X) (k : ℕ) (x : X) → (slice_get xs k ≡ Some x) ⊎ IsRight xs ys k x → (slice_get xs k ≡ Some x) ⊎ IsRight (y ∷ xs) ys (suc k) x
right_later y xs ys k x (inl e) = inl e
right_later y xs ys k x (inr r) = inr (record { index = r.index; place = omega (arith, r.place); there = r.there })

pub get_cases : {X : Type 0} (xs ys : List X) (k : ℕ) (x : X) → slice_get (xs ++ ys) k ≡ Some x → (slice_get xs k ≡ Some x) ⊎ IsRight xs ys k x
get_cases [] ys k x e = inr (record { index = k; place = omega arith; there = e })
get_cases (y ∷ xs) ys zero x e = inl e
get_cases (y ∷ xs) ys (suc k) x e = right_later y xs ys k x (get_cases xs ys k x e)

-- the only element
pub get_only : {X : Type 0} (y : X) (k : ℕ) (x : X) → slice_get (y ∷ []) k ≡ Some x → (k ≡ 0) × (y ≡ x)
get_only y zero x e = (refl, cc)
get_only y (suc k) x e = absurd cc

pub get_contains : {X : Type 0} (xs : List X) (k : ℕ) (x : X) → slice_get xs k ≡ Some x → Contains xs x
get_contains xs k x e = (k, slice_get_within xs k x e, get_or_from_slice_get xs k x x e)

pub contains_get : {X : Type 0} (xs : List X) (x : X) → Contains xs x → (k : ℕ) × (slice_get xs k ≡ Some x)
contains_get xs x c = (c.0, slice_get-get_or xs c.0 x c.1 ∙ ap Some c.2)

pub same_got : {X : Type 0} (xs : List X) (k j : ℕ) (x y : X) → slice_get xs k ≡ Some x → slice_get xs j ≡ Some y → k ≡ j → x ≡ y
same_got xs k j x y e f g = let h : slice_get xs k ≡ slice_get xs j = ap (slice_get xs) g in cc
