-- Too many instructions are found.
use Rattle.std.proofs.Common.{◌≡◌, ℕ, suc, ◌+◌, ◌<◌, ◌≤◌, Bool, List, [], ◌∷◌, length, get_or, take, Contains, refl, sym, ap, ◌∙◌, subst, arith}
use Rattle.std.specs.List.{AllByRecursion}
use Rattle.std.specs.List.Sorted.{IsStrictlyIncreasing}
use Rattle.std.proofs.lemmas.List.{get_or-take, length-take-le, length-map}
use Rattle.std.proofs.lemmas.List.Elements.{All-from_recursion}
use Rattle.image.specs.declared.image.Image.{Image}
use Rattle.plan_types.specs.declared.place.Place.{Place}
use Rattle.plan_types.specs.Ascending.{addresses_of}
use Rattle.plan_types.specs.FoundCode.{IsStored, IsFound, IsMoreThan}
use Rattle.code_discovery.specs.Kept.{GivenIn, IsFoundAt}
use Rattle.code_discovery.proofs.Members.{head_in, tail_in}
use Rattle.code_discovery.proofs.MoreGiven.{found_more}

-- what is given is stored
pub found_of : (image : Image) (stored : Bool) (a : ℕ) → (f : IsFoundAt image stored a) → IsFound image f.place
found_of image stored a f = found_more image (GivenIn image stored) (IsStored image) (λ a g. g.1) f.place f.found

-- places of these addresses are found
record HasPlaces (image : Image) (xs : List ℕ) : Type 0 where
  places : List Place
  at : addresses_of places ≡ xs
  found : AllByRecursion (IsFound image) places

places_at : (image : Image) (stored : Bool) (xs : List ℕ) → ((a : ℕ) → Contains xs a → IsFoundAt image stored a) → HasPlaces image xs
places_at image stored [] each = record { places = []; at = refl; found = tt }
places_at image stored (x ∷ xs) each =
    let f = each x (head_in x xs) in
    let more = places_at image stored xs (λ a c. each a (tail_in x xs a c)) in
    record {
      places = f.place ∷ more.places;
      at = ap (λ n. n ∷ addresses_of more.places) f.at ∙ ap (λ ys. x ∷ ys) more.at;
      found = (found_of image stored x f, more.found);
    }

take_ascends : (n : ℕ) (xs : List ℕ) → n ≤ length xs → IsStrictlyIncreasing xs → IsStrictlyIncreasing (take n xs)
take_ascends n xs few up k low =
    let all : length (take n xs) ≡ n = length-take-le n xs few in
    subst (λ x. x < get_or (take n xs) (k + 1) 0) (sym (get_or-take n xs k 0 (omega arith)))
    (subst (λ y. get_or xs k 0 < y) (sym (get_or-take n xs (k + 1) 0 (omega arith))) (up k (omega arith)))

in_take : (n : ℕ) (xs : List ℕ) (a : ℕ) → n ≤ length xs → Contains (take n xs) a → Contains xs a
in_take n xs a few c =
    let all : length (take n xs) ≡ n = length-take-le n xs few in
    (c.0, omega (arith, c.1), sym (get_or-take n xs c.0 a (omega (arith, c.1))) ∙ c.2)

-- more addresses than so many, each of which has a found instruction
pub too_many : (image : Image) (stored : Bool) (count : ℕ) (xs : List ℕ) → IsStrictlyIncreasing xs → ((a : ℕ) → Contains xs a → IsFoundAt image stored a) → count < length xs → IsMoreThan image count
too_many image stored count xs up each more =
    let few : suc count ≤ length xs = omega arith in
    let has = places_at image stored (take (suc count) xs) (λ a c. each a (in_take (suc count) xs a few c)) in
    record {
      places = has.places;
      ascending = subst (λ ys. IsStrictlyIncreasing ys) (sym has.at) (take_ascends (suc count) xs few up);
      many = sym (length-map has.places (λ (p : Place). p.at)) ∙ (ap (λ (ys : List ℕ). length ys) has.at ∙ length-take-le (suc count) xs few);
      found = All-from_recursion (IsFound image) has.places has.found;
    }
