-- What an address finds among so many frames.
use Rattle.std.proofs.Common.{◌≡◌, ℕ, ◌<◌, ◌≤◌, not, Bool, true, false, cond, ltb, List, length, get_or, take, position, Some, None, refl, sym, ap, ◌∙◌, arith}
use Rattle.std.specs.List.{find, position_or_len, slice_get}
use Rattle.std.specs.Option.{option_map}
use Rattle.std.proofs.lemmas.Option.{cond_some, slice_get-get_or, slice_get_past}
use Rattle.std.proofs.lemmas.List.{get_or-take, length-take}
use Rattle.std.proofs.lemmas.List.Folds.{find_at, length-prefix_len}
use Rattle.std.proofs.lemmas.List.Sums.{passes_at_first}
use Rattle.std.proofs.lemmas.Bool.Decides.{nat_tests}
use Rattle.unit_frames.specs.declared.frame.OpenFrame.{OpenFrame}
use Rattle.unit_frames.specs.Kept.{is_in, image_of}
use Rattle.unit_frames.specs.Looking.{byte_kept}

-- a place that is found is the first that passes
pub record IsFirst {X : Type 0} (p : X → Bool) (xs : List X) (k : ℕ) : Type 0 where
  pub within : k < length xs
  pub first : position_or_len p xs ≡ k

module _ {X : Type 0} (p : X → Bool) (xs : List X) where
  pub is_first : (k : ℕ) → position p xs ≡ Some k → IsFirst p xs k
  is_first k h =
      let parts = cond_some (ltb (position_or_len p xs) (length xs)) (position_or_len p xs) k h in
      record { within = grind (arith, nat_tests); first = parts.1 }

  pub found_first : (k : ℕ) (d : X) → IsFirst p xs k → find p xs ≡ Some (get_or xs k d)
  found_first k d h = find_at p xs ∙ ap (slice_get xs) h.first ∙ slice_get-get_or xs k d h.within

  pub passes_first : (k : ℕ) (d : X) → IsFirst p xs k → p (get_or xs k d) ≡ true
  passes_first k d h =
      let less : position_or_len p xs < length xs = omega (arith, h.within, h.first) in
      ap (λ j. p (get_or xs j d)) (sym h.first) ∙ passes_at_first p xs d less

  pub past_all : position p xs ≡ None → length xs ≤ position_or_len p xs
  past_all h = past (ltb (position_or_len p xs) (length xs)) refl h
    where
      past : (b : Bool) → ltb (position_or_len p xs) (length xs) ≡ b → cond b (Some (position_or_len p xs)) None ≡ None → length xs ≤ position_or_len p xs
      past true is e = absurd (cc e)
      past false is e = grind (arith, nat_tests)

  pub first_of_none : position p xs ≡ None → position_or_len p xs ≡ length xs
  first_of_none h = omega (arith, past_all h, length-prefix_len (λ x. not (p x)) xs, length-take (position_or_len p xs) xs)

  pub first_of_some : (k : ℕ) → position p xs ≡ Some k → position_or_len p xs ≡ k
  first_of_some k h = (is_first k h).first

  pub none_found : position p xs ≡ None → find p xs ≡ None
  none_found h = find_at p xs ∙ slice_get_past xs (position_or_len p xs) (past_all h)

pub none_kept : (count a : ℕ) (fs : List OpenFrame) → position (λ f. is_in a f) (take count fs) ≡ None → byte_kept count a fs ≡ None
none_kept count a fs h = ap (option_map (λ f. image_of f a)) (none_found (is_in a) (take count fs) h)

-- the place among so many is one of the whole
pub record IsCovered (count a place : ℕ) (fs : List OpenFrame) : Type 0 where
  pub few : place < count
  pub within : place < length fs
  pub first : IsFirst (is_in a) (take count fs) place

pub is_covered : (count a place : ℕ) (fs : List OpenFrame) → position (λ f. is_in a f) (take count fs) ≡ Some place → IsCovered count a place fs
is_covered count a place fs h =
    let first = is_first (is_in a) (take count fs) place h in
    let len = length-take count fs in
    record { few = omega (arith, len, first.within); within = omega (arith, len, first.within); first = first }

pub covered_there : (count a place : ℕ) (fs : List OpenFrame) (d : OpenFrame) → IsCovered count a place fs → is_in a (get_or fs place d) ≡ true
covered_there count a place fs d h = ap (is_in a) (sym (get_or-take count fs place d h.few)) ∙ passes_first (is_in a) (take count fs) place d h.first

pub kept_there : (count a place : ℕ) (fs : List OpenFrame) (d : OpenFrame) → IsCovered count a place fs → byte_kept count a fs ≡ Some (image_of (get_or fs place d) a)
kept_there count a place fs d h =
    ap (option_map (λ f. image_of f a)) (found_first (is_in a) (take count fs) place d h.first ∙ ap Some (get_or-take count fs place d h.few))
