-- A binary search finds the first item with a key, if keys ascend.
use Rattle.std.proofs.Common.{◌≡◌, ℕ, ◌+◌, ◌<◌, ◌≤◌, ◌==◌, Bool, true, false, not, cond, List, [], ◌∷◌, length, get_or, map, position, slice_get, Contains, Option, Some, None, MatchOption, refl, sym, ap, ◌∙◌, subst, inl, inr, arith, ltb}
use Rattle.std.specs.List.{position_or_len}
use Rattle.std.specs.List.Sorted.{IsStrictlyIncreasing}
use Rattle.std.proofs.lemmas.Bool.{cases_lt, eq-eqb, ne_eqb, lt-ltb, le-ltb, eqb-true}
use Rattle.std.proofs.lemmas.List.{get_or-map, length-map}
use Rattle.std.proofs.lemmas.List.Kept.{AllPairs-from_increasing}
use Rattle.std.proofs.lemmas.List.Quantifiers.{position-Some}
use Rattle.std.proofs.lemmas.List.Sums.{prefix_len_is}
use Rattle.std.proofs.lemmas.Option.{slice_get-map, slice_get_within, slice_get-get_or, get_or_from_slice_get}
use Rattle.std.specs.Option.{option_map}

-- the first that passes is at an index
first_at : {X : Type 0} (p : X → Bool) (xs : List X) (k : ℕ) (d : X) → k < length xs → p (get_or xs k d) ≡ true → ((j : ℕ) → j < k → p (get_or xs j d) ≡ false) → position p xs ≡ Some k
first_at p xs k d low passes none =
    let there : position_or_len p xs ≡ k = prefix_len_is (λ x. not (p x)) xs k d (omega arith) (λ j before. ap not (none j before)) (λ low. ap not passes) in
    subst (λ i. cond (ltb i (length xs)) (Some i) None ≡ Some k) (sym there) (ap (λ b. cond b (Some k) None) (lt-ltb k (length xs) low))

-- no item passes
none_at : {X : Type 0} (p : X → Bool) (xs : List X) → ((j : ℕ) (d : X) → j < length xs → p (get_or xs j d) ≡ false) → position p xs ≡ None
none_at p [] none = refl
none_at p (x ∷ xs) none =
    let there : position_or_len p (x ∷ xs) ≡ length (x ∷ xs) = prefix_len_is (λ y. not (p y)) (x ∷ xs) (length (x ∷ xs)) x (omega arith) (λ j before. ap not (none j x before)) (λ low. absurd (omega arith)) in
    subst (λ i. cond (ltb i (length (x ∷ xs))) (Some i) None ≡ None) (sym there) (ap (λ b. cond b (Some (length (x ∷ xs))) None) (le-ltb (length (x ∷ xs)) (length (x ∷ xs)) (omega arith)))

-- where a search has come: no key before `low` and none from `high` on is the one
pub record IsBetween (keys : List ℕ) (n low high : ℕ) : Type 0 where
  pub ordered : low ≤ high
  pub within : high ≤ length keys
  pub below : (k : ℕ) → k < low → get_or keys k 0 < n
  pub above : (k : ℕ) → high ≤ k → k < length keys → n < get_or keys k 0

module _ {X : Type 0} (key : X → ℕ) (items : List X) (n : ℕ) where
  read_key : (i : ℕ) (x : X) → i < length items → x ≡ get_or items i x → get_or (map key items) i 0 ≡ key x
  read_key i x low is = get_or-map key items i x 0 low ∙ ap key (sym is)

  pub begins_between : IsBetween (map key items) n 0 (length items)
  begins_between = record {
    ordered = omega arith;
    within = omega (arith, length-map items key);
    below = λ k low. absurd (omega arith);
    above = λ k high low. absurd (omega (arith, length-map items key));
  }

  module _ (up : IsStrictlyIncreasing (map key items)) where
    in_order : (i j : ℕ) → i < j → j < length items → get_or (map key items) i 0 < get_or (map key items) j 0
    in_order i j before low = AllPairs-from_increasing (map key items) up i j 0 before (omega (arith, length-map items key))

    pub goes_up : (low high middle : ℕ) (x : X) → IsBetween (map key items) n low high → middle < high → x ≡ get_or items middle x → key x < n → IsBetween (map key items) n (middle + 1) high
    goes_up low high middle x b before is under =
        let here : get_or (map key items) middle 0 ≡ key x = read_key middle x (omega (arith, b.within, length-map items key)) is in
        record {
          ordered = omega arith;
          within = b.within;
          below = λ k near. elim (cases_lt k middle) [
            | inl less ↦ let up = in_order k middle less (omega (arith, b.within, length-map items key)) in omega arith
            | inr at ↦ let same : k ≡ middle = omega arith in subst (λ i. get_or (map key items) i 0 < n) (sym same) (omega arith)
          ];
          above = b.above;
        }

    pub goes_down : (low high middle : ℕ) (x : X) → IsBetween (map key items) n low high → low ≤ middle → middle < high → x ≡ get_or items middle x → n < key x → IsBetween (map key items) n low middle
    goes_down low high middle x b after before is over =
        let here : get_or (map key items) middle 0 ≡ key x = read_key middle x (omega (arith, b.within, length-map items key)) is in
        record {
          ordered = after;
          within = omega (arith, b.within);
          below = b.below;
          above = λ k far low. elim (cases_lt middle k) [
            | inl more ↦ let up = in_order middle k more (omega (arith, length-map items key)) in omega arith
            | inr at ↦ let same : k ≡ middle = omega arith in subst (λ i. n < get_or (map key items) i 0) (sym same) (omega arith)
          ];
        }

    pub finds : (middle : ℕ) (x : X) → middle < length items → x ≡ get_or items middle x → key x ≡ n → Some middle ≡ position (λ y. key y == n) items
    finds middle x low is same =
        sym (first_at (λ y. key y == n) items middle x low (ap (λ y. key y == n) (sym is) ∙ eq-eqb (key x) n same)
        (λ j before. ne_eqb (key (get_or items j x)) n
        (λ e. let up = in_order j middle before low in let here = read_key middle x low is in let there = get_or-map key items j x 0 (omega arith) in omega arith)))

    -- an index at which a key stands is the one that is found
    pub only_at : (k : ℕ) → slice_get (map key items) k ≡ Some n → position (λ y. key y == n) items ≡ Some k
    only_at k e = by_item (slice_get items k) refl (sym (slice_get-map key items k) ∙ e)
      where
        by_item : (o : Option X) → slice_get items k ≡ o → option_map key o ≡ Some n → position (λ y. key y == n) items ≡ Some k
        by_item None there is = cc
        by_item (Some x) there is =
            let within : k < length items = slice_get_within items k x there in
            let same : key x ≡ n = cc in
            sym (finds k x within (sym (get_or_from_slice_get items k x x there)) same)

    -- where none is found no item has the key
    pub none_has : position (λ y. key y == n) items ≡ None → Contains (map key items) n → ⊥
    none_has e c =
        let there : slice_get (map key items) c.0 ≡ Some n = slice_get-get_or (map key items) c.0 n c.1 ∙ ap Some c.2 in
        let found = only_at c.0 there in
        cc

  -- at the index that is found stands the key
  pub has_at : (k : ℕ) → position (λ y. key y == n) items ≡ Some k → slice_get (map key items) k ≡ Some n
  has_at k e = with_default items e
    where
      with_default : (xs : List X) → position (λ y. key y == n) xs ≡ Some k → slice_get (map key xs) k ≡ Some n
      with_default [] e = cc
      with_default (x ∷ xs) e =
          let p = position-Some (λ y. key y == n) (x ∷ xs) k x e in
          slice_get-get_or (map key (x ∷ xs)) k 0 (omega (arith, p.0, length-map (x ∷ xs) key))
          ∙ ap Some (get_or-map key (x ∷ xs) k x 0 p.0 ∙ eqb-true (key (get_or (x ∷ xs) k x)) n p.1)

  pub finds_none : (low high : ℕ) → IsBetween (map key items) n low high → high ≤ low → None ≡ position (λ y. key y == n) items
  finds_none low high b met =
      sym (none_at (λ y. key y == n) items
      (λ j d within. ne_eqb (key (get_or items j d)) n
      (λ e. let there = get_or-map key items j d 0 within in
      elim (cases_lt j low) [
        | inl before ↦ let less = b.below j before in omega arith
        | inr after ↦ let more = b.above j (omega arith) (omega (arith, length-map items key)) in omega arith
      ])))

  -- what an answer says of the keys, as one fact
  pub says : IsStrictlyIncreasing (map key items) → (o : Option ℕ) → o ≡ position (λ y. key y == n) items → MatchOption o (Contains (map key items) n → ⊥) (λ k. slice_get (map key items) k ≡ Some n)
  says up None is = λ c. none_has up (sym is) c
  says up (Some k) is = has_at k (sym is)
