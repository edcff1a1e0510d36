-- A walk reaches exactly the body.
use Rattle.std.proofs.Common.{◌≡◌, ℕ, zero, suc, ◌+◌, ◌*◌, ◌<◌, ◌≤◌, Bool, true, false, cond, List, [], ◌∷◌, length, get_or, replicate, slice_get, Contains, count_by, Option, Some, refl, sym, ap, ◌∙◌, subst, inl, inr, arith}
use Rattle.std.specs.Option.{option_map}
use Rattle.std.specs.List.Sorted.{IsStrictlyIncreasing}
use Rattle.std.proofs.lemmas.Bool.{cases_lt}
use Rattle.std.proofs.lemmas.List.{length-replicate, get_or-replicate, get_or_past}
use Rattle.std.proofs.lemmas.List.Sums.{count_by-le-length}
use Rattle.std.proofs.lemmas.List.Folds.{sum_by-replicate}
use Rattle.std.proofs.lemmas.Option.{slice_get-map, slice_get-get_or, slice_get_within, get_or_from_slice_get}
use Rattle.plan_types.specs.declared.place.Place.{Place}
use Rattle.plan_types.specs.Contents.{FoundContents}
use Rattle.plan_types.specs.Ascending.{addresses_of}
use Rattle.plan_types.specs.Body.{successors_of, HasPlace, IsInBody, IsBody, first, after}
use Rattle.plan_types.specs.Reached.{ReachedContents, with_address, with_addresses, marked_addresses}
use Rattle.plan_types.proofs.Members.{none_in, head_in, tail_in, cases_in, only_in}
use Rattle.plan_types.proofs.Ordered.{Rises, rises}
use Rattle.plan_types.proofs.Walking.{IsMarked, IsAddressAt, IsSound, Reaches, reaches_all}

-- ---- the addresses of marked places
-- a place whose address it is has a mark
pub record IsMarkedPlace (marks : List Bool) (code : List Place) (a : ℕ) : Type 0 where
  pub index : ℕ
  pub marked : get_or marks index false ≡ true
  pub at : IsAddressAt code index a

marked_tail : (b : Bool) (marks : List Bool) (p : Place) (code : List Place) (a : ℕ) → IsMarkedPlace marks code a → IsMarkedPlace (b ∷ marks) (p ∷ code) a
marked_tail b marks p code a m = record { index = suc m.index; marked = m.marked; at = m.at }

marked_by : (b : Bool) (marks : List Bool) (p : Place) (code : List Place) (a : ℕ) → (Contains (marked_addresses marks code) a → IsMarkedPlace marks code a)
    → (o : Bool) → b ≡ o → Contains (cond o (p.at ∷ marked_addresses marks code) (marked_addresses marks code)) a → IsMarkedPlace (b ∷ marks) (p ∷ code) a
marked_by b marks p code a later true e c = elim (cases_in p.at (marked_addresses marks code) a c) [
  | inl same ↦ record { index = 0; marked = e; at = ap Some same }
  | inr more ↦ marked_tail b marks p code a (later more)
]
marked_by b marks p code a later false e c = marked_tail b marks p code a (later c)

pub of_marked : (marks : List Bool) (code : List Place) (a : ℕ) → Contains (marked_addresses marks code) a → IsMarkedPlace marks code a
of_marked [] code a c = absurd (none_in a c)
of_marked (b ∷ marks) [] a c = absurd (none_in a c)
of_marked (b ∷ marks) (p ∷ code) a c = marked_by b marks p code a (λ c. of_marked marks code a c) b refl c

-- of a list that a mark may lead
led : (b : Bool) (a : ℕ) (more : List ℕ) (x : ℕ) → Contains more x → Contains (cond b (a ∷ more) more) x
led true a more x c = tail_in a more x c
led false a more x c = c

pub to_marked : (marks : List Bool) (code : List Place) (a k : ℕ) → get_or marks k false ≡ true → IsAddressAt code k a → Contains (marked_addresses marks code) a
to_marked [] code a k m at = cc
to_marked (b ∷ marks) [] a k m at = cc
to_marked (b ∷ marks) (p ∷ code) a zero m at =
    let same : p.at ≡ a = cc in
    subst (λ c. Contains (cond c (p.at ∷ marked_addresses marks code) (marked_addresses marks code)) a) (sym m)
    (subst (λ n. Contains (p.at ∷ marked_addresses marks code) n) same (head_in p.at (marked_addresses marks code)))
to_marked (b ∷ marks) (p ∷ code) a (suc k) m at = led b p.at (marked_addresses marks code) a (to_marked marks code a k m at)

-- they ascend as the places do
address_in : (code : List Place) (a k : ℕ) → IsAddressAt code k a → (p : Place) × (Contains code p × (p.at ≡ a))
address_in [] a k at = cc
address_in (p ∷ code) a zero at = (p, (head_in p code, (let same : p.at ≡ a = cc in same)))
address_in (p ∷ code) a (suc k) at = let q = address_in code a k at in (q.0, (tail_in p code q.0 q.1.0, q.1.1))

rises_by : (b : Bool) (a : ℕ) (more : List ℕ) → ((x : ℕ) → Contains more x → a < x) → Rises (λ (x : ℕ). x) more → Rises (λ (x : ℕ). x) (cond b (a ∷ more) more)
rises_by true a more above up = (above, up)
rises_by false a more above up = up

rises_marked : (marks : List Bool) (code : List Place) → Rises (λ (p : Place). p.at) code → Rises (λ (x : ℕ). x) (marked_addresses marks code)
rises_marked [] code up = tt
rises_marked (b ∷ marks) [] up = tt
rises_marked (b ∷ marks) (p ∷ code) up =
    rises_by b p.at (marked_addresses marks code)
    (λ x c. let m = of_marked marks code x c in let q = address_in code x m.index m.at in subst (λ n. p.at < n) q.1.1 (up.0 q.0 q.1.0))
    (rises_marked marks code up.1)

increases : (xs : List ℕ) → Rises (λ (x : ℕ). x) xs → IsStrictlyIncreasing xs
increases [] up k low = absurd (omega arith)
increases (x ∷ []) up k low = absurd (omega arith)
increases (x ∷ y ∷ xs) up zero low = up.0 y (head_in y xs)
increases (x ∷ y ∷ xs) up (suc k) low =
    let on : suc (k + 1) ≡ suc k + 1 = omega arith in
    subst (λ n. get_or (y ∷ xs) k 0 < get_or (x ∷ y ∷ xs) n 0) on (increases (y ∷ xs) up.1 k (omega arith))

pub marked_increase : (marks : List Bool) (code : List Place) → IsStrictlyIncreasing (addresses_of code) → IsStrictlyIncreasing (marked_addresses marks code)
marked_increase marks code up = increases (marked_addresses marks code) (rises_marked marks code (rises (λ (p : Place). p.at) code up))

-- ---- the walk
-- what follows the place at an index is reached
abbrev pub IsSettled : FoundContents → ReachedContents → ℕ → Type 0
IsSettled found r k = (p : Place) → slice_get found.code k ≡ Some p → (a j : ℕ) → Contains (successors_of found p) a → IsAddressAt found.code j a → IsMarked r j

-- where a walk has come after so many turns
pub record IsWalk (found : FoundContents) (entry : ℕ) (r : ReachedContents) (turns : ℕ) : Type 0 where
  pub sized : length r.marks ≡ length found.code
  pub sound : IsSound r
  pub inside : (k a : ℕ) → IsMarked r k → IsAddressAt found.code k a → IsInBody found entry a
  pub entered : (k : ℕ) → IsAddressAt found.code k entry → IsMarked r k
  pub settled : (i : ℕ) → i < turns → i < length r.order → IsSettled found r (get_or r.order i 0)

-- a place at an index stands at its address
place_in : (code : List Place) (k a : ℕ) → IsAddressAt code k a → Contains (addresses_of code) a
place_in code k a at = (k, slice_get_within (addresses_of code) k a at, get_or_from_slice_get (addresses_of code) k a a at)

address_of_place : (code : List Place) (k : ℕ) (p : Place) → slice_get code k ≡ Some p → IsAddressAt code k p.at
address_of_place code k p e = slice_get-map (λ (q : Place). q.at) code k ∙ ap (λ (o : Option Place). option_map (λ (q : Place). q.at) o) e

place_of_contained : (code : List Place) (p : Place) → Contains code p → (k : ℕ) × (slice_get code k ≡ Some p)
place_of_contained code p c = (c.0, slice_get-get_or code c.0 p c.1 ∙ ap Some c.2)

-- two addresses at an index are one
same_address : (code : List Place) (k a b : ℕ) → IsAddressAt code k a → IsAddressAt code k b → a ≡ b
same_address code k a b x y = let both : Some a ≡ Some b = sym x ∙ y in cc

marked_low : (r : ReachedContents) (k : ℕ) → IsMarked r k → k < length r.marks
marked_low r k m = elim (cases_lt k (length r.marks)) [ inl low ↦ low | inr past ↦ let none = get_or_past r.marks k false past in cc ]

-- none of so many places
abbrev pub none_reached : ℕ → ReachedContents
none_reached n = record { marks = replicate n false; order = [] }

unmarked : (n k : ℕ) → IsMarked (none_reached n) k → ⊥
unmarked n k m = elim (cases_lt k n) [
  | inl low ↦ let none = get_or-replicate n k false false low in cc
  | inr past ↦ let none = get_or_past (replicate n false) k false (omega (arith, length-replicate n false)) in cc
]

none_sound : (n : ℕ) → IsSound (none_reached n)
none_sound n = record {
  counted = let e : count_by (λ b. b) (replicate n false) ≡ n * 0 = sum_by-replicate (λ (b : Bool). cond b 1 0) n false in omega arith;
  placed = λ i low. absurd (omega arith);
  listed = λ k m. absurd (unmarked n k m);
}

module _ (found : FoundContents) (entry : ℕ) (up : IsStrictlyIncreasing (addresses_of found.code)) where
  first_by : (r : ReachedContents) → Reaches found.code (none_reached (length found.code)) (entry ∷ []) r → IsWalk found entry r 0
  first_by r reaches = record {
    sized = reaches.sized ∙ length-replicate (length found.code) false;
    sound = reaches.sound (none_sound (length found.code));
    inside = λ k a m at. elim (reaches.only k m) [
      | inl old ↦ absurd (unmarked (length found.code) k old)
      | inr one ↦ let is : entry ≡ a = only_in entry one.address one.among ∙ same_address found.code k one.address a one.at at in
          subst (λ n. IsInBody found entry n) is (first (subst (λ n. HasPlace found n) (sym is) (place_in found.code k a at)))
    ];
    entered = λ k at. reaches.shown k entry (head_in entry []) at;
    settled = λ i before low. absurd (omega arith);
  }

  -- the walk begins at the entry
  pub walk_begins : IsWalk found entry (with_address found.code (none_reached (length found.code)) entry) 0
  walk_begins = first_by (with_address found.code (none_reached (length found.code)) entry) (reaches_all found.code up (entry ∷ []) (none_reached (length found.code)) (length-replicate (length found.code) false))

  turn_by : (r s : ReachedContents) (turns k : ℕ) (p : Place) → IsWalk found entry r turns → turns < length r.order → get_or r.order turns 0 ≡ k → slice_get found.code k ≡ Some p
      → Reaches found.code r (successors_of found p) s → IsWalk found entry s (turns + 1)
  turn_by r s turns k p w low is there reaches = record {
    sized = reaches.sized ∙ w.sized;
    sound = reaches.sound w.sound;
    inside = λ j a m at. elim (reaches.only j m) [
      | inl old ↦ w.inside j a old at
      | inr one ↦ let same : one.address ≡ a = same_address found.code j one.address a one.at at in
          subst (λ n. IsInBody found entry n) same
          (after p (w.inside k p.at (subst (λ n. IsMarked r n) is (w.sound.placed turns low)) (address_of_place found.code k p there))
          (k, slice_get_within found.code k p there, get_or_from_slice_get found.code k p p there) one.among (place_in found.code j one.address one.at))
    ];
    entered = λ j at. reaches.keeps.marks j (w.entered j at);
    settled = λ i before short. elim (cases_lt i turns) [
      | inl old ↦ let in_r : i < length r.order = omega arith in
          subst (λ n. IsSettled found s n) (sym (reaches.keeps.order i in_r)) (λ q e a j c at. reaches.keeps.marks j (w.settled i old in_r q e a j c at))
      | inr new ↦ let at_turn : i ≡ turns = omega arith in
          subst (λ n. IsSettled found s n) (sym (reaches.keeps.order i (omega arith) ∙ (ap (λ n. get_or r.order n 0) at_turn ∙ is)))
          (λ q e a j c at. let both : Some p ≡ Some q = sym there ∙ e in let same : p ≡ q = cc in reaches.shown j a (subst (λ x. Contains (successors_of found x) a) (sym same) c) at)
    ];
  }

  -- a turn follows the next place
  pub walk_turns : (r : ReachedContents) (turns k : ℕ) (p : Place) → IsWalk found entry r turns → turns < length r.order → get_or r.order turns 0 ≡ k → slice_get found.code k ≡ Some p → IsWalk found entry (with_addresses found.code r (successors_of found p)) (turns + 1)
  walk_turns r turns k p w low is there = turn_by r (with_addresses found.code r (successors_of found p)) turns k p w low is there (reaches_all found.code up (successors_of found p) r w.sized)

  -- where none is left a turn does nothing
  pub walk_rests : (r : ReachedContents) (turns : ℕ) → IsWalk found entry r turns → length r.order ≤ turns → IsWalk found entry r (turns + 1)
  walk_rests r turns w past = record { sized = w.sized; sound = w.sound; inside = w.inside; entered = w.entered; settled = λ i before low. w.settled i (omega arith) low }

  -- a place that is followed has an index
  pub turn_low : (r : ReachedContents) (turns k : ℕ) → IsWalk found entry r turns → turns < length r.order → get_or r.order turns 0 ≡ k → k < length found.code
  turn_low r turns k w low is = let m = marked_low r k (subst (λ n. IsMarked r n) is (w.sound.placed turns low)) in omega (arith, w.sized)

  -- the same of the place as it is read
  pub walk_follows : (r s : ReachedContents) (turns k : ℕ) (code : List Place) (d : Place) → code ≡ found.code → IsWalk found entry r turns → turns < length r.order → get_or r.order turns 0 ≡ k
      → s ≡ with_addresses found.code r (successors_of found (get_or code k d)) → IsWalk found entry s (turns + 1)
  walk_follows r s turns k code d same w low is e =
      let short : k < length code = subst (λ (ps : List Place). k < length ps) (sym same) (turn_low r turns k w low is) in
      let p : Place = get_or code k d in
      let there : slice_get found.code k ≡ Some p = subst (λ (ps : List Place). slice_get ps k ≡ Some p) same (slice_get-get_or code k d short) in
      subst (λ (x : ReachedContents). IsWalk found entry x (turns + 1)) (sym e) (walk_turns r turns k p w low is there)

  module _ (r : ReachedContents) (w : IsWalk found entry r (length found.code)) where
    reached_by : (a : ℕ) → IsInBody found entry a → (k : ℕ) → IsAddressAt found.code k a → IsMarked r k
    reached_by a (first h) k at = w.entered k at
    reached_by a (after p inside among next there) k at =
        let q = place_of_contained found.code p among in
        let m = reached_by p.at inside q.0 (address_of_place found.code q.0 p q.1) in
        let o = w.sound.listed q.0 m in
        let short : length r.order ≤ length found.code = omega (arith, w.sound.counted, count_by-le-length (λ b. b) r.marks, w.sized) in
        subst (λ n. IsSettled found r n) o.is (w.settled o.turn (omega (arith, o.low)) o.low) p q.1 a k next at

    has_index : (a : ℕ) → IsInBody found entry a → HasPlace found a
    has_index a (first h) = h
    has_index a (after p inside among next there) = there

    -- the marked addresses are the body
    pub walk_ends : IsBody found entry (marked_addresses r.marks found.code)
    walk_ends = record {
      ascending = marked_increase r.marks found.code up;
      members = λ a. (
        λ c. let m = of_marked r.marks found.code a c in w.inside m.index a m.marked m.at,
        λ b. let h = has_index a b in
            let at : IsAddressAt found.code h.0 a = slice_get-get_or (addresses_of found.code) h.0 a h.1 ∙ ap Some h.2 in
            to_marked r.marks found.code a h.0 (reached_by a b h.0 at) at,
      );
    }

  -- once as many turns are made as there are places
  pub body_is : (r : ReachedContents) (turns : ℕ) (addresses : List ℕ) → IsWalk found entry r turns → turns ≡ length found.code → addresses ≡ marked_addresses r.marks found.code → IsBody found entry addresses
  body_is r turns addresses w all e = subst (λ (xs : List ℕ). IsBody found entry xs) (sym e) (walk_ends r (subst (λ n. IsWalk found entry r n) all w))
