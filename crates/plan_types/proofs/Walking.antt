-- A walk that follows each place that it has reached reaches the body.
use Rattle.std.proofs.Common.{◌≡◌, ◌⊎◌, ℕ, ◌+◌, ◌<◌, ◌≤◌, ◌==◌, Bool, true, false, cond, List, [], ◌∷◌, ◌++◌, length, get_or, set, position, slice_get, Contains, count_by, Option, Some, None, refl, sym, ap, ◌∙◌, subst, inl, inr, arith}
use Rattle.std.specs.List.Sorted.{IsStrictlyIncreasing}
use Rattle.std.proofs.lemmas.Bool.{cases_Bool, cases_eq, cases_lt, cond-true, cond-false}
use Rattle.std.proofs.lemmas.Option.{slice_get_within}
use Rattle.std.proofs.lemmas.List.{length-map, get_or-set_same, get_or-set_other, get_or_append_left, get_or_push, get_or_default, length_push}
use Rattle.std.proofs.lemmas.List.Sums.{sum_by-set}
use Rattle.plan_types.specs.declared.place.Place.{Place}
use Rattle.plan_types.specs.Ascending.{addresses_of}
use Rattle.plan_types.specs.Reached.{ReachedContents, with_index, with_address, with_addresses}
use Rattle.plan_types.proofs.Members.{none_in, head_in, tail_in, cases_in}
use Rattle.plan_types.proofs.Searching.{only_at, has_at}
use Rattle.plan_types.proofs.Reaching.{sized_address}

-- the place at an index is reached
abbrev pub IsMarked : ReachedContents → ℕ → Type 0
IsMarked r k = get_or r.marks k false ≡ true

-- the address of the place at an index
abbrev pub IsAddressAt : List Place → ℕ → ℕ → Type 0
IsAddressAt code k a = slice_get (addresses_of code) k ≡ Some a

-- an index is in the order
pub record IsInOrder (r : ReachedContents) (k : ℕ) : Type 0 where
  pub turn : ℕ
  pub low : turn < length r.order
  pub is : get_or r.order turn 0 ≡ k

-- the order has each marked place once, and no other index
pub record IsSound (r : ReachedContents) : Type 0 where
  pub counted : count_by (λ b. b) r.marks ≡ length r.order
  pub placed : (i : ℕ) → i < length r.order → IsMarked r (get_or r.order i 0)
  pub listed : (k : ℕ) → IsMarked r k → IsInOrder r k

-- what was reached stays so, in its order
pub record Keeps (r s : ReachedContents) : Type 0 where
  pub marks : (k : ℕ) → IsMarked r k → IsMarked s k
  pub longer : length r.order ≤ length s.order
  pub order : (i : ℕ) → i < length r.order → get_or s.order i 0 ≡ get_or r.order i 0

abbrev bit_of : Bool → ℕ
bit_of b = cond b 1 0

-- a place is new
abbrev pub marked_at : ReachedContents → ℕ → ReachedContents
marked_at r k = record { marks = set r.marks k true; order = r.order ++ k ∷ [] }

module _ (r : ReachedContents) (k : ℕ) (low : k < length r.marks) (new : get_or r.marks k false ≡ false) where
  pub marks_at : IsMarked (marked_at r k) k
  marks_at = get_or-set_same r.marks k true false low

  pub keeps_at : Keeps r (marked_at r k)
  keeps_at = record {
    marks = λ j m. elim (cases_eq j k) [
      | inl same ↦ subst (λ i. IsMarked (marked_at r k) i) (sym same) marks_at
      | inr other ↦ get_or-set_other r.marks k j true false other ∙ m
    ];
    longer = omega (arith, length_push r.order k);
    order = λ i before. get_or_append_left r.order (k ∷ []) 0 i before;
  }

  pub only_new : (j : ℕ) → IsMarked (marked_at r k) j → IsMarked r j ⊎ (j ≡ k)
  only_new j m = elim (cases_eq j k) [ inl same ↦ inr same | inr other ↦ inl (sym (get_or-set_other r.marks k j true false other) ∙ m) ]

  counted_more : count_by (λ b. b) (set r.marks k true) ≡ count_by (λ b. b) r.marks + 1
  counted_more =
      let e : count_by (λ b. b) (set r.marks k true) + cond (get_or r.marks k false) 1 0 ≡ count_by (λ b. b) r.marks + 1 = sum_by-set (λ (b : Bool). cond b 1 0) r.marks k true false low in
      let was : ◌≡◌ {A = ℕ} (cond (get_or r.marks k false) 1 0) 0 = ap (λ (b : Bool). bit_of b) new in
      omega arith

  pub sound_at : IsSound r → IsSound (marked_at r k)
  sound_at s = record {
    counted = omega (arith, counted_more, s.counted, length_push r.order k);
    placed = λ i before. elim (cases_lt i (length r.order)) [
      | inl old ↦ subst (λ n. IsMarked (marked_at r k) n) (sym (get_or_append_left r.order (k ∷ []) 0 i old)) (keeps_at.marks (get_or r.order i 0) (s.placed i old))
      | inr last ↦ subst (λ n. IsMarked (marked_at r k) n) (sym (get_or_push r.order k 0 i (omega (arith, length_push r.order k)))) marks_at
    ];
    listed = λ j m. elim (only_new j m) [
      | inl old ↦ let o = s.listed j old in record { turn = o.turn; low = omega (arith, o.low, length_push r.order k); is = get_or_append_left r.order (k ∷ []) 0 o.turn o.low ∙ o.is }
      | inr same ↦ record { turn = length r.order; low = omega (arith, length_push r.order k); is = get_or_push r.order k 0 (length r.order) refl ∙ sym same }
    ];
  }

pub keeps_itself : (r : ReachedContents) → Keeps r r
keeps_itself r = record { marks = λ k m. m; longer = omega arith; order = λ i low. refl }

pub keeps_then : (r s t : ReachedContents) → Keeps r s → Keeps s t → Keeps r t
keeps_then r s t a b = record {
  marks = λ k m. b.marks k (a.marks k m);
  longer = omega (arith, a.longer, b.longer);
  order = λ i low. b.order i (omega (arith, a.longer)) ∙ a.order i low;
}

-- what one address more comes to
pub record ReachesOne (code : List Place) (r : ReachedContents) (a : ℕ) (s : ReachedContents) : Type 0 where
  pub sound : IsSound r → IsSound s
  pub keeps : Keeps r s
  pub shown : (k : ℕ) → IsAddressAt code k a → IsMarked s k
  pub only : (k : ℕ) → IsMarked s k → IsMarked r k ⊎ IsAddressAt code k a

-- an index that is out of range or marked already changes nothing
same_one : (code : List Place) (r : ReachedContents) (a : ℕ) → ((k : ℕ) → IsAddressAt code k a → IsMarked r k) → ReachesOne code r a r
same_one code r a shown = record { sound = λ s. s; keeps = keeps_itself r; shown = shown; only = λ k m. inl m }

new_one : (code : List Place) (r : ReachedContents) (a k : ℕ) → k < length r.marks → get_or r.marks k false ≡ false → IsAddressAt code k a → ((j : ℕ) → IsAddressAt code j a → j ≡ k) → ReachesOne code r a (marked_at r k)
new_one code r a k low new at one = record {
  sound = sound_at r k low new;
  keeps = keeps_at r k low new;
  shown = λ j there. subst (λ i. IsMarked (marked_at r k) i) (sym (one j there)) (marks_at r k low new);
  only = λ j m. elim (only_new r k low new j m) [ inl old ↦ inl old | inr same ↦ inr (subst (λ i. IsAddressAt code i a) (sym same) at) ];
}

module _ (code : List Place) (up : IsStrictlyIncreasing (addresses_of code)) where
  one_by : (r : ReachedContents) (a : ℕ) → length r.marks ≡ length code → (o : Option ℕ) → position (λ (p : Place). p.at == a) code ≡ o → ReachesOne code r a (with_index r o)
  unfolding with_index
  one_by r a sized None e = same_one code r a (λ k at. let found = only_at (λ (p : Place). p.at) code a up k at in cc)
  one_by r a sized (Some k) e =
      let at : IsAddressAt code k a = has_at (λ (p : Place). p.at) code a k e in
      let low : k < length r.marks = omega (arith, sized, slice_get_within (addresses_of code) k a at, length-map code (λ (p : Place). p.at)) in
      let one : (j : ℕ) → IsAddressAt code j a → j ≡ k = λ j there. let found = only_at (λ (p : Place). p.at) code a up j there in cc in
      elim (cases_Bool (get_or r.marks k false)) [
        | inl old ↦
            subst (λ (s : ReachedContents). ReachesOne code r a s) (sym (cond-true (get_or r.marks k true) r (marked_at r k) (get_or_default r.marks k true false low ∙ old)))
            (same_one code r a (λ j there. subst (λ i. IsMarked r i) (sym (one j there)) old))
        | inr new ↦
            subst (λ (s : ReachedContents). ReachesOne code r a s) (sym (cond-false (get_or r.marks k true) r (marked_at r k) (get_or_default r.marks k true false low ∙ new)))
            (new_one code r a k low new at one)
      ]

  reaches_one : (r : ReachedContents) (a : ℕ) → length r.marks ≡ length code → ReachesOne code r a (with_address code r a)
  unfolding with_address
  reaches_one r a sized = one_by r a sized (position (λ (p : Place). p.at == a) code) refl

-- an index has one of these addresses
pub record IsOneOf (code : List Place) (addresses : List ℕ) (k : ℕ) : Type 0 where
  pub address : ℕ
  pub among : Contains addresses address
  pub at : IsAddressAt code k address

-- what addresses come to
pub record Reaches (code : List Place) (r : ReachedContents) (addresses : List ℕ) (s : ReachedContents) : Type 0 where
  pub sized : length s.marks ≡ length r.marks
  pub sound : IsSound r → IsSound s
  pub keeps : Keeps r s
  pub shown : (k a : ℕ) → Contains addresses a → IsAddressAt code k a → IsMarked s k
  pub only : (k : ℕ) → IsMarked s k → IsMarked r k ⊎ IsOneOf code addresses k

pub reaches_all : (code : List Place) → IsStrictlyIncreasing (addresses_of code) → (addresses : List ℕ) (r : ReachedContents) → length r.marks ≡ length code → Reaches code r addresses (with_addresses code r addresses)
reaches_all code up [] r sized = record { sized = refl; sound = λ s. s; keeps = keeps_itself r; shown = λ k a c at. absurd (none_in a c); only = λ k m. inl m }
reaches_all code up (a ∷ addresses) r sized =
    let s : ReachedContents = with_address code r a in
    let one = reaches_one code up r a sized in
    let same : length s.marks ≡ length r.marks = sized_address code r a in
    let more = reaches_all code up addresses s (same ∙ sized) in
    record {
      sized = more.sized ∙ same;
      sound = λ x. more.sound (one.sound x);
      keeps = keeps_then r s (with_addresses code s addresses) one.keeps more.keeps;
      shown = λ k b c at. elim (cases_in a addresses b c) [
        | inl is ↦ more.keeps.marks k (one.shown k (subst (λ n. IsAddressAt code k n) (sym is) at))
        | inr later ↦ more.shown k b later at
      ];
      only = λ k m. elim (more.only k m) [
        | inl before ↦ elim (one.only k before) [ inl old ↦ inl old | inr at ↦ inr (record { address = a; among = head_in a addresses; at = at }) ]
        | inr o ↦ inr (record { address = o.address; among = tail_in a addresses o.address o.among; at = o.at })
      ];
    }
