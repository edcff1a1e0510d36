-- Memories beside each other: what is judged, loaded and stored by accesses that are clear.
use Rattle.std.proofs.Common.{◌≡◌, ℕ, zero, suc, ◌+◌, ◌<◌, ◌&&◌, ◌||◌, Bool, true, false, not, cond, List, [], ◌∷◌, All, length, Option, Some, None, refl, sym, ap, ap₂, ◌∙◌, subst, arith}
use Rattle.std.proofs.lemmas.Bool.{and_parts}
use Rattle.std.proofs.lemmas.List.Elements.{All-head, All-tail}
use Rattle.memory.specs.Memory.{Place, Memory, Stored, AccessKind, Load, Store, wrapped, allows, allows_all, kind_of, put_all, store_all, forget_below, SameIn}
use Rattle.memory.specs.LessSpecified.{PlaceLessSpecified, MemoryLessSpecified}
use Rattle.memory.specs.MemoryLaws.{MemoryLaws}
use Rattle.x86_meaning.specs.Operands.{Access}
use Rattle.x86_meaning.specs.Step.{access_allowed, all_allowed}
use Rattle.x86_meaning.specs.AccessLaws.{SameLoad, SameLoads}
use Rattle.private_memory.specs.PrivateArea.{is_unreserved, each_address, is_clear_access}
use Rattle.laid_code.specs.LaidRun.{with_reserved, AreMemoriesBeside}

-- ---- places
pub shown : (first l : Memory) (a : ℕ) → is_unreserved a ≡ true → with_reserved first l a ≡ l a
unfolding with_reserved
shown first l a h = ap (λ b. cond b (l a) (first a)) h

pub reserved : (first l : Memory) (a : ℕ) → is_unreserved a ≡ false → with_reserved first l a ≡ first a
unfolding with_reserved
reserved first l a h = ap (λ b. cond b (l a) (first a)) h

-- a place that can be read and written allows each access
abbrev can_store : Option (Bool × Bool) → Bool
can_store None = false
can_store (Some k) = k.0

pub free_allows : (kind : AccessKind) (o : Option Place) → kind_of o ≡ Some (true, false) → allows kind o ≡ true
free_allows Load (Some p) h = refl
free_allows Store (Some p) h = ap can_store h
free_allows kind None h = absurd (cc h)

abbrev pub IsFree : Memory → Type 0
IsFree l = (a : ℕ) → is_unreserved a ≡ false → kind_of (l a) ≡ Some (true, false)

module _ (first l : Memory) (free : IsFree l) where
  abbrev seen : Memory
  seen = with_reserved first l

  -- what the processor allows the code allows
  place_back : (kind : AccessKind) (a : ℕ) → allows kind (seen a) ≡ true → allows kind (l a) ≡ true
  place_back kind a h = cases (is_unreserved a) refl
    where
      cases : (b : Bool) → is_unreserved a ≡ b → allows kind (l a) ≡ true
      cases true e = ap (allows kind) (sym (shown first l a e)) ∙ h
      cases false e = free_allows kind (l a) (free a e)

  allows_back : (kind : AccessKind) (at n : ℕ) → allows_all kind seen at n ≡ true → allows_all kind l at n ≡ true
  unfolding allows_all
  allows_back kind at zero h = refl
  allows_back kind at (suc n) h =
      let parts = and_parts (allows kind (seen (wrapped at))) (allows_all kind seen (at + 1) n) h in
      ap₂ (λ b c. b && c) (place_back kind (wrapped at) parts.0) (allows_back kind (at + 1) n parts.1)

  -- ---- an access that is clear
  each : (at n : ℕ) → each_address is_unreserved at n ≡ true → (j : ℕ) → j < n → is_unreserved (wrapped (at + j)) ≡ true
  unfolding each_address
  each at zero h j k = absurd (omega (arith, k))
  each at (suc n) h zero k = let same : at + 0 ≡ at = omega arith in subst (λ a. is_unreserved (wrapped a) ≡ true) (sym same) (and_parts (is_unreserved (wrapped at)) (each_address is_unreserved (at + 1) n) h).0
  each at (suc n) h (suc j) k =
      let same : at + 1 + j ≡ at + suc j = omega arith in
      subst (λ a. is_unreserved (wrapped a) ≡ true) same (each (at + 1) n (and_parts (is_unreserved (wrapped at)) (each_address is_unreserved (at + 1) n) h).1 j (omega (arith, k)))

  pub clear_addresses : (a : Access) → is_clear_access l a ≡ true → allows_all a.kind l a.at a.size ≡ true → (j : ℕ) → j < a.size → is_unreserved (wrapped (a.at + j)) ≡ true
  unfolding is_clear_access
  clear_addresses a h all = each a.at a.size (subst (λ b. (not b || each_address is_unreserved a.at a.size) ≡ true) all h)

  pub same_in : (at n : ℕ) → ((j : ℕ) → j < n → is_unreserved (wrapped (at + j)) ≡ true) → SameIn at n l seen
  same_in at n h = record { places = λ k less. sym (shown first l (wrapped (at + k)) (h k less)) }

  module _ (laws : MemoryLaws) where
    -- it is judged alike
    pub judged : (a : Access) → is_clear_access l a ≡ true → allows_all a.kind l a.at a.size ≡ allows_all a.kind seen a.at a.size
    judged a h = cases (allows_all a.kind l a.at a.size) refl
      where
        refused : (b : Bool) → allows_all a.kind seen a.at a.size ≡ b → allows_all a.kind l a.at a.size ≡ false → false ≡ allows_all a.kind seen a.at a.size
        refused true e fails = let both : true ≡ false = sym (allows_back a.kind a.at a.size e) ∙ fails in absurd cc
        refused false e fails = sym e

        cases : (b : Bool) → allows_all a.kind l a.at a.size ≡ b → allows_all a.kind l a.at a.size ≡ allows_all a.kind seen a.at a.size
        cases true e = laws.allows_in_same a.kind l seen a.at a.size (same_in a.at a.size (clear_addresses a h e))
        cases false e = e ∙ refused (allows_all a.kind seen a.at a.size) refl e

    access_judged : (kind : AccessKind) (a : Access) → is_clear_access l a ≡ true → access_allowed kind a.kind l a.at a.size ≡ access_allowed kind a.kind seen a.at a.size
    access_judged kind a h = cases kind a.kind refl
      where
        by_kind : (k : AccessKind) → a.kind ≡ k → allows_all k l a.at a.size ≡ allows_all k seen a.at a.size
        by_kind k e = subst (λ x. allows_all x l a.at a.size ≡ allows_all x seen a.at a.size) e (judged a h)

        cases : (x k : AccessKind) → a.kind ≡ k → access_allowed x k l a.at a.size ≡ access_allowed x k seen a.at a.size
        cases Load Load e = by_kind Load e
        cases Store Store e = by_kind Store e
        cases Load Store e = refl
        cases Store Load e = refl

    abbrev pub AllClear : List Access → Type 0
    AllClear xs = All (λ a. is_clear_access l a ≡ true) xs

    pub all_judged : (kind : AccessKind) (xs : List Access) → AllClear xs → all_allowed kind xs l ≡ all_allowed kind xs seen
    all_judged kind [] h = refl
    all_judged kind (a ∷ xs) h = ap₂ (λ b c. b && c) (access_judged kind a (All-head (λ x. is_clear_access l x ≡ true) a xs h)) (all_judged kind xs (All-tail (λ x. is_clear_access l x ≡ true) a xs h))

    -- ---- what is loaded is the same
    load_same : (k : AccessKind) (a : Access) → a.kind ≡ k → is_clear_access l a ≡ true → access_allowed Load k l a.at a.size ≡ true → SameLoad k a.at a.size l seen
    load_same Load a e h all = same_in a.at a.size (clear_addresses a h (subst (λ x. allows_all x l a.at a.size ≡ true) (sym e) all))
    load_same Store a e h all = tt

    pub loads_same : (xs : List Access) → AllClear xs → all_allowed Load xs l ≡ true → SameLoads xs l seen
    loads_same [] h all = tt
    loads_same (a ∷ xs) h all =
        let parts = and_parts (access_allowed Load a.kind l a.at a.size) (all_allowed Load xs l) all in
        (load_same a.kind a refl (All-head (λ x. is_clear_access l x ≡ true) a xs h) parts.0, loads_same xs (All-tail (λ x. is_clear_access l x ≡ true) a xs h) parts.1)

-- ---- stores whose ranges reach nothing that is reserved
abbrev pub IsUnreservedStore : Stored → Type 0
IsUnreservedStore s = (j : ℕ) → j < length s.bytes → is_unreserved (wrapped (s.at + j)) ≡ true

module _ (laws : MemoryLaws) (first : Memory) where
  differs : (a b : ℕ) → is_unreserved a ≡ false → is_unreserved b ≡ true → a ≡ b → ⊥
  differs a b h k e = let both : true ≡ false = sym k ∙ (ap is_unreserved (sym e) ∙ h) in absurd cc

  put_same : (l n : Memory) (s : Stored) → IsUnreservedStore s → ((a : ℕ) → n a ≡ with_reserved first l a) → (a : ℕ) → put_all s.at s.bytes n a ≡ with_reserved first (put_all s.at s.bytes l) a
  put_same l n s out same a = cases (is_unreserved a) refl
    where
      cases : (b : Bool) → is_unreserved a ≡ b → put_all s.at s.bytes n a ≡ with_reserved first (put_all s.at s.bytes l) a
      cases true e = laws.put_all_by_place s.at s.bytes n l a (same a ∙ shown first l a e) ∙ sym (shown first (put_all s.at s.bytes l) a e)
      cases false e =
          laws.put_all_elsewhere s.at s.bytes n a (λ k less. differs a (wrapped (s.at + k)) e (out k less))
          ∙ (same a ∙ (reserved first l a e ∙ sym (reserved first (put_all s.at s.bytes l) a e)))

  pub stores_same : (l n : Memory) (ss : List Stored) → All IsUnreservedStore ss → ((a : ℕ) → n a ≡ with_reserved first l a) → (a : ℕ) → store_all ss n a ≡ with_reserved first (store_all ss l) a
  stores_same l n [] out same a = same a
  stores_same l n (s ∷ ss) out same a =
      stores_same (put_all s.at s.bytes l) (put_all s.at s.bytes n) ss (All-tail IsUnreservedStore s ss out) (put_same l n s (All-head IsUnreservedStore s ss out) same) a

  pub stores_keep_kinds : (l : Memory) (ss : List Stored) (a : ℕ) → kind_of (store_all ss l a) ≡ kind_of (l a)
  stores_keep_kinds l [] a = refl
  stores_keep_kinds l (s ∷ ss) a = stores_keep_kinds (put_all s.at s.bytes l) ss a ∙ laws.put_all_keeps_kinds s.at s.bytes l a

  -- with no byte below esp nothing is forgotten
  pub nothing_forgotten : (m : Memory) (a : ℕ) → forget_below 0 m a ≡ m a
  nothing_forgotten m a = laws.forget_above 0 m a (omega arith)

  -- memories are beside each other where the second is specified as the first is, beside what is reserved
  pub beside_by : (l n m : Memory) → IsFree l → ((a : ℕ) → n a ≡ with_reserved first l a) → MemoryLessSpecified n m → AreMemoriesBeside first l m
  beside_by l n m free same less = record { free = free; less = record { places = λ a. subst (λ o. PlaceLessSpecified o (m a)) (same a) (less.places a) } }
