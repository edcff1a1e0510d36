-- What adding and taking out come to for the pages that are listed.
use Rattle.std.proofs.Common.{◌≡◌, ◌≢◌, ℕ, ◌+◌, ◌<◌, ◌≤◌, ◌||◌, Bool, true, false, cond, leb, List, [], ◌∷◌, length, is_some, IsTrue, Option, Some, None, arith, refl, ap, inl, inr}
use Rattle.std.specs.Option.{IfSome}
use Rattle.std.specs.List.{list_any}
use Rattle.std.specs.Ordering.{nat_cmp}
use Rattle.std.specs.BTreeMap.{is_at}
use Rattle.std.specs.BTreeSet.{BTreeSet, contains, btree_set_len, IsLowerBound, Updates}
use Rattle.std.proofs.lemmas.Bool.{cases_Bool, cases_lt, false≢true}
use Rattle.std.proofs.lemmas.Bool.Decides.{nat_tests}
use Rattle.std.proofs.lemmas.Map.Keys.{le_from_not_gt}
use Rattle.mem_pages.specs.declared.exposed.Exposed.{Exposed}
use Rattle.mem_pages.specs.Exposed.{lists, size_below, Adds, TakesOut, ListsNoneBelow}

or_left : (a b : Bool) → a ≡ true → (a || b) ≡ true
or_left true b h = refl
or_left false b h = absurd (false≢true h)

without : (t c d r : Bool) → c ≡ cond t true d → (c || r) ≡ false → (d || r) ≡ false
without t c d r e h = grind (arith, nat_tests)

same_keys : (s t : BTreeSet ℕ) (m : ℕ) → t.keys ≡ s.keys → contains nat_cmp t m ≡ contains nat_cmp s m
same_keys s t m e = ap (λ ks. list_any (is_at (nat_cmp m)) ks) e

pub added : (n : ℕ) (e : Exposed) (s : BTreeSet ℕ) → Updates nat_cmp e.numbers s n true → Adds n e (record e { numbers = s })
unfolding lists
added n e s u = record {
  there = or_left _ _ u.1;
  others = λ m h. without (is_at (nat_cmp n) m) _ _ (leb e.rest m) (u.0 m) h;
}

rest_there : (c : Bool) (r n : ℕ) → r ≤ n → (c || leb r n) ≡ true
rest_there c r n l = grind (arith, nat_tests)

rest_lower : (c d : Bool) (r s m : ℕ) → s ≤ r → c ≡ d → (c || leb s m) ≡ false → (d || leb r m) ≡ false
rest_lower c d r s m l e h = grind (arith, nat_tests)

pub not_added : (n rest : ℕ) (e : Exposed) (s : BTreeSet ℕ) → rest ≤ n → rest ≤ e.rest → s.keys ≡ e.numbers.keys → Adds n e (record { numbers = s; rest = rest })
unfolding lists
not_added n rest e s l j k = record {
  there = rest_there _ rest n l;
  others = λ m h. rest_lower _ _ e.rest rest m j (same_keys e.numbers s m k) h;
}

rest_raised : (c : Bool) (r m : ℕ) → m ≢ r → (c || leb (r + 1) m) ≡ false → (c || leb r m) ≡ false
rest_raised c r m d h = elim (cases_Bool (leb r m)) as (λ _. (c || leb r m) ≡ false) [
  | inl t ↦ absurd (d (grind (arith, nat_tests)))
  | inr f ↦ grind (arith, nat_tests)
]

pub takes_rest : (end : ℕ) (e : Exposed) → e.rest < end → TakesOut end e.rest e (record e { rest = e.rest + 1 })
unfolding lists size_below
takes_rest end e l = record {
  below = l;
  others = λ m d h. rest_raised _ e.rest m d h;
  fewer = omega (arith, l);
}

empty_has : (ks : List ℕ) (m : ℕ) → length ks ≡ 0 → list_any (is_at (nat_cmp m)) ks ≡ false
empty_has ks m e = elim ks as (λ ks. length ks ≡ 0 → list_any (is_at (nat_cmp m)) ks ≡ false) [
  | [] ↦ λ e. refl
  | k ∷ ks ↦ λ e. absurd (omega (arith, e))
] e

past_rest : (c : Bool) (r m end : ℕ) → c ≡ false → m < end → end ≤ r → (c || leb r m) ≡ false
past_rest c r m end h l k = grind (arith, nat_tests)

no_length : (n : ℕ) → (0 < n → false ≡ true) → n ≡ 0
no_length n h = elim (cases_lt 0 n) as (λ _. n ≡ 0) [
  | inl l ↦ absurd (false≢true (h l))
  | inr l ↦ omega arith
]

pub lists_nothing : (end : ℕ) (e : Exposed) → end ≤ e.rest → (0 < btree_set_len e.numbers → false ≡ true) → ListsNoneBelow end e
unfolding lists
lists_nothing end e l h = record {
  none = λ m k. past_rest _ e.rest m end (empty_has e.numbers.keys m (no_length _ h)) k l;
}

above : (s : BTreeSet ℕ) (x end m : ℕ) → IsLowerBound nat_cmp s x → end ≤ x → m < end → contains nat_cmp s m ≡ false
above s x end m h l k = elim (cases_Bool (contains nat_cmp s m)) as (λ _. contains nat_cmp s m ≡ false) [
  | inl t ↦ absurd (omega (arith, l, k, le_from_not_gt x m (h m t)))
  | inr f ↦ f
]

pub lists_above : (end x : ℕ) (e : Exposed) → end ≤ e.rest → end ≤ x → IsLowerBound nat_cmp e.numbers x → ListsNoneBelow end e
unfolding lists
lists_above end x e l k h = record {
  none = λ m j. past_rest _ e.rest m end (above e.numbers x end m h k j) j l;
}

one_out : (t c d r : Bool) → t ≡ false → c ≡ cond t false d → (c || r) ≡ false → (d || r) ≡ false
one_out t c d r f e h = grind (arith, nat_tests)

pub takes_first : (end x n : ℕ) (e : Exposed) (s : BTreeSet ℕ) → x < end → IsTrue (contains nat_cmp e.numbers x) → IsLowerBound nat_cmp e.numbers n → Updates nat_cmp e.numbers s n false → btree_set_len s + 1 ≡ btree_set_len e.numbers → TakesOut end n e (record e { numbers = s })
unfolding lists size_below
takes_first end x n e s l has least u len = record {
  below = omega (arith, l, le_from_not_gt n x (least x has));
  others = λ m d h. one_out (is_at (nat_cmp n) m) _ _ (leb e.rest m) (apart n m d) (u.0 m) h;
  fewer = omega (arith, len);
}
  where
    apart : (n m : ℕ) → m ≢ n → is_at (nat_cmp n) m ≡ false
    apart n m d = grind (arith, nat_tests)

pub takes_out : (r : Option ℕ) (end x : ℕ) (e : Exposed) (s : BTreeSet ℕ) → x < end → IsTrue (contains nat_cmp e.numbers x) → IfSome r (IsLowerBound nat_cmp e.numbers) → IfSome r (λ n. Updates nat_cmp e.numbers s n false) → btree_set_len s + (cond (is_some r) 1 0) ≡ btree_set_len e.numbers → IfSome r (λ n. TakesOut end n e (record e { numbers = s }))
takes_out None end x e s l has least u len = tt
takes_out (Some n) end x e s l has least u len = takes_first end x n e s l has least u len

pub lists_no_page : (s : BTreeSet ℕ) (m : ℕ) → s.keys ≡ [] → m < 1048576 → lists (record { numbers = s; rest = 1048576 }) m ≡ false
unfolding lists
lists_no_page s m e l = past_rest _ 1048576 m 1048576 (empty_has s.keys m (ap length e)) l (omega arith)
