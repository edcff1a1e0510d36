-- What is in a set after an insertion.
use Rattle.std.proofs.Common.{◌≡◌, ◌↔◌, ◌⊎◌, ℕ, Bool, true, false, List, [], ◌∷◌, Less, Equal, Greater, Contains, IsTrue, not, if◌then◌else◌, ◌+◌, refl, sym, ap, ◌∙◌, subst, inl, inr}
use Rattle.std.specs.Ordering.{nat_cmp, match_ordering}
use Rattle.std.specs.BTreeSet.{BTreeSet, contains, insert_key}
use Rattle.std.specs.Cmp.{nat_cmp_total}
use Rattle.std.proofs.lemmas.Bool.{cases_Bool}
use Rattle.std.proofs.lemmas.Map.Lookups.{exact_unsigned}
use Rattle.std.proofs.lemmas.Map.Views.{btree_set_contains_iff}
use Rattle.code_discovery.proofs.Members.{head_in, tail_in, cases_in}

abbrev pub HasOneMore : List ℕ → ℕ → List ℕ → Type 0
HasOneMore old at new = (a : ℕ) → Contains new a ↔ ((at ≡ a) ⊎ Contains old a)

in_front : (k : ℕ) (xs : List ℕ) → HasOneMore xs k (k ∷ xs)
in_front k xs a = (
  λ c. cases_in k xs a c,
  λ c. elim c [ inl same ↦ subst (λ n. Contains (k ∷ xs) n) same (head_in k xs) | inr more ↦ tail_in k xs a more ],
)

is_there : (k : ℕ) (xs : List ℕ) → Contains xs k → HasOneMore xs k xs
is_there k xs there a = (
  λ c. inr c,
  λ c. elim c [ inl same ↦ subst (λ n. Contains xs n) same there | inr more ↦ more ],
)

behind : (k y : ℕ) (ys more : List ℕ) → HasOneMore ys k more → HasOneMore (y ∷ ys) k (y ∷ more)
behind k y ys more later a = (
  λ c. elim (cases_in y more a c) [
    | inl same ↦ inr (subst (λ n. Contains (y ∷ ys) n) same (head_in y ys))
    | inr in_more ↦ elim ((later a).0 in_more) [ inl is ↦ inl is | inr old ↦ inr (tail_in y ys a old) ]
  ],
  λ c. elim c [
    | inl is ↦ tail_in y more a ((later a).1 (inl is))
    | inr old ↦ elim (cases_in y ys a old) [
      | inl same ↦ subst (λ n. Contains (y ∷ more) n) same (head_in y more)
      | inr in_ys ↦ tail_in y more a ((later a).1 (inr in_ys))
    ]
  ],
)

pub inserted : (xs : List ℕ) (k : ℕ) → HasOneMore xs k (insert_key nat_cmp xs k)
inserted [] k = in_front k []
inserted (y ∷ ys) k =
    (elim (nat_cmp k y) as (λ o. nat_cmp k y ≡ o → HasOneMore (y ∷ ys) k (match_ordering o (k ∷ y ∷ ys) (y ∷ ys) (y ∷ insert_key nat_cmp ys k))) [
      | Less ↦ λ e. in_front k (y ∷ ys)
      | Equal ↦ λ e. let same : y ≡ k = sym (exact_unsigned k y e) in is_there k (y ∷ ys) (subst (λ n. Contains (y ∷ ys) n) same (head_in y ys))
      | Greater ↦ λ e. behind k y ys (insert_key nat_cmp ys k) (inserted ys k)
    ]) refl

-- a key that is not in the list is not in the set
pub not_contained : (s : BTreeSet ℕ) (k : ℕ) → (Contains s.keys k → ⊥) → contains nat_cmp s k ≡ false
not_contained s k none = elim (cases_Bool (contains nat_cmp s k)) [
  | inl there ↦ absurd (none ((btree_set_contains_iff nat_cmp_total exact_unsigned s k).0 there))
  | inr out ↦ out
]

pub by_keys : (s : BTreeSet ℕ) (k : ℕ) (b : Bool) (xs : List ℕ) → b ≡ contains nat_cmp s k → s.keys ≡ xs → IsTrue b ↔ Contains xs k
by_keys s k b xs e same =
    let h : IsTrue (contains nat_cmp s k) ↔ Contains s.keys k = btree_set_contains_iff nat_cmp_total exact_unsigned s k in
    subst (λ (c : Bool). IsTrue c ↔ Contains xs k) (sym e) (subst (λ (ys : List ℕ). IsTrue (contains nat_cmp s k) ↔ Contains ys k) same h)

-- one address more, where it is new
pub one_more : (n m : ℕ) (there added : Bool) → added ≡ not there → there ≡ false → n ≡ m + (if added then 1 else 0) → n ≡ m + 1
one_more n m there added e out size =
    let new : added ≡ true = e ∙ ap not out in
    size ∙ ap (λ (b : Bool). m + (if b then 1 else 0)) new
