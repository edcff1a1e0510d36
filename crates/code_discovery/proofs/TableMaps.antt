-- What is in a map of tables.
use Rattle.std.proofs.Common.{◌≡◌, ℕ, suc, false, List, [], ◌∷◌, length, map, slice_index_or, Contains, Some, None, refl, sym, ap, ◌∙◌, subst, inl, inr, arith}
use Rattle.std.specs.Ordering.{nat_cmp}
use Rattle.std.specs.BTreeMap.{BTreeMap, IsOrdered, get, is_at, keys, values, Updates}
use Rattle.std.specs.Cmp.{nat_cmp_total}
use Rattle.std.specs.List.{All}
use Rattle.std.specs.List.Sorted.{IsStrictlyIncreasing}
use Rattle.std.proofs.lemmas.Bool.{cases_Bool, cases_eq}
use Rattle.std.proofs.lemmas.List.Elements.{All-contains}
use Rattle.std.proofs.lemmas.Map.Keys.{IsStrictlyIncreasing-from_sorted}
use Rattle.std.proofs.lemmas.Map.Lookups.{exact_unsigned}
use Rattle.std.proofs.lemmas.Map.Made.{Contains-from_values_of, Contains-values_of}
use Rattle.std.proofs.lemmas.Map.Views.{btree_map_get_iff, tells_apart, All-found}
use Rattle.plan_types.specs.declared.table.Table.{Table}
use Rattle.code_discovery.specs.Tables.{IsTableMap, HasLength, IsLengthAt, IsPut}

-- a listed table is the one that stands at its jump
pub stands_at : (m : BTreeMap ℕ Table) → IsTableMap m → (t : Table) → Contains (values m) t → get nat_cmp m t.jump ≡ Some t
stands_at m is t c =
    let e = Contains-from_values_of m.entries t c in
    let at : e.0 ≡ t.jump = All-contains (λ (e : ℕ × Table). e.0 ≡ e.1.jump) m.entries (e.0, t) is.keyed e.1 in
    (btree_map_get_iff nat_cmp_total exact_unsigned m is.ordered t.jump t).1 (subst (λ n. Contains m.entries (n, t)) at e.1)

pub listed_at : (m : BTreeMap ℕ Table) → IsTableMap m → (k : ℕ) (t : Table) → get nat_cmp m k ≡ Some t → Contains (values m) t × (t.jump ≡ k)
listed_at m is k t e =
    let c = (btree_map_get_iff nat_cmp_total exact_unsigned m is.ordered k t).0 e in
    (Contains-values_of m.entries k t c, sym (All-contains (λ (e : ℕ × Table). e.0 ≡ e.1.jump) m.entries (k, t) is.keyed c))

apart : (k q : ℕ) → (q ≡ k → ⊥) → is_at (nat_cmp k) q ≡ false
apart k q other = elim (cases_Bool (is_at (nat_cmp k) q)) [
  | inl same ↦ absurd (other (sym (tells_apart exact_unsigned k q same)))
  | inr differ ↦ differ
]

module _ (old new : BTreeMap ℕ Table) (is : IsTableMap old) (table : Table) (ordered : IsOrdered nat_cmp new) (updates : Updates nat_cmp old new table.jump (Some table)) where
  at_key : get nat_cmp new table.jump ≡ Some table
  at_key = updates.1

  at_other : (q : ℕ) → (q ≡ table.jump → ⊥) → get nat_cmp new q ≡ get nat_cmp old q
  at_other q other = updates.2 q (apart table.jump q other)

  keyed_entry : (k : ℕ) (t : Table) → get nat_cmp new k ≡ Some t → k ≡ t.jump
  keyed_entry k t e = elim (cases_eq k table.jump) [
    | inl same ↦
        let both : Some t ≡ Some table = sym e ∙ (ap (λ n. get nat_cmp new n) same ∙ at_key) in
        let is_table : t ≡ table = cc in
        same ∙ ap (λ (u : Table). u.jump) (sym is_table)
    | inr other ↦ sym (listed_at old is k t (sym (at_other k other) ∙ e)).1
  ]

  pub put_keyed : IsTableMap new
  put_keyed = record {
    keyed = λ k d low. let found = All-found nat_cmp_total new ordered k d low in keyed_entry (slice_index_or new.entries k d).0 (slice_index_or new.entries k d).1 found;
    ordered = ordered;
  }

  pub put_is : IsPut (values old) table (values new)
  put_is = record {
    members = λ t. (
      λ c. let e = stands_at new put_keyed t c in elim (cases_eq t.jump table.jump) [
        | inl same ↦ let both : Some t ≡ Some table = sym e ∙ (ap (λ n. get nat_cmp new n) same ∙ at_key) in inl (let is_table : table ≡ t = cc in is_table)
        | inr other ↦ inr ((listed_at old is t.jump t (sym (at_other t.jump other) ∙ e)).0, other)
      ],
      λ c. elim c [
        | inl same ↦ subst (λ u. Contains (values new) u) same (listed_at new put_keyed table.jump table at_key).0
        | inr old_one ↦ (listed_at new put_keyed t.jump t (at_other t.jump old_one.1 ∙ stands_at old is t old_one.0)).0
      ],
    );
  }

pub no_length : (m : BTreeMap ℕ Table) → IsTableMap m → (jump : ℕ) → get nat_cmp m jump ≡ None → IsLengthAt (values m) jump None
no_length m is jump none t c at = let e = stands_at m is t c in let there : get nat_cmp m jump ≡ Some t = subst (λ n. get nat_cmp m n ≡ Some t) at e in cc

pub its_length : (m : BTreeMap ℕ Table) → IsTableMap m → (jump : ℕ) (t : Table) → get nat_cmp m jump ≡ Some t → HasLength (values m) jump (length t.targets)
its_length m is jump t e = let l = listed_at m is jump t e in record {
  table = t;
  listed = l.0;
  at = l.1;
  words = refl;
  only = λ u c at.
      let there : get nat_cmp m jump ≡ Some u = subst (λ n. get nat_cmp m n ≡ Some u) at (stands_at m is u c) in
      let both : Some u ≡ Some t = sym there ∙ e in
      let same : u ≡ t = cc in
      ap (λ (v : Table). length v.targets) same;
}

-- the jumps are the keys
keys_by : (es : List (ℕ × Table)) → All (λ e. e.0 ≡ e.1.jump) es → map (λ (e : ℕ × Table). e.0) es ≡ map (λ (t : Table). t.jump) (map (λ (e : ℕ × Table). e.1) es)
keys_by [] h = refl
keys_by (e ∷ es) h =
    let first : e.0 ≡ e.1.jump = h 0 e (omega arith) in
    let more = keys_by es (λ k d low. h (suc k) d (omega arith)) in
    cc

pub tables_ascend : (m : BTreeMap ℕ Table) → IsTableMap m → IsStrictlyIncreasing (map (λ (t : Table). t.jump) (values m))
tables_ascend m is = subst (λ (xs : List ℕ). IsStrictlyIncreasing xs) (keys_by m.entries is.keyed) (IsStrictlyIncreasing-from_sorted (keys m) is.ordered)
