-- Extents with the greatest end up to each share bytes with the same words as the tables themselves.
use Rattle.std.proofs.Common.{◌≡◌, ◌⊎◌, ◌↔◌, ℕ, zero, suc, ◌+◌, ◌-◌, ◌*◌, ◌<◌, ◌≤◌, max, List, [], ◌∷◌, ◌++◌, length, map, take, get_or, Bool, true, false, ltb, Contains, refl, sym, ap, ◌∙◌, subst, inl, inr, arith}
use Rattle.std.specs.List.Sorted.{IsNonDecreasingBy, IsPermutation, IsPartitionPoint}
use Rattle.std.proofs.lemmas.Bool.{cases_lt}
use Rattle.std.proofs.lemmas.Bool.Decides.{nat_tests}
use Rattle.std.proofs.lemmas.List.{get_or_default, take_more}
use Rattle.std.proofs.lemmas.List.Elements.{Contains-get_or}
use Rattle.std.proofs.lemmas.List.Sorted.{Contains-permutation, IsPermutation-sym}
use Rattle.plan_types.specs.declared.table.Table.{Table}
use Rattle.plan_types.specs.FoundCode.{IsApart}
use Rattle.code_discovery.specs.declared.table_extents.TableExtent.{TableExtent}
use Rattle.code_discovery.specs.Extents.{extent_of, raised, AreInOrder, starts_before, IsClear, TellsOf}
use Rattle.code_discovery.specs.Whole.{AreTablesApart}
use Rattle.code_discovery.proofs.Members.{none_in, head_in, tail_in, cases_in}

-- ---- each extent is raised in its place
-- the raised extent of one that is listed
pub record IsRaised (es : List TableExtent) (e : TableExtent) : Type 0 where
  pub extent : TableExtent
  pub among : Contains es extent
  pub start : extent.start ≡ e.start
  pub end : e.end ≤ extent.end

raised_each : (high : ℕ) (es : List TableExtent) (e : TableExtent) → Contains es e → IsRaised (raised high es) e
raised_each high [] e c = absurd (none_in e c)
raised_each high (x ∷ xs) e c = elim (cases_in x xs e c) [
  | inl same ↦ record { extent = record { start = x.start; end = max x.end high }; among = head_in _ _; start = ap (λ (y : TableExtent). y.start) same; end = subst (λ (y : TableExtent). y.end ≤ max x.end high) same (omega arith) }
  | inr more ↦ let r = raised_each (max x.end high) xs e more in record { extent = r.extent; among = tail_in _ _ r.extent r.among; start = r.start; end = r.end }
]

-- ---- and each raised end is that of one that starts there or before
pub record IsEndOf (es : List TableExtent) (r : TableExtent) : Type 0 where
  pub extent : TableExtent
  pub among : Contains es extent
  pub start : extent.start ≤ r.start
  pub end : extent.end ≡ r.end

-- none starts before a bound
abbrev StartFrom : ℕ → List TableExtent → Type 0
StartFrom low es = (e : TableExtent) → Contains es e → low ≤ e.start

raised_from : (high low : ℕ) (es : List TableExtent) → StartFrom low es → StartFrom low (raised high es)
raised_from high low [] from e c = absurd (none_in e c)
raised_from high low (x ∷ xs) from e c = elim (cases_in _ (raised (max x.end high) xs) e c) [
  | inl same ↦ subst (λ (y : TableExtent). low ≤ y.start) same (from x (head_in x xs))
  | inr more ↦ raised_from (max x.end high) low xs (λ y among. from y (tail_in x xs y among)) e more
]

rest_rises : (n : TableExtent → ℕ) (x : TableExtent) (xs : List TableExtent) → IsNonDecreasingBy n (x ∷ xs) → IsNonDecreasingBy n xs
rest_rises n x xs up i j d le low = up (suc i) (suc j) d (omega arith) (omega arith)

first_lowest : (x : TableExtent) (xs : List TableExtent) → IsNonDecreasingBy (λ e. e.start) (x ∷ xs) → StartFrom x.start xs
first_lowest x xs up e c = subst (λ (y : TableExtent). x.start ≤ y.start) c.2 (up 0 (suc c.0) e (omega arith) (let low : c.0 < length xs = c.1 in omega arith))

raised_end : (high : ℕ) (es : List TableExtent) → IsNonDecreasingBy (λ e. e.start) es → (r : TableExtent) → Contains (raised high es) r → (r.end ≡ high) ⊎ IsEndOf es r
raised_end high [] up r c = absurd (none_in r c)
raised_end high (x ∷ xs) up r c =
    let first : (max x.end high ≡ x.end) ⊎ (max x.end high ≡ high) = elim (cases_lt x.end high) [
      | inl below ↦ inr (omega arith)
      | inr above ↦ inl (omega arith)
    ] in
    let as_first : (y : TableExtent) → x.start ≤ y.start → y.end ≡ max x.end high → (y.end ≡ high) ⊎ IsEndOf (x ∷ xs) y = λ y start is. elim first [
      | inl own ↦ inr (record { extent = x; among = head_in x xs; start = start; end = sym (is ∙ own) })
      | inr old ↦ inl (is ∙ old)
    ] in
    elim (cases_in _ (raised (max x.end high) xs) r c) [
      | inl same ↦ as_first r (subst (λ (y : TableExtent). x.start ≤ y.start) same (omega arith)) (sym (ap (λ (y : TableExtent). y.end) same))
      | inr more ↦ elim (raised_end (max x.end high) xs (rest_rises (λ e. e.start) x xs up) r more) [
        | inl is ↦ as_first r (raised_from (max x.end high) x.start xs (first_lowest x xs up) r more) is
        | inr found ↦ inr (record { extent = found.extent; among = tail_in x xs found.extent found.among; start = found.start; end = found.end })
      ]
    ]

-- ---- raised extents are in order
raised_above : (high : ℕ) (es : List TableExtent) (k : ℕ) (d : TableExtent) → k < length (raised high es) → high ≤ (get_or (raised high es) k d).end
raised_above high [] k d low = omega arith
raised_above high (x ∷ xs) zero d low = omega arith
raised_above high (x ∷ xs) (suc k) d low = let more = raised_above (max x.end high) xs k d (omega arith) in omega arith

raised_ends : (high : ℕ) (es : List TableExtent) → IsNonDecreasingBy (λ e. e.end) (raised high es)
raised_ends high [] i j d le low = omega arith
raised_ends high (x ∷ xs) zero zero d le low = omega arith
raised_ends high (x ∷ xs) zero (suc j) d le low = raised_above (max x.end high) xs j d (omega arith)
raised_ends high (x ∷ xs) (suc i) zero d le low = omega arith
raised_ends high (x ∷ xs) (suc i) (suc j) d le low = raised_ends (max x.end high) xs i j d (omega arith) (omega arith)

raised_length : (high : ℕ) (es : List TableExtent) → length (raised high es) ≡ length es
raised_length high [] = refl
raised_length high (x ∷ xs) = ap suc (raised_length (max x.end high) xs)

raised_start : (high : ℕ) (es : List TableExtent) (k : ℕ) (d : TableExtent) → (get_or (raised high es) k d).start ≡ (get_or es k d).start
raised_start high [] k d = refl
raised_start high (x ∷ xs) zero d = refl
raised_start high (x ∷ xs) (suc k) d = raised_start (max x.end high) xs k d

raised_starts : (high : ℕ) (es : List TableExtent) → IsNonDecreasingBy (λ e. e.start) es → IsNonDecreasingBy (λ e. e.start) (raised high es)
raised_starts high es up i j d le low =
    let a = raised_start high es i d in
    let b = raised_start high es j d in
    let old = up i j d le (let same = raised_length high es in omega arith) in
    omega arith

pub in_order : (es : List TableExtent) → IsNonDecreasingBy (λ e. e.start) es → AreInOrder (raised 0 es)
in_order es up = record { starts = raised_starts 0 es up; ends = raised_ends 0 es }

-- ---- they tell of tables
table_of : (ts : List Table) (e : TableExtent) → Contains (map extent_of ts) e → (t : Table) × Contains ts t × (extent_of t ≡ e)
table_of [] e c = absurd (none_in e c)
table_of (t ∷ ts) e c = elim (cases_in (extent_of t) (map extent_of ts) e c) [
  | inl same ↦ (t, head_in t ts, same)
  | inr more ↦ let f = table_of ts e more in (f.0, tail_in t ts f.0 f.1, f.2)
]

extent_among : (ts : List Table) (t : Table) → Contains ts t → Contains (map extent_of ts) (extent_of t)
extent_among [] t c = absurd (none_in t c)
extent_among (x ∷ xs) t c = elim (cases_in x xs t c) [
  | inl same ↦ subst (λ (y : Table). Contains (map extent_of (x ∷ xs)) (extent_of y)) same (head_in (extent_of x) (map extent_of xs))
  | inr more ↦ tail_in (extent_of x) (map extent_of xs) (extent_of t) (extent_among xs t more)
]

pub tells : (ts : List Table) (es : List TableExtent) → IsPermutation (map extent_of ts) es → IsNonDecreasingBy (λ e. e.start) es → TellsOf ts (raised 0 es)
unfolding extent_of
tells ts es moved up at = (
  λ clear t c.
      let r = raised_each 0 es (extent_of t) (Contains-permutation (map extent_of ts) es (extent_of t) moved (extent_among ts t c)) in
      elim (clear r.extent r.among) [
        | inl before ↦ inl (let same = r.start in omega arith)
        | inr behind ↦ inr (let most = r.end in omega arith)
      ],
  λ apart e c. elim (raised_end 0 es up e c) [
    | inl none ↦ inr (omega arith)
    | inr is ↦
        let f = table_of ts is.extent (Contains-permutation es (map extent_of ts) is.extent (IsPermutation-sym (map extent_of ts) es moved) is.among) in
        let start : f.0.start ≡ is.extent.start = ap (λ (y : TableExtent). y.start) f.2 in
        let end : f.0.start + 4 * length f.0.targets ≡ is.extent.end = ap (λ (y : TableExtent). y.end) f.2 in
        elim (apart f.0 f.1) [
          | inl before ↦ inl (let low = is.start in omega arith)
          | inr behind ↦ inr (let same = is.end in omega arith)
        ]
  ],
)

-- ---- the last of those that start before a word's end tells of all
pub none_before : (es : List TableExtent) (at : ℕ) → IsPartitionPoint (λ e. starts_before at e ≡ true) (λ e. starts_before at e ≡ false) es 0 → IsClear es at
none_before es at point e c = inl (let far : ltb (get_or es c.0 e).start (at + 4) ≡ false = point.1 c.0 e (omega arith) c.1 in subst (λ (y : TableExtent). at + 4 ≤ y.start) c.2 (grind (arith, nat_tests, far)))

pub last_before : (es : List TableExtent) (at count : ℕ) (d : TableExtent) → AreInOrder es → IsPartitionPoint (λ e. starts_before at e ≡ true) (λ e. starts_before at e ≡ false) es (suc count) → suc count ≤ length es
    → (get_or es count d).end ≤ at ↔ IsClear es at
last_before es at count d order point few = (
  λ low e c. elim (cases_lt c.0 (suc count)) [
    | inl before ↦ inr (subst (λ (y : TableExtent). y.end ≤ at) c.2 (let up : (get_or es c.0 d).end ≤ (get_or es count d).end = order.ends c.0 count d (omega arith) (omega arith) in let same : (get_or es c.0 d).end ≡ (get_or es c.0 e).end = ap (λ (y : TableExtent). y.end) (get_or_default es c.0 d e c.1) in omega arith))
    | inr behind ↦ inl (let far : ltb (get_or es c.0 e).start (at + 4) ≡ false = point.1 c.0 e behind c.1 in subst (λ (y : TableExtent). at + 4 ≤ y.start) c.2 (grind (arith, nat_tests, far)))
  ],
  λ clear. elim (clear (get_or es count d) (Contains-get_or es count d (omega arith))) [
    | inl before ↦ let near : ltb (get_or es count d).start (at + 4) ≡ true = point.0 count d (omega arith) (omega arith) in absurd (grind (arith, nat_tests, near, before))
    | inr behind ↦ behind
  ],
)

-- ---- one more extent
-- the greatest end of extents, and of a number
abbrev pub highest : ℕ → List TableExtent → ℕ
highest end [] = end
highest end (e ∷ es) = highest (max e.end end) es

pub highest_last : (end : ℕ) (es : List TableExtent) (e : TableExtent) → highest end (es ++ e ∷ []) ≡ max e.end (highest end es)
highest_last end [] e = refl
highest_last end (x ∷ xs) e = highest_last (max x.end end) xs e

pub raised_last : (end : ℕ) (es : List TableExtent) (e : TableExtent) → raised end (es ++ e ∷ []) ≡ raised end es ++ record { start = e.start; end = max e.end (highest end es) } ∷ []
raised_last end [] e = refl
raised_last end (x ∷ xs) e = ap (λ ys. record { start = x.start; end = max x.end end } ∷ ys) (raised_last (max x.end end) xs e)

pub raised_more : (es : List TableExtent) (i : ℕ) (d : TableExtent) (end above : ℕ) (xs ys : List TableExtent) → i < length es → xs ≡ raised 0 (take i es) → end ≡ highest 0 (take i es)
    → above ≡ max (get_or es i d).end end → ys ≡ xs ++ record { start = (get_or es i d).start; end = above } ∷ [] → ys ≡ raised 0 (take (i + 1) es)
raised_more es i d end above xs ys low is up above_is ys_is =
    let last : TableExtent = get_or es i d in
    let top : above ≡ max last.end (highest 0 (take i es)) = above_is ∙ ap (λ n. max last.end n) up in
    ys_is ∙ ap (λ zs. zs ++ record { start = last.start; end = above } ∷ []) is ∙ ap (λ n. raised 0 (take i es) ++ record { start = last.start; end = n } ∷ []) top
    ∙ sym (raised_last 0 (take i es) last) ∙ ap (λ zs. raised 0 zs) (sym (take_more es i d low))

pub highest_more : (es : List TableExtent) (i : ℕ) (d : TableExtent) (end above : ℕ) → i < length es → end ≡ highest 0 (take i es) → above ≡ max (get_or es i d).end end → above ≡ highest 0 (take (i + 1) es)
highest_more es i d end above low up above_is =
    let last : TableExtent = get_or es i d in
    above_is ∙ ap (λ n. max last.end n) up ∙ sym (highest_last 0 (take i es) last) ∙ ap (λ zs. highest 0 zs) (sym (take_more es i d low))
