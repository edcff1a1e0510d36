-- What a walk keeps as it reaches more.
use Rattle.std.proofs.Common.{◌≡◌, ℕ, ◌+◌, ◌<◌, ◌≤◌, ◌==◌, Bool, true, false, cond, List, [], ◌∷◌, ◌++◌, length, get_or, set, drop, find, position, slice_get, MatchOption, ltb, Option, Some, None, refl, sym, ap, ◌∙◌, subst, inl, inr, arith}
use Rattle.std.specs.List.{position_or_len}
use Rattle.std.proofs.lemmas.Bool.{cond_both, cond-true, cond-false, cases_lt, lt-ltb, le-ltb}
use Rattle.std.proofs.lemmas.List.Folds.{find_at}
use Rattle.std.proofs.lemmas.Option.{slice_get_past}
use Rattle.std.proofs.lemmas.List.{append_assoc, get_or_default, length-set, drop_more, drop_all}
use Rattle.plan_types.specs.declared.place.Place.{Place}
use Rattle.plan_types.specs.Reached.{ReachedContents, with_index, with_address, marked_addresses}

pub sized_index : (r : ReachedContents) (o : Option ℕ) → length (with_index r o).marks ≡ length r.marks
unfolding with_index
sized_index r None = refl
sized_index r (Some k) = cond_both (get_or r.marks k true) r (record { marks = set r.marks k true; order = r.order ++ k ∷ [] }) (λ (x : ReachedContents). length x.marks ≡ length r.marks) (λ e. refl) (λ e. length-set r.marks k true)

-- there are as many marks as before
pub sized_address : (code : List Place) (r : ReachedContents) (a : ℕ) → length (with_address code r a).marks ≡ length r.marks
unfolding with_address
sized_address code r a = sized_index r (position (λ p. p.at == a) code)

-- a place more of those whose addresses are listed
pub marked_more : (marks : List Bool) (code : List Place) (i : ℕ) (p : Place) → i < length marks → i < length code → p ≡ get_or code i p
    → marked_addresses (drop i marks) (drop i code) ≡ cond (get_or marks i false) (p.at ∷ marked_addresses (drop (i + 1) marks) (drop (i + 1) code)) (marked_addresses (drop (i + 1) marks) (drop (i + 1) code))
marked_more marks code i p lm lc is =
    let one = drop_more marks i false lm in
    let two : drop i code ≡ p ∷ drop (i + 1) code = drop_more code i p lc ∙ ap (λ q. q ∷ drop (i + 1) code) (sym is) in
    ap (λ ms. marked_addresses ms (drop i code)) one ∙ ap (λ ps. marked_addresses (get_or marks i false ∷ drop (i + 1) marks) ps) two

pub marked_all : (marks : List Bool) (code : List Place) (i : ℕ) → length marks ≤ i → marked_addresses (drop i marks) (drop i code) ≡ []
marked_all marks code i short = ap (λ ms. marked_addresses ms (drop i code)) (drop_all i marks short)

-- the addresses that are listed so far, and one more
pub listed_more : (out new all : List ℕ) (marks : List Bool) (code : List Place) (i : ℕ) (p : Place) → i < length marks → i < length code → p ≡ get_or code i p
    → out ++ marked_addresses (drop i marks) (drop i code) ≡ all → new ≡ cond (get_or marks i false) (out ++ p.at ∷ []) out
    → new ++ marked_addresses (drop (i + 1) marks) (drop (i + 1) code) ≡ all
listed_more out new all marks code i p lm lc is so_far e =
    let rest = marked_addresses (drop (i + 1) marks) (drop (i + 1) code) in
    ap (λ xs. xs ++ rest) e ∙ (by_mark (get_or marks i false) rest ∙ (sym (ap (λ xs. out ++ xs) (marked_more marks code i p lm lc is)) ∙ so_far))
  where
    by_mark : (b : Bool) (rest : List ℕ) → cond b (out ++ p.at ∷ []) out ++ rest ≡ out ++ cond b (p.at ∷ rest) rest
    by_mark true rest = append_assoc out (p.at ∷ []) rest
    by_mark false rest = refl

-- the table of a jump is the one at the index at which its jump is found
find_by : {X : Type 0} (p : X → Bool) (xs : List X) (n : ℕ) → position_or_len p xs ≡ n → (o : Option ℕ) → o ≡ cond (ltb n (length xs)) (Some n) None → MatchOption o (find p xs ≡ None) (λ k. find p xs ≡ slice_get xs k)
find_by p xs n is o e = elim (cases_lt n (length xs)) [
  | inl low ↦ let there : o ≡ Some n = e ∙ ap (λ b. cond b (Some n) None) (lt-ltb n (length xs) low) in
      subst (λ o. MatchOption o (find p xs ≡ None) (λ k. find p xs ≡ slice_get xs k)) (sym there) (find_at p xs ∙ ap (λ k. slice_get xs k) is)
  | inr past ↦ let there : o ≡ None = e ∙ ap (λ b. cond b (Some n) None) (le-ltb n (length xs) past) in
      subst (λ o. MatchOption o (find p xs ≡ None) (λ k. find p xs ≡ slice_get xs k)) (sym there) (find_at p xs ∙ (ap (λ k. slice_get xs k) is ∙ slice_get_past xs n past))
]

pub found_by : {X : Type 0} (p : X → Bool) (xs : List X) (o : Option ℕ) → o ≡ position p xs → MatchOption o (find p xs ≡ None) (λ k. find p xs ≡ slice_get xs k)
found_by p xs o e = find_by p xs (position_or_len p xs) refl o e

-- a mark, as it is read
pub mark_read : (marks : List Bool) (i : ℕ) (b c : Bool) → i < length marks → b ≡ get_or marks i b → b ≡ c → get_or marks i false ≡ c
mark_read marks i b c low is e = get_or_default marks i false b low ∙ (sym is ∙ e)

pub listed_yes : (out new all : List ℕ) (marks : List Bool) (code : List Place) (i : ℕ) (d : Place) → i < length marks → i < length code → get_or marks i false ≡ true
    → out ++ marked_addresses (drop i marks) (drop i code) ≡ all → new ≡ out ++ (get_or code i d).at ∷ []
    → new ++ marked_addresses (drop (i + 1) marks) (drop (i + 1) code) ≡ all
listed_yes out new all marks code i d lm lc marked so_far e =
    listed_more out new all marks code i (get_or code i d) lm lc (get_or_default code i d (get_or code i d) lc) so_far
    (e ∙ sym (cond-true (get_or marks i false) (out ++ (get_or code i d).at ∷ []) out marked))

pub listed_no : (out new all : List ℕ) (marks : List Bool) (code : List Place) (i : ℕ) → i < length marks → i < length code → get_or marks i false ≡ false
    → out ++ marked_addresses (drop i marks) (drop i code) ≡ all → new ≡ out
    → new ++ marked_addresses (drop (i + 1) marks) (drop (i + 1) code) ≡ all
listed_no out new all marks code i lm lc unmarked so_far e = with_code code lc so_far
  where
    with_code : (code : List Place) → i < length code → out ++ marked_addresses (drop i marks) (drop i code) ≡ all → new ++ marked_addresses (drop (i + 1) marks) (drop (i + 1) code) ≡ all
    with_code [] lc so_far = absurd (omega arith)
    with_code (q ∷ code) lc so_far =
        let p : Place = get_or (q ∷ code) i q in
        listed_more out new all marks (q ∷ code) i p lm lc (get_or_default (q ∷ code) i q p lc) so_far (e ∙ sym (cond-false (get_or marks i false) (out ++ p.at ∷ []) out unmarked))
