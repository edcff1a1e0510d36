-- The new numbers of temporaries: those that are written are told apart from all others.
use Rattle.std.proofs.Common.{◌≡◌, ℕ, ◌+◌, ◌<◌, ◌≤◌, ◌==◌, ◌||◌, Bool, true, false, not, cond, List, [], ◌∷◌, ◌++◌, ltb, length, take, get_or, filter, position, Option, Some, None, refl, sym, ap, ◌∙◌, arith}
use Rattle.std.specs.Bool.{nat_eq}
use Rattle.std.specs.List.{list_any, flat_map}
use Rattle.std.proofs.lemmas.Bool.Decides.{nat_tests}
use Rattle.std.proofs.lemmas.List.{append-nil, append_assoc, take_more}
use Rattle.std.proofs.lemmas.List.Elements.{filter-append}
use Rattle.std.proofs.lemmas.List.Folds.{list_any-append}
use Rattle.std.proofs.lemmas.List.Sums.{prefix_len-le-length}
use Rattle.indexmap.specs.IndexSet.{insert_key, insert_all}
use Rattle.flag_ir.specs.declared.operation.Op.{Op}
use Rattle.guards.specs.Renumbering.{temps_written, without_repeats, written_temps, new_number}

-- ---- lists without repeats
in_filter : (n m : ℕ) → (n == m) ≡ false → (ns : List ℕ) → list_any (nat_eq n) (filter (λ k. not (k == m)) ns) ≡ list_any (nat_eq n) ns
in_filter n m other [] = refl
in_filter n m other (x ∷ xs) = by (x == m) refl (in_filter n m other xs)
  where
    by : (z : Bool) → (x == m) ≡ z → list_any (nat_eq n) (filter (λ k. not (k == m)) xs) ≡ list_any (nat_eq n) xs → list_any (nat_eq n) (cond (not z) (x ∷ filter (λ k. not (k == m)) xs) (filter (λ k. not (k == m)) xs)) ≡ ((n == x) || list_any (nat_eq n) xs)
    by true e h = let apart : (n == x) ≡ false = grind (arith, nat_tests, other, e) in h ∙ sym (ap (λ b. b || list_any (nat_eq n) xs) apart)
    by false e h = ap (λ b. (n == x) || b) h

pub in_once : (n : ℕ) (ns : List ℕ) → list_any (nat_eq n) (without_repeats ns) ≡ list_any (nat_eq n) ns
in_once n [] = refl
in_once n (m ∷ ms) = by (n == m) refl (in_once n ms)
  where
    by : (z : Bool) → (n == m) ≡ z → list_any (nat_eq n) (without_repeats ms) ≡ list_any (nat_eq n) ms → (z || list_any (nat_eq n) (filter (λ k. not (k == m)) (without_repeats ms))) ≡ (z || list_any (nat_eq n) ms)
    by true e h = refl
    by false e h = in_filter n m e (without_repeats ms) ∙ h

-- one number more
once_more : (ns : List ℕ) (n : ℕ) → without_repeats (ns ++ n ∷ []) ≡ insert_key nat_eq (without_repeats ns) n
once_more [] n = refl
once_more (m ∷ ms) n =
    ap (λ l. m ∷ others l) (once_more ms n)
    ∙ by (n == m) refl (list_any (nat_eq n) (without_repeats ms)) refl
  where
    others : List ℕ → List ℕ
    others l = filter (λ k. not (k == m)) l

    rest : List ℕ
    rest = without_repeats ms

    added : (z : Bool) → (n == m) ≡ z → others (rest ++ n ∷ []) ≡ others rest ++ cond (not z) (n ∷ []) []
    added z e = filter-append (λ k. not (k == m)) rest (n ∷ []) ∙ ap (λ b. others rest ++ cond (not b) (n ∷ []) []) e

    by : (a : Bool) → (n == m) ≡ a → (b : Bool) → list_any (nat_eq n) rest ≡ b → (m ∷ others (cond b rest (rest ++ n ∷ []))) ≡ cond (a || list_any (nat_eq n) (others rest)) (m ∷ others rest) (m ∷ others rest ++ n ∷ [])
    by true e true f = refl
    by true e false f = ap (λ l. m ∷ l) (added true e ∙ append-nil (others rest))
    by false e true f = sym (ap (λ z. cond z (m ∷ others rest) (m ∷ others rest ++ n ∷ [])) (in_filter n m e rest ∙ f))
    by false e false f = ap (λ l. m ∷ l) (added false e) ∙ sym (ap (λ z. cond z (m ∷ others rest) (m ∷ others rest ++ n ∷ [])) (in_filter n m e rest ∙ f))

-- several more
pub once_all : (ms ns : List ℕ) → without_repeats (ms ++ ns) ≡ insert_all nat_eq (without_repeats ms) ns
once_all ms [] = ap without_repeats (append-nil ms)
once_all ms (n ∷ ns) = ap without_repeats (sym (append_assoc ms (n ∷ []) ns)) ∙ (once_all (ms ++ n ∷ []) ns ∙ ap (λ l. insert_all nat_eq l ns) (once_more ms n))

-- ---- new numbers
-- no other number has the one that stands in place of n
abbrev pub IsTold : (ℕ → ℕ) → ℕ → Type 0
IsTold f n = (k : ℕ) → (k == n) ≡ (f k == f n)

-- so with each number of a list
abbrev pub AreTold : (ℕ → ℕ) → List ℕ → Type 0
AreTold f ns = (n : ℕ) → list_any (nat_eq n) ns ≡ true → IsTold f n

pub new_told : (ws : List ℕ) → AreTold (new_number ws) ws
new_told [] n h k = absurd cc
new_told (w ∷ ws) n h k = by (n == w) refl (k == w) refl h (λ g. new_told ws n g k)
  where
    one_more : (a b : ℕ) → (a == b) ≡ (1 + a == 1 + b)
    one_more a b = grind (arith, nat_tests)

    by : (a : Bool) → (n == w) ≡ a → (b : Bool) → (k == w) ≡ b → (a || list_any (nat_eq n) ws) ≡ true → (list_any (nat_eq n) ws ≡ true → (k == n) ≡ (new_number ws k == new_number ws n)) → (k == n) ≡ (cond (not b) (1 + new_number ws k) 0 == cond (not a) (1 + new_number ws n) 0)
    by true e true f h rest = grind (arith, nat_tests, e, f)
    by true e false f h rest = grind (arith, nat_tests, e, f)
    by false e true f h rest = grind (arith, nat_tests, e, f)
    by false e false f h rest = rest h ∙ one_more (new_number ws k) (new_number ws n)

pub block_told : (ops : List Op) → AreTold (new_number (written_temps ops)) (flat_map temps_written ops)
block_told ops n h = new_told (written_temps ops) n (in_once n (flat_map temps_written ops) ∙ h)

pub told_first : (f : ℕ → ℕ) (ms ns : List ℕ) → AreTold f (ms ++ ns) → AreTold f ms
told_first f ms ns h n e = h n (list_any-append (nat_eq n) ms ns ∙ ap (λ b. b || list_any (nat_eq n) ns) e)

pub told_rest : (f : ℕ → ℕ) (ms ns : List ℕ) → AreTold f (ms ++ ns) → AreTold f ns
told_rest f ms ns h n e = h n (list_any-append (nat_eq n) ms ns ∙ (ap (λ b. list_any (nat_eq n) ms || b) e ∙ or_true (list_any (nat_eq n) ms)))
  where
    or_true : (b : Bool) → (b || true) ≡ true
    or_true true = refl
    or_true false = refl

-- where the numbers stay, all are told apart
pub all_told : (ns : List ℕ) → AreTold (λ k. k) ns
all_told ns n h k = refl

pub new_small : (ws : List ℕ) (n : ℕ) → new_number ws n ≤ length ws
new_small ws n = prefix_len-le-length (λ k. not (n == k)) ws

-- ---- the temporaries of one operation more
pub written_more : (ops : List Op) (i : ℕ) (d : Op) (old new : List ℕ) → i < length ops → old ≡ written_temps (take i ops) → new ≡ insert_all nat_eq old (temps_written (get_or ops i d)) → new ≡ written_temps (take (i + 1) ops)
written_more ops i d old new few e f =
    f ∙ (ap (λ l. insert_all nat_eq l (temps_written (get_or ops i d))) e
    ∙ (sym (once_all (flat_map temps_written (take i ops)) (temps_written (get_or ops i d)))
    ∙ ap without_repeats (flat_more (take i ops) (get_or ops i d) ∙ ap (flat_map temps_written) (sym (take_more ops i d few)))))
  where
    flat_more : (os : List Op) (o : Op) → flat_map temps_written os ++ temps_written o ≡ flat_map temps_written (os ++ o ∷ [])
    flat_more [] o = sym (append-nil (temps_written o))
    flat_more (p ∷ ps) o = append_assoc (temps_written p) (flat_map temps_written ps) (temps_written o) ∙ ap (λ l. temps_written p ++ l) (flat_more ps o)

-- a temporary that isn't written has the number behind the last
pub unwritten : (ws : List ℕ) (n : ℕ) → position (nat_eq n) ws ≡ None → length ws ≡ new_number ws n
unwritten ws n none = behind (new_number ws n) (length ws) (new_small ws n) none
  where
    behind : (a l : ℕ) → a ≤ l → cond (ltb a l) (Some a) None ≡ (let o : Option ℕ = None in o) → l ≡ a
    behind a l few e = by (ltb a l) refl e
      where
        by : (b : Bool) → ltb a l ≡ b → cond b (Some a) None ≡ (let o : Option ℕ = None in o) → l ≡ a
        by true f g = absurd cc
        by false f g = grind (arith, nat_tests, few, f)
