-- Found places and the blocks of their addresses.
use Rattle.std.proofs.Common.{◌≡◌, ◌≢◌, ◌⊎◌, ℕ, suc, zero, ◌<◌, ◌≤◌, ◌==◌, Bool, true, false, cond, List, [], ◌∷◌, map, length, find, Contains, Option, Some, None, is_some, refl, sym, ◌∙◌, subst, inl, inr, arith}
use Rattle.std.specs.List.{slice_get, position}
use Rattle.std.proofs.lemmas.Bool.{eqb-true, eq-eqb}
use Rattle.std.proofs.lemmas.List.Elements.{Contains-append_right}
use Rattle.std.proofs.lemmas.List.Quantifiers.{position-Some}
use Rattle.std.proofs.lemmas.Option.{slice_get_cases, get_or_from_slice_get}
use Rattle.flag_ir.specs.declared.block.Block.{Block}
use Rattle.flag_ir.specs.declared.block.Exit.TheVariants as exit
use Rattle.flag_ir.specs.Entering.{CodeUnit, index_at}
use Rattle.plan_types.specs.declared.place.Place.{Place}
use Rattle.plan_types.specs.Contents.{FoundContents}
use Rattle.plan_types.specs.Body.{HasPlace}
use Rattle.cut_run.specs.CutRun.{is_place}
use Rattle.lift_core.specs.Whole.{Lifting, IsWholeBy}

-- ---- lists
none_in : {X : Type 0} (x : X) → Contains [] x → ⊥
none_in x c = let low : c.0 < 0 = c.1 in omega arith

head_in : {X : Type 0} (x : X) (xs : List X) → Contains (x ∷ xs) x
head_in x xs = (0, omega arith, refl)

tail_in : {X : Type 0} (x : X) (xs : List X) (y : X) → Contains xs y → Contains (x ∷ xs) y
tail_in x xs y c = Contains-append_right (x ∷ []) xs y c

cases_in : {X : Type 0} (x : X) (xs : List X) (y : X) → Contains (x ∷ xs) y → (x ≡ y) ⊎ Contains xs y
cases_in x xs y (zero, low, is) = inl is
cases_in x xs y (suc k, low, is) = inr (k, omega arith, is)

record IsMapped {X Y : Type 0} (f : X → Y) (xs : List X) (y : Y) : Type 0 where
  pub of : X
  pub among : Contains xs of
  pub gives : f of ≡ y

mapped_in : {X Y : Type 0} (f : X → Y) (xs : List X) (y : Y) → Contains (map f xs) y → IsMapped f xs y
mapped_in f [] y c = absurd (none_in y c)
mapped_in f (x ∷ xs) y c = elim (cases_in (f x) (map f xs) y c) [
  | inl e ↦ record { of = x; among = head_in x xs; gives = e }
  | inr more ↦ let m = mapped_in f xs y more in record { of = m.of; among = tail_in x xs m.of m.among; gives = m.gives }
]

found_in : {X : Type 0} (test : X → Bool) (xs : List X) (x : X) → find test xs ≡ Some x → Contains xs x × (test x ≡ true)
found_in test [] x e = cc
found_in test (y ∷ ys) x e =
    (elim (test y) as (λ b. test y ≡ b → cond b (Some y) (find test ys) ≡ Some x → Contains (y ∷ ys) x × (test x ≡ true)) [
      | true ↦ λ passes e. let same : y ≡ x = cc in (subst (λ z. Contains (y ∷ ys) z) same (head_in y ys), subst (λ z. test z ≡ true) same passes)
      | false ↦ λ fails e. let more = found_in test ys x e in (tail_in y ys x more.0, more.1)
    ]) refl e

not_found : {X : Type 0} (test : X → Bool) (xs : List X) (x : X) → find test xs ≡ None → Contains xs x → test x ≡ false
not_found test [] x e c = absurd (none_in x c)
not_found test (y ∷ ys) x e c =
    (elim (test y) as (λ b. test y ≡ b → cond b (Some y) (find test ys) ≡ None → test x ≡ false) [
      | true ↦ λ passes e. cc
      | false ↦ λ fails e. elim (cases_in y ys x c) [
        | inl same ↦ subst (λ z. test z ≡ false) same fails
        | inr more ↦ not_found test ys x e more
      ]
    ]) refl e

-- ---- places
pub record PlaceAt (found : FoundContents) (a : ℕ) : Type 0 where
  pub place : Place
  pub among : Contains found.code place
  pub at : place.at ≡ a

pub place_at : (found : FoundContents) (a : ℕ) → is_place found a ≡ true → PlaceAt found a
place_at found a h = cases (find (λ p. p.at == a) found.code) refl h
  where
    cases : (o : Option Place) → find (λ (p : Place). p.at == a) found.code ≡ o → is_some o ≡ true → PlaceAt found a
    cases None e h = cc
    cases (Some p) e h = let is = found_in (λ (p : Place). p.at == a) found.code p e in record { place = p; among = is.0; at = eqb-true p.at a is.1 }

pub no_place : (found : FoundContents) (a : ℕ) → is_place found a ≡ false → HasPlace found a → ⊥
no_place found a h has = cases (find (λ p. p.at == a) found.code) refl h
  where
    is : IsMapped (λ (p : Place). p.at) found.code a
    is = mapped_in (λ (p : Place). p.at) found.code a has

    cases : (o : Option Place) → find (λ (p : Place). p.at == a) found.code ≡ o → is_some o ≡ false → ⊥
    cases None e h =
        let fails : (is.of.at == a) ≡ false = not_found (λ (p : Place). p.at == a) found.code is.of e is.among in
        let passes : (is.of.at == a) ≡ true = eq-eqb is.of.at a is.gives in
        let both : true ≡ false = sym passes ∙ fails in cc
    cases (Some p) e h = cc

-- ---- the block with an index that an address has
pub record IsBlockAt (blocks : List Block) (a k : ℕ) : Type 0 where
  pub nonzero : a ≢ 0
  pub here : (b : Block) → slice_get blocks k ≡ Some b → b.at ≡ a
  pub block : Block
  pub is : slice_get blocks k ≡ Some block
  pub among : Contains blocks block

some_block : Block
some_block = record { number = 0; at = 0; ops = []; exit = exit.Stop }

pub block_at : (a : ℕ) (blocks : List Block) (k : ℕ) → index_at a blocks ≡ Some k → IsBlockAt blocks a k
unfolding index_at
block_at a blocks k e = zero_or (a == 0) refl e
  where
    at_position : a ≢ 0 → position (λ (b : Block). b.at == a) blocks ≡ Some k → IsBlockAt blocks a k
    at_position nonzero p = elim (slice_get_cases blocks k).1 [
      | inl there ↦ record {
        nonzero = nonzero;
        here = λ b is.
            let passes = (position-Some (λ (b : Block). b.at == a) blocks k b p).1 in
            eqb-true b.at a (subst (λ (z : Block). (z.at == a) ≡ true) (get_or_from_slice_get blocks k b b is) passes);
        block = there.0;
        is = there.2;
        among = (k, there.1, there.3);
      }
      | inr past ↦ let low = (position-Some (λ (b : Block). b.at == a) blocks k some_block p).0 in absurd (let less : k < length blocks = low in let more : length blocks ≤ k = past.0 in omega arith)
    ]

    zero_or : (z : Bool) → (a == 0) ≡ z → cond z None (position (λ (b : Block). b.at == a) blocks) ≡ Some k → IsBlockAt blocks a k
    zero_or true h e = cc
    zero_or false h e = at_position (λ zero. let both : true ≡ false = sym (eq-eqb a 0 zero) ∙ h in cc) e

-- where no place is found there is no block
pub no_block : (lifting : Lifting) (unit : CodeUnit) (found : FoundContents) (a : ℕ) → IsWholeBy lifting unit found → is_place found a ≡ false → index_at a unit.whole ≡ None
no_block lifting unit found a whole h = cases (index_at a unit.whole) refl
  where
    cases : (o : Option ℕ) → index_at a unit.whole ≡ o → o ≡ None
    cases None e = refl
    cases (Some k) e =
        let b = block_at a unit.whole k e in
        let at : b.block.at ≡ a = b.here b.block b.is in
        absurd (no_place found a h (subst (HasPlace found) at (whole.places b.block b.among (λ zero. b.nonzero (sym at ∙ zero)))))
