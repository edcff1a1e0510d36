-- The unit of the blocks that are made is that of the whole program.
use Rattle.std.proofs.Common.{◌≡◌, ◌≢◌, ℕ, zero, suc, ◌+◌, ◌<◌, ◌⊎◌, ◌==◌, Bool, true, false, not, cond, ltb, List, [], ◌∷◌, ◌++◌, length, get_or, position, slice_get, Contains, Some, None, refl, sym, ap, ◌∙◌, subst, inl, inr, arith}
use Rattle.std.specs.List.{position_or_len}
use Rattle.std.specs.List.Sorted.{IsStrictlyIncreasing}
use Rattle.std.proofs.lemmas.Bool.{eq-eqb, ne_eqb, lt-ltb}
use Rattle.std.proofs.lemmas.List.Kept.{AllPairs-from_increasing}
use Rattle.std.proofs.lemmas.List.Sums.{prefix_len_is}
use Rattle.std.proofs.lemmas.Option.{slice_get-map, slice_get_within, slice_get-get_or, get_or_from_slice_get}
use Rattle.std.specs.Option.{option_map}
use Rattle.flag_ir.specs.declared.variable.Term.{Term}
use Rattle.flag_ir.specs.declared.operation.Op.{Op}
use Rattle.flag_ir.specs.declared.block.Block.{Block}
use Rattle.flag_ir.specs.declared.block.Exit.{Exit}
use Rattle.flag_ir.specs.Entering.{CodeUnit, index_of_number, index_at}
use Rattle.plan_types.specs.declared.place.Place.{Place}
use Rattle.plan_types.specs.Contents.{FoundContents}
use Rattle.plan_types.specs.Ascending.{addresses_of}
use Rattle.lift_core.specs.declared.way.Way.{Way}
use Rattle.lift_core.specs.declared.way.Way.TheVariants as way
use Rattle.lift_core.specs.Whole.{Lifting, IsNumbered, LeadsTo, NumberLeadsTo, BranchesTo, HasWay, HasBlock, IsWholeBy}
use Rattle.whole_code.specs.Building.{Leads, GoesOn, BranchesOn, GoesWay, IsFurther, AreMade, AreBlocksOf}
use Rattle.whole_code.proofs.Parts.{get_left, get_right, get_cases, get_contains, contains_get, IsRight}

-- ---- lists
pub get_at : {X : Type 0} (xs : List X) (k : ℕ) → k < length xs → (x : X) × (slice_get xs k ≡ Some x)
get_at [] k low = absurd (omega arith)
get_at (x ∷ xs) zero low = (x, refl)
get_at (x ∷ xs) (suc k) low = get_at xs k (omega arith)

-- the first that passes is at an index
first_at : {X : Type 0} (p : X → Bool) (xs : List X) (k : ℕ) (x : X) → slice_get xs k ≡ Some x → p x ≡ true → ((j : ℕ) (y : X) → j < k → slice_get xs j ≡ Some y → p y ≡ false) → position p xs ≡ Some k
first_at p xs k x there passes none =
    let low : k < length xs = slice_get_within xs k x there in
    let here : get_or xs k x ≡ x = get_or_from_slice_get xs k x x there in
    let at : position_or_len p xs ≡ k = prefix_len_is (λ y. not (p y)) xs k x (omega arith) (λ j before. ap not (none j (get_or xs j x) before (slice_get-get_or xs j x (omega arith)))) (λ low. ap (λ y. not (p y)) here ∙ ap not passes) in
    subst (λ i. cond (ltb i (length xs)) (Some i) None ≡ Some k) (sym at) (ap (λ b. cond b (Some k) None) (lt-ltb k (length xs) low))

pub address_at : (code : List Place) (k : ℕ) (p : Place) → slice_get code k ≡ Some p → slice_get (addresses_of code) k ≡ Some p.at
address_at code k p e = slice_get-map (λ (q : Place). q.at) code k ∙ ap (option_map (λ (q : Place). q.at)) e

-- the place with an address
pub place_of : (code : List Place) (k a : ℕ) → slice_get (addresses_of code) k ≡ Some a → (p : Place) × (slice_get code k ≡ Some p) × (p.at ≡ a)
place_of [] k a e = absurd cc
place_of (p ∷ ps) zero a e = (p, refl, cc)
place_of (p ∷ ps) (suc k) a e = place_of ps k a e

-- places ascend
ascend : (code : List Place) → IsStrictlyIncreasing (addresses_of code) → (j k : ℕ) (p q : Place) → j < k → slice_get code j ≡ Some p → slice_get code k ≡ Some q → p.at < q.at
ascend code up j k p q before e f =
    let one = address_at code j p e in
    let two = address_at code k q f in
    let low : k < length (addresses_of code) = slice_get_within (addresses_of code) k q.at two in
    let less = AllPairs-from_increasing (addresses_of code) up j k 0 before low in
    omega (arith, less, get_or_from_slice_get (addresses_of code) j p.at 0 one, get_or_from_slice_get (addresses_of code) k q.at 0 two)

module _ (lifting : Lifting) (code : List Place) (blocks further : List Block) (made : AreMade lifting code (length code) (length code) blocks further) where
  -- the block of a place
  pub block_of : (k : ℕ) (p : Place) → slice_get code k ≡ Some p → (b : Block) × (slice_get blocks k ≡ Some b)
  block_of k p e = get_at blocks k (omega (arith, slice_get_within code k p e, made.count))

  pub place_at_block : (k : ℕ) (b : Block) → slice_get blocks k ≡ Some b → (p : Place) × (slice_get code k ≡ Some p)
  place_at_block k b e = get_at code k (omega (arith, slice_get_within blocks k b e, made.count))

  -- a further block, by its number
  pub further_there : (k number : ℕ) (d : Block) → number ≡ length code + k → slice_get further k ≡ Some d → slice_get (blocks ++ further) number ≡ Some d
  further_there k number d is e = get_right blocks further k number (omega (arith, made.count)) ∙ e

  further_number : (number : ℕ) (b : Block) → IsFurther lifting code (length code) further number b → b.number ≡ number
  further_number number b (inl j) = j.number_is
  further_number number b (inr h) = h.is.number_is

  pub further_within : (number : ℕ) (b : Block) → IsFurther lifting code (length code) further number b → b.at ≡ 0
  further_within number b (inl j) = j.jumps.at
  further_within number b (inr h) = h.is.within

  number_by : (k : ℕ) (b : Block) → (slice_get blocks k ≡ Some b) ⊎ IsRight blocks further k b → b.number ≡ k
  number_by k b (inl e) = let p = place_at_block k b e in (made.places k p.0 b p.1 e).number_is
  number_by k b (inr r) = further_number (length code + r.index) b (made.each r.index b r.there) ∙ omega (arith, r.place, made.count)

  -- numbers are indices
  pub numbers : (k : ℕ) (b : Block) → slice_get (blocks ++ further) k ≡ Some b → b.number ≡ k
  numbers k b e = number_by k b (get_cases blocks further k b e)

  pub index_is : (k : ℕ) (b : Block) → slice_get (blocks ++ further) k ≡ Some b → index_of_number k (blocks ++ further) ≡ Some k
  unfolding index_of_number
  index_is k b e =
      first_at (λ (d : Block). d.number == k) (blocks ++ further) k b e (eq-eqb b.number k (numbers k b e))
      (λ j y before there. ne_eqb y.number k (λ same. let is = numbers j y there in omega arith))

  pub numbered : (k : ℕ) (b : Block) → slice_get (blocks ++ further) k ≡ Some b → IsNumbered (blocks ++ further) k k b
  numbered k b e = record { index = index_is k b e; block = e }

  -- ---- addresses
  module _ (up : IsStrictlyIncreasing (addresses_of code)) (above : (p : Place) → Contains code p → p.at ≢ 0) where
    other_address : (k : ℕ) (p : Place) → slice_get code k ≡ Some p → (j : ℕ) (y : Block) → j < k → (slice_get blocks j ≡ Some y) ⊎ IsRight blocks further j y → (y.at == p.at) ≡ false
    other_address k p e j y before (inl f) =
        let q = place_at_block j y f in
        let is = (made.places j q.0 y q.1 f).at_is in
        let less = ascend code up j k q.0 p before q.1 e in
        ne_eqb y.at p.at (λ same. omega (arith, is, less))
    other_address k p e j y before (inr r) = absurd (omega (arith, r.place, made.count, slice_get_within code k p e))

    index_at_place : (k : ℕ) (p : Place) → slice_get code k ≡ Some p → index_at p.at (blocks ++ further) ≡ Some k
    unfolding index_at
    index_at_place k p e =
        let b = block_of k p e in
        let there = get_left blocks further k b.0 b.1 in
        let is = (made.places k p b.0 e b.1).at_is in
        ap (λ t. cond t None (position (λ (d : Block). d.at == p.at) (blocks ++ further))) (ne_eqb p.at 0 (above p (get_contains code k p e)))
        ∙ first_at (λ (d : Block). d.at == p.at) (blocks ++ further) k b.0 there (eq-eqb b.0.at p.at is)
        (λ j y before f. other_address k p e j y before (get_cases blocks further j y f))

    pub index_of_address : (k a : ℕ) → slice_get (addresses_of code) k ≡ Some a → index_at a (blocks ++ further) ≡ Some k
    index_of_address k a e =
        let p = place_of code k a e in
        subst (λ x. index_at x (blocks ++ further) ≡ Some k) p.2 (index_at_place k p.0 p.1)

    pub block_of_address : (k a : ℕ) → slice_get (addresses_of code) k ≡ Some a → (b : Block) × (slice_get (blocks ++ further) k ≡ Some b) × (b.at ≡ a)
    block_of_address k a e =
        let p = place_of code k a e in
        let b = block_of k p.0 p.1 in
        (b.0, get_left blocks further k b.0 b.1, (made.places k p.0 b.0 p.1 b.1).at_is ∙ p.2)

    -- ---- ways
    leads_number : (number a : ℕ) → Leads code (length code) further number a → NumberLeadsTo (blocks ++ further) number a
    leads_number number a (inl e) =
        let b = block_of_address number a e in
        record { index = number; block = b.0; numbered = numbered number b.0 b.1; leads = inl (index_of_address number a e) }
    leads_number number a (inr j) =
        record { index = number; block = j.block; numbered = numbered number j.block (further_there j.index number j.block j.number_is j.there); leads = inr j.jumps }

    goes_on : (e : Exit) (a : ℕ) → GoesOn code e a → LeadsTo (blocks ++ further) e a
    goes_on e a (inl g) =
        let b = block_of_address g.0 a g.1 in
        inl (record { number = g.0; index = g.0; goes = g.2; numbered = index_is g.0 b.0 b.1; there = index_of_address g.0 a g.1 })
    goes_on e a (inr j) = inr j

    branches_to : (test : Term) (a b : ℕ) (e : Exit) → BranchesOn code (length code) further test a b e → BranchesTo (blocks ++ further) e test a b
    branches_to test a b e h = record { yes = h.yes; no = h.no; branches = h.branches; first = leads_number h.yes a h.first_leads; second = leads_number h.no b h.second_leads }

    has_way : (ops : List Op) (w : Way) (b : Block) → GoesWay code (length code) further ops w b.ops b.exit → HasWay (blocks ++ further) ops w b
    has_way ops (way.On a) b h = (h.0, goes_on b.exit a h.1)
    has_way ops (way.Either test x y) b h = (h.0, branches_to test x y b.exit h.1)
    has_way ops (way.Repeat count again x y) b h = record {
      empty = h.empty;
      yes = length code + h.index;
      no = h.no;
      tests = h.tests;
      done = leads_number h.no y h.done;
      index = length code + h.index;
      body = h.body;
      numbered = numbered (length code + h.index) h.body (further_there h.index (length code + h.index) h.body refl h.there);
      within = h.is.within;
      iteration = h.is.iteration;
      branches = branches_to again x y h.body.exit h.is.on;
    }
    has_way ops (way.To target) b h = h
    has_way ops (way.Back target) b h = h

    has_block : (p : Place) → Contains code p → HasBlock lifting (blocks ++ further) p
    has_block p c =
        let k = contains_get code p c in
        let b = block_of k.0 p k.1 in
        record {
          index = k.0;
          block = b.0;
          there = index_at_place k.0 p k.1;
          is = get_left blocks further k.0 b.0 b.1;
          by = has_way (lifting.list p) (lifting.way p) b.0 (made.places k.0 p b.0 k.1 b.1).goes;
        }

    has_place : (k : ℕ) (b : Block) → (slice_get blocks k ≡ Some b) ⊎ IsRight blocks further k b → b.at ≢ 0 → Contains (addresses_of code) b.at
    has_place k b (inl e) ne =
        let p = place_at_block k b e in
        get_contains (addresses_of code) k b.at (address_at code k p.0 p.1 ∙ ap Some (sym (made.places k p.0 b p.1 e).at_is))
    has_place k b (inr r) ne = absurd (ne (further_within (length code + r.index) b (made.each r.index b r.there)))

    pub whole_of_made : (unit : CodeUnit) (found : FoundContents) → found.code ≡ code → unit.lowered ≡ false → unit.procs ≡ [] → unit.whole ≡ blocks ++ further → IsWholeBy lifting unit found
    whole_of_made unit found code_is lowered procs whole_is = record {
      lowered = lowered;
      procs = procs;
      blocks = λ p c. subst (λ (l : List Block). HasBlock lifting l p) (sym whole_is) (has_block p (subst (λ (l : List Place). Contains l p) code_is c));
      places = λ b c ne.
          let k = contains_get (blocks ++ further) b (subst (λ (l : List Block). Contains l b) whole_is c) in
          subst (λ (l : List Place). Contains (addresses_of l) b.at) (sym code_is) (has_place k.0 b (get_cases blocks further k.0 b k.1) ne);
    }

pub is_whole : (lifting : Lifting) (unit : CodeUnit) (found : FoundContents) → IsStrictlyIncreasing (addresses_of found.code) → ((p : Place) → Contains found.code p → p.at ≢ 0) → unit.lowered ≡ false → unit.procs ≡ [] → AreBlocksOf lifting found.code unit.whole → IsWholeBy lifting unit found
is_whole lifting unit found up above lowered procs h = whole_of_made lifting found.code h.blocks h.further h.made up above unit found refl lowered procs h.whole_is
