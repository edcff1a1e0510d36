-- The unit of the blocks that are made is in form and well shaped, and its turns are short.
use Rattle.std.proofs.Common.{◌≡◌, ◌≢◌, ℕ, zero, suc, ◌+◌, ◌<◌, ◌≤◌, ◌⊎◌, ◌==◌, Bool, true, false, cond, List, [], ◌∷◌, ◌++◌, length, get_or, slice_get, All, Contains, Some, None, refl, sym, ap, ◌∙◌, subst, inl, inr, arith}
use Rattle.std.specs.List.Sorted.{IsStrictlyIncreasing}
use Rattle.std.proofs.lemmas.Bool.{eq-eqb, eqb-true, false≢true}
use Rattle.std.proofs.lemmas.List.Elements.{All-nil, Contains-get_or}
use Rattle.std.proofs.lemmas.Option.{slice_get_within}
use Rattle.flag_ir.specs.declared.variable.Term.{Term}
use Rattle.flag_ir.specs.declared.operation.Op.{Op}
use Rattle.flag_ir.specs.declared.block.Block.{Block}
use Rattle.flag_ir.specs.declared.block.Exit.{Exit}
use Rattle.flag_ir.specs.declared.block.Exit.TheVariants as exit
use Rattle.flag_ir.specs.declared.procedure.Proc.{Proc}
use Rattle.flag_ir.specs.Entering.{CodeUnit, index_of_number}
use Rattle.flag_ir.specs.Form.{IsTerm, IsOp, IsExit, IsFrameless, IsFramelessExit, IsFramelessBlock, IsInForm}
use Rattle.flag_ir.specs.Shape.{Part, named_by, IsBlock, GoesTo, IsWellShaped}
use Rattle.flag_ir.specs.Costs.{one_each, list_cost, block_cost, allowed, BoundsTurns}
use Rattle.plan_types.specs.declared.place.Place.{Place}
use Rattle.plan_types.specs.Ascending.{addresses_of}
use Rattle.lift_core.specs.declared.way.Way.{Way}
use Rattle.lift_core.specs.declared.way.Way.TheVariants as way
use Rattle.lift_core.specs.Laws.{IsWay}
use Rattle.lift_core.specs.Whole.{Lifting, OnlyJumps}
use Rattle.whole_code.specs.Building.{Leads, GoesOn, BranchesOn, IsBehind, IsBody, GoesWay, IsFurther, AreMade, AreBlocksOf}
use Rattle.whole_code.specs.Weight.{cost_behind, rest_at, rest_of}
use Rattle.whole_code.proofs.Parts.{get_cases, get_contains, contains_get, get_only, same_got, IsRight}
use Rattle.whole_code.proofs.WholeUnit.{place_of, place_at_block, further_there, numbers, index_is, block_of_address, further_within}

-- what is known of the lists and the ways of a lifting
pub record IsPlain (most : ℕ) (lifting : Lifting) : Type 0 where
  pub ops : (p : Place) → All (IsOp 0) (lifting.list p)
  pub frameless : (p : Place) → All IsFrameless (lifting.list p)
  pub short : (p : Place) → length (lifting.list p) ≤ most
  pub way : (p : Place) → IsWay (lifting.way p)

-- ---- numbers that are named
named_two : (m n x : ℕ) → Contains (m ∷ n ∷ []) x → (m ≡ x) ⊎ (n ≡ x)
named_two m n x c = at (contains_get (m ∷ n ∷ []) x c)
  where
    at_index : (k : ℕ) → slice_get (m ∷ n ∷ []) k ≡ Some x → (m ≡ x) ⊎ (n ≡ x)
    at_index zero e = inl cc
    at_index (suc zero) e = inr cc
    at_index (suc (suc k)) e = absurd cc

    at : (k : ℕ) × (slice_get (m ∷ n ∷ []) k ≡ Some x) → (m ≡ x) ⊎ (n ≡ x)
    at g = at_index g.0 g.1

named_none : (x : ℕ) → Contains [] x → ⊥
named_none x c = omega (arith, c.1)

named_at : (e f : Exit) (x : ℕ) → e ≡ f → Contains (named_by e) x → Contains (named_by f) x
named_at e f x is c = subst (λ (i : Exit). Contains (named_by i) x) is c

-- ---- costs
cost_is : (ops : List Op) (e : Exit) → list_cost one_each ops e ≡ length ops + 1
unfolding list_cost
cost_is [] e = refl
cost_is (o ∷ os) e = omega (arith, cost_is os e)

no_ops : {A : Type 0} (xs : List A) → xs ≡ [] → length xs ≡ 0
no_ops xs is = ap (λ (l : List _). length l) is

jump_rest : (a : ℕ) (b : Block) → OnlyJumps a b → rest_at (Some b) ≡ 1
jump_rest a b j =
    let cost = cost_is b.ops b.exit in
    let none = no_ops b.ops j.ops in
    let behind : cost_behind b.exit ≡ 0 = ap cost_behind j.exit in
    omega arith

behind_low : (e : Exit) → cost_behind e ≤ 1
behind_low (exit.Go n) = omega arith
behind_low (exit.Branch test m n) = omega arith
behind_low (exit.Jump to) = omega arith
behind_low (exit.CallProc entry back) = omega arith
behind_low exit.Return = omega arith
behind_low exit.Fault = omega arith
behind_low exit.Stop = omega arith

module _ (most : ℕ) (lifting : Lifting) (plain : IsPlain most lifting) (code : List Place) (blocks further : List Block) (made : AreMade lifting code (length code) (length code) blocks further) where
  -- ---- the lists of blocks
  abbrev Holds : (List Op → Type 0) → Type 0
  Holds P = P [] × ((p : Place) → P (lifting.list p))

  own_ops : (P : List Op → Type 0) → P [] → (ops own : List Op) (w : Way) (e : Exit) → P ops → GoesWay code (length code) further ops w own e → P own
  own_ops P none ops own (way.On a) e h g = subst P (sym g.0) h
  own_ops P none ops own (way.Either test x y) e h g = subst P (sym g.0) h
  own_ops P none ops own (way.Repeat count again x y) e h g = subst P (sym g.empty) none
  own_ops P none ops own (way.To target) e h g = subst P (sym g.0) h
  own_ops P none ops own (way.Back target) e h g = subst P (sym g.0) h

  further_ops : (P : List Op → Type 0) → P [] → ((p : Place) → P (lifting.list p)) → (number : ℕ) (b : Block) → IsFurther lifting code (length code) further number b → P b.ops
  further_ops P none each number b (inl j) = subst P (sym j.jumps.ops) none
  further_ops P none each number b (inr h) = subst P (sym h.is.iteration) (each h.place)

  ops_by : (P : List Op → Type 0) → P [] → ((p : Place) → P (lifting.list p)) → (k : ℕ) (b : Block) → (slice_get blocks k ≡ Some b) ⊎ IsRight blocks further k b → P b.ops
  ops_by P none each k b (inl e) =
      let p = place_at_block lifting code blocks further made k b e in
      own_ops P none (lifting.list p.0) b.ops (lifting.way p.0) b.exit (each p.0) (made.places k p.0 b p.1 e).goes
  ops_by P none each k b (inr r) = further_ops P none each (length code + r.index) b (made.each r.index b r.there)

  -- what holds of the empty list and of each list of a place holds of that of each block
  ops_of : (P : List Op → Type 0) → P [] → ((p : Place) → P (lifting.list p)) → (k : ℕ) (b : Block) → slice_get (blocks ++ further) k ≡ Some b → P b.ops
  ops_of P none each k b e = ops_by P none each k b (get_cases blocks further k b e)

  short_ops : (k : ℕ) (b : Block) → slice_get (blocks ++ further) k ≡ Some b → length b.ops ≤ most
  short_ops k b e = ops_of (λ (l : List Op). length l ≤ most) (omega arith) plain.short k b e

  short_cost : (k : ℕ) (b : Block) → slice_get (blocks ++ further) k ≡ Some b → block_cost one_each b ≤ most + 1
  short_cost k b e = omega (arith, cost_is b.ops b.exit, short_ops k b e)

  module _ (up : IsStrictlyIncreasing (addresses_of code)) (above : (p : Place) → Contains code p → p.at ≢ 0) where
    -- ---- numbers
    lead_low : (number a : ℕ) → Leads code (length code) further number a → number < length (blocks ++ further)
    lead_low number a (inl e) = let b = block_of_address lifting code blocks further made up above number a e in slice_get_within (blocks ++ further) number b.0 b.1
    lead_low number a (inr j) = slice_get_within (blocks ++ further) number j.block (further_there lifting code blocks further made j.index number j.block j.number_is j.there)

    address_not_zero : (number a : ℕ) → slice_get (addresses_of code) number ≡ Some a → a ≢ 0
    address_not_zero number a e zero_is =
        let p = place_of code number a e in above p.0 (get_contains code number p.0 p.1) (p.2 ∙ zero_is)

    -- the block with a number
    number_block : (number : ℕ) (b : Block) → slice_get (blocks ++ further) number ≡ Some b → (j : ℕ) (d : Block) → index_of_number number (blocks ++ further) ≡ Some j → slice_get (blocks ++ further) j ≡ Some d → (number ≡ j) × (b ≡ d)
    number_block number b e j d there f =
        let at = index_is lifting code blocks further made number b e in
        let same : number ≡ j = cc in
        (same, same_got (blocks ++ further) number j b d e f same)

    -- to go by a number to a block without an address is to go to one that only jumps
    lands : (number a : ℕ) → Leads code (length code) further number a → (j : ℕ) (d : Block) → index_of_number number (blocks ++ further) ≡ Some j → slice_get (blocks ++ further) j ≡ Some d → d.at ≡ 0 → (number ≡ j) × OnlyJumps a d
    lands number a (inl e) j d there f within =
        let b = block_of_address lifting code blocks further made up above number a e in
        let same = number_block number b.0 b.1 j d there f in
        let is : b.0.at ≡ d.at = ap (λ (x : Block). x.at) same.1 in
        absurd (address_not_zero number a e (sym b.2 ∙ (is ∙ within)))
    lands number a (inr h) j d there f within =
        let same = number_block number h.block (further_there lifting code blocks further made h.index number h.block h.number_is h.there) j d there f in
        (same.0, subst (λ (x : Block). OnlyJumps a x) same.1 h.jumps)

    -- ---- exits
    branch_in_form : (test : Term) (a b : ℕ) (e : Exit) → IsTerm 0 test → BranchesOn code (length code) further test a b e → IsExit 0 (length (blocks ++ further)) [] e
    branch_in_form test a b e term h = subst (λ (x : Exit). IsExit 0 (length (blocks ++ further)) [] x) (sym h.branches) (term, lead_low h.yes a h.first_leads, lead_low h.no b h.second_leads)

    go_in_form : (a : ℕ) (e : Exit) → GoesOn code e a → IsExit 0 (length (blocks ++ further)) [] e
    go_in_form a e (inl g) = subst (λ (x : Exit). IsExit 0 (length (blocks ++ further)) [] x) (sym g.2) (lead_low g.0 a (inl g.1))
    go_in_form a e (inr is) = subst (λ (x : Exit). IsExit 0 (length (blocks ++ further)) [] x) (sym is) tt

    way_in_form : (ops : List Op) (w : Way) (own : List Op) (e : Exit) → IsWay w → GoesWay code (length code) further ops w own e → IsExit 0 (length (blocks ++ further)) [] e
    way_in_form ops (way.On a) own e terms h = go_in_form a e h.1
    way_in_form ops (way.Either test x y) own e terms h = branch_in_form test x y e terms h.1
    way_in_form ops (way.Repeat count again x y) own e terms h =
        let low = slice_get_within (blocks ++ further) (length code + h.index) h.body (further_there lifting code blocks further made h.index (length code + h.index) h.body refl h.there) in
        subst (λ (z : Exit). IsExit 0 (length (blocks ++ further)) [] z) (sym h.tests) (terms.0, low, lead_low h.no y h.done)
    way_in_form ops (way.To target) own e terms h = subst (λ (x : Exit). IsExit 0 (length (blocks ++ further)) [] x) (sym h.1) terms
    way_in_form ops (way.Back target) own e terms h = subst (λ (x : Exit). IsExit 0 (length (blocks ++ further)) [] x) (sym h.1) terms

    again_in_form : (w : Way) (count again : Term) (x y : ℕ) → w ≡ way.Repeat count again x y → IsWay w → IsTerm 0 again
    again_in_form w count again x y is h = (subst IsWay is h).1

    further_in_form : (number : ℕ) (b : Block) → IsFurther lifting code (length code) further number b → IsExit 0 (length (blocks ++ further)) [] b.exit
    further_in_form number b (inl j) = subst (λ (x : Exit). IsExit 0 (length (blocks ++ further)) [] x) (sym j.jumps.exit) tt
    further_in_form number b (inr h) = branch_in_form h.again h.here h.next b.exit (again_in_form (lifting.way h.place) h.count h.again h.here h.next h.repeats (plain.way h.place)) h.is.on

    exit_by : (k : ℕ) (b : Block) → (slice_get blocks k ≡ Some b) ⊎ IsRight blocks further k b → IsExit 0 (length (blocks ++ further)) [] b.exit
    exit_by k b (inl e) =
        let p = place_at_block lifting code blocks further made k b e in
        way_in_form (lifting.list p.0) (lifting.way p.0) b.ops b.exit (plain.way p.0) (made.places k p.0 b p.1 e).goes
    exit_by k b (inr r) = further_in_form (length code + r.index) b (made.each r.index b r.there)

    -- an exit in form, where no procedure is there, needs no frame
    frameless_exit : (n : ℕ) (e : Exit) → (e ≡ exit.Return → ⊥) → IsExit 0 n [] e → IsFramelessExit e
    frameless_exit n (exit.Go m) returns h = tt
    frameless_exit n (exit.Branch test l m) returns h = tt
    frameless_exit n (exit.Jump to) returns h = tt
    frameless_exit n (exit.CallProc entry back) returns h = named_none entry h.0
    frameless_exit n exit.Return returns h = returns refl
    frameless_exit n exit.Fault returns h = tt
    frameless_exit n exit.Stop returns h = tt

    never_returns : (e f : Exit) → e ≡ f → (f ≡ exit.Return → ⊥) → e ≡ exit.Return → ⊥
    never_returns e f is not r = not (sym is ∙ r)

    way_never_returns : (ops : List Op) (w : Way) (own : List Op) (e : Exit) → GoesWay code (length code) further ops w own e → e ≡ exit.Return → ⊥
    way_never_returns ops (way.On a) own e h r = by_goes h.1
      where
        by_goes : GoesOn code e a → ⊥
        by_goes (inl g) = let is = g.2 in cc
        by_goes (inr is) = cc
    way_never_returns ops (way.Either test x y) own e h r = let is = h.1.branches in cc
    way_never_returns ops (way.Repeat count again x y) own e h r = let is = h.tests in cc
    way_never_returns ops (way.To target) own e h r = let is = h.1 in cc
    way_never_returns ops (way.Back target) own e h r = let is = h.1 in cc

    further_never_returns : (number : ℕ) (b : Block) → IsFurther lifting code (length code) further number b → b.exit ≡ exit.Return → ⊥
    further_never_returns number b (inl j) r = let is = j.jumps.exit in cc
    further_never_returns number b (inr h) r = let is = h.is.on.branches in cc

    returns_by : (k : ℕ) (b : Block) → (slice_get blocks k ≡ Some b) ⊎ IsRight blocks further k b → b.exit ≡ exit.Return → ⊥
    returns_by k b (inl e) r =
        let p = place_at_block lifting code blocks further made k b e in
        way_never_returns (lifting.list p.0) (lifting.way p.0) b.ops b.exit (made.places k p.0 b p.1 e).goes r
    returns_by k b (inr g) r = further_never_returns (length code + g.index) b (made.each g.index b g.there) r

    -- ---- a turn goes on
    -- what comes behind a block without an address
    abbrev GoesOnward : ℕ → Block → ℕ → Type 0
    GoesOnward k d j = (k < j) × (rest_at (Some d) ≡ 1)

    -- a block that only jumps or branches, and that names a number, branches
    branches_by : (k : ℕ) (b : Block) → IsFurther lifting code (length code) further k b → (number : ℕ) → Contains (named_by b.exit) number → cost_behind b.exit ≡ 1
    branches_by k b (inl i) number named = absurd (named_none number (named_at b.exit _ number i.jumps.exit named))
    branches_by k b (inr h) number named = ap cost_behind h.is.on.branches

    branches_at : (k : ℕ) (b : Block) → (slice_get blocks k ≡ Some b) ⊎ IsRight blocks further k b → b.at ≡ 0 → (number : ℕ) → Contains (named_by b.exit) number → cost_behind b.exit ≡ 1
    branches_at k b (inl e) first number named =
        let p = place_at_block lifting code blocks further made k b e in
        absurd (above p.0 (get_contains code k p.0 p.1) (sym (made.places k p.0 b p.1 e).at_is ∙ first))
    branches_at k b (inr r) first number named = branches_by (length code + r.index) b (made.each r.index b r.there) number named

    behind_one : (k number a : ℕ) → IsBehind code k number a → Leads code (length code) further number a → (j : ℕ) (d : Block) → index_of_number number (blocks ++ further) ≡ Some j → slice_get (blocks ++ further) j ≡ Some d → d.at ≡ 0 → GoesOnward k d j
    behind_one k number a (inl e) h j d there f within =
        let b = block_of_address lifting code blocks further made up above number a e in
        let same = number_block number b.0 b.1 j d there f in
        let is : b.0.at ≡ d.at = ap (λ (x : Block). x.at) same.1 in
        absurd (address_not_zero number a e (sym b.2 ∙ (is ∙ within)))
    behind_one k number a (inr low) h j d there f within =
        let l = lands number a h j d there f within in (omega (arith, l.0, low), jump_rest a d l.1)

    body_onward : (ops : List Op) (again : Term) (here next k : ℕ) (b : Block) → IsBody code (length code) further ops again here next k b → (number : ℕ) → Contains (named_by b.exit) number → (j : ℕ) (d : Block) → index_of_number number (blocks ++ further) ≡ Some j → slice_get (blocks ++ further) j ≡ Some d → d.at ≡ 0 → GoesOnward k d j
    body_onward ops again here next k b h number named j d there f within = by_name (named_two h.on.yes h.on.no number (named_at b.exit (exit.Branch again h.on.yes h.on.no) number h.on.branches named))
      where
        by_name : (h.on.yes ≡ number) ⊎ (h.on.no ≡ number) → GoesOnward k d j
        by_name (inl is) = behind_one k h.on.yes here h.first_behind h.on.first_leads j d (ap (λ i. index_of_number i (blocks ++ further)) is ∙ there) f within
        by_name (inr is) = behind_one k h.on.no next h.second_behind h.on.second_leads j d (ap (λ i. index_of_number i (blocks ++ further)) is ∙ there) f within

    further_onward : (k : ℕ) (b : Block) → IsFurther lifting code (length code) further k b → (number : ℕ) → Contains (named_by b.exit) number → (j : ℕ) (d : Block) → index_of_number number (blocks ++ further) ≡ Some j → slice_get (blocks ++ further) j ≡ Some d → d.at ≡ 0 → GoesOnward k d j
    further_onward k b (inl i) number named j d there f within = absurd (named_none number (named_at b.exit _ number i.jumps.exit named))
    further_onward k b (inr h) number named j d there f within = body_onward (lifting.list h.place) h.again h.here h.next k b h.is number named j d there f within

    -- a block without an address is a further one
    onward_by : (k : ℕ) (b : Block) → (slice_get blocks k ≡ Some b) ⊎ IsRight blocks further k b → b.at ≡ 0 → (number : ℕ) → Contains (named_by b.exit) number → (j : ℕ) (d : Block) → index_of_number number (blocks ++ further) ≡ Some j → slice_get (blocks ++ further) j ≡ Some d → d.at ≡ 0 → GoesOnward k d j
    onward_by k b (inl e) first number named j d there f within =
        let p = place_at_block lifting code blocks further made k b e in
        absurd (above p.0 (get_contains code k p.0 p.1) (sym (made.places k p.0 b p.1 e).at_is ∙ first))
    onward_by k b (inr r) first number named j d there f within =
        let at : length code + r.index ≡ k = omega (arith, r.place, made.count) in
        let h : IsFurther lifting code (length code) further k b = subst (λ i. IsFurther lifting code (length code) further i b) at (made.each r.index b r.there) in
        further_onward k b h number named j d there f within

    -- what comes behind a block of a place costs little with it
    rest_low : (k : ℕ) (d : Block) → slice_get (blocks ++ further) k ≡ Some d → rest_at (Some d) ≤ most + 2
    rest_low k d e = omega (arith, short_cost k d e, behind_low d.exit)

    branch_cost : (test : Term) (a b : ℕ) (e : Exit) → BranchesOn code (length code) further test a b e → (number : ℕ) → Contains (named_by e) number → (j : ℕ) (d : Block) → index_of_number number (blocks ++ further) ≡ Some j → slice_get (blocks ++ further) j ≡ Some d → d.at ≡ 0 → rest_at (Some d) ≡ 1
    branch_cost test a b e h number named j d there f within = by_name (named_two h.yes h.no number (named_at e (exit.Branch test h.yes h.no) number h.branches named))
      where
        by_name : (h.yes ≡ number) ⊎ (h.no ≡ number) → rest_at (Some d) ≡ 1
        by_name (inl is) = jump_rest a d (lands h.yes a h.first_leads j d (ap (λ i. index_of_number i (blocks ++ further)) is ∙ there) f within).1
        by_name (inr is) = jump_rest b d (lands h.no b h.second_leads j d (ap (λ i. index_of_number i (blocks ++ further)) is ∙ there) f within).1

    named_go : (m x : ℕ) → Contains (m ∷ []) x → m ≡ x
    named_go m x c = let g = contains_get (m ∷ []) x c in (get_only m g.0 x g.1).1

    go_cost : (a : ℕ) (e : Exit) → GoesOn code e a → (number : ℕ) → Contains (named_by e) number → (j : ℕ) (d : Block) → index_of_number number (blocks ++ further) ≡ Some j → slice_get (blocks ++ further) j ≡ Some d → d.at ≡ 0 → rest_at (Some d) ≡ 1
    go_cost a e (inl g) number named j d there f within =
        let is = named_go g.0 number (named_at e (exit.Go g.0) number g.2 named) in
        jump_rest a d (lands g.0 a (inl g.1) j d (ap (λ i. index_of_number i (blocks ++ further)) is ∙ there) f within).1
    go_cost a e (inr is) number named j d there f within = absurd (named_none number (named_at e _ number is named))

    way_onward : (ops : List Op) (w : Way) (b : Block) → length ops ≤ most → GoesWay code (length code) further ops w b.ops b.exit → (number : ℕ) → Contains (named_by b.exit) number → (j : ℕ) (d : Block) → index_of_number number (blocks ++ further) ≡ Some j → slice_get (blocks ++ further) j ≡ Some d → d.at ≡ 0 → block_cost one_each b + rest_at (Some d) ≤ most + 3
    way_onward ops (way.On a) b short h number named j d there f within =
        omega (arith, cost_is b.ops b.exit, short, ap (λ (l : List Op). length l) h.0, go_cost a b.exit h.1 number named j d there f within)
    way_onward ops (way.Either test x y) b short h number named j d there f within =
        omega (arith, cost_is b.ops b.exit, short, ap (λ (l : List Op). length l) h.0, branch_cost test x y b.exit h.1 number named j d there f within)
    way_onward ops (way.Repeat count again x y) b short h number named j d there f within =
        omega (arith, cost_is b.ops b.exit, no_ops b.ops h.empty, rest_low j d f)
    way_onward ops (way.To target) b short h number named j d there f within = absurd (named_none number (named_at b.exit (exit.Jump target) number h.1 named))
    way_onward ops (way.Back target) b short h number named j d there f within = absurd (named_none number (named_at b.exit (exit.Jump target) number h.1 named))

    place_onward : (k : ℕ) (b : Block) → (slice_get blocks k ≡ Some b) ⊎ IsRight blocks further k b → b.at ≢ 0 → (number : ℕ) → Contains (named_by b.exit) number → (j : ℕ) (d : Block) → index_of_number number (blocks ++ further) ≡ Some j → slice_get (blocks ++ further) j ≡ Some d → d.at ≡ 0 → block_cost one_each b + rest_at (Some d) ≤ most + 3
    place_onward k b (inl e) begins number named j d there f within =
        let p = place_at_block lifting code blocks further made k b e in
        way_onward (lifting.list p.0) (lifting.way p.0) b (plain.short p.0) (made.places k p.0 b p.1 e).goes number named j d there f within
    place_onward k b (inr r) begins number named j d there f within = absurd (begins (further_within lifting code blocks further made (length code + r.index) b (made.each r.index b r.there)))

    -- ---- the unit
    module _ (unit : CodeUnit) (lowered : unit.lowered ≡ false) (procs : unit.procs ≡ []) (whole_is : unit.whole ≡ blocks ++ further) where
      got : (k : ℕ) (b : Block) → slice_get unit.whole k ≡ Some b → slice_get (blocks ++ further) k ≡ Some b
      got k b e = subst (λ (l : List Block). slice_get l k ≡ Some b) whole_is e

      listed : (b : Block) → Contains unit.whole b → (k : ℕ) × (slice_get (blocks ++ further) k ≡ Some b)
      listed b c = contains_get (blocks ++ further) b (subst (λ (l : List Block). Contains l b) whole_is c)

      no_proc : {A : Type 0} (p : Proc) → Contains unit.procs p → A
      no_proc p c = let none : Contains [] p = subst (λ (l : List Proc). Contains l p) procs c in absurd (omega (arith, none.1))

      exit_listed : (b : Block) → Contains unit.whole b → IsExit 0 (length (blocks ++ further)) [] b.exit
      exit_listed b c = let k = listed b c in exit_by k.0 b (get_cases blocks further k.0 b k.1)

      pub in_form : IsInForm unit
      in_form = record {
        whole = record {
          numbers = λ k b e. numbers lifting code blocks further made k b (got k b e);
          ops = λ b c. let k = listed b c in ops_of (All (IsOp 0)) (All-nil (IsOp 0)) plain.ops k.0 b k.1;
          exits = λ b c. subst (λ (l : List Proc). IsExit 0 (length unit.whole) l b.exit) (sym procs) (subst (λ (l : List Block). IsExit 0 (length l) [] b.exit) (sym whole_is) (exit_listed b c));
        };
        procs = λ p c. no_proc p c;
        lowered = λ is. absurd cc;
      }

      frameless_listed : (b : Block) → Contains unit.whole b → IsFramelessBlock b
      frameless_listed b c =
          let k = listed b c in
          record {
            ops = ops_of (All IsFrameless) (All-nil IsFrameless) plain.frameless k.0 b k.1;
            exit = frameless_exit (length (blocks ++ further)) b.exit (returns_by k.0 b (get_cases blocks further k.0 b k.1)) (exit_listed b c);
          }

      reached : (j number : ℕ) → index_of_number number unit.whole ≡ Some j → index_of_number number (blocks ++ further) ≡ Some j
      reached j number e = subst (λ (l : List Block). index_of_number number l ≡ Some j) whole_is e

      onward : (part : Part) (k : ℕ) (b : Block) (j : ℕ) (d : Block) → GoesTo unit part k b j d → b.at ≡ 0 → d.at ≡ 0 → k < j
      onward None k b j d g first within = (onward_by k b (get_cases blocks further k b (got k b g.from.1)) first g.number g.named j d (reached j g.number g.there) (got j d g.to.1) within).0
      onward (Some p) k b j d g first within = no_proc p g.from.0

      pub well_shaped : IsWellShaped unit
      well_shaped = record {
        whole = λ k d low. frameless_listed (get_or unit.whole k d) (Contains-get_or unit.whole k d low);
        onward = onward;
        return = λ p k b part j d r first within. no_proc p r.from.0;
        procs = λ p c. no_proc p c;
        apart = λ i j p q e f same. no_proc p (get_contains unit.procs i p e);
      }

      pub short_lists : All (λ (b : Block). length b.ops ≤ most) unit.whole
      short_lists = λ k d low.
          let b = get_or unit.whole k d in
          let at = listed b (Contains-get_or unit.whole k d low) in
          short_ops at.0 b at.1

      block_low : (w : ℕ) → most + 3 ≤ w → (part : Part) (k : ℕ) (b : Block) → IsBlock unit part k b → block_cost one_each b ≤ allowed w (rest_of unit) part k b
      block_low w wide (Some p) k b is = no_proc p is.0
      block_low w wide None k b is = by_test (b.at == 0)
        where
          by_test : (t : Bool) → block_cost one_each b ≤ cond t (rest_of unit None k) w
          by_test true = let rest : rest_of unit None k ≡ block_cost one_each b + cost_behind b.exit = ap rest_at is.1 in omega arith
          by_test false = omega (arith, short_cost k b (got k b is.1))

      onward_low : (w : ℕ) → most + 3 ≤ w → (part : Part) (k : ℕ) (b : Block) (j : ℕ) (d : Block) → GoesTo unit part k b j d → d.at ≡ 0 → block_cost one_each b + rest_of unit part j ≤ allowed w (rest_of unit) part k b
      onward_low w wide (Some p) k b j d g within = no_proc p g.from.0
      onward_low w wide None k b j d g within = by_test (b.at == 0) refl
        where
          here : rest_of unit None j ≡ rest_at (Some d)
          here = ap rest_at g.to.1

          by_test : (t : Bool) → (b.at == 0) ≡ t → block_cost one_each b + rest_of unit None j ≤ cond t (rest_of unit None k) w
          by_test true is =
              let rest : rest_of unit None k ≡ block_cost one_each b + cost_behind b.exit = ap rest_at g.from.1 in
              let one = onward_by k b (get_cases blocks further k b (got k b g.from.1)) (eqb-true b.at 0 is) g.number g.named j d (reached j g.number g.there) (got j d g.to.1) within in
              let some = branches_at k b (get_cases blocks further k b (got k b g.from.1)) (eqb-true b.at 0 is) g.number g.named in
              omega (arith, here, one.1, some)
          by_test false is =
              let low = place_onward k b (get_cases blocks further k b (got k b g.from.1)) (λ first. let same : (b.at == 0) ≡ true = eq-eqb b.at 0 first in absurd (false≢true (sym is ∙ same))) g.number g.named j d (reached j g.number g.there) (got j d g.to.1) within in
              omega (arith, here, low)

      pub bounds : (w : ℕ) → most + 3 ≤ w → BoundsTurns one_each w (rest_of unit) unit
      bounds w wide = record {
        block = block_low w wide;
        onward = onward_low w wide;
        return = λ p k b part j d r within. no_proc p r.from.0;
      }

pub made_in_form : (most : ℕ) (lifting : Lifting) → IsPlain most lifting → (code : List Place) (unit : CodeUnit) → IsStrictlyIncreasing (addresses_of code) → ((p : Place) → Contains code p → p.at ≢ 0) → unit.lowered ≡ false → unit.procs ≡ [] → AreBlocksOf lifting code unit.whole → IsInForm unit
made_in_form most lifting plain code unit up above lowered procs h = in_form most lifting plain code h.blocks h.further h.made up above unit lowered procs h.whole_is

pub made_well_shaped : (most : ℕ) (lifting : Lifting) → IsPlain most lifting → (code : List Place) (unit : CodeUnit) → IsStrictlyIncreasing (addresses_of code) → ((p : Place) → Contains code p → p.at ≢ 0) → unit.lowered ≡ false → unit.procs ≡ [] → AreBlocksOf lifting code unit.whole → IsWellShaped unit
made_well_shaped most lifting plain code unit up above lowered procs h = well_shaped most lifting plain code h.blocks h.further h.made up above unit lowered procs h.whole_is

pub made_short_lists : (most : ℕ) (lifting : Lifting) → IsPlain most lifting → (code : List Place) (unit : CodeUnit) → IsStrictlyIncreasing (addresses_of code) → ((p : Place) → Contains code p → p.at ≢ 0) → unit.lowered ≡ false → unit.procs ≡ [] → AreBlocksOf lifting code unit.whole → All (λ (b : Block). length b.ops ≤ most) unit.whole
made_short_lists most lifting plain code unit up above lowered procs h = short_lists most lifting plain code h.blocks h.further h.made up above unit lowered procs h.whole_is

pub made_bounds : (most w : ℕ) → most + 3 ≤ w → (lifting : Lifting) → IsPlain most lifting → (code : List Place) (unit : CodeUnit) → IsStrictlyIncreasing (addresses_of code) → ((p : Place) → Contains code p → p.at ≢ 0) → unit.lowered ≡ false → unit.procs ≡ [] → AreBlocksOf lifting code unit.whole → BoundsTurns one_each w (rest_of unit) unit
made_bounds most w wide lifting plain code unit up above lowered procs h = bounds most lifting plain code h.blocks h.further h.made up above unit lowered procs h.whole_is w wide
