-- A further place is made: what was made stays as it is, and its way leads where it should.
use Rattle.std.proofs.Common.{◌≡◌, ℕ, zero, suc, ◌+◌, ◌<◌, ◌⊎◌, List, [], ◌∷◌, ◌++◌, length, get_or, slice_get, Contains, Some, refl, sym, ap, ◌∙◌, subst, inl, inr, length-append, arith}
use Rattle.std.proofs.lemmas.Option.{slice_get-get_or}
use Rattle.flag_ir.specs.declared.variable.Term.{Term}
use Rattle.flag_ir.specs.declared.operation.Op.{Op}
use Rattle.flag_ir.specs.declared.block.Block.{Block}
use Rattle.flag_ir.specs.declared.block.Exit.{Exit}
use Rattle.flag_ir.specs.declared.block.Exit.TheVariants as exit
use Rattle.plan_types.specs.declared.place.Place.{Place}
use Rattle.lift_core.specs.declared.way.Way.{Way}
use Rattle.lift_core.specs.declared.way.Way.TheVariants as way
use Rattle.lift_core.specs.Whole.{Lifting}
use Rattle.whole_code.specs.Building.{Leads, IsJump, MakesBranch, MakesRepeat, MakesWay, MakesPlace, BranchesOn, IsBehind, IsBody, GoesWay, IsBlockOf, IsFurther, AreMade}
use Rattle.whole_code.proofs.Parts.{get_left, get_right, get_cases, get_only, get_contains, same_got, IsRight}
use Rattle.whole_code.proofs.Numbering.{leads_more}

-- ---- what was made stays
abbrev branches_more : (code : List Place) (n : ℕ) (further more : List Block) (test : Term) (a b : ℕ) (e : Exit) → BranchesOn code n further test a b e → BranchesOn code n (further ++ more) test a b e
branches_more code n further more test a b e h = record {
  yes = h.yes;
  no = h.no;
  branches = h.branches;
  first_leads = leads_more code n further more h.yes a h.first_leads;
  second_leads = leads_more code n further more h.no b h.second_leads;
}

body_more : (code : List Place) (n : ℕ) (further more : List Block) (ops : List Op) (again : Term) (here next number : ℕ) (b : Block) → IsBody code n further ops again here next number b → IsBody code n (further ++ more) ops again here next number b
body_more code n further more ops again here next number b h = record {
  number_is = h.number_is;
  within = h.within;
  iteration = h.iteration;
  on = branches_more code n further more again here next b.exit h.on;
  first_behind = h.first_behind;
  second_behind = h.second_behind;
}

goes_more : (code : List Place) (n : ℕ) (further more : List Block) (ops : List Op) (w : Way) (own : List Op) (e : Exit) → GoesWay code n further ops w own e → GoesWay code n (further ++ more) ops w own e
goes_more code n further more ops (way.On a) own e h = h
goes_more code n further more ops (way.Either test x y) own e h = (h.0, branches_more code n further more test x y e h.1)
goes_more code n further more ops (way.Repeat count again x y) own e h = record {
  empty = h.empty;
  index = h.index;
  body = h.body;
  no = h.no;
  tests = h.tests;
  done = leads_more code n further more h.no y h.done;
  there = get_left further more h.index h.body h.there;
  is = body_more code n further more ops again x y (n + h.index) h.body h.is;
}
goes_more code n further more ops (way.To target) own e h = h
goes_more code n further more ops (way.Back target) own e h = h

further_more : (lifting : Lifting) (code : List Place) (n : ℕ) (further more : List Block) (number : ℕ) (b : Block) → IsFurther lifting code n further number b → IsFurther lifting code n (further ++ more) number b
further_more lifting code n further more number b (inl j) = inl j
further_more lifting code n further more number b (inr h) = inr (record {
  place = h.place;
  listed = h.listed;
  count = h.count;
  again = h.again;
  here = h.here;
  next = h.next;
  repeats = h.repeats;
  is = body_more code n further more (lifting.list h.place) h.again h.here h.next number b h.is;
})

-- ---- what is added, as a part of all further blocks
abbrev StandsAt : List Block → ℕ → List Block → Type 0
StandsAt all offset part = (k : ℕ) (b : Block) → slice_get part k ≡ Some b → slice_get all (offset + k) ≡ Some b

added_stands : (further more : List Block) → StandsAt (further ++ more) (length further) more
added_stands further more k b e = get_right further more k (length further + k) refl ∙ e

rest_stands : (all : List Block) (offset : ℕ) (body : Block) (jumps more : List Block) → more ≡ body ∷ jumps → StandsAt all offset more → StandsAt all (offset + 1) jumps
rest_stands all offset body jumps more is stands k b e =
    let there : slice_get more (suc k) ≡ Some b = ap (λ (l : List Block). slice_get l (suc k)) is ∙ e in
    let same : offset + suc k ≡ offset + 1 + k = omega arith in
    subst (λ i. slice_get all i ≡ Some b) same (stands (suc k) b there)

leads_in : (code : List Place) (n offset start : ℕ) (all part : List Block) → start ≡ n + offset → StandsAt all offset part → (number a : ℕ) → Leads code start part number a → Leads code n all number a
leads_in code n offset start all part begins stands number a (inl h) = inl h
leads_in code n offset start all part begins stands number a (inr j) =
    inr (record { index = offset + j.index; block = j.block; number_is = omega (arith, j.number_is); there = stands j.index j.block j.there; jumps = j.jumps })

behind : (code : List Place) (start here : ℕ) (part : List Block) (number a : ℕ) → here < start → Leads code start part number a → IsBehind code here number a
behind code start here part number a low (inl h) = inl h
behind code start here part number a low (inr j) = inr (omega (arith, j.number_is))

branch_made : (code : List Place) (n offset start : ℕ) (all more : List Block) → start ≡ n + offset → StandsAt all offset more → (test : Term) (a b : ℕ) (e : Exit) → MakesBranch code start test a b e more → BranchesOn code n all test a b e
branch_made code n offset start all more begins stands test a b e h = record {
  yes = h.yes;
  no = h.no;
  branches = h.branches;
  first_leads = leads_in code n offset start all more begins stands h.yes a h.targets.first_leads;
  second_leads = leads_in code n offset start all more begins stands h.no b h.targets.second_leads;
}

body_made : (code : List Place) (n offset start : ℕ) (all more : List Block) → start ≡ n + offset → StandsAt all offset more → (ops : List Op) (count again : Term) (here next : ℕ) (own : List Op) (e : Exit) → (h : MakesRepeat code start ops count again here next own e more) → IsBody code n all ops again here next (n + offset) h.parts.body
body_made code n offset start all more begins stands ops count again here next own e h =
    let rest = rest_stands all offset h.parts.body h.jumps more h.parts.further_is stands in
    let from : start + 1 ≡ n + (offset + 1) = omega arith in
    record {
      number_is = h.parts.number_is ∙ begins;
      within = h.parts.within;
      iteration = h.parts.iteration;
      on = record {
        yes = h.yes;
        no = h.no;
        branches = h.parts.branches;
        first_leads = leads_in code n (offset + 1) (start + 1) all h.jumps from rest h.yes here h.targets.first_leads;
        second_leads = leads_in code n (offset + 1) (start + 1) all h.jumps from rest h.no next h.targets.second_leads;
      };
      first_behind = behind code (start + 1) (n + offset) h.jumps h.yes here (omega arith) h.targets.first_leads;
      second_behind = behind code (start + 1) (n + offset) h.jumps h.no next (omega arith) h.targets.second_leads;
    }

way_made : (code : List Place) (n offset start : ℕ) (all more : List Block) → start ≡ n + offset → StandsAt all offset more → (ops : List Op) (w : Way) (own : List Op) (e : Exit) → MakesWay code start ops w own e more → GoesWay code n all ops w own e
way_made code n offset start all more begins stands ops (way.On a) own e h = (h.0, h.1)
way_made code n offset start all more begins stands ops (way.Either test x y) own e h = (h.0, branch_made code n offset start all more begins stands test x y e h.1)
way_made code n offset start all more begins stands ops (way.Repeat count again x y) own e h = record {
  empty = h.parts.empty;
  index = offset;
  body = h.parts.body;
  no = h.no;
  tests = h.parts.tests ∙ ap (λ i. exit.Branch count i h.no) begins;
  done = leads_in code n (offset + 1) (start + 1) all h.jumps (omega arith) (rest_stands all offset h.parts.body h.jumps more h.parts.further_is stands) h.no y h.targets.second_leads;
  there = subst (λ i. slice_get all i ≡ Some h.parts.body) (omega arith) (stands 0 h.parts.body (ap (λ (l : List Block). slice_get l 0) h.parts.further_is));
  is = body_made code n offset start all more begins stands ops count again x y own e h;
}
way_made code n offset start all more begins stands ops (way.To target) own e h = (h.0, h.1)
way_made code n offset start all more begins stands ops (way.Back target) own e h = (h.0, h.1)

-- ---- each block that is added only jumps, or is the list of a repeat
none_added : {A : Type 0} (more : List Block) → more ≡ [] → (k : ℕ) (d : Block) → slice_get more k ≡ Some d → A
none_added more is k d e = let no : slice_get more k ≡ slice_get [] k = ap (λ (l : List Block). slice_get l k) is in absurd cc

renumbered : (m n : ℕ) (d : Block) → m ≡ n → IsJump m d → IsJump n d
renumbered m n d same j = subst (λ i. IsJump i d) same j

repeat_added : (lifting : Lifting) (code : List Place) (n offset start : ℕ) (all more : List Block) → start ≡ n + offset → StandsAt all offset more → (p : Place) → Contains code p → (count again : Term) (here next : ℕ) (own : List Op) (e : Exit) → lifting.way p ≡ way.Repeat count again here next → MakesRepeat code start (lifting.list p) count again here next own e more → (k : ℕ) (d : Block) → slice_get more k ≡ Some d → IsFurther lifting code n all (n + (offset + k)) d
repeat_added lifting code n offset start all more begins stands p in_code count again here next own e repeats h zero d got =
    let first : slice_get more 0 ≡ Some h.parts.body = ap (λ (l : List Block). slice_get l 0) h.parts.further_is in
    let same : h.parts.body ≡ d = same_got more 0 0 h.parts.body d first got refl in
    let at : n + offset ≡ n + (offset + 0) = omega arith in
    inr (record {
      place = p;
      listed = in_code;
      count = count;
      again = again;
      here = here;
      next = next;
      repeats = repeats;
      is = subst (λ i. IsBody code n all (lifting.list p) again here next i d) at (subst (λ (x : Block). IsBody code n all (lifting.list p) again here next (n + offset) x) same (body_made code n offset start all more begins stands (lifting.list p) count again here next own e h));
    })
repeat_added lifting code n offset start all more begins stands p in_code count again here next own e repeats h (suc k) d got =
    let there : slice_get h.jumps k ≡ Some d = sym (ap (λ (l : List Block). slice_get l (suc k)) h.parts.further_is) ∙ got in
    inl (renumbered (start + 1 + k) (n + (offset + suc k)) d (omega arith) (h.targets.each k d there))

way_added : (lifting : Lifting) (code : List Place) (n offset start : ℕ) (all more : List Block) → start ≡ n + offset → StandsAt all offset more → (p : Place) → Contains code p → (w : Way) → lifting.way p ≡ w → (own : List Op) (e : Exit) → MakesWay code start (lifting.list p) w own e more → (k : ℕ) (d : Block) → slice_get more k ≡ Some d → IsFurther lifting code n all (n + (offset + k)) d
way_added lifting code n offset start all more begins stands p in_code (way.On a) is own e h k d got = none_added more h.2 k d got
way_added lifting code n offset start all more begins stands p in_code (way.Either test x y) is own e h k d got = inl (renumbered (start + k) (n + (offset + k)) d (omega arith) (h.1.targets.each k d got))
way_added lifting code n offset start all more begins stands p in_code (way.Repeat count again x y) is own e h k d got = repeat_added lifting code n offset start all more begins stands p in_code count again x y own e is h k d got
way_added lifting code n offset start all more begins stands p in_code (way.To target) is own e h k d got = none_added more h.2 k d got
way_added lifting code n offset start all more begins stands p in_code (way.Back target) is own e h k d got = none_added more h.2 k d got

-- ---- the places
none_made : (lifting : Lifting) (code : List Place) (n : ℕ) → AreMade lifting code n 0 [] []
none_made lifting code n = record { count = refl; places = λ k p b e f. absurd cc; each = λ k b e. absurd cc }

pub made_none : (lifting : Lifting) (code : List Place) (n : ℕ) (blocks further : List Block) → blocks ≡ [] → further ≡ [] → AreMade lifting code n 0 blocks further
made_none lifting code n blocks further one two =
    subst (λ (l : List Block). AreMade lifting code n 0 l further) (sym one) (subst (λ (l : List Block). AreMade lifting code n 0 [] l) (sym two) (none_made lifting code n))

module _ (lifting : Lifting) (code : List Place) (n i : ℕ) (blocks further : List Block) (made : AreMade lifting code n i blocks further) (p : Place) (there : slice_get code i ≡ Some p) (b : Block) (start : ℕ) (more : List Block) (begins : start ≡ n + length further) (number_is : b.number ≡ i) (at_is : b.at ≡ p.at) (by : MakesWay code start (lifting.list p) (lifting.way p) b.ops b.exit more) where
  new_block : (k : ℕ) (q : Place) (d : Block) → slice_get code k ≡ Some q → (slice_get blocks k ≡ Some d) ⊎ IsRight blocks (b ∷ []) k d → IsBlockOf lifting code n (further ++ more) k q d
  new_block k q d e (inl old) =
      let h = made.places k q d e old in
      record { number_is = h.number_is; at_is = h.at_is; goes = goes_more code n further more (lifting.list q) (lifting.way q) d.ops d.exit h.goes }
  new_block k q d e (inr r) =
      let only = get_only b r.index d r.there in
      let here : k ≡ i = omega (arith, r.place, only.0, made.count) in
      let same : p ≡ q = same_got code i k p q there e (sym here) in
      subst (λ (x : Block). IsBlockOf lifting code n (further ++ more) k q x) only.1
      (subst (λ (x : Place). IsBlockOf lifting code n (further ++ more) k x b) same
      (record {
        number_is = number_is ∙ sym here;
        at_is = at_is;
        goes = way_made code n (length further) start (further ++ more) more begins (added_stands further more) (lifting.list p) (lifting.way p) b.ops b.exit by;
      }))

  new_further : (k : ℕ) (d : Block) → (slice_get further k ≡ Some d) ⊎ IsRight further more k d → IsFurther lifting code n (further ++ more) (n + k) d
  new_further k d (inl old) = further_more lifting code n further more (n + k) d (made.each k d old)
  new_further k d (inr r) =
      let at : n + (length further + r.index) ≡ n + k = omega (arith, r.place) in
      subst (λ j. IsFurther lifting code n (further ++ more) j d) at
      (way_added lifting code n (length further) start (further ++ more) more begins (added_stands further more) p (get_contains code i p there) (lifting.way p) refl b.ops b.exit by r.index d r.there)

  -- one place more is made
  pub made_more : (blocks_after further_after : List Block) → blocks_after ≡ blocks ++ b ∷ [] → further_after ≡ further ++ more → AreMade lifting code n (i + 1) blocks_after further_after
  made_more blocks_after further_after one two =
      subst (λ (l : List Block). AreMade lifting code n (i + 1) l further_after) (sym one)
      (subst (λ (l : List Block). AreMade lifting code n (i + 1) (blocks ++ b ∷ []) l) (sym two)
      (record {
        count = length-append blocks (b ∷ []) ∙ ap (λ j. j + 1) made.count;
        places = λ k q d e f. new_block k q d e (get_cases blocks (b ∷ []) k d f);
        each = λ k d f. new_further k d (get_cases further more k d f);
      }))

pub place_made : (lifting : Lifting) (code seen : List Place) (n i : ℕ) (d : Place) (blocks further : List Block) → seen ≡ code → i < length seen → AreMade lifting code n i blocks further → (number start : ℕ) (b c : Block) (more added : List Block) → number ≡ i → start ≡ n + length further → MakesPlace lifting code number start (get_or seen i d) b more → c ≡ b → added ≡ more → (blocks_after further_after : List Block) → blocks_after ≡ blocks ++ c ∷ [] → further_after ≡ further ++ added → AreMade lifting code n (i + 1) blocks_after further_after
place_made lifting code seen n i d blocks further same low made number start b c more added number_is begins h block_is added_is blocks_after further_after one two =
    let there : slice_get code i ≡ Some (get_or seen i d) = ap (λ (l : List Place). slice_get l i) (sym same) ∙ slice_get-get_or seen i d low in
    made_more lifting code n i blocks further made (get_or seen i d) there b start more begins (h.number_is ∙ number_is) h.at_is h.by blocks_after further_after
    (one ∙ ap (λ (x : Block). blocks ++ x ∷ []) block_is) (two ∙ ap (λ (l : List Block). further ++ l) added_is)
