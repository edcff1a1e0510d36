-- What a unit does from within the block of an instruction is what the list and the way come to.
use Rattle.std.proofs.Common.{◌≡◌, ℕ, suc, zero, ◌<◌, ◌==◌, true, false, cond, List, [], ◌++◌, Option, Some, None, Result, Ok, Err, refl, sym, ap, ◌∙◌, subst, arith}
use Rattle.std.specs.List.{slice_get}
use Rattle.std.proofs.lemmas.Bool.{eqb-true}
use Rattle.x86_values.specs.Words.{known}
use Rattle.x86_values.specs.WordLaws.{WordLaws}
use Rattle.traces.specs.Trace.{Label, End, Unspecified}
use Rattle.traces.specs.RunLaws.{RunLaws}
use Rattle.flag_ir.specs.declared.variable.Term.{Term}
use Rattle.flag_ir.specs.declared.operation.Op.{Op}
use Rattle.flag_ir.specs.declared.block.Block.{Block}
use Rattle.flag_ir.specs.declared.block.Exit.{Exit}
use Rattle.flag_ir.specs.declared.block.Exit.TheVariants as exit
use Rattle.flag_ir.specs.Storage.{Storage, term_in}
use Rattle.flag_ir.specs.Operations.{and_then, needed, performs, shown_by_all}
use Rattle.flag_ir.specs.Entering.{CodeUnit, index_at, leave, to_number, blocks_of}
use Rattle.flag_ir.specs.UnitRun.{Before, Within, UnitState, state_at, fresh, within, next}
use Rattle.flag_ir.specs.UnitLaws.{UnitLaws}
use Rattle.lift_core.specs.declared.way.Way.{Way}
use Rattle.lift_core.specs.declared.way.Way.TheVariants as way
use Rattle.lift_core.specs.Lifting.{goes_to, listed, lifted, shown_lifted, unless_counted, shown_if_counted}
use Rattle.lift_core.specs.Whole.{LeadsTo, BranchesTo, Repeats, HasWay}
use Rattle.whole_code.specs.OneStack.{HasAddresses}
use Rattle.whole_code.proofs.UnitSide.{Arrives, ArrivesBy, EndsWith, list_ends, list_leads, list_branches, list_jumps, list_leads_by_number, leave_branch, leave_unknown, jump_unknown, exit_ends, exit_goes, branch_is, after_goes, ends_after}

ok_is : {A B : Type 0} (x y : A) → (let r : Result A B = Ok x in r) ≡ Ok y → x ≡ y
ok_is x y e = cc

known_as : {A : Type 0} (o : Option A) (a : A) → (let r : Result A End = needed o in r) ≡ Ok a → o ≡ Some a
known_as None a e = cc
known_as (Some b) a e = let same : b ≡ a = cc in ap (λ c. Some c) same

not_zero : (n : ℕ) → (suc n == 0) ≡ false
not_zero n = (elim (suc n == 0) as (λ z. (suc n == 0) ≡ z → z ≡ false) [ true ↦ λ e. let zero_is : suc n ≡ 0 = eqb-true (suc n) 0 e in absurd (omega arith) | false ↦ λ e. refl ]) refl

module _ (runs : RunLaws UnitState) (units : UnitLaws) (words : WordLaws) (unit : CodeUnit) (alone : unit.procs ≡ []) where
  -- an exit follows a way
  pub record Follows (turn : ℕ) (w : Way) (e : Exit) : Type 0 where
    pub arrives : (ops : List Op) (u v : Storage) (a : ℕ) → performs turn ops u ≡ Ok v → goes_to w v ≡ Ok a → v.frames ≡ [] → Arrives unit (state_at turn (Within ops e) u) (shown_by_all turn ops u) a v
    pub ends : (v : Storage) (f : End) → goes_to w v ≡ Err f → leave unit turn e v ≡ Err f

  follows_on : (turn a : ℕ) (e : Exit) → a < 4294967296 → LeadsTo unit.whole e a → Follows turn (way.On a) e
  follows_on turn a e small l = record {
    arrives = λ ops u v b h g closed. subst (λ c. Arrives unit (state_at turn (Within ops e) u) (shown_by_all turn ops u) c v) (ok_is a b g) (list_leads runs units words unit alone turn ops e u v a h closed small l);
    ends = λ v f g. cc;
  }

  branch_arrives : (turn a b : ℕ) (test : Term) (e : Exit) (ops : List Op) (u v : Storage) (c : ℕ) (o : Option ℕ) → known (term_in test v) ≡ o → performs turn ops u ≡ Ok v → and_then (needed o) (λ n. let r : Result ℕ End = Ok (cond (n == 0) b a) in r) ≡ Ok c → v.frames ≡ [] → a < 4294967296 → b < 4294967296 → BranchesTo unit.whole e test a b → Arrives unit (state_at turn (Within ops e) u) (shown_by_all turn ops u) c v
  branch_arrives turn a b test e ops u v c None k h g closed x y br = cc
  branch_arrives turn a b test e ops u v c (Some n) k h g closed x y br =
      subst (λ d. Arrives unit (state_at turn (Within ops e) u) (shown_by_all turn ops u) d v) (ok_is (cond (n == 0) b a) c g) (list_branches runs units words unit alone turn ops e test u v a b n h k closed x y br)

  branch_ends : (turn a b : ℕ) (test : Term) (e : Exit) (v : Storage) (f : End) (o : Option ℕ) → known (term_in test v) ≡ o → and_then (needed o) (λ n. let r : Result ℕ End = Ok (cond (n == 0) b a) in r) ≡ Err f → BranchesTo unit.whole e test a b → leave unit turn e v ≡ Err f
  branch_ends turn a b test e v f None k g br = let same : Unspecified ≡ f = cc in leave_unknown runs units words unit alone turn e test br.yes br.no v br.branches k ∙ ap (λ x. Err x) same
  branch_ends turn a b test e v f (Some n) k g br = cc

  follows_either : (turn a b : ℕ) (test : Term) (e : Exit) → a < 4294967296 → b < 4294967296 → BranchesTo unit.whole e test a b → Follows turn (way.Either test a b) e
  follows_either turn a b test e x y br = record {
    arrives = λ ops u v c h g closed. branch_arrives turn a b test e ops u v c (known (term_in test v)) refl h g closed x y br;
    ends = λ v f g. branch_ends turn a b test e v f (known (term_in test v)) refl g br;
  }

  follows_repeat : (turn a b : ℕ) (count again : Term) (e : Exit) → a < 4294967296 → b < 4294967296 → BranchesTo unit.whole e again a b → Follows turn (way.Repeat count again a b) e
  follows_repeat turn a b count again e x y br = record {
    arrives = λ ops u v c h g closed. branch_arrives turn a b again e ops u v c (known (term_in again v)) refl h g closed x y br;
    ends = λ v f g. branch_ends turn a b again e v f (known (term_in again v)) refl g br;
  }

  target_ends : (turn : ℕ) (target : Term) (e : Exit) (v : Storage) (f : End) (o : Option ℕ) → known (term_in target v) ≡ o → (let r : Result ℕ End = needed o in r) ≡ Err f → e ≡ exit.Jump target → leave unit turn e v ≡ Err f
  target_ends turn target e v f None k g is = let same : Unspecified ≡ f = cc in jump_unknown runs units words unit alone turn e target v k is ∙ ap (λ x. Err x) same
  target_ends turn target e v f (Some a) k g is = cc

  follows_to : (turn : ℕ) (target : Term) (e : Exit) → e ≡ exit.Jump target → Follows turn (way.To target) e
  follows_to turn target e is = record {
    arrives = λ ops u v a h g closed. list_jumps runs units words unit alone turn ops e target u v a h (known_as (known (term_in target v)) a g) closed is;
    ends = λ v f g. target_ends turn target e v f (known (term_in target v)) refl g is;
  }

  follows_back : (turn : ℕ) (target : Term) (e : Exit) → e ≡ exit.Jump target → Follows turn (way.Back target) e
  follows_back turn target e is = record {
    arrives = λ ops u v a h g closed. list_jumps runs units words unit alone turn ops e target u v a h (known_as (known (term_in target v)) a g) closed is;
    ends = λ v f g. target_ends turn target e v f (known (term_in target v)) refl g is;
  }

  -- ---- a list and an exit that follows its way
  ok_by : (turn : ℕ) (w : Way) (e : Exit) (ops : List Op) (u : Storage) (p : ℕ × Storage) (y : Result Storage End) → performs turn ops u ≡ y → Follows turn w e → and_then y (λ v. and_then (goes_to w v) (λ a. let r : Result (ℕ × Storage) End = Ok (a, v) in r)) ≡ Ok p → p.1.frames ≡ [] → Arrives unit (state_at turn (Within ops e) u) (shown_by_all turn ops u) p.0 p.1
  ok_by turn w e ops u p (Err f) h fol g closed = cc
  ok_by turn w e ops u p (Ok v) h fol g closed = by_address (goes_to w v) refl g
    where
      by_address : (z : Result ℕ End) → goes_to w v ≡ z → and_then z (λ a. let r : Result (ℕ × Storage) End = Ok (a, v) in r) ≡ Ok p → Arrives unit (state_at turn (Within ops e) u) (shown_by_all turn ops u) p.0 p.1
      by_address (Err f) k g = cc
      by_address (Ok a) k g =
          let is : (a, v) ≡ p = ok_is (a, v) p g in
          let frames : v.frames ≡ [] = ap (λ (q : ℕ × Storage). q.1.frames) is ∙ closed in
          subst (λ (q : ℕ × Storage). Arrives unit (state_at turn (Within ops e) u) (shown_by_all turn ops u) q.0 q.1) is (fol.arrives ops u v a h k frames)

  err_by : (turn : ℕ) (w : Way) (e : Exit) (ops : List Op) (u : Storage) (f : End) (y : Result Storage End) → performs turn ops u ≡ y → Follows turn w e → and_then y (λ v. and_then (goes_to w v) (λ a. let r : Result (ℕ × Storage) End = Ok (a, v) in r)) ≡ Err f → EndsWith unit (state_at turn (Within ops e) u) (shown_by_all turn ops u) f
  err_by turn w e ops u f (Err g) h fol k = let same : g ≡ f = cc in list_ends runs units words unit alone turn ops e u f (h ∙ ap (λ x. Err x) same)
  err_by turn w e ops u f (Ok v) h fol k = by_address (goes_to w v) refl k
    where
      by_address : (z : Result ℕ End) → goes_to w v ≡ z → and_then z (λ a. let r : Result (ℕ × Storage) End = Ok (a, v) in r) ≡ Err f → EndsWith unit (state_at turn (Within ops e) u) (shown_by_all turn ops u) f
      by_address (Ok a) q g = cc
      by_address (Err x) q g = let same : x ≡ f = cc in exit_ends runs units words unit alone turn ops e u v f h (fol.ends v f (q ∙ ap (λ z. Err z) same))

  -- ---- a block and its way
  pub record Does (turn : ℕ) (w : Way) (ops : List Op) (u : Storage) (c : UnitState) : Type 0 where
    pub arrives : (p : ℕ × Storage) → lifted turn w ops u ≡ Ok p → p.1.frames ≡ [] → Arrives unit c (shown_lifted turn w ops u) p.0 p.1
    pub ends : (f : End) → lifted turn w ops u ≡ Err f → EndsWith unit c (shown_lifted turn w ops u) f

  does_listed : (turn : ℕ) (w : Way) (ops : List Op) (e : Exit) (u : Storage) → Follows turn w e → lifted turn w ops u ≡ listed turn w ops u → shown_lifted turn w ops u ≡ shown_by_all turn ops u → Does turn w ops u (state_at turn (Within ops e) u)
  does_listed turn w ops e u fol is shown = record {
    arrives = λ p h closed. subst (λ ls. Arrives unit (state_at turn (Within ops e) u) ls p.0 p.1) (sym shown) (ok_by turn w e ops u p (performs turn ops u) refl fol (sym is ∙ h) closed);
    ends = λ f h. subst (λ ls. EndsWith unit (state_at turn (Within ops e) u) ls f) (sym shown) (err_by turn w e ops u f (performs turn ops u) refl fol (sym is ∙ h));
  }

  -- ---- a repeat
  performs_none : (turn : ℕ) (u : Storage) → performs turn [] u ≡ Ok u
  unfolding performs
  performs_none turn u = refl

  shown_none : (turn : ℕ) (u : Storage) → shown_by_all turn [] u ≡ []
  unfolding shown_by_all
  shown_none turn u = refl

  arrives_same : (c d : UnitState) (ls : List Label) (a : ℕ) (v : Storage) (o : Option ℕ) → next unit c ≡ next unit d → ArrivesBy o unit d ls a v → ArrivesBy o unit c ls a v
  arrives_same c d ls a v None e r = record { steps = r.steps; ends = runs.same_run (next unit) c d e r.steps ∙ r.ends }
  arrives_same c d ls a v (Some k) e r = record { turn = r.turn; steps = r.steps; goes = runs.same_goes (next unit) c d e r.steps ls (state_at r.turn (Before k) v) r.goes }

  module _ (turn a b : ℕ) (count again : Term) (ops : List Op) (z : Storage) (block : Block) (r : Repeats unit.whole ops count again a b block) (x : a < 4294967296) (y : b < 4294967296) where
    -- from before the body's block it goes as from within
    same_move : (fresh z).frames ≡ [] → next unit (state_at turn (Before r.index) (fresh z)) ≡ next unit (state_at turn (Within ops r.body.exit) (fresh z))
    same_move closed =
        units.moves.goes_on unit turn r.index r.body (fresh z) (ap (λ frames. slice_get (blocks_of unit frames) r.index) closed ∙ r.numbered.block) r.within
        ∙ (ap (λ xs. within unit turn xs r.body.exit (fresh z)) r.iteration ∙ sym (units.moves.by_within unit turn ops r.body.exit (fresh z)))

    goes_to_body : (n : ℕ) → (fresh z).frames ≡ [] → known (term_in count (fresh z)) ≡ Some (suc n) → leave unit turn block.exit (fresh z) ≡ Ok (r.index, fresh z)
    goes_to_body n closed k =
        leave_branch runs units words unit alone turn block.exit count r.yes r.no (suc n) (fresh z) r.tests k
        ∙ (ap (λ q. to_number unit (cond q r.no r.yes) (fresh z)) (not_zero n) ∙ branch_is runs units words unit alone turn r.yes r.index (fresh z) closed r.numbered.index)

    body_follows : Follows turn (way.Repeat count again a b) r.body.exit
    body_follows = follows_repeat turn a b count again r.body.exit x y r.branches

    ok_counted : (o : Option ℕ) (p : ℕ × Storage) → known (term_in count (fresh z)) ≡ o → (fresh z).frames ≡ [] → and_then (needed o) (λ n. unless_counted n (Ok (b, fresh z)) (listed turn (way.Repeat count again a b) ops (fresh z))) ≡ Ok p → p.1.frames ≡ [] → Arrives unit (state_at turn (Within [] block.exit) (fresh z)) (shown_if_counted o (shown_by_all turn ops (fresh z))) p.0 p.1
    ok_counted None p k frameless g closed = cc
    ok_counted (Some zero) p k frameless g closed =
        let is : (b, fresh z) ≡ p = ok_is (b, fresh z) p g in
        let leaves : leave unit turn block.exit (fresh z) ≡ to_number unit r.no (fresh z) = leave_branch runs units words unit alone turn block.exit count r.yes r.no 0 (fresh z) r.tests k in
        let arrives = list_leads_by_number runs units words unit alone turn [] block.exit (fresh z) (fresh z) r.no b (performs_none turn (fresh z)) leaves frameless y r.done in
        subst (λ (q : ℕ × Storage). Arrives unit (state_at turn (Within [] block.exit) (fresh z)) [] q.0 q.1) is (subst (λ ls. Arrives unit (state_at turn (Within [] block.exit) (fresh z)) ls b (fresh z)) (shown_none turn (fresh z)) arrives)
    ok_counted (Some (suc n)) p k frameless g closed =
        let goes = exit_goes runs units words unit alone turn [] block.exit (fresh z) (fresh z) (fresh z) r.index (performs_none turn (fresh z)) (goes_to_body n frameless k) in
        let inside = ok_by turn (way.Repeat count again a b) r.body.exit ops (fresh z) p (performs turn ops (fresh z)) refl body_follows g closed in
        let before_body : Arrives unit (state_at turn (Before r.index) (fresh z)) (shown_by_all turn ops (fresh z)) p.0 p.1 = record { storage = inside.storage; same = inside.same; by = arrives_same (state_at turn (Before r.index) (fresh z)) (state_at turn (Within ops r.body.exit) (fresh z)) (shown_by_all turn ops (fresh z)) p.0 inside.storage (index_at p.0 unit.whole) (same_move frameless) inside.by } in
        subst (λ ls. Arrives unit (state_at turn (Within [] block.exit) (fresh z)) (ls ++ shown_by_all turn ops (fresh z)) p.0 p.1) (shown_none turn (fresh z)) (after_goes runs units words unit alone (state_at turn (Within [] block.exit) (fresh z)) (state_at turn (Before r.index) (fresh z)) 1 (shown_by_all turn [] (fresh z)) (shown_by_all turn ops (fresh z)) p.0 p.1 goes before_body)

    err_counted : (o : Option ℕ) (f : End) → known (term_in count (fresh z)) ≡ o → (fresh z).frames ≡ [] → and_then (needed o) (λ n. unless_counted n (Ok (b, fresh z)) (listed turn (way.Repeat count again a b) ops (fresh z))) ≡ Err f → EndsWith unit (state_at turn (Within [] block.exit) (fresh z)) (shown_if_counted o (shown_by_all turn ops (fresh z))) f
    err_counted None f k frameless g =
        let same : Unspecified ≡ f = cc in
        subst (λ ls. EndsWith unit (state_at turn (Within [] block.exit) (fresh z)) ls f) (shown_none turn (fresh z))
        (exit_ends runs units words unit alone turn [] block.exit (fresh z) (fresh z) f (performs_none turn (fresh z)) (leave_unknown runs units words unit alone turn block.exit count r.yes r.no (fresh z) r.tests k ∙ ap (λ q. Err q) same))
    err_counted (Some zero) f k frameless g = cc
    err_counted (Some (suc n)) f k frameless g =
        let goes = exit_goes runs units words unit alone turn [] block.exit (fresh z) (fresh z) (fresh z) r.index (performs_none turn (fresh z)) (goes_to_body n frameless k) in
        let inside = err_by turn (way.Repeat count again a b) r.body.exit ops (fresh z) f (performs turn ops (fresh z)) refl body_follows g in
        let before_body : EndsWith unit (state_at turn (Before r.index) (fresh z)) (shown_by_all turn ops (fresh z)) f = record { steps = inside.steps; ends = runs.same_run (next unit) (state_at turn (Before r.index) (fresh z)) (state_at turn (Within ops r.body.exit) (fresh z)) (same_move frameless) inside.steps ∙ inside.ends } in
        subst (λ ls. EndsWith unit (state_at turn (Within [] block.exit) (fresh z)) (ls ++ shown_by_all turn ops (fresh z)) f) (shown_none turn (fresh z)) (ends_after runs units words unit alone (state_at turn (Within [] block.exit) (fresh z)) (state_at turn (Before r.index) (fresh z)) 1 (shown_by_all turn [] (fresh z)) (shown_by_all turn ops (fresh z)) f goes before_body)

    does_repeat : (fresh z).frames ≡ [] → Does turn (way.Repeat count again a b) ops (fresh z) (state_at turn (Within [] block.exit) (fresh z))
    does_repeat frameless = record {
      arrives = λ p h closed. ok_counted (known (term_in count (fresh z))) p refl frameless h closed;
      ends = λ f h. err_counted (known (term_in count (fresh z))) f refl frameless h;
    }

  -- ---- each way
  at_ops : (turn : ℕ) (w : Way) (ops : List Op) (u : Storage) (block : Block) → block.ops ≡ ops → Does turn w ops u (state_at turn (Within ops block.exit) u) → Does turn w ops u (state_at turn (Within block.ops block.exit) u)
  at_ops turn w ops u block is does = subst (λ xs. Does turn w ops u (state_at turn (Within xs block.exit) u)) (sym is) does

  pub does : (turn : ℕ) (w : Way) (ops : List Op) (z : Storage) (block : Block) → HasAddresses w → HasWay unit.whole ops w block → z.frames ≡ [] → Does turn w ops (fresh z) (state_at turn (Within block.ops block.exit) (fresh z))
  does turn (way.On a) ops z block small has frameless = at_ops turn (way.On a) ops (fresh z) block has.0 (does_listed turn (way.On a) ops block.exit (fresh z) (follows_on turn a block.exit small has.1) refl refl)
  does turn (way.Either test a b) ops z block small has frameless = at_ops turn (way.Either test a b) ops (fresh z) block has.0 (does_listed turn (way.Either test a b) ops block.exit (fresh z) (follows_either turn a b test block.exit small.0 small.1 has.1) refl refl)
  does turn (way.Repeat count again a b) ops z block small has frameless = subst (λ xs. Does turn (way.Repeat count again a b) ops (fresh z) (state_at turn (Within xs block.exit) (fresh z))) (sym has.empty) (does_repeat turn a b count again ops z block has small.0 small.1 frameless)
  does turn (way.To target) ops z block small has frameless = at_ops turn (way.To target) ops (fresh z) block has.0 (does_listed turn (way.To target) ops block.exit (fresh z) (follows_to turn target block.exit has.1) refl refl)
  does turn (way.Back target) ops z block small has frameless = at_ops turn (way.Back target) ops (fresh z) block has.0 (does_listed turn (way.Back target) ops block.exit (fresh z) (follows_back turn target block.exit has.1) refl refl)
