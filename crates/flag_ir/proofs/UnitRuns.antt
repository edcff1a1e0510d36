-- What holds of the run of a unit: the states that it comes to, its ends, and what its turns cost.
use Rattle.std.proofs.Common.{◌≡◌, ◌≢◌, ℕ, ◌≤◌, ◌==◌, true, false, not, List, [], ◌∷◌, slice_get, Option, Some, None, Result, Ok, Err, refl, sym, ap, subst, arith}
use Rattle.std.proofs.lemmas.Bool.{cond_both}
use Rattle.outside.specs.Environment.{Environment}
use Rattle.traces.specs.Trace.{Label, GuardKind, End, Guard, Grows, Move, Stand, Go, Halt}
use Rattle.traces.specs.Machines.{marked}
use Rattle.traces.specs.Moves.{EndsIn, To, Holds, IsKept}
use Rattle.traces.specs.Steps.{clock_of}
use Rattle.traces.specs.Weight.{PacedBy, OneEvent}
use Rattle.traces.specs.RunLaws.{RunLaws}
use Rattle.traces.specs.MoveLaws.{MoveLaws}
use Rattle.traces.specs.InvariantLaws.{InvariantLaws}
use Rattle.memory.specs.Memory.{Memory}
use Rattle.memory.specs.CallLaws.{CallLaws}
use Rattle.flag_ir.specs.declared.operation.Op.{Op}
use Rattle.flag_ir.specs.declared.block.Block.{Block}
use Rattle.flag_ir.specs.declared.block.Exit.{Exit}
use Rattle.flag_ir.specs.Storage.{Frame, Storage}
use Rattle.flag_ir.specs.Operations.{perform, shown_by}
use Rattle.flag_ir.specs.Entering.{CodeUnit, Onward, blocks_of, jump, leave}
use Rattle.flag_ir.specs.UnitRun.{Point, Before, Within, Over, UnitState, state_at, performed, left_for, within, fresh, begun, next, first_storage, entered, first_state, unit_run}
use Rattle.flag_ir.specs.Shape.{Part, IsBlock}
use Rattle.flag_ir.specs.Costs.{Costing, step_cost, BoundsTurns}
use Rattle.flag_ir.specs.Reached.{Opening, openings, part_of, HasExit, AreOpenings, is_guard, IsReached, ReachedState}
use Rattle.flag_ir.proofs.UnitMoves.{next_event}
use Rattle.flag_ir.proofs.Openings.{Kept, perform_kept}
use Rattle.flag_ir.proofs.Leaving.{blocks_same, Lands, leave_lands, jump_lands}
use Rattle.flag_ir.proofs.Pacing.{part_member, left_in, next_paced}

module _ (unit : CodeUnit) where
  -- ---- the states that it comes to; no end is a guard event
  abbrev Comes : Move UnitState → Type 0
  Comes (Stand ls e) = is_guard e ≡ false
  Comes (Go ls s) = IsReached unit s
  Comes (Halt ls e) = is_guard e ≡ false

  left_comes : (turn : ℕ) (r : Onward) (most : ℕ) → Lands unit (λ part k. 0) most r → Comes (left_for turn r)
  left_comes turn (Ok p) most h = record { frames = h.0; point = tt }
  left_comes turn (Err e) most h = h

  performed_comes : (turn : ℕ) (labels : List Label) (r : Result Storage End) (ops : List Op) (e : Exit) (os : List Opening) → Kept os r → AreOpenings unit os → HasExit unit (part_of os) e → Comes (performed turn labels r ops e)
  performed_comes turn labels (Ok v) ops e os kept are has = record { frames = subst (AreOpenings unit) (sym kept) are; point = subst (λ (x : List Opening). HasExit unit (part_of x) e) (sym kept) has }
  performed_comes turn labels (Err x) ops e os kept are has = kept

  marked_comes : (a : ℕ) (m : Move UnitState) → Comes m → Comes (marked a m)
  marked_comes a (Stand ls e) h = h
  marked_comes a (Go ls s) h = h
  marked_comes a (Halt ls e) h = h

  module _ (calls : CallLaws) where
    within_comes : (turn : ℕ) (ops : List Op) (e : Exit) (u : Storage) → AreOpenings unit (openings u.frames) → HasExit unit (part_of (openings u.frames)) e → Comes (within unit turn ops e u)
    within_comes turn [] e u are has = left_comes turn (leave unit turn e u) _ (leave_lands unit (λ part k. 0) turn e u are has)
    within_comes turn (o ∷ ops) e u are has = performed_comes turn (shown_by o u) (perform turn o u) ops e (openings u.frames) (perform_kept calls turn o u) are has

    begun_comes : (turn k : ℕ) (o : Option Block) (u : Storage) → AreOpenings unit (openings u.frames) → slice_get (blocks_of unit u.frames) k ≡ o → Comes (begun unit turn o u)
    begun_comes turn k None u are there = refl
    begun_comes turn k (Some b) u are there =
        let os = openings u.frames in
        let is : IsBlock unit (part_of os) k b = (part_member unit os are, subst (λ (bs : List Block). slice_get bs k ≡ Some b) (blocks_same unit u.frames) there) in
        let has : HasExit unit (part_of os) b.exit = record { index = k; block = b; there = is; is = refl } in
        cond_both (b.at == 0) _ _ Comes (λ h. within_comes turn b.ops b.exit (fresh u) are has) (λ h. marked_comes b.at _ (within_comes b.at b.ops b.exit (fresh u) are has))

    point_comes : (p : Point) (turn : ℕ) (u : Storage) → IsReached unit (state_at turn p u) → Comes (next unit (state_at turn p u))
    unfolding next
    point_comes (Before k) turn u h = begun_comes turn k _ u h.frames refl
    point_comes (Within ops e) turn u h = within_comes turn ops e u h.frames h.point
    point_comes (Over e) turn u h = h.point

    next_comes : (s : UnitState) → IsReached unit s → Comes (next unit s)
    next_comes s h = point_comes s.point s.turn s.storage h

  -- ---- the invariant, as the laws of runs take it
  abbrev reached : ReachedState unit → UnitState
  reached i = i.state

  to_reached : (m : Move UnitState) → Comes m → To (Holds reached) m
  to_reached (Stand ls e) h = tt
  to_reached (Go ls s) h = (record { state = s; holds = h }, refl)
  to_reached (Halt ls e) h = tt

  ends_plainly : (m : Move UnitState) → Comes m → EndsIn (λ e. not (is_guard e) ≡ true) m
  ends_plainly (Stand ls e) h = ap not h
  ends_plainly (Go ls s) h = tt
  ends_plainly (Halt ls e) h = ap not h

  kept : CallLaws → IsKept reached (next unit)
  kept calls i = to_reached (next unit i.state) (next_comes calls i.state i.holds)

  -- ---- the first state
  first_reached : (u : Storage) (r : Onward) → u.frames ≡ [] → Lands unit (λ part k. 0) 0 r → IsReached unit (entered u r)
  first_reached u (Ok p) none h = record { frames = h.0; point = tt }
  first_reached u (Err e) none h = record { frames = subst (λ (fs : List Frame). AreOpenings unit (openings fs)) (sym none) tt; point = h }

  start_reached : (m : Memory) (entry esp0 : ℕ) (stack : List ℕ) (left : Environment) → IsReached unit (first_state unit m entry esp0 stack left)
  unfolding first_state first_storage
  start_reached m entry esp0 stack left = let u = first_storage m esp0 stack left in first_reached u (jump unit entry u) refl (jump_lands unit (λ part k. 0) entry u)

  abbrev start : (m : Memory) (entry esp0 : ℕ) (stack : List ℕ) (left : Environment) → ReachedState unit
  start m entry esp0 stack left = record { state = first_state unit m entry esp0 stack left; holds = start_reached m entry esp0 stack left }

  nothing_left : (c : Costing) (w : ℕ) (rest : Part → ℕ → ℕ) (u : Storage) (r : Onward) → Lands unit rest 0 r → left_in unit c w rest (entered u r) ≤ 0
  nothing_left c w rest u (Ok p) h = h.1
  nothing_left c w rest u (Err e) h = omega arith

  start_left : (c : Costing) (w : ℕ) (rest : Part → ℕ → ℕ) (m : Memory) (entry esp0 : ℕ) (stack : List ℕ) (left : Environment) → left_in unit c w rest (first_state unit m entry esp0 stack left) ≤ 0
  unfolding first_state
  start_left c w rest m entry esp0 stack left = let u = first_storage m esp0 stack left in nothing_left c w rest u (jump unit entry u) (jump_lands unit rest entry u)

  -- ---- the run
  module _ (calls : CallLaws) (m : Memory) (entry esp0 : ℕ) (stack : List ℕ) (left : Environment) where
    pub grow : RunLaws UnitState → Grows (unit_run unit m entry esp0 stack left)
    unfolding unit_run
    grow runs = runs.run_grows (next unit) (first_state unit m entry esp0 stack left)

    pub one_event : MoveLaws UnitState → OneEvent (unit_run unit m entry esp0 stack left)
    unfolding unit_run
    one_event moves = moves.one_event_by_steps (next unit) (next_event calls unit) (first_state unit m entry esp0 stack left)

    module _ (invariants : InvariantLaws UnitState (ReachedState unit)) where
      run_plain : (n : ℕ) (e : End) → (unit_run unit m entry esp0 stack left n).end ≡ Some e → not (is_guard e) ≡ true
      unfolding unit_run
      run_plain = invariants.ends_by_moves (next unit) reached (kept calls) (λ e. not (is_guard e)) (λ i. ends_plainly (next unit i.state) (next_comes calls i.state i.holds)) (start m entry esp0 stack left)

      pub no_guard : (n : ℕ) (k : GuardKind) (a : ℕ) → (unit_run unit m entry esp0 stack left n).end ≢ Some (Guard k a)
      no_guard n k a h = let own : false ≡ true = run_plain n (Guard k a) h in cc

      pub paced : (c : Costing) (w : ℕ) (rest : Part → ℕ → ℕ) → BoundsTurns c w rest unit → PacedBy (clock_of (next unit) (step_cost c unit) (first_state unit m entry esp0 stack left)) w 0 (unit_run unit m entry esp0 stack left)
      unfolding unit_run
      paced c w rest bounds =
          invariants.paced_by_costs (next unit) reached (kept calls) (step_cost c unit) w 0 (left_in unit c w rest) (λ i. next_paced unit c w rest calls bounds i.state i.holds) (start m entry esp0 stack left)
          (start_left c w rest m entry esp0 stack left)
