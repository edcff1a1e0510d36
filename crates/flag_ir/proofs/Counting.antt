-- A well shaped unit does by turns what it does itself: its turns have a weight in steps, each of which costs one.
use Rattle.std.proofs.Common.{◌≡◌, ◌≢◌, ℕ, zero, suc, ◌+◌, ◌≤◌, ◌<◌, List, [], ◌∷◌, slice_get, Option, Some, None, refl, sym, ap, ◌∙◌, arith}
use Rattle.traces.specs.Trace.{Label, End, Outside, Seen, Move, Stand, Go, Halt, EndsAt, seen, at_rest, run}
use Rattle.traces.specs.Steps.{clock_of}
use Rattle.traces.specs.Weight.{SeenWithin, PacedBy, Paced}
use Rattle.traces.specs.RunLaws.{RunLaws}
use Rattle.traces.specs.ClockLaws.{ClockLaws}
use Rattle.traces.specs.CompositionLaws.{CompositionLaws}
use Rattle.flag_ir.specs.declared.operation.Op.{Op}
use Rattle.flag_ir.specs.declared.block.Block.{Block}
use Rattle.flag_ir.specs.declared.block.Exit.{Exit}
use Rattle.flag_ir.specs.Storage.{Storage}
use Rattle.flag_ir.specs.Entering.{CodeUnit, blocks_of}
use Rattle.flag_ir.specs.UnitRun.{Point, Before, Within, Over, UnitState, state_at, begun, move_at, next, first_state, unit_run}
use Rattle.flag_ir.specs.Shape.{IsWellShaped}
use Rattle.flag_ir.specs.Costs.{one_each, first_cost, entry_cost, cost_at, step_cost}
use Rattle.flag_ir.specs.UnitLaws.{UnitRunLaws}
use Rattle.flag_ir.specs.Keeps.{Keeps}
use Rattle.flag_ir.specs.PassLaws.{HasWeight}
use Rattle.flag_ir.proofs.Weights.{weight_of, rest_of, bounds_turns}

-- ---- each step costs one
first_is_one : (ops : List Op) (e : Exit) → 1 ≤ first_cost one_each ops e
first_is_one [] e = omega arith
first_is_one (o ∷ ops) e = omega arith

entry_is_one : (unit : CodeUnit) (turn : ℕ) (u : Storage) (b : Option Block) → at_rest (begun unit turn b u) ≡ seen [] None → 1 ≤ entry_cost one_each b
entry_is_one unit turn u None awake = let e : Some Outside ≡ None = ap (λ x. x.end) awake in absurd (cc e)
entry_is_one unit turn u (Some b) awake = first_is_one b.ops b.exit

point_is_one : (unit : CodeUnit) (p : Point) (turn : ℕ) (u : Storage) → at_rest (move_at unit p turn u) ≡ seen [] None → 1 ≤ cost_at one_each unit p (state_at turn p u)
point_is_one unit (Before k) turn u awake = entry_is_one unit turn u (slice_get (blocks_of unit u.frames) k) awake
point_is_one unit (Within ops e) turn u awake = first_is_one ops e
point_is_one unit (Over e) turn u awake = let h : Some e ≡ None = ap (λ x. x.end) awake in absurd (cc h)

step_is_one : (unit : CodeUnit) (s : UnitState) → at_rest (next unit s) ≡ seen [] None → 1 ≤ step_cost one_each unit s
unfolding next
step_is_one unit s awake = point_is_one unit s.point s.turn s.storage awake

module _ (runs : RunLaws UnitState) (clocks : ClockLaws UnitState) (unit : CodeUnit) where
  abbrev shown_from : UnitState → ℕ → Seen
  shown_from s n = run (next unit) s n

  abbrev clock_from : UnitState → ℕ → ℕ
  clock_from s n = clock_of (next unit) (step_cost one_each unit) s n

  -- no end is seen within fewer steps
  abbrev IsAwake : UnitState → ℕ → Type 0
  IsAwake s n = (k : ℕ) → k < n → (shown_from s k).end ≡ None

  one_from : (s : UnitState) (m : Move UnitState) → next unit s ≡ m → at_rest m ≡ seen [] None → 1 ≤ step_cost one_each unit s
  one_from s m is awake = step_is_one unit s (ap at_rest is ∙ awake)

  -- so as many steps cost as many
  counts : (n : ℕ) (s : UnitState) → IsAwake s n → n ≤ clock_from s n
  counts zero s h = omega arith
  counts (suc n) s h = by (λ t awake. counts n t awake) (next unit s) refl
    where
      halted : (m : ℕ) → m ≡ n → (ls : List Label) (e : End) → next unit s ≡ Halt ls e → suc m ≤ clock_from s (suc n)
      halted zero same ls e is =
          let one : 1 ≤ step_cost one_each unit s = one_from s (Halt ls e) is refl in
          let c : clock_from s (suc n) ≡ step_cost one_each unit s = clocks.clock_halt (next unit) (step_cost one_each unit) s ls e is n in
          omega (arith, one, c)
      halted (suc m) same ls e is =
          let few : 1 < suc n = omega (arith, same) in
          let none : Some e ≡ None = sym (ap (λ x. x.end) (runs.run_halt (next unit) s ls e is 0)) ∙ h 1 few in
          absurd (cc none)

      by : ((t : UnitState) → IsAwake t n → n ≤ clock_from t n) → (m : Move UnitState) → next unit s ≡ m → suc n ≤ clock_from s (suc n)
      by more (Stand ls e) is =
          let none : Some e ≡ None = sym (ap (λ x. x.end) (runs.run_stand (next unit) s ls e is 0)) ∙ h 0 (omega arith) in
          absurd (cc none)
      by more (Go ls t) is =
          let awake : IsAwake t n = λ k few. sym (ap (λ x. x.end) (runs.run_go (next unit) s ls t is k)) ∙ h (suc k) (omega (arith, few)) in
          let rest : n ≤ clock_from t n = more t awake in
          let one : 1 ≤ step_cost one_each unit s = one_from s (Go ls t) is refl in
          let c : clock_from s (suc n) ≡ step_cost one_each unit s + clock_from t n = clocks.clock_go (next unit) (step_cost one_each unit) s ls t is n in
          omega (arith, rest, one, c)
      by more (Halt ls e) is = halted n refl ls e is

  -- ---- a weight by the clock is one in steps
  module _ (s : UnitState) (w b : ℕ) (p : PacedBy (clock_from s) w b (shown_from s)) where
    no_end_before : (n k : ℕ) → k < n → (shown_from s n).end ≡ None → (o : Option End) → (shown_from s k).end ≡ o → o ≡ None
    no_end_before n k few open_ None is = refl
    no_end_before n k few open_ (Some e) is =
        let some : (shown_from s k).end ≢ None = λ none. let h : Some e ≡ None = sym is ∙ none in cc h in
        let same : shown_from s n ≡ shown_from s k = (runs.run_grows (next unit) s k n (omega (arith, few))).end some in
        sym is ∙ sym (ap (λ x. x.end) same) ∙ open_

    within : (k : ℕ) (o : Option End) → (shown_from s k).end ≡ o → SeenWithin (λ n. n) w b (shown_from s) k
    within k None is =
        let seen_by = p.weight k in
        let same : seen_by.steps ≡ k = seen_by.running is in
        let open_ : (shown_from s seen_by.steps).end ≡ None = ap (λ x. x.end) seen_by.same ∙ is in
        let few : seen_by.steps ≤ clock_from s seen_by.steps = counts seen_by.steps s (λ j less. no_end_before seen_by.steps j less open_ _ refl) in
        record { steps = seen_by.steps; few = omega (arith, few, seen_by.few); same = seen_by.same; running = seen_by.running }
    within k (Some e) is =
        let seen_by = p.weight k in
        let ended : (shown_from s seen_by.steps).end ≡ Some e = ap (λ x. x.end) seen_by.same ∙ is in
        let comes : (m : ℕ) × (m ≤ seen_by.steps) × EndsAt (shown_from s) m e = runs.end_comes (next unit) s seen_by.steps e ended in
        let few : comes.0 ≤ clock_from s comes.0 = counts comes.0 s comes.2.before_it in
        let rises : clock_from s comes.0 ≤ clock_from s seen_by.steps = clocks.clock_rises (next unit) (step_cost one_each unit) s comes.0 seen_by.steps comes.1 in
        let some : (shown_from s comes.0).end ≢ None = λ none. let h : Some e ≡ None = sym comes.2.ended ∙ none in cc h in
        let same : shown_from s seen_by.steps ≡ shown_from s comes.0 = (runs.run_grows (next unit) s comes.0 seen_by.steps comes.1).end some in
        record { steps = comes.0; few = omega (arith, few, rises, seen_by.few); same = sym same ∙ seen_by.same; running = λ none. let h : Some e ≡ None = sym is ∙ none in absurd (cc h) }

    in_steps : Paced w b (shown_from s)
    in_steps = record { at_most = p.at_most; weight = λ k. within k (shown_from s k).end refl; moment = p.moment }

  pub has_weight : UnitRunLaws → IsWellShaped unit → HasWeight unit
  unfolding unit_run
  has_weight laws shape = record {
    weight = weight_of unit;
    paced = λ m entry esp0 stack left. in_steps (first_state unit m entry esp0 stack left) (weight_of unit) 0 (laws.paced one_each (weight_of unit) (rest_of unit) unit m entry esp0 stack left (bounds_turns unit shape));
  }

-- a unit with a weight refines itself
pub keeps_itself : CompositionLaws → (unit : CodeUnit) → HasWeight unit → Keeps unit unit
keeps_itself laws unit h = record { refines = λ m entry esp0 stack left bytes start outside. laws.refines_itself h.weight 0 (unit_run unit m entry esp0 stack left) (h.paced m entry esp0 stack left) }
