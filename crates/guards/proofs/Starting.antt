-- Both units start side by side, so that the unit that is made does by turns what the other one does.
use Rattle.std.proofs.Common.{◌≡◌, ◌≢◌, ℕ, ◌==◌, Bool, true, false, cond, List, [], ◌∷◌, length, Option, Some, None, Result, Ok, Err, refl, sym, ap, ◌∙◌, subst, subst₂, arith}
use Rattle.std.specs.List.{slice_get, position}
use Rattle.std.proofs.lemmas.Bool.{eqb-true, eq-eqb}
use Rattle.std.proofs.lemmas.List.Quantifiers.{position-Some}
use Rattle.std.proofs.lemmas.Option.{get_or_from_slice_get}
use Rattle.x86_values.specs.Words.{IsWord, word_of}
use Rattle.outside.specs.Environment.{Environment, IsEnvironment}
use Rattle.traces.specs.Trace.{Label, Turn, End, Outside, Stopped, Seen, seen, Move, Stand, Go, Halt, run, events}
use Rattle.traces.specs.Turns.{RefinesByTurns}
use Rattle.traces.specs.Weight.{Paced, OneEvent, StartsWithNoMore}
use Rattle.traces.specs.Machines.{marked}
use Rattle.memory.specs.Memory.{Memory, HasBytes, with_stack}
use Rattle.x86_meaning.specs.Run.{IsStart, first_registers}
use Rattle.flag_ir.specs.declared.operation.Op.{Op}
use Rattle.flag_ir.specs.declared.block.Block.{Block}
use Rattle.flag_ir.specs.declared.block.Exit.{Exit}
use Rattle.flag_ir.specs.Storage.{Storage}
use Rattle.flag_ir.specs.Operations.{perform, shown_by}
use Rattle.flag_ir.specs.Entering.{CodeUnit, Onward, before_block, blocks_of, index_at, leave}
use Rattle.flag_ir.specs.UnitRun.{Before, Over, UnitState, state_at, performed, left_for, within, fresh, next, entered, first_storage, first_state, unit_run}
use Rattle.private_memory.specs.PrivateArea.{without_private, IsUsual}
use Rattle.guards.specs.Guarding.{has_loose_stop, guarded_unit}
use Rattle.guards.specs.Lowering.{KeepsWithoutArea}
use Rattle.guards.specs.States.{DiffersByArea, IsLoweredStorage, point_of, OwesTurn, StatePair}
use Rattle.guards.proofs.GuardedBlocks.{address_mapped, jump_is}
use Rattle.guards.proofs.SideBySide.{LawsBelow, IsAsked, left, right, Both, meets}
use Rattle.guards.proofs.Shaping.{well_shaped}

-- ---- moves that are steps
data IsStep {S : Type 0} (m : Move S) : Type 0 where
  advances : (ls : List Label) → (t : S) → m ≡ Go ls t → IsStep m
  halts : (ls : List Label) → (e : End) → m ≡ Halt ls e → IsStep m

within_steps : (unit : CodeUnit) (turn : ℕ) (ops : List Op) (e : Exit) (u : Storage) → IsStep (within unit turn ops e u)
within_steps unit turn [] e u = cases (leave unit turn e u)
  where
    cases : (o : Onward) → IsStep (left_for turn o)
    cases (Ok p) = advances [] _ refl
    cases (Err f) = halts [] f refl
within_steps unit turn (o ∷ ops) e u = cases (perform turn o u)
  where
    cases : (r : Result Storage End) → IsStep (performed turn (shown_by o u) r ops e)
    cases (Ok v) = advances (shown_by o u) _ refl
    cases (Err f) = halts [] f refl

marked_steps : {S : Type 0} (a : ℕ) (m : Move S) → IsStep m → IsStep (marked a m)
marked_steps a m (advances ls t e) = advances (Turn a ∷ ls) t (ap (marked a) e)
marked_steps a m (halts ls f e) = halts (Turn a ∷ ls) f (ap (marked a) e)

-- ---- the block with an address
pub address_there : (a : ℕ) (blocks : List Block) (k : ℕ) → index_at a blocks ≡ Some k → (b : Block) → slice_get blocks k ≡ Some b → (a ≢ 0) × (b.at ≡ a)
unfolding index_at
address_there a blocks k e b is = by (a == 0) refl e
  where
    at_position : position (λ (d : Block). d.at == a) blocks ≡ Some k → b.at ≡ a
    at_position p =
        let passes = (position-Some (λ (d : Block). d.at == a) blocks k b p).1 in
        eqb-true b.at a (subst (λ (z : Block). (z.at == a) ≡ true) (get_or_from_slice_get blocks k b b is) passes)

    by : (z : Bool) → (a == 0) ≡ z → cond z None (position (λ (d : Block). d.at == a) blocks) ≡ Some k → (a ≢ 0) × (b.at ≡ a)
    by true h f = absurd cc
    by false h f = (λ none. let both : true ≡ false = sym (eq-eqb a 0 none) ∙ h in absurd cc, at_position f)

unfoldable pub place_of : Option ℕ → ℕ → Result ℕ End
place_of None entry = Err (Stopped entry)
place_of (Some k) entry = Ok k

module _ (laws : LawsBelow) where
  -- ---- a storage at the start
  first_is_word : (esp0 n : ℕ) → IsWord (first_registers esp0 n)
  first_is_word esp0 n = elim (n == 4) as (λ z. IsWord (cond z (word_of esp0) (word_of 0))) [ true ↦ laws.words.word_of_bytes esp0 | false ↦ laws.words.word_of_bytes 0 ]

  pub first_kept : (m : Memory) (esp0 : ℕ) (stack : List ℕ) (env : Environment) → HasBytes m → IsUsual esp0 m → IsStart esp0 stack → IsEnvironment env → IsLoweredStorage (first_storage m esp0 stack env)
  unfolding first_storage
  first_kept m esp0 stack env bytes is_usual start environment = record {
    no_frame = refl;
    area = laws.area.stack_has esp0 stack m start (laws.area.usual_has esp0 m is_usual);
    formed = record {
      regs = λ n. laws.less.itself (first_registers esp0 n) (first_is_word esp0 n);
      flags = λ n. record { b0 = tt; b1 = tt; b2 = tt; b3 = tt };
      temps = λ n. record { b0 = tt; b1 = tt; b2 = tt; b3 = tt };
      memory = laws.memory_less.itself (with_stack esp0 stack m) (laws.memory.stack_has_bytes esp0 stack m start.bytes bytes);
      left = refl;
      environment = environment;
      frames = refl;
      esp0 = refl;
    };
  }

  first_beside : (m : Memory) (esp0 : ℕ) (stack : List ℕ) (env : Environment) → IsStart esp0 stack → DiffersByArea (first_storage (without_private m) esp0 stack env) (first_storage m esp0 stack env)
  unfolding first_storage
  first_beside m esp0 stack env start = record { regs = refl; flags = refl; temps = λ k l. refl; memory = sym (λ i a. laws.usual.stack esp0 stack m start a i); left = refl; no_frame = refl; no_frame' = refl; esp0 = refl }

  first_closed : (m : Memory) (esp0 : ℕ) (stack : List ℕ) (env : Environment) → (first_storage m esp0 stack env).frames ≡ []
  unfolding first_storage
  first_closed m esp0 stack env = refl

  entered_is : (entry : ℕ) (x : Storage) (o : Option ℕ) → entered x (before_block o (Stopped entry) x) ≡ state_at 0 (point_of (place_of o entry)) x
  unfolding place_of
  entered_is entry x None = refl
  entered_is entry x (Some k) = refl

  pub first_is : (unit : CodeUnit) → unit.procs ≡ [] → (m : Memory) (entry esp0 : ℕ) (stack : List ℕ) (env : Environment) → first_state unit m entry esp0 stack env ≡ state_at 0 (point_of (place_of (index_at entry unit.whole) entry)) (first_storage m esp0 stack env)
  unfolding first_state
  first_is unit alone m entry esp0 stack env =
      let x = first_storage m esp0 stack env in
      ap (entered x) (jump_is unit alone entry x (first_closed m esp0 stack env)) ∙ entered_is entry x (index_at entry unit.whole)

  module _ (u : CodeUnit) (asked : IsAsked u) where
    first_owes : (entry : ℕ) (m : Memory) (o : Option ℕ) → index_at entry u.whole ≡ o → OwesTurn u.whole (place_of o entry) m 0
    unfolding place_of
    first_owes entry m None e = tt
    first_owes entry m (Some k) e = λ l b there none. let at = address_there entry u.whole k e b there in absurd (at.0 (sym at.1 ∙ none))

    first_pair : (m : Memory) (entry esp0 : ℕ) (stack : List ℕ) (env : Environment) → HasBytes m → IsUsual esp0 m → IsStart esp0 stack → IsEnvironment env → StatePair u
    first_pair m entry esp0 stack env bytes is_usual start environment = record {
      turn = 0;
      place = place_of (index_at entry u.whole) entry;
      first = first_storage (without_private m) esp0 stack env;
      second = first_storage m esp0 stack env;
      beside = first_beside m esp0 stack env start;
      kept = first_kept m esp0 stack env bytes is_usual start environment;
      owes = first_owes entry (first_storage m esp0 stack env).memory (index_at entry u.whole) refl;
    }

    -- ---- nothing is shown before the first step
    step_rests : (s : UnitState) → IsStep (next (guarded_unit u) s) → run (next (guarded_unit u)) s 0 ≡ seen [] None
    step_rests s (advances ls t e) = laws.runs.rest_go (next (guarded_unit u)) s ls t e
    step_rests s (halts ls f e) = laws.runs.rest_halt (next (guarded_unit u)) s ls f e

    stand_rests : (s : UnitState) (f : End) → next (guarded_unit u) s ≡ Stand [] f → (run (next (guarded_unit u)) s 0).trace ≡ []
    stand_rests s f h = ap (λ (z : Seen). z.trace) (laws.runs.run_stand (next (guarded_unit u)) s [] f h 0)

    block_rests : (turn k : ℕ) (y : Storage) (b : Block) → slice_get (blocks_of (guarded_unit u) y.frames) k ≡ Some b → IsStep (next (guarded_unit u) (state_at turn (Before k) y))
    block_rests turn k y b there = by (b.at == 0) refl
      where
        by : (z : Bool) → (b.at == 0) ≡ z → IsStep (next (guarded_unit u) (state_at turn (Before k) y))
        by true e = subst IsStep (sym (laws.units.moves.goes_on (guarded_unit u) turn k b y there (eqb-true b.at 0 e))) (within_steps (guarded_unit u) turn b.ops b.exit (fresh y))
        by false e = subst IsStep (sym (laws.units.moves.begins (guarded_unit u) turn k b y there (λ none. let both : true ≡ false = sym (eq-eqb b.at 0 none) ∙ e in absurd cc))) (marked_steps b.at (within (guarded_unit u) b.at b.ops b.exit (fresh y)) (within_steps (guarded_unit u) b.at b.ops b.exit (fresh y)))

    index_rests : (turn k : ℕ) (y : Storage) (o : Option Block) → slice_get (blocks_of (guarded_unit u) y.frames) k ≡ o → (run (next (guarded_unit u)) (state_at turn (Before k) y) 0).trace ≡ []
    index_rests turn k y None e = stand_rests (state_at turn (Before k) y) Outside (laws.units.moves.no_block (guarded_unit u) turn k y e)
    index_rests turn k y (Some b) e = ap (λ (z : Seen). z.trace) (step_rests (state_at turn (Before k) y) (block_rests turn k y b e))

    place_rests : (turn : ℕ) (place : Result ℕ End) (y : Storage) → (run (next (guarded_unit u)) (state_at turn (point_of place) y) 0).trace ≡ []
    place_rests turn (Ok k) y = index_rests turn k y (slice_get (blocks_of (guarded_unit u) y.frames) k) refl
    place_rests turn (Err e) y = stand_rests (state_at turn (Over e) y) e (laws.units.moves.over (guarded_unit u) turn e y)

    starts_by : (p : StatePair u) → StartsWithNoMore (run (next u) (left laws u asked p)) (run (next (guarded_unit u)) (right laws u asked p))
    unfolding left right
    starts_by p = let none : length (events (run (next (guarded_unit u)) (state_at p.turn (point_of p.place) p.second) 0).trace) ≡ 0 = ap (λ ls. length (events ls)) (place_rests p.turn p.place p.second) in omega (arith, none)

    refines_by : (p : StatePair u) (w : ℕ) → Paced w 0 (run (next (guarded_unit u)) (right laws u asked p)) → OneEvent (run (next (guarded_unit u)) (right laws u asked p)) → RefinesByTurns (run (next u) (left laws u asked p)) (run (next (guarded_unit u)) (right laws u asked p))
    unfolding Both
    refines_by p w paced one = (laws.simulation u).refines_by_meeting (next u) (next (guarded_unit u)) (left laws u asked) (right laws u asked) w 0 (meets laws u asked) p paced one (starts_by p)

    pub keeps : KeepsWithoutArea u (guarded_unit u)
    unfolding unit_run left right first_pair
    keeps m entry esp0 stack env bytes is_usual start environment =
        let p = first_pair m entry esp0 stack env bytes is_usual start environment in
        let first : first_state u (without_private m) entry esp0 stack env ≡ left laws u asked p = first_is u asked.alone (without_private m) entry esp0 stack env in
        let second : first_state (guarded_unit u) m entry esp0 stack env ≡ right laws u asked p =
        first_is (guarded_unit u) refl m entry esp0 stack env ∙ ap (λ o. state_at 0 (point_of (place_of o entry)) (first_storage m esp0 stack env)) (address_mapped (has_loose_stop u.whole) entry u.whole) in
        let weight = laws.passes.shape_has_weight (guarded_unit u) (well_shaped u asked) in
        let paced : Paced weight.weight 0 (run (next (guarded_unit u)) (first_state (guarded_unit u) m entry esp0 stack env)) = weight.paced m entry esp0 stack env in
        let one : OneEvent (run (next (guarded_unit u)) (first_state (guarded_unit u) m entry esp0 stack env)) = laws.units.runs.one_event (guarded_unit u) m entry esp0 stack env in
        let refined = refines_by p weight.weight (subst (λ s. Paced weight.weight 0 (run (next (guarded_unit u)) s)) second paced) (subst (λ s. OneEvent (run (next (guarded_unit u)) s)) second one) in
        subst₂ (λ s r. RefinesByTurns (run (next u) s) (run (next (guarded_unit u)) r)) (sym first) (sym second) refined
