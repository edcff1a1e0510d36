-- The unit of a whole program beside the cut run.
use Rattle.std.proofs.Common.{◌≡◌, ◌≢◌, ◌⊎◌, ℕ, suc, zero, ◌+◌, ◌≤◌, ◌==◌, Bool, true, false, cond, List, [], ◌∷◌, ◌++◌, length, Option, Some, None, Result, Ok, Err, refl, sym, ap, ◌∙◌, subst, subst₂, inl, inr, arith}
use Rattle.std.specs.List.{slice_get}
use Rattle.std.proofs.lemmas.List.{append-nil}
use Rattle.x86_values.specs.Words.{IsWord, word_of, known}
use Rattle.x86_values.specs.WordLaws.{WordLaws}
use Rattle.x86_values.specs.LessSpecifiedLaws.{LessSpecifiedLaws}
use Rattle.outside.specs.Environment.{Environment, IsEnvironment}
use Rattle.traces.specs.Trace as trace
use Rattle.traces.specs.Trace.{Label, Turn, GuardKind, End, Unspecified, Guard, Stopped, Seen, seen, before, Move, Stand, Go, Halt, run, turns, events}
use Rattle.traces.specs.Turns.{RefinesCut}
use Rattle.traces.specs.Weight.{Paced, OneEvent, StartsWithNoMore, Ticks}
use Rattle.traces.specs.Steps.{Goes}
use Rattle.traces.specs.Machines.{UnturnedCut, marked, guarded, unless}
use Rattle.traces.specs.Moves.{Unturned}
use Rattle.traces.specs.Simulation.{Paired}
use Rattle.traces.specs.Meeting.{OnBoth, EndBoth, SeenRefinesCut}
use Rattle.traces.specs.MeetingLaws.{MeetingLaws}
use Rattle.traces.specs.MoveLaws.{MoveLaws}
use Rattle.traces.specs.RunLaws.{RunLaws}
use Rattle.traces.specs.SimulationLaws.{SimulationLaws}
use Rattle.memory.specs.Memory.{Memory, HasBytes, with_stack}
use Rattle.memory.specs.MemoryLaws.{MemoryLaws}
use Rattle.memory.specs.CallLaws.{CallLaws}
use Rattle.memory.specs.LessSpecified.{EndLessSpecified}
use Rattle.memory.specs.LessSpecifiedLaws.{LessSpecifiedMemoryLaws}
use Rattle.x86_types.specs.declared.instr.Instr.{Instr}
use Rattle.x86_code.specs.Code.{Code}
use Rattle.x86_meaning.specs.Step as step
use Rattle.x86_meaning.specs.Step.{State}
use Rattle.x86_meaning.specs.StepLaws.{StepLaws, StateLaws}
use Rattle.x86_meaning.specs.Run.{IsStart, start_over, first_registers, machine, run_from}
use Rattle.x86_meaning.specs.RunLaws.{ProgramLaws}
use Rattle.plan_types.specs.Contents.{FoundContents}
use Rattle.flag_ir.specs.declared.operation.Op.{Op}
use Rattle.flag_ir.specs.declared.block.Block.{Block}
use Rattle.flag_ir.specs.declared.block.Exit.{Exit}
use Rattle.flag_ir.specs.Storage.{Storage}
use Rattle.flag_ir.specs.Operations.{perform, shown_by}
use Rattle.flag_ir.specs.Entering.{CodeUnit, Onward, before_block, index_at, leave, blocks_of}
use Rattle.flag_ir.specs.UnitRun.{Point, Before, Within, Over, UnitState, state_at, performed, left_for, within, fresh, next, entered, first_storage, first_state, unit_run}
use Rattle.flag_ir.specs.UnitLaws.{UnitLaws}
use Rattle.flag_ir.specs.PassLaws.{PassLaws}
use Rattle.flag_ir.specs.Shape.{IsWellShaped}
use Rattle.lift_relation.specs.Matching.{StateMatches, MoveMatches, Lifted}
use Rattle.lift_core.specs.Lifting.{lifted, shown_lifted}
use Rattle.lift_core.specs.Whole.{Lifting, HasBlock, IsWholeBy}
use Rattle.cut_run.specs.CutRun.{is_place, code_event, cut_at, event_at, cut_machine, cut_run_over}
use Rattle.whole_code.specs.OneStack.{IsLifted, IsOneStack, WholeIsOneStack}
use Rattle.whole_code.specs.Pairs.{Pair}
use Rattle.whole_code.proofs.Quiet.{quiet_halt, unturned_step}
use Rattle.whole_code.proofs.Among.{PlaceAt, place_at, block_at, no_block}
use Rattle.whole_code.proofs.UnitSide.{Arrives, ArrivesBy, EndsWith, jump_is}
use Rattle.whole_code.proofs.Blocks.{Does, does}

pub record LawsBelow : Type 0 where
  pub words : WordLaws
  pub less : LessSpecifiedLaws
  pub memory : MemoryLaws
  pub memory_less : LessSpecifiedMemoryLaws
  pub calls : CallLaws
  pub steps : StepLaws
  pub states : StateLaws
  pub programs : ProgramLaws
  pub meetings : MeetingLaws
  pub machine_runs : RunLaws State
  pub machine_moves : MoveLaws State
  pub unit_runs : RunLaws UnitState
  pub simulation : SimulationLaws State UnitState Pair
  pub units : UnitLaws
  pub passes : PassLaws

-- ---- ends
either_end : (e : End) → (e ≡ Unspecified) ⊎ ((x y : Lifted) → EndLessSpecified {A = Lifted} e x y → x ≡ y)
either_end Unspecified = inl refl
either_end (trace.Exited n) = inr (λ x y h. h)
either_end trace.MemoryFault = inr (λ x y h. h)
either_end trace.DivideFault = inr (λ x y h. h)
either_end trace.Outside = inr (λ x y h. h)
either_end (trace.OtherCall n) = inr (λ x y h. h)
either_end (Guard k a) = inr (λ x y h. h)
either_end (Stopped a) = inr (λ x y h. h)

-- ---- moves that are steps
data IsStep {S : Type 0} (m : Move S) : Type 0 where
  goes : (ls : List Label) → (t : S) → m ≡ Go ls t → IsStep m
  halts : (ls : List Label) → (e : End) → m ≡ Halt ls e → IsStep m

within_steps : (unit : CodeUnit) (turn : ℕ) (ops : List Op) (e : Exit) (u : Storage) → IsStep (within unit turn ops e u)
within_steps unit turn [] e u = cases (leave unit turn e u)
  where
    cases : (o : Onward) → IsStep (left_for turn o)
    cases (Ok p) = goes [] _ refl
    cases (Err f) = halts [] f refl
within_steps unit turn (o ∷ ops) e u = cases (perform turn o u)
  where
    cases : (r : Result Storage End) → IsStep (performed turn (shown_by o u) r ops e)
    cases (Ok v) = goes (shown_by o u) _ refl
    cases (Err f) = halts [] f refl

step_rests : {S : Type 0} (runs : RunLaws S) (next : S → Move S) (s : S) → IsStep (next s) → run next s 0 ≡ seen [] None
step_rests runs next s (goes ls t e) = runs.rest_go next s ls t e
step_rests runs next s (halts ls f e) = runs.rest_halt next s ls f e

marked_steps : {S : Type 0} (a : ℕ) (m : Move S) → IsStep m → IsStep (marked a m)
marked_steps a m (goes ls t e) = goes (Turn a ∷ ls) t (ap (marked a) e)
marked_steps a m (halts ls f e) = halts (Turn a ∷ ls) f (ap (marked a) e)

-- ---- matching, whatever the temporaries hold
matches_fresh : (s : State) (u : Storage) → StateMatches s u → StateMatches s (fresh u)
matches_fresh s u m = record { regs = m.regs; flags = m.flags; memory = m.memory; left = m.left; environment = m.environment; frames = m.frames }

matches_same : (s : State) (u w : Storage) → StateMatches s u → (w ≡ u) ⊎ (w ≡ fresh u) → StateMatches s w
matches_same s u w m (inl e) = subst (StateMatches s) (sym e) m
matches_same s u w m (inr e) = subst (StateMatches s) (sym e) (matches_fresh s u m)

ended_at : (ls : List Label) (s : Seen) (f : End) → s ≡ seen ls (Some f) → s.end ≢ None
ended_at ls s f h n = let g : Some f ≡ None = sym (ap (λ (z : Seen). z.end) h) ∙ n in cc

some_is : (e f : End) → Some e ≡ Some f → e ≡ f
some_is e f h = cc

module _ (laws : LawsBelow) (lifting : Lifting) (code : Code) (found : FoundContents) (unit : CodeUnit) (lifts : IsLifted lifting code found) (whole : IsWholeBy lifting unit found) where
  point_of : Option ℕ → ℕ → Point
  point_of None a = Over (Stopped a)
  point_of (Some k) a = Before k

  right : Pair → UnitState
  right p = state_at p.turn (point_of (index_at p.state.eip unit.whole) p.state.eip) p.storage

  left : Pair → State
  left p = p.state

  Both : Pair → Type 0
  Both p = OnBoth (cut_machine code found) (next unit) (Paired left right) (left p) (right p) ⊎ EndBoth (cut_machine code found) (next unit) (SeenRefinesCut 0) (left p) (right p)

  -- ---- the source
  source_lost : (s : State) → is_place found s.eip ≡ false → cut_machine code found s ≡ Stand [] (Guard trace.Code s.eip)
  unfolding event_at
  source_lost s h = ap (λ b. marked s.eip (unless (cut_at s.eip (code_event b)) (step.next code s))) h

  source_found : (s : State) → is_place found s.eip ≡ true → cut_machine code found s ≡ marked s.eip (step.next code s)
  unfolding event_at
  source_found s h = ap (λ b. marked s.eip (unless (cut_at s.eip (code_event b)) (step.next code s))) h

  -- ---- a place that isn't found
  at_lost : (p : Pair) → is_place found p.state.eip ≡ false → Both p
  unfolding Both left right point_of
  at_lost p h =
      let c = laws.machine_runs.run_stand (cut_machine code found) p.state [] (Guard trace.Code p.state.eip) (source_lost p.state h) 0 in
      let none = no_block lifting unit found p.state.eip whole h in
      let target : next unit (state_at p.turn (point_of (index_at p.state.eip unit.whole) p.state.eip) p.storage) ≡ Stand [] (Stopped p.state.eip) = ap (λ o. next unit (state_at p.turn (point_of o p.state.eip) p.storage)) none ∙ laws.units.moves.over unit p.turn (Stopped p.state.eip) p.storage in
      let r = laws.unit_runs.run_stand (next unit) (state_at p.turn (point_of (index_at p.state.eip unit.whole) p.state.eip) p.storage) [] (Stopped p.state.eip) target 0 in
      inr (record {
        steps = 0;
        ended = ended_at [] (run (cut_machine code found) p.state 0) (Guard trace.Code p.state.eip) c;
        steps' = 0;
        fits = subst₂ (SeenRefinesCut 0) (sym c) (sym r) (laws.meetings.cut_stop 0 [] trace.Code p.state.eip);
      })

  -- ---- a found place
  module _ (p : Pair) (here : is_place found p.state.eip ≡ true) (pl : PlaceAt found p.state.eip) (index : ℕ) (b : Block) (there : index_at p.state.eip unit.whole ≡ Some index) (is : slice_get unit.whole index ≡ Some b) (b_at : b.at ≡ p.state.eip) (nonzero : p.state.eip ≢ 0)
      (does_it : Does laws.unit_runs laws.units laws.words unit whole.procs b.at (lifting.way pl.place) (lifting.list pl.place) (fresh p.storage) (state_at b.at (Within b.ops b.exit) (fresh p.storage))) where
    abbrev inside : UnitState
    inside = state_at b.at (Within b.ops b.exit) (fresh p.storage)

    -- the unit begins the turn of the block
    right_is : right p ≡ state_at p.turn (Before index) p.storage
    unfolding right point_of
    right_is = ap (λ o. state_at p.turn (point_of o p.state.eip) p.storage) there

    begins : next unit (right p) ≡ marked p.state.eip (next unit inside)
    begins =
        ap (next unit) right_is
        ∙ (laws.units.moves.begins unit p.turn index b p.storage (ap (λ frames. slice_get (blocks_of unit frames) index) p.matches.frames ∙ is) (λ z. nonzero (sym b_at ∙ z))
        ∙ (ap (λ a. marked a (within unit b.at b.ops b.exit (fresh p.storage))) b_at
        ∙ ap (marked p.state.eip) (sym (laws.units.moves.by_within unit b.at b.ops b.exit (fresh p.storage)))))

    awake : run (next unit) inside 0 ≡ seen [] None
    awake = step_rests laws.unit_runs (next unit) (state_at b.at (Within b.ops b.exit) (fresh p.storage)) (subst IsStep (sym (laws.units.moves.by_within unit b.at b.ops b.exit (fresh p.storage))) (within_steps unit b.at b.ops b.exit (fresh p.storage)))

    target_goes : (k : ℕ) (ls : List Label) (t : UnitState) → Goes (next unit) inside k ls t → Goes (next unit) (right p) k (Turn p.state.eip ∷ ls) t
    target_goes k ls t g = laws.unit_runs.marked_goes (next unit) (right p) inside p.state.eip begins k ls t g

    target_first : (n : ℕ) → run (next unit) (right p) (suc n) ≡ before (Turn p.state.eip ∷ []) (run (next unit) inside (suc n))
    target_first n = laws.unit_runs.marked_run (next unit) (right p) inside p.state.eip begins awake n

    -- where it ends from within, it ends
    target_ends : (ls : List Label) (e : End) → EndsWith unit inside ls e → (n : ℕ) × (run (next unit) (right p) n ≡ seen (Turn p.state.eip ∷ ls) (Some e))
    target_ends ls e r = cases r.steps r.ends
      where
        cases : (n : ℕ) → run (next unit) inside n ≡ seen ls (Some e) → (n : ℕ) × (run (next unit) (right p) n ≡ seen (Turn p.state.eip ∷ ls) (Some e))
        cases zero h = let both : seen [] None ≡ seen ls (Some e) = sym awake ∙ h in let no : None ≡ Some e = ap (λ (z : Seen). z.end) both in cc
        cases (suc n) h = (suc n, target_first n ∙ ap (before (Turn p.state.eip ∷ [])) h)

    source_step : cut_machine code found p.state ≡ marked p.state.eip (step.step pl.place.instr pl.place.len p.state)
    source_step =
        source_found p.state here
        ∙ ap (marked p.state.eip) (laws.steps.at_instruction code p.state pl.place.instr pl.place.len (subst (λ a. code a ≡ Some (pl.place.instr, pl.place.len)) pl.at (lifts.stands pl.place pl.among)))

    next_step : step.next code p.state ≡ step.step pl.place.instr pl.place.len p.state
    next_step = laws.steps.at_instruction code p.state pl.place.instr pl.place.len (subst (λ a. code a ≡ Some (pl.place.instr, pl.place.len)) pl.at (lifts.stands pl.place pl.among))

    abbrev shown : List Label
    shown = shown_lifted b.at (lifting.way pl.place) (lifting.list pl.place) (fresh p.storage)

    abbrev outcome : Result (ℕ × Storage) End
    outcome = lifted b.at (lifting.way pl.place) (lifting.list pl.place) (fresh p.storage)

    related_by : (pair : Pair) (k : ℕ) → index_at pair.state.eip unit.whole ≡ Some k → Paired left right pair.state (state_at pair.turn (Before k) pair.storage)
    unfolding left right point_of
    related_by pair k e = (pair, refl, ap (λ o. state_at pair.turn (point_of o pair.state.eip) pair.storage) e)

    -- ---- the machine goes on
    index_lost : (a : ℕ) → index_at a unit.whole ≡ None → is_place found a ≡ false
    index_lost a none = cases (is_place found a) refl
      where
        cases : (z : Bool) → is_place found a ≡ z → z ≡ false
        cases false e = refl
        cases true e =
            let q = place_at found a e in
            let has : HasBlock lifting unit.whole q.place = whole.blocks q.place q.among in
            let some : index_at a unit.whole ≡ Some has.index = subst (λ c. index_at c unit.whole ≡ Some has.index) q.at has.there in
            let both : None ≡ Some has.index = sym none ∙ some in cc

    goes_by : (ls : List Label) (t : State) (q : ℕ × Storage) → step.step pl.place.instr pl.place.len p.state ≡ Go ls t → ls ≡ shown → t.eip ≡ q.0 → StateMatches t q.1 → Arrives unit inside shown q.0 q.1 → Both p
    unfolding Both left
    goes_by ls t q h same eip m r = cases (index_at t.eip unit.whole) refl (subst (λ a. ArrivesBy (index_at a unit.whole) unit inside shown a r.storage) (sym eip) r.by)
      where
        source_goes : cut_machine code found p.state ≡ Go (Turn p.state.eip ∷ ls) t
        source_goes = source_step ∙ ap (marked p.state.eip) h

        m' : StateMatches t r.storage
        m' = matches_same t q.1 r.storage m r.same

        cases : (o : Option ℕ) → index_at t.eip unit.whole ≡ o → ArrivesBy o unit inside shown t.eip r.storage → OnBoth (cut_machine code found) (next unit) (Paired left right) p.state (right p) ⊎ EndBoth (cut_machine code found) (next unit) (SeenRefinesCut 0) p.state (right p)
        cases (Some k) e arrived =
            let known_esp = laws.states.step_forgets code p.state t ls (next_step ∙ h) in
            let pair : Pair = record { state = t; storage = r.storage; turn = arrived.turn; matches = m'; esp = known_esp.esp; is_esp = known_esp.is_esp } in
            inl (record {
              steps = 1;
              trace = Turn p.state.eip ∷ ls;
              state = t;
              goes = laws.machine_runs.goes_step (cut_machine code found) p.state (Turn p.state.eip ∷ ls) t source_goes;
              steps' = arrived.steps;
              state' = state_at arrived.turn (Before k) r.storage;
              goes' = subst (λ ks. Goes (next unit) (right p) arrived.steps (Turn p.state.eip ∷ ks) (state_at arrived.turn (Before k) r.storage)) (sym same) (target_goes arrived.steps shown (state_at arrived.turn (Before k) r.storage) arrived.goes);
              related = related_by pair k e;
            })
        cases None e arrived =
            let lost = source_lost t (index_lost t.eip e) in
            let c = laws.machine_runs.run_go (cut_machine code found) p.state (Turn p.state.eip ∷ ls) t source_goes 0 ∙ ap (before (Turn p.state.eip ∷ ls)) (laws.machine_runs.run_stand (cut_machine code found) t [] (Guard trace.Code t.eip) lost 0) in
            let ends = target_ends shown (Stopped t.eip) arrived in
            inr (record {
              steps = 1;
              ended = ended_at ((Turn p.state.eip ∷ ls) ++ []) (run (cut_machine code found) p.state 1) (Guard trace.Code t.eip) c;
              steps' = ends.0;
              fits = subst₂ (SeenRefinesCut 0) (sym (c ∙ ap (λ ks. seen ks (Some (Guard trace.Code t.eip))) (append-nil (Turn p.state.eip ∷ ls)))) (sym (ends.1 ∙ ap (λ ks. seen (Turn p.state.eip ∷ ks) (Some (Stopped t.eip))) (sym same))) (laws.meetings.cut_stop 0 (Turn p.state.eip ∷ ls) trace.Code t.eip);
            })

    -- ---- the machine ends
    no_guard : (ls : List Label) (k : GuardKind) (a : ℕ) → step.step pl.place.instr pl.place.len p.state ≡ Halt ls (Guard k a) → ⊥
    unfolding run_from
    no_guard ls k a h =
        let move : machine code p.state ≡ Halt (Turn p.state.eip ∷ ls) (Guard k a) = ap (marked p.state.eip) (next_step ∙ h) in
        laws.programs.no_guard code p.state 1 k a (ap (λ (z : Seen). z.end) (laws.machine_runs.run_halt (machine code) p.state (Turn p.state.eip ∷ ls) (Guard k a) move 0))

    halts_by : (ls : List Label) (e : End) → step.step pl.place.instr pl.place.len p.state ≡ Halt ls e → EndLessSpecified {A = Lifted} e (ls, Err e) (shown, outcome) → Both p
    unfolding Both left
    halts_by ls e h m = cases (either_end e)
      where
        source_halts : cut_machine code found p.state ≡ Halt (Turn p.state.eip ∷ ls) e
        source_halts = source_step ∙ ap (marked p.state.eip) h

        c : run (cut_machine code found) p.state 1 ≡ seen (Turn p.state.eip ∷ ls) (Some e)
        c = laws.machine_runs.run_halt (cut_machine code found) p.state (Turn p.state.eip ∷ ls) e source_halts 0

        cases : (e ≡ Unspecified) ⊎ ((x y : Lifted) → EndLessSpecified {A = Lifted} e x y → x ≡ y) → OnBoth (cut_machine code found) (next unit) (Paired left right) p.state (right p) ⊎ EndBoth (cut_machine code found) (next unit) (SeenRefinesCut 0) p.state (right p)
        cases (inl unspecified) =
            let silent : ls ≡ [] = quiet_halt laws.steps pl.place.instr pl.place.len p.esp p.state ls e p.is_esp h in
            let excused : run (cut_machine code found) p.state 1 ≡ seen (Turn p.state.eip ∷ []) (Some Unspecified) = c ∙ (ap (λ ks. seen (Turn p.state.eip ∷ ks) (Some e)) silent ∙ ap (λ f. seen (Turn p.state.eip ∷ []) (Some f)) unspecified) in
            inr (record {
              steps = 1;
              ended = ended_at (Turn p.state.eip ∷ ls) (run (cut_machine code found) p.state 1) e c;
              steps' = 1;
              fits = subst₂ (SeenRefinesCut 0) (sym excused) (sym (target_first 0)) (laws.meetings.cut_unspecified 0 (Turn p.state.eip ∷ []) (run (next unit) inside 1).trace (run (next unit) inside 1).end);
            })
        cases (inr same) =
            let both : (let x : Lifted = (ls, Err e) in x) ≡ (shown, outcome) = same (ls, Err e) (shown, outcome) m in
            let labels : ls ≡ shown = ap (λ (x : Lifted). x.0) both in
            let end : outcome ≡ Err e = sym (ap (λ (x : Lifted). x.1) both) in
            let ends = target_ends shown e (does_it.ends e end) in
            inr (record {
              steps = 1;
              ended = ended_at (Turn p.state.eip ∷ ls) (run (cut_machine code found) p.state 1) e c;
              steps' = ends.0;
              fits = subst₂ (SeenRefinesCut 0) (sym c) (sym (ends.1 ∙ ap (λ ks. seen (Turn p.state.eip ∷ ks) (Some e)) (sym labels)))
                  (laws.meetings.cut_itself 0 (seen (Turn p.state.eip ∷ ls) (Some e)) (λ k a g. no_guard ls k a (h ∙ ap (λ f. Halt ls f) (some_is e (Guard k a) g))));
            })

    by_step : (x : Move State) → step.step pl.place.instr pl.place.len p.state ≡ x → MoveMatches x shown outcome → Both p
    by_step (Stand ls e) h m = absurd m
    by_step (Halt ls e) h m = halts_by ls e h m
    by_step (Go ls t) h m = by_outcome outcome refl m
      where
        by_outcome : (y : Result (ℕ × Storage) End) → outcome ≡ y → MoveMatches (Go ls t) shown y → Both p
        by_outcome (Err f) e m = absurd m
        by_outcome (Ok q) e m = goes_by ls t q h m.0 m.1 m.2 (does_it.arrives q e m.2.frames)

  -- ---- the meeting
  at_found : (p : Pair) → is_place found p.state.eip ≡ true → Both p
  at_found p here =
      let pl = place_at found p.state.eip here in
      let has = whole.blocks pl.place pl.among in
      let there : index_at p.state.eip unit.whole ≡ Some has.index = subst (λ a. index_at a unit.whole ≡ Some has.index) pl.at has.there in
      let block = block_at p.state.eip unit.whole has.index there in
      let b_at : has.block.at ≡ p.state.eip = block.here has.block has.is in
      let does_it = does laws.unit_runs laws.units laws.words unit whole.procs has.block.at (lifting.way pl.place) (lifting.list pl.place) p.storage has.block (lifts.addresses pl.place pl.among) has.by p.matches.frames in
      by_step p here pl has.index has.block there has.is b_at block.nonzero does_it (step.step pl.place.instr pl.place.len p.state) refl
      ((lifts.lifts pl.place pl.among).lifts has.block.at p.state (fresh p.storage) (sym pl.at) (matches_fresh p.state p.storage p.matches))

  meets : (p : Pair) → Both p
  meets p = cases (is_place found p.state.eip) refl
    where
      cases : (z : Bool) → is_place found p.state.eip ≡ z → Both p
      cases false e = at_lost p e
      cases true e = at_found p e

  -- ---- the source's steps are turns
  unturned_next : (s : State) → Unturned (step.next code s)
  unturned_next s = cases (code s.eip) refl
    where
      cases : (o : Option (Instr × ℕ)) → code s.eip ≡ o → Unturned (step.next code s)
      cases None e = subst Unturned (sym (laws.steps.at_none code s e)) refl
      cases (Some q) e = subst Unturned (sym (laws.steps.at_instruction code s q.0 q.1 e)) (unturned_step laws.steps laws.calls q.0 q.1 s)

  unturned_event : (s : State) → UnturnedCut (cut_at s.eip (event_at found s))
  unfolding event_at
  unturned_event s = cases (is_place found s.eip)
    where
      cases : (z : Bool) → UnturnedCut (cut_at s.eip (code_event z))
      cases false = refl
      cases true = tt

  ticks : (s : State) → Ticks (run (cut_machine code found) s) × Paced 1 0 (run (cut_machine code found) s)
  ticks s = laws.machine_moves.turned_ticks (λ t. t.eip) (guarded (λ t. cut_at t.eip (event_at found t)) (step.next code)) (laws.machine_moves.guarded_unturned (λ t. cut_at t.eip (event_at found t)) (step.next code) unturned_event unturned_next) s

  -- ---- the start
  first_is_word : (esp0 n : ℕ) → IsWord (first_registers esp0 n)
  first_is_word esp0 n = elim (n == 4) as (λ z. IsWord (cond z (word_of esp0) (word_of 0))) [ true ↦ laws.words.word_of_bytes esp0 | false ↦ laws.words.word_of_bytes 0 ]

  first_matches : (m : Memory) (entry esp0 : ℕ) (stack : List ℕ) (left : Environment) → HasBytes m → IsStart esp0 stack → IsEnvironment left → StateMatches (start_over m entry esp0 stack left) (first_storage m esp0 stack left)
  unfolding start_over first_storage
  first_matches m entry esp0 stack left bytes start environment = record {
    regs = λ n low. laws.less.itself (first_registers esp0 n) (first_is_word esp0 n);
    flags = record { cf = tt; pf = tt; zf = tt; sf = tt; of = tt };
    memory = laws.memory_less.itself (with_stack esp0 stack m) (laws.memory.stack_has_bytes esp0 stack m start.bytes bytes);
    left = refl;
    environment = environment;
    frames = refl;
  }

  first_esp : (m : Memory) (entry esp0 : ℕ) (stack : List ℕ) (left : Environment) → IsStart esp0 stack → known ((start_over m entry esp0 stack left).cpu.regs 4) ≡ Some esp0
  unfolding start_over
  first_esp m entry esp0 stack left start = laws.words.known_word esp0 (let high : esp0 + length stack ≤ 0xFFFFE000 = start.within in omega arith)

  first_pair : (m : Memory) (entry esp0 : ℕ) (stack : List ℕ) (left : Environment) → HasBytes m → IsStart esp0 stack → IsEnvironment left → Pair
  first_pair m entry esp0 stack left bytes start environment = record {
    state = start_over m entry esp0 stack left;
    storage = first_storage m esp0 stack left;
    turn = 0;
    matches = first_matches m entry esp0 stack left bytes start environment;
    esp = esp0;
    is_esp = first_esp m entry esp0 stack left start;
  }

  entered_is : (entry : ℕ) (u : Storage) (o : Option ℕ) → entered u (before_block o (Stopped entry) u) ≡ state_at 0 (point_of o entry) u
  unfolding point_of
  entered_is entry u None = refl
  entered_is entry u (Some k) = refl

  first_right : (m : Memory) (entry esp0 : ℕ) (stack : List ℕ) (left : Environment) (bytes : HasBytes m) (start : IsStart esp0 stack) (environment : IsEnvironment left) → first_state unit m entry esp0 stack left ≡ right (first_pair m entry esp0 stack left bytes start environment)
  unfolding first_state right first_pair start_over first_storage
  first_right m entry esp0 stack left bytes start environment =
      let u = first_storage m esp0 stack left in
      ap (entered u) (jump_is laws.unit_runs laws.units laws.words unit whole.procs entry u refl) ∙ entered_is entry u (index_at entry unit.whole)

  -- nothing is shown before the first step
  quiet_start : (p : Pair) → (run (next unit) (right p) 0).trace ≡ []
  unfolding right point_of
  quiet_start p = cases (index_at p.state.eip unit.whole) refl
    where
      cases : (o : Option ℕ) → index_at p.state.eip unit.whole ≡ o → (run (next unit) (state_at p.turn (point_of o p.state.eip) p.storage) 0).trace ≡ []
      cases None e = ap (λ (z : Seen). z.trace) (laws.unit_runs.run_stand (next unit) (state_at p.turn (Over (Stopped p.state.eip)) p.storage) [] (Stopped p.state.eip) (laws.units.moves.over unit p.turn (Stopped p.state.eip) p.storage) 0)
      cases (Some k) e =
          let block = block_at p.state.eip unit.whole k e in
          let at : block.block.at ≡ p.state.eip = block.here block.block block.is in
          let begins = laws.units.moves.begins unit p.turn k block.block p.storage (ap (λ frames. slice_get (blocks_of unit frames) k) p.matches.frames ∙ block.is) (λ z. block.nonzero (sym at ∙ z)) in
          let steps = subst IsStep (sym begins) (marked_steps block.block.at _ (within_steps unit block.block.at block.block.ops block.block.exit (fresh p.storage))) in
          ap (λ (z : Seen). z.trace) (step_rests laws.unit_runs (next unit) (state_at p.turn (Before k) p.storage) steps)

  refines_by : (p : Pair) (w : ℕ) → Paced w 0 (run (next unit) (right p)) → OneEvent (run (next unit) (right p)) → RefinesCut 0 (run (cut_machine code found) (left p)) (run (next unit) (right p))
  unfolding Both
  refines_by p w paced one = laws.simulation.cut_by_meeting (cut_machine code found) (next unit) left right 0 w 0 meets p (ticks (left p)).0 (ticks (left p)).1 paced one (starts_by p)
    where
      starts_by : (p : Pair) → StartsWithNoMore (run (cut_machine code found) (left p)) (run (next unit) (right p))
      starts_by p = let none : length (events (run (next unit) (right p) 0).trace) ≡ 0 = ap (λ ls. length (events ls)) (quiet_start p) in omega (arith, none)

  pub one_stack : IsWellShaped unit → IsOneStack code found unit
  unfolding cut_run_over unit_run left first_pair
  one_stack shape = record {
    refines = λ m entry esp0 stack env bytes start environment.
        let p = first_pair m entry esp0 stack env bytes start environment in
        let is = first_right m entry esp0 stack env bytes start environment in
        let weight = laws.passes.shape_has_weight unit shape in
        let paced : Paced weight.weight 0 (run (next unit) (first_state unit m entry esp0 stack env)) = weight.paced m entry esp0 stack env in
        let one : OneEvent (run (next unit) (first_state unit m entry esp0 stack env)) = laws.units.runs.one_event unit m entry esp0 stack env in
        let refined = refines_by p weight.weight (subst (λ s. Paced weight.weight 0 (run (next unit) s)) is paced) (subst (λ s. OneEvent (run (next unit) s)) is one) in
        source_is m entry esp0 stack env bytes start environment (subst (λ s. RefinesCut 0 (run (cut_machine code found) (left p)) (run (next unit) s)) (sym is) refined);
  }
    where
      source_is : (m : Memory) (entry esp0 : ℕ) (stack : List ℕ) (env : Environment) (bytes : HasBytes m) (start : IsStart esp0 stack) (environment : IsEnvironment env) → RefinesCut 0 (run (cut_machine code found) (left (first_pair m entry esp0 stack env bytes start environment))) (run (next unit) (first_state unit m entry esp0 stack env)) → RefinesCut 0 (run (cut_machine code found) (start_over m entry esp0 stack env)) (run (next unit) (first_state unit m entry esp0 stack env))
      source_is m entry esp0 stack env bytes start environment r = r

pub whole_is_one_stack : LawsBelow → WholeIsOneStack
whole_is_one_stack laws lifting code found unit lifts whole shape = one_stack laws lifting code found unit lifts whole shape
