-- A unit and the unit that is made of it, side by side.
use Rattle.std.proofs.Common.{◌≡◌, ◌≢◌, ◌⊎◌, ℕ, suc, ◌^◌, ◌<◌, ◌==◌, ◌||◌, Bool, true, false, cond, List, [], ◌++◌, length, Contains, Option, Some, None, Result, Ok, Err, refl, sym, ap, ◌∙◌, subst, subst₂, inl, inr}
use Rattle.std.specs.List.{slice_get}
use Rattle.std.proofs.lemmas.Bool.{eqb-true}
use Rattle.std.proofs.lemmas.List.Elements.{All-contains}
use Rattle.std.proofs.lemmas.Option.{slice_get_within, get_or_from_slice_get}
use Rattle.x86_values.specs.WordLaws.{WordLaws}
use Rattle.x86_values.specs.LessSpecifiedLaws.{LessSpecifiedLaws}
use Rattle.traces.specs.Trace.{Label, End, Outside, Seen, seen, Stand, run}
use Rattle.traces.specs.Steps.{Goes}
use Rattle.traces.specs.Simulation.{Paired}
use Rattle.traces.specs.Meeting.{OnBoth, EndBoth, SeenRefines}
use Rattle.traces.specs.MeetingLaws.{MeetingLaws}
use Rattle.traces.specs.RunLaws.{RunLaws}
use Rattle.traces.specs.InvariantLaws.{InvariantLaws}
use Rattle.traces.specs.SimulationLaws.{SimulationLaws}
use Rattle.traces.specs.Moves.{HoldingState}
use Rattle.memory.specs.MemoryLaws.{MemoryLaws}
use Rattle.memory.specs.LessSpecifiedLaws.{LessSpecifiedMemoryLaws}
use Rattle.flag_ir.specs.declared.block.Block.{Block}
use Rattle.flag_ir.specs.Storage.{Storage}
use Rattle.flag_ir.specs.Operations.{and_then, performs, shown_with, shown_by_all}
use Rattle.flag_ir.specs.Entering.{CodeUnit, blocks_of}
use Rattle.flag_ir.specs.UnitRun.{Before, Over, UnitState, state_at, fresh, next}
use Rattle.flag_ir.specs.UnitLaws.{UnitLaws}
use Rattle.flag_ir.specs.PassLaws.{PassLaws}
use Rattle.flag_ir.specs.Form.{IsInForm, IsFramelessBlock}
use Rattle.flag_ir.specs.Shape.{IsWellShaped}
use Rattle.private_memory.specs.PrivateAreaLaws.{UsualLaws, PrivateAccessLaws}
use Rattle.guards.specs.Temporaries.{HasTempsBelow}
use Rattle.guards.specs.Guarding.{is_stop, has_loose_stop, turn_stores, guarded_ops, guarded_block, guarded_unit, AreAddresses}
use Rattle.guards.specs.States.{DiffersByArea, IsLoweredStorage, NamesTurn, point_of, OwesTurn, StatePair, IsSafe}
use Rattle.guards.proofs.Sides.{SameArea, BothGo, Meets}
use Rattle.guards.proofs.Keeping.{ops_keep, fresh_kept}
use Rattle.guards.proofs.GuardedLists.{AreOps, RunsAlike, runs_alike, lists_frameless}
use Rattle.guards.proofs.UnitSteps.{EndsWith, turn_of, turn_shown, block_goes, block_leaves, block_ends}
use Rattle.guards.proofs.TurnStores.{names_same, Begun, begun}
use Rattle.guards.proofs.GuardedBlocks.{mapped_there, mapped_none, loose_here, LeaveAlike, leaves_alike, goes, ends}

pub record LawsBelow : Type 0 where
  pub words : WordLaws
  pub less : LessSpecifiedLaws
  pub memory : MemoryLaws
  pub memory_less : LessSpecifiedMemoryLaws
  pub usual : UsualLaws
  pub area : PrivateAccessLaws
  pub meetings : MeetingLaws
  pub runs : RunLaws UnitState
  pub simulation : (u : CodeUnit) → SimulationLaws UnitState UnitState (StatePair u)
  pub invariants : InvariantLaws UnitState (HoldingState IsSafe)
  pub units : UnitLaws
  pub passes : PassLaws

-- what is asked of the unit
pub record IsAsked (u : CodeUnit) : Type 0 where
  pub form : IsInForm u
  pub shape : IsWellShaped u
  pub plain : u.lowered ≡ false
  pub alone : u.procs ≡ []
  pub temps : HasTempsBelow 1399997 u.whole
  pub addresses : AreAddresses u.whole

pub fresh_beside : (x y : Storage) → DiffersByArea x y → DiffersByArea (fresh x) (fresh y)
fresh_beside x y h = record { regs = h.regs; flags = h.flags; temps = λ k l. refl; memory = h.memory; left = h.left; no_frame = h.no_frame; no_frame' = h.no_frame'; esp0 = h.esp0 }

pub among : (blocks : List Block) (k : ℕ) (b : Block) → slice_get blocks k ≡ Some b → Contains blocks b
among blocks k b e = (k, slice_get_within blocks k b e, get_or_from_slice_get blocks k b b e)

module _ (laws : LawsBelow) (u : CodeUnit) (asked : IsAsked u) where
  abbrev v : CodeUnit
  v = guarded_unit u

  abbrev loose : Bool
  loose = has_loose_stop u.whole

  unfoldable pub left : StatePair u → UnitState
  left p = state_at p.turn (point_of p.place) p.first

  unfoldable pub right : StatePair u → UnitState
  right p = state_at p.turn (point_of p.place) p.second

  unfoldable pub Both : UnitState → UnitState → Type 0
  Both s t = OnBoth (next u) (next v) (Paired left right) s t ⊎ EndBoth (next u) (next v) SeenRefines s t

  ended_at : (ls : List Label) (s : Seen) (f : End) → s ≡ seen ls (Some f) → s.end ≢ None
  ended_at ls s f h n = let g : Some f ≡ None = sym (ap (λ (z : Seen). z.end) h) ∙ n in cc

  both_end : (s t : UnitState) (ls ks : List Label) (f : End) → EndsWith u s ls f → EndsWith v t ks f → ls ≡ ks → Both s t
  unfolding Both
  both_end s t ls ks f g h same = inr (record {
    steps = g.steps;
    ended = ended_at ls (run (next u) s g.steps) f g.ends;
    steps' = h.steps;
    fits = subst₂ SeenRefines (sym g.ends) (sym (h.ends ∙ ap (λ xs. seen xs (Some f)) (sym same))) (laws.meetings.refines_itself (seen ls (Some f)));
  })

  -- ---- where both stand
  both_stand : (s t : UnitState) (f : End) → next u s ≡ Stand [] f → next v t ≡ Stand [] f → Both s t
  both_stand s t f g h = both_end s t [] [] f (record { steps = 0; ends = laws.runs.run_stand (next u) s [] f g 0 }) (record { steps = 0; ends = laws.runs.run_stand (next v) t [] f h 0 }) refl

  -- ---- a block
  pub ops_of : (k : ℕ) (b : Block) → slice_get u.whole k ≡ Some b → AreOps b.ops
  ops_of k b e =
      let c = among u.whole k b e in
      record { form = asked.form.whole.ops b c; frameless = (All-contains IsFramelessBlock u.whole b asked.shape.whole c).ops; below = (asked.temps b c).ops }

  module _ (turn k : ℕ) (x y : Storage) (h : DiffersByArea x y) (kept : IsLoweredStorage y) (owes : OwesTurn u.whole (Ok k) y.memory turn) (b : Block) (is : slice_get u.whole k ≡ Some b) where
    abbrev t : ℕ
    t = turn_of turn b

    abbrev made : Block
    made = guarded_block loose b

    there : slice_get (blocks_of u x.frames) k ≡ Some b
    there = ap (λ frames. slice_get (blocks_of u frames) k) h.no_frame ∙ is

    there' : slice_get (blocks_of v y.frames) k ≡ Some made
    there' = ap (λ frames. slice_get (blocks_of v frames) k) h.no_frame' ∙ mapped_there (guarded_block loose) u.whole k b is

    starts : Begun laws.words laws.memory laws.area t loose b.at b.exit (fresh x) (fresh y)
    starts = begun laws.words laws.memory laws.area t laws.units loose b.at b.exit (fresh x) (fresh y) (All-contains (λ (d : Block). d.at < 2 ^ 32) u.whole b asked.addresses (among u.whole k b is)) (fresh_beside x y h) (fresh_kept y kept)

    alike : RunsAlike laws.words laws.memory laws.usual laws.area laws.units t (fresh x) starts.storage b.ops
    alike = runs_alike laws.words laws.memory laws.usual laws.area laws.units t b.ops (fresh x) starts.storage (ops_of k b is) starts.beside starts.kept

    made_runs : performs t made.ops (fresh y) ≡ performs t (guarded_ops b.ops) starts.storage
    made_runs = laws.units.lists.performs_append t (turn_stores loose b.at b.exit) (guarded_ops b.ops) (fresh y) ∙ ap (λ r. and_then r (performs t (guarded_ops b.ops))) starts.runs

    made_shows : shown_by_all t made.ops (fresh y) ≡ shown_by_all t (guarded_ops b.ops) starts.storage
    made_shows =
        laws.units.lists.shown_append t (turn_stores loose b.at b.exit) (guarded_ops b.ops) (fresh y)
        ∙ (ap (λ ls. ls ++ shown_with (performs t (turn_stores loose b.at b.exit) (fresh y)) [] (shown_by_all t (guarded_ops b.ops))) starts.shows ∙ ap (λ r. shown_with r [] (shown_by_all t (guarded_ops b.ops))) starts.runs)

    labels_same : turn_shown b ++ shown_by_all t b.ops (fresh x) ≡ turn_shown made ++ shown_by_all t made.ops (fresh y)
    labels_same = ap (λ ls. turn_shown b ++ ls) (alike.shows ∙ sym made_shows)

    -- a stop finds its turn, and so does each block behind it that owes it
    names : (loose || is_stop b.exit) ≡ true → NamesTurn starts.storage.memory t
    names s = by (b.at == 0) refl
      where
        is_loose : (l : Bool) → loose ≡ l → (b.at == 0) ≡ true → loose ≡ true
        is_loose true e z = e
        is_loose false e z = loose_here u.whole k b is z (sym (ap (λ c. c || is_stop b.exit) e) ∙ s)

        by : (z : Bool) → (b.at == 0) ≡ z → NamesTurn starts.storage.memory (cond z turn b.at)
        by true z = subst (λ (w : Storage). NamesTurn w.memory turn) (sym (starts.stays z)) (owes (is_loose loose refl z) b is (eqb-true b.at 0 z))
        by false z = starts.names z s

    named : (w : Storage) → SameArea starts.storage.memory w.memory → (loose || is_stop b.exit) ≡ true → NamesTurn w.memory t
    named w same s = names_same laws.memory starts.storage.memory w.memory t same (names s)

    stop_names : (w : Storage) → SameArea starts.storage.memory w.memory → is_stop b.exit ≡ true → NamesTurn w.memory t
    stop_names w same s = named w same (or_right loose (is_stop b.exit) s)
      where
        or_right : (p q : Bool) → q ≡ true → (p || q) ≡ true
        or_right true q e = refl
        or_right false q e = e

    loose_names : (w : Storage) → SameArea starts.storage.memory w.memory → loose ≡ true → NamesTurn w.memory t
    loose_names w same s = named w same (ap (λ c. c || is_stop b.exit) s)

    gone : (p q : Storage) → performs t b.ops (fresh x) ≡ Ok p → performs t (guarded_ops b.ops) starts.storage ≡ Ok q → BothGo starts.storage.memory p q → LeaveAlike u v t b.exit p q → Both (state_at turn (Before k) x) (state_at turn (Before k) y)
    unfolding Both left right
    gone p q f g go (goes j l m) =
        let kept' = ops_keep laws.area laws.units t (guarded_ops b.ops) starts.storage q (lists_frameless b.ops (ops_of k b is).frameless) starts.kept g in
        let pair : StatePair u = record { turn = t; place = Ok j; first = p; second = q; beside = go.beside; kept = kept'; owes = λ s d there zero. loose_names q go.area s } in
        inl (record {
          steps = suc (length b.ops);
          trace = turn_shown b ++ shown_by_all t b.ops (fresh x);
          state = state_at t (Before j) p;
          goes = block_goes laws.runs laws.units u turn k b x there p p j f l;
          steps' = suc (length made.ops);
          state' = state_at t (Before j) q;
          goes' = subst (λ ls. Goes (next v) (state_at turn (Before k) y) (suc (length made.ops)) ls (state_at t (Before j) q)) (sym labels_same) (block_goes laws.runs laws.units v turn k made y there' q q j (made_runs ∙ g) m);
          related = (pair, refl, refl);
        })
    gone p q f g go (ends e l m) =
        both_end (state_at turn (Before k) x) (state_at turn (Before k) y) _ _ e (block_leaves laws.runs laws.units u turn k b x there p e f l) (block_leaves laws.runs laws.units v turn k made y there' q e (made_runs ∙ g) m) labels_same

    block_by : (r s : Result Storage End) → performs t b.ops (fresh x) ≡ r → performs t (guarded_ops b.ops) starts.storage ≡ s → Meets starts.storage.memory r s → Both (state_at turn (Before k) x) (state_at turn (Before k) y)
    block_by (Ok p) (Ok q) f g m =
        gone p q f g m
        (leaves_alike u asked.plain asked.alone t p q m.beside b.exit (All-contains IsFramelessBlock u.whole b asked.shape.whole (among u.whole k b is)).exit (asked.temps b (among u.whole k b is)).exit (stop_names q m.area))
    block_by (Ok p) (Err e) f g m = absurd m
    block_by (Err e) (Ok q) f g m = absurd m
    block_by (Err e) (Err d) f g m =
        both_end (state_at turn (Before k) x) (state_at turn (Before k) y) _ _ e (block_ends laws.runs laws.units u turn k b x there e f) (block_ends laws.runs laws.units v turn k made y there' e (made_runs ∙ (g ∙ ap (λ z. Err z) (sym m)))) labels_same

    at_block : Both (state_at turn (Before k) x) (state_at turn (Before k) y)
    at_block = block_by (performs t b.ops (fresh x)) (performs t (guarded_ops b.ops) starts.storage) refl refl alike.meets

  -- ---- the meeting
  at_index : (turn k : ℕ) (x y : Storage) → DiffersByArea x y → IsLoweredStorage y → OwesTurn u.whole (Ok k) y.memory turn → Both (state_at turn (Before k) x) (state_at turn (Before k) y)
  at_index turn k x y h kept owes = cases (slice_get u.whole k) refl
    where
      cases : (o : Option Block) → slice_get u.whole k ≡ o → Both (state_at turn (Before k) x) (state_at turn (Before k) y)
      cases (Some b) e = at_block turn k x y h kept owes b e
      cases None e =
          both_stand (state_at turn (Before k) x) (state_at turn (Before k) y) Outside
          (laws.units.moves.no_block u turn k x (ap (λ frames. slice_get (blocks_of u frames) k) h.no_frame ∙ e))
          (laws.units.moves.no_block v turn k y (ap (λ frames. slice_get (blocks_of v frames) k) h.no_frame' ∙ mapped_none (guarded_block loose) u.whole k e))

  at_place : (turn : ℕ) (place : Result ℕ End) (x y : Storage) → DiffersByArea x y → IsLoweredStorage y → OwesTurn u.whole place y.memory turn → Both (state_at turn (point_of place) x) (state_at turn (point_of place) y)
  at_place turn (Ok k) x y h kept owes = at_index turn k x y h kept owes
  at_place turn (Err e) x y h kept owes = both_stand (state_at turn (Over e) x) (state_at turn (Over e) y) e (laws.units.moves.over u turn e x) (laws.units.moves.over v turn e y)

  pub meets : (p : StatePair u) → Both (left p) (right p)
  unfolding left right
  meets p = at_place p.turn p.place p.first p.second p.beside p.kept p.owes
