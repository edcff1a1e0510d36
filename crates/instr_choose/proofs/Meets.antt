-- A lowered unit and its code, side by side: they meet at the beginning of each block.
use Rattle.std.proofs.Common.{◌≡◌, ◌≢◌, ◌⊎◌, ℕ, suc, ◌+◌, List, [], ◌∷◌, ◌++◌, map, length, Option, Some, None, Result, Ok, Err, refl, sym, ap, ◌∙◌, subst, subst₂, append_assoc, inl, inr, true}
use Rattle.std.specs.List.{slice_get}
use Rattle.std.specs.Option.{option_map}
use Rattle.std.proofs.lemmas.List.{append-nil, map-append}
use Rattle.std.proofs.lemmas.List.Elements.{All-contains}
use Rattle.traces.specs.Trace.{Label, End, Exited, MemoryFault, DivideFault, Outside, OtherCall, Unspecified, Guard, Stopped, Seen, seen, Move, Stand, Go, before, run}
use Rattle.traces.specs.Agree.{end_as, outside}
use Rattle.traces.specs.Machines.{outside_machine}
use Rattle.traces.specs.Steps.{Goes, Reaches}
use Rattle.traces.specs.Simulation.{Paired}
use Rattle.traces.specs.Meeting.{OnBoth, EndBoth, SeenRefines}
use Rattle.traces.specs.MeetingLaws.{MeetingLaws}
use Rattle.traces.specs.TraceLaws.{TraceLaws}
use Rattle.traces.specs.RunLaws.{RunLaws}
use Rattle.traces.specs.MoveLaws.{MoveLaws}
use Rattle.traces.specs.SimulationLaws.{SimulationLaws}
use Rattle.memory.specs.MemoryLaws.{MemoryLaws}
use Rattle.flag_ir.specs.declared.variable.Var.{Var}
use Rattle.flag_ir.specs.declared.variable.Var.TheVariants as var
use Rattle.flag_ir.specs.declared.block.Block.{Block}
use Rattle.flag_ir.specs.Storage.{Storage, var_in}
use Rattle.flag_ir.specs.Operations.{performs, shown_by_all}
use Rattle.flag_ir.specs.Entering.{CodeUnit, Onward, blocks_of, leave}
use Rattle.flag_ir.specs.UnitRun.{Point, Before, Within, Over, UnitState, state_at, fresh, next}
use Rattle.flag_ir.specs.UnitLaws.{UnitLaws}
use Rattle.flag_ir.specs.Form.{IsVar, IsFramelessBlock, IsInForm}
use Rattle.flag_ir.specs.Shape.{IsWellShaped}
use Rattle.private_memory.specs.PrivateAreaLaws.{PrivateAccessLaws}
use Rattle.named_code.specs.Items.{Item, named_item}
use Rattle.named_code.specs.Running.{CodeState, CodePoint, AtNumber, AtOld, Inside, CodePosition, standing_at}
use Rattle.named_code.specs.CodeRunLaws.{CodeRunLaws}
use Rattle.named_code.specs.TestedRunLaws.{TestedRunLaws}
use Rattle.x86_values.specs.LessSpecified.{WordLessSpecified}
use Rattle.instr_choose.specs.Lists.{choose_ops}
use Rattle.instr_choose.specs.Blocks.{choose_exit}
use Rattle.instr_choose.specs.Relation.{place_of_var, IsBelow, AreMetBy, ChoosingLaws}
use Rattle.instr_choose.specs.Marks.{marks_of}
use Rattle.named_code.specs.TestedRun.{turn_shown}
use Rattle.instr_choose.specs.States.{LeadsTo, HasNoZero, ChosenPair}
use Rattle.instr_choose.proofs.Below.{nothing}
use Rattle.instr_choose.proofs.Choosing.{LawsBelow}
use Rattle.instr_choose.proofs.Naming.{code_of, code_blocks, among, number_found, address_found, address_missing, mark_is}
use Rattle.instr_choose.proofs.ChosenInstrs.{SpellingLaw}
use Rattle.instr_choose.proofs.Forming.{begins}
use Rattle.instr_choose.proofs.Beginnings.{IsStep, Begins, RunEnds, RunShows, step_rests, reach_go, reach_ends, reach_shows, begun_goes, begun_ends, begun_shows}
use Rattle.instr_choose.proofs.UnitBlocks.{turn_of, block_goes, block_leaves, block_ends}
use Rattle.instr_choose.proofs.CodeBlocks.{act_steps, inside_is, passes_reach, fails_ends, found, IsJump, no_block, block_begins}
use Rattle.instr_choose.proofs.PlainResults.{IsPlainResult, plain_results}
use Rattle.instr_choose.proofs.Exits.{step, code_at, ExitMeets, exit_meets}

pub record UnitLawsBelow : Type 0 where
  pub below : LawsBelow
  pub choosing : ChoosingLaws
  pub spelling : SpellingLaw
  pub memory : MemoryLaws
  pub area : PrivateAccessLaws
  pub meetings : MeetingLaws
  pub units : UnitLaws
  pub code : CodeRunLaws
  pub tested : TestedRunLaws
  pub traces : TraceLaws
  pub unit_runs : RunLaws UnitState
  pub unit_moves : MoveLaws UnitState
  pub code_runs : RunLaws CodePosition
  pub code_moves : MoveLaws CodePosition
  pub simulation : (u : CodeUnit) → SimulationLaws UnitState CodePosition (ChosenPair u)

-- what is asked of the unit
pub record IsAsked (u : CodeUnit) : Type 0 where
  pub form : IsInForm u
  pub shape : IsWellShaped u
  pub low : u.lowered ≡ true

-- ---- ends
abbrev pub IsOr : End → Type 0
IsOr e = (e ≡ Unspecified) ⊎ (e ≢ Unspecified)

pub unspecified_or : (e : End) → IsOr e
unspecified_or (Exited n) = inr (λ h. absurd cc)
unspecified_or MemoryFault = inr (λ h. absurd cc)
unspecified_or DivideFault = inr (λ h. absurd cc)
unspecified_or Outside = inr (λ h. absurd cc)
unspecified_or (OtherCall n) = inr (λ h. absurd cc)
unspecified_or Unspecified = inl refl
unspecified_or (Guard k a) = inr (λ h. absurd cc)
unspecified_or (Stopped a) = inr (λ h. absurd cc)

-- a block begins with unspecified temporaries
pub fresh_below : (u : Storage) (s : CodeState) → IsBelow u s → IsBelow (fresh u) s
fresh_below u s h = record { vars = each; memory = h.memory; left = h.left; environment = h.environment; frames = h.frames }
  where
    each : (v : Var) → IsVar 0 v → WordLessSpecified (var_in v (fresh u)) (s.cpu.regs (place_of_var v))
    each (var.Reg n) i = h.vars (var.Reg n) i
    each (var.Flag n) i = h.vars (var.Flag n) i
    each (var.Temp n) i = nothing (s.cpu.regs (place_of_var (var.Temp n)))
    each (var.Local n) i = h.vars (var.Local n) i

module _ (laws : UnitLawsBelow) (u : CodeUnit) (asked : IsAsked u) where
  abbrev pub source : UnitState → Move UnitState
  source = outside_machine (next u)

  abbrev pub target : CodePosition → Move CodePosition
  target = step laws.below laws.code_runs u (marks_of u)

  unfoldable pub left : ChosenPair u → UnitState
  left p = state_at p.turn p.point p.storage

  unfoldable pub right : ChosenPair u → CodePosition
  right p = standing_at p.target p.state

  unfoldable pub Both : UnitState → CodePosition → Type 0
  Both s t = OnBoth source target (Paired left right) s t ⊎ EndBoth source target SeenRefines s t

  -- ---- the unit, with stops as ends outside
  outside_goes : (s t : UnitState) (k : ℕ) (ls : List Label) → Goes (next u) s k ls t → Goes source s k ls t
  outside_goes s t k ls g = record {
    some = g.some;
    awake = laws.unit_moves.runs_outside (next u) s 0 ∙ ap (λ (z : Seen). seen z.trace (end_as outside z.end)) g.awake;
    by = λ j. laws.unit_moves.runs_outside (next u) s (k + j) ∙ (ap (λ (z : Seen). seen z.trace (end_as outside z.end)) (g.by j) ∙ ap (before ls) (sym (laws.unit_moves.runs_outside (next u) t j)));
  }

  outside_ends : (s : UnitState) (ls : List Label) (e : End) (h : RunEnds (next u) s ls e) → run source s (suc h.steps) ≡ seen ls (Some (outside e))
  outside_ends s ls e h = laws.unit_moves.runs_outside (next u) s (suc h.steps) ∙ ap (λ (z : Seen). seen z.trace (end_as outside z.end)) h.ends

  has_ended : (s : Seen) (ls : List Label) (e : End) → s ≡ seen ls (Some e) → s.end ≢ None
  has_ended s ls e h n = let g : Some e ≡ None = sym (ap (λ (z : Seen). z.end) h) ∙ n in cc

  -- ---- both end, or the unit has used an unspecified value
  both_end : (s : UnitState) (t : CodePosition) (ls : List Label) (e : End) → RunEnds (next u) s ls e → RunEnds target t ls (outside e) → Both s t
  unfolding Both
  both_end s t ls e g h = inr (record {
    steps = suc g.steps;
    ended = has_ended _ ls (outside e) (outside_ends s ls e g);
    steps' = suc h.steps;
    fits = subst₂ SeenRefines (sym (outside_ends s ls e g)) (sym h.ends) (laws.meetings.refines_itself (seen ls (Some (outside e))));
  })

  both_excused : (s : UnitState) (t : CodePosition) (ls : List Label) → RunEnds (next u) s ls Unspecified → RunShows target t ls → Both s t
  unfolding Both
  both_excused s t ls g h = inr (record {
    steps = suc g.steps;
    ended = has_ended _ ls Unspecified (outside_ends s ls Unspecified g);
    steps' = suc h.steps;
    fits = subst₂ SeenRefines (sym (outside_ends s ls Unspecified g)) (sym h.shows) (laws.meetings.refines_unspecified ls h.rest h.end);
  })

  both_by : (s : UnitState) (t : CodePosition) (ls : List Label) (e : End) → RunEnds (next u) s ls e → RunShows target t ls → (e ≢ Unspecified → RunEnds target t ls (outside e)) → Both s t
  both_by s t ls e g shows ends = cases (unspecified_or e)
    where
      cases : IsOr e → Both s t
      cases (inl is) = both_excused s t ls (subst (λ (f : End). RunEnds (next u) s ls f) is g) shows
      cases (inr other) = both_end s t ls e g (ends other)

  -- ---- where both stand
  both_stand : (s : UnitState) (t : CodePosition) (e : End) → next u s ≡ Stand [] e → target t ≡ Stand [] (outside e) → Both s t
  both_stand s t e g h =
      both_end s t [] e (record { steps = 0; ends = laws.unit_runs.run_stand (next u) s [] e g 1 }) (record { steps = 0; ends = laws.code_runs.run_stand target t [] (outside e) h 1 })

  -- ---- a block
  module _ (turn k : ℕ) (x : Storage) (p : CodePoint) (s : CodeState) (below : IsBelow x s) (no_zero : HasNoZero x.memory) (jump : IsJump laws.code_runs (marks_of u) (code_blocks u.whole) p) (b : Block) (is : slice_get u.whole k ≡ Some b)
      (finds : found laws.code_runs (marks_of u) (code_blocks u.whole) p ≡ Some (code_of b)) where
    abbrev t : ℕ
    t = turn_of turn b

    abbrev from : UnitState
    from = state_at turn (Before k) x

    abbrev to : CodePosition
    to = standing_at p s

    frameless : IsFramelessBlock b
    frameless = All-contains IsFramelessBlock u.whole b (asked.form.lowered asked.low).blocks (among u.whole k b is)

    there : slice_get (blocks_of u x.frames) k ≡ Some b
    there = ap (λ frames. slice_get (blocks_of u frames) k) below.frames ∙ is

    abbrev shown : List Label
    shown = shown_by_all t b.ops (fresh x)

    abbrev labels : List Label
    labels = turn_shown b.at ++ shown

    abbrev op_items : List Item
    op_items = map named_item (choose_ops b.ops)

    abbrev exit_items : List Item
    exit_items = map named_item (choose_exit b.exit)

    abbrev inner : CodePosition
    inner = code_at laws.below laws.code_runs u (marks_of u) (op_items ++ exit_items) s

    -- the code begins the turn that the block begins
    starts : Begins target to inner (turn_shown b.at)
    starts =
        subst₂ (λ (a : ℕ) (items : List Item). Begins target to (code_at laws.below laws.code_runs u (marks_of u) items s) (turn_shown a)) (mark_is u asked.form.whole.numbers k b is) (map-append named_item (choose_ops b.ops) (choose_exit b.exit))
        (block_begins laws.code_runs (marks_of u) (code_blocks u.whole) p s (code_of b) jump finds)

    awake : run target inner 0 ≡ seen [] None
    awake = by (op_items ++ exit_items) refl
      where
        never : (xs : List Item) → [] ≡ xs ++ exit_items → ⊥
        never [] e = let first = begins b.exit frameless.exit in let g : [] ≡ named_item first.0 ∷ map named_item first.1 = e ∙ ap (map named_item) first.2 in cc
        never (y ∷ ys) e = cc

        by : (xs : List Item) → xs ≡ op_items ++ exit_items → run target (code_at laws.below laws.code_runs u (marks_of u) xs s) 0 ≡ seen [] None
        by [] e = absurd (never op_items e)
        by (y ∷ ys) e = step_rests laws.code_runs target _ (subst IsStep (sym (inside_is laws.code_runs (marks_of u) (code_blocks u.whole) (y ∷ ys) s)) (act_steps y ys s))

    -- from a position that is reached
    outer_goes : (n : ℕ) (q r w : CodePosition) (m : ℕ) → Reaches target inner n shown q → Reaches target q m [] r → target r ≡ Go [] w → Goes target to (suc (n + m)) labels w
    outer_goes n q r w m first second g =
        begun_goes laws.code_runs target to inner w (turn_shown b.at) shown (suc (n + m)) starts
        (reach_go laws.code_runs target inner r w (n + m) shown (subst (λ ls. Reaches target inner (n + m) ls r) (append-nil shown) (laws.code_runs.reaches_then target inner n shown q m [] r first second)) g)

    outer_ends : (n : ℕ) (q : CodePosition) (e : End) → Reaches target inner n shown q → RunEnds target q [] e → RunEnds target to labels e
    outer_ends n q e first h =
        begun_ends laws.code_runs target to inner (turn_shown b.at) shown e starts awake (subst (λ ls. RunEnds target inner ls e) (append-nil shown) (reach_ends laws.code_runs target inner q n shown [] e first h))

    outer_shows : (n : ℕ) (q : CodePosition) → Reaches target inner n shown q → RunShows target to labels
    outer_shows n q first = begun_shows laws.code_runs target to inner (turn_shown b.at) shown starts awake (reach_shows laws.code_runs target inner q n shown first)

    -- ---- behind the operations
    exit_by : (n : ℕ) (q : CodePosition) (v : Storage) → Reaches target inner n shown q → performs t b.ops (fresh x) ≡ Ok v → (o : Onward) → leave u t b.exit v ≡ o → ExitMeets laws.below laws.code_runs u (marks_of u) o q → Both from to
    unfolding Both left right
    exit_by n q v first done (Ok w) l h =
        let pair : ChosenPair u = record { turn = t; point = Before w.0; target = h.target; storage = w.1; state = h.state; leads = h.leads; below = h.below; no_zero = h.no_zero } in
        inl (record {
          steps = suc (length b.ops);
          trace = labels;
          state = state_at t (Before w.0) w.1;
          goes = outside_goes from _ (suc (length b.ops)) labels (block_goes laws.unit_runs laws.units u turn k b x there v w.1 w.0 done l);
          steps' = suc (n + h.steps);
          state' = standing_at h.target h.state;
          goes' = outer_goes n q h.last (standing_at h.target h.state) h.steps first h.reaches h.goes;
          related = (pair, refl, refl);
        })
    exit_by n q v first done (Err e) l h =
        both_by from to labels e (block_leaves laws.unit_runs laws.units u turn k b x there v e done l) (outer_shows n q first) (λ other. outer_ends n q (outside e) first (h other))

    met_by : (r : Result Storage End) → performs t b.ops (fresh x) ≡ r → IsPlainResult r → AreMetBy r shown op_items s → Both from to
    met_by (Ok v) done plain h =
        let first = passes_reach laws.code_runs (marks_of u) (code_blocks u.whole) op_items exit_items s h.state shown h.passes in
        exit_by first.0 _ v first.1 done (leave u t b.exit v) refl
        (exit_meets laws.below laws.code_runs u (marks_of u) v h.state h.below plain t b.exit (asked.form.lowered asked.low).procs asked.low (asked.form.whole.exits b (among u.whole k b is)) frameless.exit)
    met_by (Err e) ended plain h =
        let split : op_items ++ exit_items ≡ h.front ++ (h.rest ++ exit_items) = ap (λ xs. xs ++ exit_items) h.is ∙ append_assoc h.front h.rest exit_items in
        let first = passes_reach laws.code_runs (marks_of u) (code_blocks u.whole) h.front (h.rest ++ exit_items) s h.state shown h.passes in
        let reaches = subst (λ xs. Reaches target (code_at laws.below laws.code_runs u (marks_of u) xs s) first.0 shown (code_at laws.below laws.code_runs u (marks_of u) (h.rest ++ exit_items) h.state)) (sym split) first.1 in
        both_by from to labels e (block_ends laws.unit_runs laws.units u turn k b x there e ended) (outer_shows first.0 _ reaches)
        (λ other. outer_ends first.0 _ (outside e) reaches (subst (λ f. RunEnds target (code_at laws.below laws.code_runs u (marks_of u) (h.rest ++ exit_items) h.state) [] f) (sym plain) (fails_ends laws.code_runs (marks_of u) (code_blocks u.whole) h.rest exit_items h.state e (h.fails other))))

    block_meets : Both from to
    block_meets =
        met_by (performs t b.ops (fresh x)) refl (plain_results laws.memory laws.below.calls t b.ops (fresh x) frameless.ops no_zero)
        (laws.choosing.lists_meet t b.ops (fresh x) s (asked.form.whole.ops b (among u.whole k b is)) frameless.ops (fresh_below x s below))

  -- ---- the meeting
  no_such : (turn k : ℕ) (x : Storage) (p : CodePoint) (s : CodeState) → IsBelow x s → IsJump laws.code_runs (marks_of u) (code_blocks u.whole) p → slice_get u.whole k ≡ None → found laws.code_runs (marks_of u) (code_blocks u.whole) p ≡ None → Both (state_at turn (Before k) x) (standing_at p s)
  no_such turn k x p s below jump is finds =
      both_stand (state_at turn (Before k) x) (standing_at p s) Outside (laws.units.moves.no_block u turn k x (ap (λ frames. slice_get (blocks_of u frames) k) below.frames ∙ is)) (no_block laws.code_runs (marks_of u) (code_blocks u.whole) p s jump finds)

  at_index : (turn k : ℕ) (x : Storage) (p : CodePoint) (s : CodeState) → IsBelow x s → HasNoZero x.memory → IsJump laws.code_runs (marks_of u) (code_blocks u.whole) p → found laws.code_runs (marks_of u) (code_blocks u.whole) p ≡ option_map code_of (slice_get u.whole k) → Both (state_at turn (Before k) x) (standing_at p s)
  at_index turn k x p s below no_zero jump finds = cases (slice_get u.whole k) refl finds
    where
      cases : (o : Option Block) → slice_get u.whole k ≡ o → found laws.code_runs (marks_of u) (code_blocks u.whole) p ≡ option_map code_of o → Both (state_at turn (Before k) x) (standing_at p s)
      cases (Some b) is e = block_meets turn k x p s below no_zero jump b is e
      cases None is e = no_such turn k x p s below jump is e

  at_point : (turn : ℕ) (point : Point) (x : Storage) (p : CodePoint) (s : CodeState) → IsBelow x s → HasNoZero x.memory → LeadsTo u.whole p point → Both (state_at turn point x) (standing_at p s)
  at_point turn (Before k) x (AtNumber n) s below no_zero leads = at_index turn k x (AtNumber n) s below no_zero tt (number_found n u.whole k leads)
  at_point turn (Before k) x (AtOld a) s below no_zero leads = at_index turn k x (AtOld a) s below no_zero tt (address_found a u.whole k leads)
  at_point turn (Over e) x (AtOld a) s below no_zero leads =
      both_stand (state_at turn (Over e) x) (standing_at (AtOld a) s) e (laws.units.moves.over u turn e x)
      (no_block laws.code_runs (marks_of u) (code_blocks u.whole) (AtOld a) s tt (address_missing a u.whole leads.0) ∙ ap (λ f. Stand [] (outside f)) (sym leads.1))
  at_point turn (Before k) x (Inside items) s below no_zero leads = absurd leads
  at_point turn (Over e) x (AtNumber n) s below no_zero leads = absurd leads
  at_point turn (Over e) x (Inside items) s below no_zero leads = absurd leads
  at_point turn (Within ops e) x (AtNumber n) s below no_zero leads = absurd leads
  at_point turn (Within ops e) x (AtOld a) s below no_zero leads = absurd leads
  at_point turn (Within ops e) x (Inside items) s below no_zero leads = absurd leads

  pub meets : (p : ChosenPair u) → Both (left p) (right p)
  unfolding left right
  meets p = at_point p.turn p.point p.storage p.target p.state p.below p.no_zero p.leads
