-- The laws of code whose accesses are tested.
use Rattle.std.proofs.Common.{◌≡◌, ℕ, zero, suc, ◌&&◌, Bool, true, false, List, [], ◌∷◌, ◌++◌, All, Some, None, refl, sym, ap, ap₂, ◌∙◌, subst, append_assoc, inl, inr, arith}
use Rattle.std.specs.List.{list_all}
use Rattle.std.proofs.lemmas.Bool.{and_parts}
use Rattle.std.proofs.lemmas.List.Elements.{All-nil, All-cons, All-head, All-tail}
use Rattle.outside.specs.Environment.{Environment}
use Rattle.traces.specs.Trace.{Label, End, Unspecified, Move, Stand, Go, Halt, Grows, seen, before, run}
use Rattle.traces.specs.Weight.{PacedBy, Paced, OneEvent}
use Rattle.traces.specs.Steps.{clock_of, rests, goes}
use Rattle.traces.specs.RunLaws.{RunLaws}
use Rattle.traces.specs.MoveLaws.{MoveLaws}
use Rattle.traces.specs.InvariantLaws.{InvariantLaws}
use Rattle.memory.specs.Memory.{Memory, with_stack}
use Rattle.memory.specs.CallLaws.{CallLaws, is_own_end}
use Rattle.x86_meaning.specs.Operands.{Access}
use Rattle.private_memory.specs.PrivateArea.{IsApartAccess, is_apart_access, IsClearAccess, is_clear_access}
use Rattle.private_memory.specs.PrivateAreaLaws.{PrivateAccessLaws}
use Rattle.named_code.specs.Items.{Item, CodeBlock}
use Rattle.named_code.specs.Running.{CodePosition, Marks, code_next}
use Rattle.named_code.specs.CodeRun.{first_position}
use Rattle.named_code.specs.TestedRun.{AccessTest, position_accesses, turn_at, all_pass, tested_next, tested_run, EndsAtAccess, SameUpToAccess}
use Rattle.named_code.specs.Weight.{step_cost, BoundsCode}
use Rattle.named_code.specs.CodeRunLaws.{OncePosition}
use Rattle.named_code.specs.TestedRunLaws.{TestedRunLaws}
use Rattle.named_code.proofs.Weighing.{left_in}
use Rattle.named_code.proofs.TestedMoves.{IsStepOf, no_event_at, is_passing_move, is_failing_end, reached_step, tested_event, tested_own, tested_paced, tested_in_steps, tested_kept}

-- ---- the accesses of a position pass exactly where each one does
module _ (test : AccessTest) (m : Memory) where
  each_passes : (xs : List Access) → All (λ a. test m a ≡ true) xs → list_all (test m) xs ≡ true
  each_passes [] h = refl
  each_passes (a ∷ more) h = ap₂ (λ b c. b && c) (All-head (λ a. test m a ≡ true) a more h) (each_passes more (All-tail (λ a. test m a ≡ true) a more h))

  passes_each : (xs : List Access) → list_all (test m) xs ≡ true → All (λ a. test m a ≡ true) xs
  passes_each [] h = All-nil (λ a. test m a ≡ true)
  passes_each (a ∷ more) h =
      let parts = and_parts (test m a) (list_all (test m) more) h in
      All-cons (λ a. test m a ≡ true) a more parts.0 (passes_each more parts.1)

module _ (test : AccessTest) (code : List CodeBlock) (p : CodePosition) where
  position_passes : All (λ a. test p.state.memory a ≡ true) (position_accesses code p) → all_pass test code p ≡ true
  unfolding all_pass
  position_passes h = each_passes test p.state.memory (position_accesses code p) h

  passes_position : all_pass test code p ≡ true → All (λ a. test p.state.memory a ≡ true) (position_accesses code p)
  unfolding all_pass
  passes_position h = passes_each test p.state.memory (position_accesses code p) h

  -- a test that tells a property
  told : (P : Access → Type 0) → ((a : Access) → P a → test p.state.memory a ≡ true) → All P (position_accesses code p) → all_pass test code p ≡ true
  told P holds h = position_passes (λ k d l. holds _ (h k d l))

  tells : (P : Access → Type 0) → ((a : Access) → test p.state.memory a ≡ true → P a) → all_pass test code p ≡ true → All P (position_accesses code p)
  tells P holds h = λ k d l. holds _ (passes_position h k d l)

module _ (calls : CallLaws) (runs : RunLaws CodePosition) (moves : MoveLaws CodePosition) (invariants : InvariantLaws CodePosition OncePosition) where
  -- ---- up to an access that doesn't pass the same is seen
  module _ (test : AccessTest) (marks : Marks) (code : List CodeBlock) where
    abbrev keeping : CodePosition → Move CodePosition
    keeping = tested_next test marks code

    abbrev plain : CodePosition → Move CodePosition
    plain = code_next marks code

    abbrev Same : CodePosition → ℕ → Type 0
    Same = SameUpToAccess test marks code

    step_rests : (p : CodePosition) (t : List Label) (m : Move CodePosition) → plain p ≡ m → IsStepOf t m → run plain p 0 ≡ seen [] None
    step_rests p t (Stand ls e) is step = absurd step
    step_rests p t (Go ls q) is step = runs.rest_go plain p ls q is
    step_rests p t (Halt ls e) is step = runs.rest_halt plain p ls e is

    ends_here : (p : CodePosition) (n : ℕ) → all_pass test code p ≡ false → EndsAtAccess test marks code p (suc n)
    ends_here p n e = record {
      steps = 0;
      before = omega arith;
      shown = [];
      position = p;
      reaches = rests p;
      reached = e;
      running = runs.rest_halt keeping p (turn_at marks code p.point) Unspecified (is_failing_end test marks code p e);
      ended = runs.run_halt keeping p (turn_at marks code p.point) Unspecified (is_failing_end test marks code p e) 0;
    }

    ends_behind : (p : CodePosition) (ls : List Label) (q : CodePosition) (n : ℕ) → plain p ≡ Go ls q → keeping p ≡ Go ls q → EndsAtAccess test marks code q n → EndsAtAccess test marks code p (suc n)
    ends_behind p ls q n is is' h = record {
      steps = suc h.steps;
      before = omega (arith, h.before);
      shown = ls ++ h.shown;
      position = h.position;
      reaches = goes p ls q h.steps h.shown h.position is h.reaches;
      reached = h.reached;
      running = runs.run_go keeping p ls q is' h.steps ∙ ap (before ls) h.running;
      ended =
          runs.run_go keeping p ls q is' (suc h.steps) ∙ ap (before ls) h.ended
          ∙ ap (λ ks. seen ks (Some Unspecified)) (sym (append_assoc ls h.shown (turn_at marks code h.position.point)));
    }

    first_same : (p : CodePosition) (m : Move CodePosition) → plain p ≡ m → keeping p ≡ m → run keeping p 0 ≡ run plain p 0
    first_same p (Stand ls e) is is' = runs.run_stand keeping p ls e is' 0 ∙ sym (runs.run_stand plain p ls e is 0)
    first_same p (Go ls q) is is' = runs.rest_go keeping p ls q is' ∙ sym (runs.rest_go plain p ls q is)
    first_same p (Halt ls e) is is' = runs.rest_halt keeping p ls e is' ∙ sym (runs.rest_halt plain p ls e is)

    next_same : (p : CodePosition) (n : ℕ) (m : Move CodePosition) → plain p ≡ m → keeping p ≡ m → ((q : CodePosition) → Same q n) → Same p (suc n)
    next_same p n (Stand ls e) is is' rest = inl (runs.run_stand keeping p ls e is' (suc n) ∙ sym (runs.run_stand plain p ls e is (suc n)))
    next_same p n (Go ls q) is is' rest = cases (rest q)
      where
        cases : Same q n → Same p (suc n)
        cases (inl e) = inl (runs.run_go keeping p ls q is' n ∙ (ap (before ls) e ∙ sym (runs.run_go plain p ls q is n)))
        cases (inr h) = inr (ends_behind p ls q n is is' h)
    next_same p n (Halt ls e) is is' rest = inl (runs.run_halt keeping p ls e is' n ∙ sym (runs.run_halt plain p ls e is n))

    same_by : (p : CodePosition) (n : ℕ) → ((q : CodePosition) (k : ℕ) → n ≡ suc k → Same q k) → Same p n
    same_by p n rest = cases (all_pass test code p) refl n rest
      where
        cases : (b : Bool) → all_pass test code p ≡ b → (n : ℕ) → ((q : CodePosition) (k : ℕ) → n ≡ suc k → Same q k) → Same p n
        cases true e zero rest = inl (first_same p (plain p) refl (is_passing_move test marks code p e))
        cases true e (suc n) rest = next_same p n (plain p) refl (is_passing_move test marks code p e) (λ q. rest q n refl)
        cases false e zero rest =
            inl (runs.rest_halt keeping p (turn_at marks code p.point) Unspecified (is_failing_end test marks code p e)
            ∙ sym (step_rests p (turn_at marks code p.point) (plain p) refl (reached_step test marks code calls p e)))
        cases false e (suc n) rest = inr (ends_here p n e)

    same_up_to : (n : ℕ) (p : CodePosition) → Same p n
    same_up_to zero p = same_by p zero (λ q k e. absurd cc)
    same_up_to (suc n) p = same_by p (suc n) (λ q k e. let same : n ≡ k = cc in subst (Same q) same (same_up_to n q))

  -- ---- its runs
  module _ (test : AccessTest) (marks : Marks) (code : List CodeBlock) (m : Memory) (entry esp0 : ℕ) (stack : List ℕ) (left : Environment) where
    abbrev first : CodePosition
    first = first_position (with_stack esp0 stack m) entry esp0 left

    grow : Grows (tested_run test marks code m entry esp0 stack left)
    unfolding tested_run
    grow = runs.run_grows (tested_next test marks code) first

    one_event : OneEvent (tested_run test marks code m entry esp0 stack left)
    unfolding tested_run
    one_event = moves.one_event_by_steps (tested_next test marks code) (tested_event test marks code calls) first

    own_end : (n : ℕ) (e : End) → (tested_run test marks code m entry esp0 stack left n).end ≡ Some e → is_own_end e ≡ true
    unfolding tested_run
    own_end = moves.ends_by_moves (tested_next test marks code) is_own_end (tested_own test marks code calls) first

    paced : (cost : Item → ℕ) (rest : ℕ → ℕ) (w : ℕ) → BoundsCode marks cost rest w code → PacedBy (clock_of (tested_next test marks code) (step_cost cost code) first) w 0 (tested_run test marks code m entry esp0 stack left)
    unfolding tested_run
    paced cost rest w bounds =
        invariants.paced_by_costs (tested_next test marks code) (λ (i : OncePosition). i.position) (tested_kept test marks code calls cost rest w bounds) (step_cost cost code) w 0 (left_in calls marks cost rest w)
        (λ i. tested_paced test marks code calls cost rest w bounds i.position i.once) (record { position = first; once = tt }) (omega arith)

    in_steps : (rest : ℕ → ℕ) (w : ℕ) → BoundsCode marks (λ x. 1) rest w code → Paced w 0 (tested_run test marks code m entry esp0 stack left)
    unfolding tested_run
    in_steps rest w bounds =
        invariants.paced_by_moves (tested_next test marks code) (λ (i : OncePosition). i.position) (tested_kept test marks code calls (λ x. 1) rest w bounds) w 0 (left_in calls marks (λ x. 1) rest w)
        (λ i. tested_in_steps test marks code calls rest w bounds i.position i.once) (record { position = first; once = tt }) (omega arith)

  pub tested_laws : PrivateAccessLaws → TestedRunLaws
  tested_laws area = record {
    all_passes = position_passes;
    passes_all = passes_position;
    apart_passes = λ code p. told is_apart_access code p (IsApartAccess p.state.memory) (area.apart_passes p.state.memory);
    passes_apart = λ code p. tells is_apart_access code p (IsApartAccess p.state.memory) (area.passes_apart p.state.memory);
    clear_passes = λ code p. told is_clear_access code p (IsClearAccess p.state.memory) (area.clear_passes p.state.memory);
    passes_clear = λ code p. tells is_clear_access code p (IsClearAccess p.state.memory) (area.passes_clear p.state.memory);
    same_up_to = λ test marks code p n. same_up_to test marks code n p;
    turn_is_quiet = no_event_at;
    grow = grow;
    move_event = λ test marks code p. tested_event test marks code calls p;
    one_event = one_event;
    own_end = own_end;
    paced = λ test marks cost rest w code m entry esp0 stack left bounds. paced test marks code m entry esp0 stack left cost rest w bounds;
    paced_in_steps = λ test marks rest w code m entry esp0 stack left bounds. in_steps test marks code m entry esp0 stack left rest w bounds;
  }
