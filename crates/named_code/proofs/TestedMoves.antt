-- The moves of code whose accesses are tested: those of the code, or the end at an access that doesn't pass.
use Rattle.std.proofs.Common.{◌≡◌, ℕ, suc, ◌+◌, ◌*◌, ◌≤◌, ◌==◌, Bool, true, false, cond, List, [], ◌∷◌, Option, Some, None, refl, sym, ap, subst, arith}
use Rattle.std.specs.List.{list_all}
use Rattle.traces.specs.Trace.{Label, Turn, Unspecified, Move, Stand, Go, Halt, events, turns}
use Rattle.traces.specs.Machines.{marked}
use Rattle.traces.specs.Moves.{OneEventStep, OneTurn, PacedMove, EndsIn, To, IsKept}
use Rattle.memory.specs.SystemCall.{Called, Ends, Gives, system_call}
use Rattle.memory.specs.CallLaws.{CallLaws, is_own_end, IsPlainCall}
use Rattle.x86_meaning.specs.Outcomes.{Way, Falls, JumpsBy, JumpsTo, Repeats, Calls}
use Rattle.x86_meaning.specs.Step.{request_of}
use Rattle.named_code.specs.Items.{Item, CodeBlock}
use Rattle.named_code.specs.Running.{CodeState, CodePoint, AtNumber, AtOld, Inside, CodePosition, after_call, onward, performed, goes_on, block_of_number, block_at, Marks, begun, move_at, code_next}
use Rattle.named_code.specs.TestedRun.{AccessTest, first_accesses, items_found, items_at, turn_shown, turn_found, turn_at, all_pass, tested_next}
use Rattle.named_code.specs.Weight.{step_cost, BoundsCode}
use Rattle.named_code.specs.CodeRunLaws.{IsOncePoint, OncePosition}
use Rattle.named_code.proofs.CodeMoves.{act_holds, next_small}
use Rattle.named_code.proofs.Weighing.{left_in, next_paced, next_in_steps, next_once, to_once}

-- ---- a step that begins as many turns as these labels
abbrev pub IsStepOf : List Label → Move CodePosition → Type 0
IsStepOf t (Stand ls e) = ⊥
IsStepOf t (Go ls p) = turns ls ≡ turns t
IsStepOf t (Halt ls e) = turns ls ≡ turns t

called_step : (c : Called) (rest : List Item) (s : CodeState) → IsPlainCall c → IsStepOf [] (after_call c rest s)
called_step (Ends e) rest s h = refl
called_step (Gives labels result stores left) rest s h = h

marked_step : (a : ℕ) (m : Move CodePosition) → IsStepOf [] m → IsStepOf (Turn a ∷ []) (marked a m)
marked_step a (Stand ls e) h = h
marked_step a (Go ls p) h = ap suc h
marked_step a (Halt ls e) h = ap suc h

-- ---- the turn of a position alone
one_turn_shown : (a : ℕ) → OneTurn (turn_shown a)
one_turn_shown a = elim (a == 0) as (λ z. OneTurn (cond z [] (Turn a ∷ []))) [ true ↦ tt | false ↦ refl ]

no_event_shown : (a : ℕ) → events (turn_shown a) ≡ []
no_event_shown a = elim (a == 0) as (λ z. events (cond z [] (Turn a ∷ [])) ≡ []) [ true ↦ refl | false ↦ refl ]

one_turn_found : (marks : Marks) (o : Option CodeBlock) → OneTurn (turn_found marks o)
one_turn_found marks None = tt
one_turn_found marks (Some b) = one_turn_shown (marks b.number)

no_event_found : (marks : Marks) (o : Option CodeBlock) → events (turn_found marks o) ≡ []
no_event_found marks None = refl
no_event_found marks (Some b) = no_event_shown (marks b.number)

module _ (marks : Marks) (code : List CodeBlock) where
  one_turn_at : (p : CodePoint) → OneTurn (turn_at marks code p)
  one_turn_at (AtNumber n) = one_turn_found marks (block_of_number n code)
  one_turn_at (AtOld a) = one_turn_found marks (block_at a code)
  one_turn_at (Inside items) = tt

  pub no_event_at : (p : CodePoint) → events (turn_at marks code p) ≡ []
  no_event_at (AtNumber n) = no_event_found marks (block_of_number n code)
  no_event_at (AtOld a) = no_event_found marks (block_at a code)
  no_event_at (Inside items) = refl

module _ (test : AccessTest) (marks : Marks) (code : List CodeBlock) where
  -- ---- what is seen of the machine's move by the test
  pub is_passing_move : (p : CodePosition) → all_pass test code p ≡ true → tested_next test marks code p ≡ code_next marks code p
  unfolding tested_next
  is_passing_move p e = ap (λ b. cond b (code_next marks code p) (Halt (turn_at marks code p.point) Unspecified)) e

  pub is_failing_end : (p : CodePosition) → all_pass test code p ≡ false → tested_next test marks code p ≡ Halt (turn_at marks code p.point) Unspecified
  unfolding tested_next
  is_failing_end p e = ap (λ b. cond b (code_next marks code p) (Halt (turn_at marks code p.point) Unspecified)) e

  -- ---- a position with an access has an item, whose step begins the turn of the position
  module _ (calls : CallLaws) where
    onward_step : (w : Way) (x : Item) (rest : List Item) (s : CodeState) → IsStepOf [] (onward w x rest s)
    onward_step Falls x rest s = refl
    onward_step (JumpsBy by) x rest s = refl
    onward_step (JumpsTo at) x rest s = refl
    onward_step Repeats x rest s = refl
    onward_step Calls x rest s = called_step (system_call (request_of s.cpu) s.memory s.left) rest s (calls.are_plain (request_of s.cpu) s.memory s.left)

    items_step : (xs : List Item) (s : CodeState) (x : Item) (rest : List Item) → xs ≡ x ∷ rest → IsStepOf [] (goes_on xs s)
    items_step xs s x rest e = subst (λ ys. IsStepOf [] (goes_on ys s)) (sym e) (act_holds (IsStepOf []) x rest s (λ stop. refl) (λ f h. onward_step f.way x rest (performed f s)))

    found_step : (o : Option CodeBlock) (s : CodeState) (x : Item) (rest : List Item) → items_found o ≡ x ∷ rest → IsStepOf (turn_found marks o) (begun marks o s)
    found_step None s x rest e = absurd cc
    found_step (Some b) s x rest e =
        let step = items_step b.items s x rest e in
        let a = marks b.number in
        elim (a == 0) as (λ z. IsStepOf (cond z [] (Turn a ∷ [])) (cond z (goes_on b.items s) (marked a (goes_on b.items s)))) [ true ↦ step | false ↦ marked_step a (goes_on b.items s) step ]

    point_step : (p : CodePoint) (s : CodeState) (x : Item) (rest : List Item) → items_at code p ≡ x ∷ rest → IsStepOf (turn_at marks code p) (move_at marks code p s)
    point_step (AtNumber n) s x rest e = found_step (block_of_number n code) s x rest e
    point_step (AtOld a) s x rest e = found_step (block_at a code) s x rest e
    point_step (Inside items) s x rest e = items_step items s x rest e

    pub reached_step : (p : CodePosition) → all_pass test code p ≡ false → IsStepOf (turn_at marks code p.point) (code_next marks code p)
    unfolding all_pass code_next
    reached_step p e = cases (items_at code p.point) refl e
      where
        cases : (xs : List Item) → items_at code p.point ≡ xs → list_all (test p.state.memory) (first_accesses xs p.state) ≡ false → IsStepOf (turn_at marks code p.point) (move_at marks code p.point p.state)
        cases [] is e = absurd cc
        cases (x ∷ rest) is e = point_step p.point p.state x rest is

    -- ---- what holds of the code's move holds of the machine's
    tested_holds : (P : Move CodePosition → Type 0) (p : CodePosition) → P (code_next marks code p) → (IsStepOf (turn_at marks code p.point) (code_next marks code p) → P (Halt (turn_at marks code p.point) Unspecified)) → P (tested_next test marks code p)
    tested_holds P p h ends = cases (all_pass test code p) refl
      where
        cases : (b : Bool) → all_pass test code p ≡ b → P (tested_next test marks code p)
        cases true e = subst P (sym (is_passing_move p e)) h
        cases false e = subst P (sym (is_failing_end p e)) (ends (reached_step p e))

    pub tested_event : (p : CodePosition) → OneEventStep (tested_next test marks code p)
    tested_event p = tested_holds OneEventStep p (next_small calls marks code p).event (λ step. rw (no_event_at marks code p.point) (omega arith))

    pub tested_own : (p : CodePosition) → EndsIn (λ e. is_own_end e ≡ true) (tested_next test marks code p)
    tested_own p = tested_holds (EndsIn (λ e. is_own_end e ≡ true)) p (next_small calls marks code p).own (λ step. refl)

    halts_paced : (w : ℕ) (left : CodePosition → ℕ) (l c : ℕ) (t : List Label) (m : Move CodePosition) → OneTurn t → IsStepOf t m → PacedMove w left l c m → PacedMove w left l c (Halt t Unspecified)
    halts_paced w left l c t (Stand ls e) one step h = absurd step
    halts_paced w left l c t (Go ls p) one step h = record { one_turn = one; left = subst (λ k. 0 + c ≤ l + w * k) step (omega (arith, h.left)) }
    halts_paced w left l c t (Halt ls e) one step h = record { one_turn = one; left = subst (λ k. 0 + c ≤ l + w * k) step (omega (arith, h.left)) }

    pub tested_paced : (cost : Item → ℕ) (rest : ℕ → ℕ) (w : ℕ) → BoundsCode marks cost rest w code → (p : CodePosition) → IsOncePoint p.point
        → PacedMove w (left_in calls marks cost rest w) (left_in calls marks cost rest w p) (step_cost cost code p) (tested_next test marks code p)
    tested_paced cost rest w bounds p once =
        let paced = next_paced calls marks cost rest w code bounds p once in
        tested_holds (PacedMove w (left_in calls marks cost rest w) (left_in calls marks cost rest w p) (step_cost cost code p)) p paced
        (λ step. halts_paced w (left_in calls marks cost rest w) _ _ (turn_at marks code p.point) (code_next marks code p) (one_turn_at marks code p.point) step paced)

    pub tested_in_steps : (rest : ℕ → ℕ) (w : ℕ) → BoundsCode marks (λ x. 1) rest w code → (p : CodePosition) → IsOncePoint p.point
        → PacedMove w (left_in calls marks (λ x. 1) rest w) (left_in calls marks (λ x. 1) rest w p) 1 (tested_next test marks code p)
    tested_in_steps rest w bounds p once =
        let paced = next_in_steps calls marks rest w code bounds p once in
        tested_holds (PacedMove w (left_in calls marks (λ x. 1) rest w) (left_in calls marks (λ x. 1) rest w p) 1) p paced
        (λ step. halts_paced w (left_in calls marks (λ x. 1) rest w) _ _ (turn_at marks code p.point) (code_next marks code p) (one_turn_at marks code p.point) step paced)

    pub tested_kept : (cost : Item → ℕ) (rest : ℕ → ℕ) (w : ℕ) → BoundsCode marks cost rest w code → IsKept (λ (i : OncePosition). i.position) (tested_next test marks code)
    tested_kept cost rest w bounds i =
        to_once calls marks cost rest w code bounds (tested_next test marks code i.position)
        (tested_holds (To (λ p. IsOncePoint p.point)) i.position (next_once calls marks cost rest w code bounds i.position i.once) (λ step. tt))
