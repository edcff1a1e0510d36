-- The first step of code from a position, and what is seen behind a jump.
use Rattle.std.proofs.Common.{◌≡◌, ◌≢◌, ◌⊎◌, inl, inr, ℕ, suc, ◌==◌, Bool, true, false, cond, List, [], ◌∷◌, None, Result, Ok, Err, refl, sym, ap, ◌∙◌, subst₂}
use Rattle.traces.specs.Trace.{Label, Turn, Unspecified, Seen, seen, before, Move, Stand, Go, Halt, run}
use Rattle.traces.specs.Machines.{marked}
use Rattle.traces.specs.Meeting.{OnBoth, EndBoth, SeenRefines}
use Rattle.traces.specs.MeetingLaws.{MeetingLaws}
use Rattle.traces.specs.RunLaws.{RunLaws}
use Rattle.memory.specs.Memory.{Load, Store}
use Rattle.memory.specs.SystemCall.{Called, Ends, Gives, system_call}
use Rattle.x86_meaning.specs.declared.stop.Stop.{Stop}
use Rattle.x86_meaning.specs.Outcomes.{Way, Falls, JumpsBy, JumpsTo, Repeats, Calls}
use Rattle.x86_meaning.specs.Effect.{Effect, accesses, effect}
use Rattle.x86_meaning.specs.Step.{all_allowed, request_of}
use Rattle.named_code.specs.Items.{Item, CodeBlock}
use Rattle.named_code.specs.Running.{CodeState, Inside, CodePosition, Marks, standing_at, after_call, onward, performed, by_stores, by_loads, act, marked_unless_zero, code_next}
use Rattle.named_code.specs.TestedRun.{AccessTest, all_pass, tested_next}

-- ---- a move that is a step
abbrev IsStep : Move CodePosition → Type 0
IsStep (Stand ls e) = ⊥
IsStep (Go ls p) = Unit {0}
IsStep (Halt ls e) = Unit {0}

called_steps : (c : Called) (rest : List Item) (s : CodeState) → IsStep (after_call c rest s)
called_steps (Ends e) rest s = tt
called_steps (Gives labels result stores left) rest s = tt

onward_steps : (w : Way) (x : Item) (rest : List Item) (s : CodeState) → IsStep (onward w x rest s)
onward_steps Falls x rest s = tt
onward_steps (JumpsBy by) x rest s = tt
onward_steps (JumpsTo at) x rest s = tt
onward_steps Repeats x rest s = tt
onward_steps Calls x rest s = called_steps (system_call (request_of s.cpu) s.memory s.left) rest s

stores_steps : (b : Bool) (e : Effect) (x : Item) (rest : List Item) (s : CodeState) → IsStep (by_stores b e x rest s)
stores_steps false e x rest s = tt
stores_steps true e x rest s = onward_steps e.way x rest (performed e s)

loads_steps : (a b : Bool) (r : Result Effect Stop) (x : Item) (rest : List Item) (s : CodeState) → IsStep (by_loads a b r x rest s)
loads_steps false b r x rest s = tt
loads_steps true b (Err stop) x rest s = tt
loads_steps true b (Ok e) x rest s = stores_steps b e x rest s

act_steps : (x : Item) (rest : List Item) (s : CodeState) → IsStep (act x rest s)
unfolding act
act_steps x rest s =
    let made = accesses x.naming x.instr s.cpu.regs in
    loads_steps (all_allowed Load made s.memory) (all_allowed Store made s.memory) (effect x.naming x.instr 0 s.cpu s.memory) x rest s

module _ (runs : RunLaws CodePosition) where
  step_rests : (next : CodePosition → Move CodePosition) (p : CodePosition) (m : Move CodePosition) → next p ≡ m → IsStep m → run next p 0 ≡ seen [] None
  step_rests next p (Stand ls e) is h = absurd h
  step_rests next p (Go ls q) is h = runs.rest_go next p ls q is
  step_rests next p (Halt ls e) is h = runs.rest_halt next p ls e is

  -- before an item the code has not ended
  pub items_awake : (test : AccessTest) (marks : Marks) (code : List CodeBlock) (items : List Item) (s : CodeState) → items ≢ [] → run (tested_next test marks code) (standing_at (Inside items) s) 0 ≡ seen [] None
  unfolding tested_next code_next
  items_awake test marks code [] s some = absurd (some refl)
  items_awake test marks code (x ∷ rest) s some = by (all_pass test code (standing_at (Inside (x ∷ rest)) s)) refl
    where
      by : (b : Bool) → all_pass test code (standing_at (Inside (x ∷ rest)) s) ≡ b → run (tested_next test marks code) (standing_at (Inside (x ∷ rest)) s) 0 ≡ seen [] None
      by true e = step_rests (tested_next test marks code) _ (act x rest s) (ap (λ (b : Bool). cond b (act x rest s) (Halt [] Unspecified)) e) (act_steps x rest s)
      by false e = step_rests (tested_next test marks code) _ (Halt [] Unspecified) (ap (λ (b : Bool). cond b (act x rest s) (Halt [] Unspecified)) e) tt

module _ (runs : RunLaws CodePosition) (meetings : MeetingLaws) (source target : CodePosition → Move CodePosition) (Rel : CodePosition → CodePosition → Type 0) where
  -- both end by a step or several
  pub record EndLater (s t : CodePosition) : Type 0 where
    pub steps : ℕ
    pub ended : (run source s (suc steps)).end ≢ None
    pub steps' : ℕ
    pub fits : SeenRefines (run source s (suc steps)) (run target t (suc steps'))

  -- both go on by steps, or end
  pub record Onward (s t : CodePosition) : Type 0 where
    pub awake : run source s 0 ≡ seen [] None
    pub awake' : run target t 0 ≡ seen [] None
    pub way : OnBoth source target Rel s t ⊎ EndLater s t

  abbrev pub Both : CodePosition → CodePosition → Type 0
  Both s t = OnBoth source target Rel s t ⊎ EndBoth source target SeenRefines s t

  pub met : (s t : CodePosition) → Onward s t → Both s t
  met s t o = by o.way
    where
      by : OnBoth source target Rel s t ⊎ EndLater s t → Both s t
      by (inl g) = inl g
      by (inr e) = inr (record { steps = suc e.steps; ended = e.ended; steps' = suc e.steps'; fits = e.fits })

  before_refines : (ls : List Label) (c r : Seen) → SeenRefines c r → SeenRefines (before ls c) (before ls r)
  before_refines ls c r h = record { defined = λ d. ap (before ls) (h.defined d); unspecified = λ u. meetings.ahead_on ls c.trace r.trace (h.unspecified u) }

  -- ---- from positions whose moves are those of others
  same_met : (s t s' t' : CodePosition) → source s ≡ source s' → target t ≡ target t' → OnBoth source target Rel s' t' ⊎ EndLater s' t' → Both s t
  same_met s t s' t' e f (inl g) = inl (record {
    steps = g.steps;
    trace = g.trace;
    state = g.state;
    goes = runs.same_goes source s s' e g.steps g.trace g.state g.goes;
    steps' = g.steps';
    state' = g.state';
    goes' = runs.same_goes target t t' f g.steps' g.trace g.state' g.goes';
    related = g.related;
  })
  same_met s t s' t' e f (inr g) =
      let first = runs.same_run source s s' e (suc g.steps) in
      inr (record {
        steps = suc g.steps;
        ended = λ n. g.ended (ap (λ (c : Seen). c.end) (sym first) ∙ n);
        steps' = suc g.steps';
        fits = subst₂ SeenRefines (sym first) (sym (runs.same_run target t t' f (suc g.steps'))) g.fits;
      })

  -- or those where a turn begins
  marked_met : (a : ℕ) (s t s' t' : CodePosition) → source s ≡ marked a (source s') → target t ≡ marked a (target t') → run source s' 0 ≡ seen [] None → run target t' 0 ≡ seen [] None → OnBoth source target Rel s' t' ⊎ EndLater s' t' → Both s t
  marked_met a s t s' t' e f awake awake' (inl g) = inl (record {
    steps = g.steps;
    trace = Turn a ∷ g.trace;
    state = g.state;
    goes = runs.marked_goes source s s' a e g.steps g.trace g.state g.goes;
    steps' = g.steps';
    state' = g.state';
    goes' = runs.marked_goes target t t' a f g.steps' g.trace g.state' g.goes';
    related = g.related;
  })
  marked_met a s t s' t' e f awake awake' (inr g) =
      let first = runs.marked_run source s s' a e awake g.steps in
      let second = runs.marked_run target t t' a f awake' g.steps' in
      inr (record {
        steps = suc g.steps;
        ended = λ n. g.ended (ap (λ (c : Seen). c.end) (sym first) ∙ n);
        steps' = suc g.steps';
        fits = subst₂ SeenRefines (sym first) (sym second) (before_refines (Turn a ∷ []) _ _ g.fits);
      })

  pub jump_met : (a : ℕ) (s t s' t' : CodePosition) → source s ≡ marked_unless_zero a (source s') → target t ≡ marked_unless_zero a (target t') → Onward s' t' → Both s t
  jump_met a s t s' t' e f o = by (a == 0) e f
    where
      by : (z : Bool) → source s ≡ cond z (source s') (marked a (source s')) → target t ≡ cond z (target t') (marked a (target t')) → Both s t
      by true e f = same_met s t s' t' e f o.way
      by false e f = marked_met a s t s' t' e f o.awake o.awake' o.way
