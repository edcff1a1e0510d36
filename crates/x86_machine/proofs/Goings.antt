-- A machine that goes on by one more step, or ends, or wants memory.
use Rattle.std.proofs.Common.{◌≡◌, ℕ, ◌+◌, ◌<◌, ◌≤◌, ◌^◌, min, List, [], ◌++◌, Some, None, Ok, refl, sym, ap, ◌∙◌, subst, append_assoc, append-nil, arith}
use Rattle.outside.specs.declared.answer.Answer.{Answer}
use Rattle.traces.specs.Trace.{Label, End, Move, Stand, Go, Halt, seen, run}
use Rattle.traces.specs.Trace as trace
use Rattle.traces.specs.Steps.{Reaches, rests}
use Rattle.traces.specs.RunLaws.{RunLaws}
use Rattle.traces.specs.TraceLaws.{TraceLaws}
use Rattle.mem_pages.specs.Ends.{end_of_run}
use Rattle.mem_pages.specs.declared.end.RunEnd.{RunEnd}
use Rattle.mem_pages.specs.declared.end.RunEnd.TheVariants as ends
use Rattle.x86_code.specs.Code.{Code}
use Rattle.x86_meaning.specs.Step.{State}
use Rattle.x86_meaning.specs.Run.{machine, run_from}
use Rattle.sw_host.specs.Told.{Told, last_count}
use Rattle.system_calls.specs.Given.{environment, HasGiven}
use Rattle.x86_machine.specs.declared.machine.Machine.{Machine}
use Rattle.x86_machine.specs.Standing.{code_in, state_in, steps_in, ended_in}
use Rattle.x86_machine.specs.Running.{steps_after, GoesOn, IsSpent, HasEnded, Runs}
use Rattle.x86_machine.specs.Turning.{Wanted, StandsAsBefore, MadeStep, MadeLast, StoodOutside, Waits}
use Rattle.x86_machine.proofs.Giving.{gives_none, gives_then}
use Rattle.x86_machine.proofs.Runs.{awake_before, awake_at, halts_within, halts_after, stands_within, rest_awake}

-- the laws that are needed of the crates below
pub record LawsBelow : Type 0 where
  pub traces : TraceLaws
  pub runs : RunLaws State

-- a count of steps fits
steps_add : (s k j : ℕ) → min (min (s + k) last_count + j) last_count ≡ min (s + (k + j)) last_count
steps_add s k j = omega arith

steps_zero : (s : ℕ) → s < 2 ^ 64 → s ≡ min (s + 0) last_count
steps_zero s h = omega arith

-- no step
pub goes_none : (m : Machine) (a : Told) → steps_in m < 2 ^ 64 → ended_in m ≡ None → GoesOn 0 0 m m a a
goes_none m a few open_ = record {
  answers = [];
  labels = [];
  reaches = λ rest. rests (state_in m (environment a rest));
  host = gives_none a;
  code = refl;
  counted = steps_zero (steps_in m) few;
  ended = open_;
}

-- one step more
pub goes_step : LawsBelow → (k : ℕ) (m n p : Machine) (a b c : Told) → GoesOn k 0 m n a b → MadeStep n p b c → GoesOn (k + 1) 0 m p a c
goes_step laws k m n p a b c g h = record {
  answers = g.answers ++ h.move.answers;
  labels = g.labels ++ h.move.labels;
  reaches = λ rest.
      let from : List Answer → State = λ answers. state_in m (environment a answers) in
      let mid : State = state_in n (environment b (h.move.answers ++ rest)) in
      let to : State = state_in p (environment c rest) in
      let step : machine (code_in m) mid ≡ Go h.move.labels to = subst (λ (code : Code). machine code mid ≡ Go h.move.labels to) g.code (h.move.goes rest) in
      let all : Reaches (machine (code_in m)) (from (g.answers ++ (h.move.answers ++ rest))) (k + 1) (g.labels ++ h.move.labels) to =
      laws.runs.reaches_then (machine (code_in m)) (from (g.answers ++ (h.move.answers ++ rest))) k g.labels mid 1 h.move.labels to (g.reaches (h.move.answers ++ rest)) (laws.runs.reaches_step (machine (code_in m)) mid h.move.labels to step) in
      subst (λ (answers : List Answer). Reaches (machine (code_in m)) (from answers) (k + 1) (g.labels ++ h.move.labels) to) (sym (append_assoc g.answers h.move.answers rest)) all;
  host = gives_then laws.traces g.answers h.move.answers 0 g.labels h.move.labels a b c g.host h.move.host;
  code = h.code ∙ g.code;
  counted = h.counted ∙ ap (steps_after 1) g.counted ∙ steps_add (steps_in m) k 1;
  ended = h.ended;
}

-- it stands as before
pub goes_still : (k more : ℕ) (m n p : Machine) (a b : Told) → GoesOn k more m n a b → StandsAsBefore n p → ended_in n ≡ None → GoesOn k more m p a b
goes_still k more m n p a b g s open_ = record {
  answers = g.answers;
  labels = g.labels;
  reaches = λ rest. subst (λ (t : State). Reaches (machine (code_in m)) (state_in m (environment a (g.answers ++ rest))) k g.labels t) (sym (s.state (environment b rest))) (g.reaches rest);
  host = g.host;
  code = s.code ∙ g.code;
  counted = s.steps ∙ g.counted;
  ended = s.ended ∙ open_;
}

-- and calls of the host gave no answer
pub goes_wanting : LawsBelow → (k : ℕ) (m n p : Machine) (a b c : Told) → GoesOn k 0 m n a b → StandsAsBefore n p → (w : Wanted b c) → GoesOn k w.calls m p a c
goes_wanting laws k m n p a b c g s w =
    let still : GoesOn k 0 m p a b = goes_still k 0 m n p a b g s g.ended in
    let both : HasGiven (still.answers ++ []) w.calls (still.labels ++ []) a c = gives_then laws.traces still.answers [] w.calls still.labels [] a b c still.host w.host in
    let short : HasGiven still.answers w.calls (still.labels ++ []) a c = subst (λ (answers : List Answer). HasGiven answers w.calls (still.labels ++ []) a c) (append-nil still.answers) both in
    record {
      answers = still.answers;
      labels = still.labels;
      reaches = λ rest.
          subst (λ (input : List ℕ). Reaches (machine (code_in m)) (state_in m (environment a (still.answers ++ rest))) k still.labels (state_in p (record { input = input; answers = rest }))) (sym w.host.left) (still.reaches rest);
      host = subst (λ (ls : List Label). HasGiven still.answers w.calls ls a c) (append-nil still.labels) short;
      code = still.code;
      counted = still.counted;
      ended = still.ended;
    }

-- ---- ends
-- a step has ended the run
pub ends_last : LawsBelow → (k budget : ℕ) (end : RunEnd) (m n p : Machine) (a b c : Told) → GoesOn k 0 m n a b → MadeLast end n p b c → k + 1 ≤ budget → HasEnded budget end m p a c
unfolding run_from
ends_last laws k budget end m n p a b c g h within =
    let from : List Answer → State = λ answers. state_in m (environment a (g.answers ++ answers)) in
    let mid : List Answer → State = λ rest. state_in n (environment b (h.move.answers ++ rest)) in
    let step : (rest : List Answer) → machine (code_in m) (mid rest) ≡ Halt h.move.labels h.move.last = λ rest. subst (λ (code : Code). machine code (mid rest) ≡ Halt h.move.labels h.move.last) g.code (h.move.halts rest) in
    let same : (rest : List Answer) → state_in m (environment a ((g.answers ++ h.move.answers) ++ rest)) ≡ from (h.move.answers ++ rest) = λ rest. ap (λ (answers : List Answer). state_in m (environment a answers)) (append_assoc g.answers h.move.answers rest) in
    let all : (n : ℕ) → k + 1 ≤ n → (rest : List Answer) → run (machine (code_in m)) (state_in m (environment a ((g.answers ++ h.move.answers) ++ rest))) n ≡ seen (g.labels ++ h.move.labels) (end_of_run end) = λ j few rest.
    ap (λ (s : State). run (machine (code_in m)) s j) (same rest) ∙ halts_within laws.runs (machine (code_in m)) (from (h.move.answers ++ rest)) k g.labels (mid rest) h.move.labels h.move.last j (g.reaches (h.move.answers ++ rest)) (step rest) few ∙ ap (seen (g.labels ++ h.move.labels)) (sym h.move.is_last) in
    let one : k + 1 ≤ k + 1 = omega arith in
    record {
      answers = g.answers ++ h.move.answers;
      labels = g.labels ++ h.move.labels;
      run = λ rest. all budget within rest;
      host = gives_then laws.traces g.answers h.move.answers 0 g.labels h.move.labels a b c g.host h.move.host;
      steps = k + 1;
      within = within;
      before_it = λ j few rest. ap (λ (s : State). (run (machine (code_in m)) s j).end) (same rest) ∙ halts_after laws.runs (machine (code_in m)) (from (h.move.answers ++ rest)) k g.labels (mid rest) h.move.labels h.move.last (g.reaches (h.move.answers ++ rest)) (step rest) j few;
      at_it = λ rest. ap (λ x. x.end) (all (k + 1) one rest);
      counted = h.counted ∙ ap (steps_after 1) g.counted ∙ steps_add (steps_in m) k 1;
      code = h.code ∙ g.code;
      ended = h.ended;
    }

-- no instruction stands there
pub ends_outside : LawsBelow → (k budget : ℕ) (m n p : Machine) (a b : Told) → GoesOn k 0 m n a b → StoodOutside n p → k ≤ budget → HasEnded budget ends.Outside m p a b
unfolding run_from
ends_outside laws k budget m n p a b g h within =
    let from : List Answer → State = λ rest. state_in m (environment a (g.answers ++ rest)) in
    let mid : List Answer → State = λ rest. state_in n (environment b rest) in
    let stand : (rest : List Answer) → machine (code_in m) (mid rest) ≡ Stand [] trace.Outside = λ rest. subst (λ (code : Code). machine code (mid rest) ≡ Stand [] trace.Outside) g.code (h.move (environment b rest)) in
    let all : (j : ℕ) → k ≤ j → (rest : List Answer) → run (machine (code_in m)) (from rest) j ≡ seen g.labels (Some trace.Outside) = λ j few rest. stands_within laws.runs (machine (code_in m)) (from rest) k g.labels (mid rest) trace.Outside j (g.reaches rest) (stand rest) few in
    let one : k ≤ k = omega arith in
    record {
      answers = g.answers;
      labels = g.labels;
      run = λ rest. all budget within rest;
      host = g.host;
      steps = k;
      within = within;
      before_it = λ j few rest. awake_before laws.runs (machine (code_in m)) (from rest) k g.labels (mid rest) (g.reaches rest) j (omega (arith, few));
      at_it = λ rest. ap (λ x. x.end) (all k one rest);
      counted = h.steps ∙ g.counted;
      code = h.code ∙ g.code;
      ended = h.ended;
    }

-- all steps are made
pub spends : LawsBelow → (budget : ℕ) (m n p : Machine) (a b : Told) → GoesOn budget 0 m n a b → Waits n p → IsSpent budget m p a b
unfolding run_from goes_still
spends laws budget m n p a b g w = record {
  goes_on = goes_still budget 0 m n p a b g w.as_before g.ended;
  run = λ rest.
      let mid : State = state_in n (environment b rest) in
      let awake : run (machine (code_in m)) mid 0 ≡ seen [] None = rest_awake laws.runs (machine (code_in m)) mid (subst (λ (code : Code). trace.at_rest (machine code mid) ≡ seen [] None) g.code (w.awake (environment b rest))) in
      awake_at laws.runs (machine (code_in m)) (state_in m (environment a (g.answers ++ rest))) budget g.labels mid (g.reaches rest) awake;
}

-- what a run does that ends so
pub runs_ended : (budget : ℕ) (end : RunEnd) (last : End) (m p : Machine) (a c : Told) → end_of_run end ≡ Some last → HasEnded budget end m p a c → Runs budget (Ok end) m p a c
runs_ended budget (ends.Exited status) last m p a c is h = h
runs_ended budget ends.MemoryFault last m p a c is h = h
runs_ended budget ends.DivideFault last m p a c is h = h
runs_ended budget ends.Outside last m p a c is h = h
runs_ended budget (ends.OtherCall number) last m p a c is h = h
runs_ended budget ends.Unspecified last m p a c is h = h
runs_ended budget ends.Spent last m p a c is h = cc
