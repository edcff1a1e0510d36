-- A machine that goes on by one more step, or ends, or wants memory.
use Rattle.std.proofs.Common.{◌≡◌, ℕ, ◌+◌, ◌≤◌, List, [], ◌++◌, Option, Some, None, Ok, Err, sym, ap, ◌∙◌, subst, append_assoc, append-nil, arith}
use Rattle.std.specs.declared.alloc.AllocError.{AllocError}
use Rattle.outside.specs.declared.answer.Answer.{Answer}
use Rattle.outside.specs.Environment.{Environment}
use Rattle.traces.specs.Trace.{Label, Behaviour, seen, run}
use Rattle.traces.specs.Steps.{Reaches, rests}
use Rattle.traces.specs.RunLaws.{RunLaws}
use Rattle.traces.specs.TraceLaws.{TraceLaws}
use Rattle.memory.specs.Memory.{Memory}
use Rattle.mem_pages.specs.declared.end.RunEnd.TheVariants as ends
use Rattle.sw_host.specs.Told.{Told, Tells}
use Rattle.sw_host.specs.Chains.{tells_none, tells_map, tells_then}
use Rattle.system_calls.specs.Given.{environment, HasGiven}
use Rattle.flag_ir.specs.Entering.{CodeUnit}
use Rattle.flag_ir.specs.UnitRun.{UnitState, next}
use Rattle.unit_machine.specs.declared.end.UnitEnd.{UnitEnd}
use Rattle.unit_machine.specs.declared.end.UnitEnd.TheVariants as unitend
use Rattle.unit_machine.specs.declared.step.Position.{Position}
use Rattle.unit_machine.specs.Standing.{end_of_unit}
use Rattle.unit_machine.specs.Performing.{Wanted}
use Rattle.unit_machine.specs.Moving.{StandsInBlock, state_in, next_from, UnitMoveGoes, UnitMoveHalts, MakesMove}
use Rattle.unit_machine.specs.Running.{HasShown, HasWanted, RunsTo, RanOn}
use Rattle.unit_machine.proofs.Giving.{gives_none, gives_then}
use Rattle.unit_machine.proofs.Runs.{awake_at, halts_within}
use Rattle.unit_machine.proofs.Moving.{stays_awake}

module _ (unit : CodeUnit) (s : Position) (m : Memory) where
  abbrev from : Told → List Answer → UnitState
  from a answers = state_in unit s m (environment a answers)

  abbrev pub run_from : Environment → Behaviour
  run_from left = run (next unit) (state_in unit s m left)

  goes_none : (a : Told) → RanOn unit s m 0 s m a a
  goes_none a = record { answers = []; labels = []; reaches = λ rest. rests (from a rest); host = gives_none a }

  module _ (traces : TraceLaws) (runs : RunLaws UnitState) (k : ℕ) (t : Position) (n : Memory) (a b : Told) (g : RanOn unit s m k t n a b) where
    goes_step : (p : Position) (l : Memory) (c : Told) → UnitMoveGoes (next_from unit t n) (state_in unit p l) b c → RanOn unit s m (k + 1) p l a c
    goes_step p l c h = record {
      answers = g.answers ++ h.answers;
      labels = g.labels ++ h.labels;
      reaches = λ rest.
          let mid : UnitState = state_in unit t n (environment b (h.answers ++ rest)) in
          let to : UnitState = state_in unit p l (environment c rest) in
          let all : Reaches (next unit) (from a (g.answers ++ (h.answers ++ rest))) (k + 1) (g.labels ++ h.labels) to =
          runs.reaches_then (next unit) (from a (g.answers ++ (h.answers ++ rest))) k g.labels mid 1 h.labels to (g.reaches (h.answers ++ rest)) (runs.reaches_step (next unit) mid h.labels to (h.goes rest)) in
          subst (λ (answers : List Answer). Reaches (next unit) (from a answers) (k + 1) (g.labels ++ h.labels) to) (sym (append_assoc g.answers h.answers rest)) all;
      host = gives_then traces g.answers h.answers 0 g.labels h.labels a b c g.host h.host;
    }

    ends_last : (budget : ℕ) (end : UnitEnd) (c : Told) → UnitMoveHalts (next_from unit t n) end b c → k + 1 ≤ budget → HasShown run_from budget (end_of_unit end) a c
    ends_last budget end c h few = record {
      answers = g.answers ++ h.answers;
      labels = g.labels ++ h.labels;
      shown = λ rest. ap (λ (answers : List Answer). run (next unit) (from a answers) budget) (append_assoc g.answers h.answers rest)
          ∙ halts_within runs (next unit) (from a (g.answers ++ (h.answers ++ rest))) k g.labels (state_in unit t n (environment b (h.answers ++ rest))) h.labels h.last budget (g.reaches (h.answers ++ rest)) (h.halts rest) few
          ∙ ap (seen (g.labels ++ h.labels)) (sym h.is_last);
      host = gives_then traces g.answers h.answers 0 g.labels h.labels a b c g.host h.host;
    }

    module _ (placed : StandsInBlock unit t) where
      still_open : (rest : List Answer) → run (next unit) (from a (g.answers ++ rest)) k ≡ seen g.labels None
      still_open rest = awake_at runs (next unit) (from a (g.answers ++ rest)) k g.labels (state_in unit t n (environment b rest)) (g.reaches rest) (stays_awake unit t n placed (environment b rest))

      spends : HasShown run_from k None a b
      spends = record { answers = g.answers; labels = g.labels; shown = still_open; host = g.host }

      wants : (budget : ℕ) (c : Told) → k ≤ budget → Wanted b c → HasWanted run_from budget a c
      wants budget c few w =
          let both : HasGiven (g.answers ++ []) w.calls (g.labels ++ []) a c = gives_then traces g.answers [] w.calls g.labels [] a b c g.host w.host in
          let short : HasGiven g.answers w.calls (g.labels ++ []) a c = subst (λ (answers : List Answer). HasGiven answers w.calls (g.labels ++ []) a c) (append-nil g.answers) both in
          record {
            steps = k;
            within = few;
            more = w.calls;
            answers = g.answers;
            labels = g.labels;
            shown = still_open;
            host = subst (λ (ls : List Label). HasGiven g.answers w.calls ls a c) (append-nil g.labels) short;
          }

  pub starts : (o : Option Told) → Tells o o (RanOn unit s m 0 s m)
  starts o = tells_none o (RanOn unit s m 0 s m) goes_none

  module _ (traces : TraceLaws) (runs : RunLaws UnitState) (k : ℕ) (t : Position) (n : Memory) (o p : Option Told) (told : Tells o p (RanOn unit s m k t n)) where
    pub stepped : (q : Option Told) (u : Position) (l : Memory) → Tells p q (MakesMove (next_from unit t n) unit (Ok None) u l) → Tells o q (RanOn unit s m (k + 1) u l)
    stepped q u l more = tells_then o p q (RanOn unit s m k t n) (MakesMove (next_from unit t n) unit (Ok None) u l) (RanOn unit s m (k + 1) u l) told more (λ a b c g h. goes_step traces runs k t n a b g u l c h)

    pub stepped_last : (q : Option Told) (u : Position) (l : Memory) (budget : ℕ) (end : UnitEnd) → k + 1 ≤ budget → Tells p q (MakesMove (next_from unit t n) unit (Ok (Some end)) u l) → Tells o q (RunsTo run_from budget (Ok end))
    stepped_last q u l budget end few more = tells_then o p q (RanOn unit s m k t n) (MakesMove (next_from unit t n) unit (Ok (Some end)) u l) (RunsTo run_from budget (Ok end)) told more (λ a b c g h. ends_last traces runs k t n a b g budget end c h few)

    pub stepped_wanting : StandsInBlock unit t → (q : Option Told) (u : Position) (l : Memory) (budget : ℕ) (e : AllocError) → k ≤ budget → Tells p q (MakesMove (next_from unit t n) unit (Err e) u l) → Tells o q (RunsTo run_from budget (Err e))
    stepped_wanting placed q u l budget e few more = tells_then o p q (RanOn unit s m k t n) (MakesMove (next_from unit t n) unit (Err e) u l) (RunsTo run_from budget (Err e)) told more (λ a b c g h. wants traces runs k t n a b g placed budget c few h)

    pub spent : StandsInBlock unit t → (budget : ℕ) → k ≡ budget → Tells o p (RunsTo run_from budget (Ok (unitend.Run ends.Spent)))
    spent placed budget is = subst (λ (j : ℕ). Tells o p (RunsTo run_from j (Ok (unitend.Run ends.Spent)))) is
        (tells_map o p (RanOn unit s m k t n) (RunsTo run_from k (Ok (unitend.Run ends.Spent))) told (λ a b g. spends traces runs k t n a b g placed))

  -- memory is wanting before the first step
  pub wants_first : TraceLaws → RunLaws UnitState → StandsInBlock unit s → (o : Option Told) (budget : ℕ) (e : AllocError) → Tells o o (RunsTo run_from budget (Err e))
  wants_first traces runs placed o budget e =
      stepped_wanting traces runs 0 s m o o (starts o) placed o s m budget e (omega arith) (tells_none o (MakesMove (next_from unit s m) unit (Err e) s m) (λ a. record { calls = 0; host = gives_none a }))
