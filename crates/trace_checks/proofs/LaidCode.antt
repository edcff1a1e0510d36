-- Laid code beside the code, instruction by instruction.
use Rattle.std.proofs.Common.{◌≡◌, ℕ, zero, suc, ◌+◌, ◌*◌, ◌≤◌, ◌<◌, List, [], ◌∷◌, length, Some, None, refl, sym, ◌∙◌, ap, arith}
use Rattle.traces.specs.Trace.{Label, Turn, Outside, Stopped, Go, Grows, seen, before, run, events}
use Rattle.traces.specs.Steps.{Goes}
use Rattle.traces.specs.Agree.{Covers, Costs, guard_turn}
use Rattle.traces.specs.TurnBounds.{CostsByTurns, FollowsByTurns}
use Rattle.traces.specs.Plain.{AgreePlainly, NeverStops}
use Rattle.traces.specs.RunLaws.{RunLaws}
use Rattle.traces.specs.SimulationLaws.{SimulationLaws}
use Rattle.traces.specs.Simulation.{Simulates, Fits, SameEvents, Paired}
use Rattle.trace_checks.specs.Chain.{written_byte, small_cut, small_cut_run, Begin, small_unit_run, small_swept, small_swept_run, CodePlace, First, Second, Jump, Call, small_code, small_code_run, laid_steps, small_code_clock, LaidPlace, At, Landing, Past, small_laid, small_laid_run, CodeWeighs, LaidCostsCode}
use Rattle.trace_checks.proofs.UnitChain.{ChainLaws, ends_in_guard, cut_ends, unit_refines_cut, swept_refines_unit, code_refines_swept}

ends_outside : (ls : List Label) → events ls ≡ [] → Fits (seen ls (Some Outside)) (seen [] (Some Outside))
ends_outside ls h = record { same_events = sym h; same_end = λ d. refl }

module _ (runs : RunLaws LaidPlace) (byte : ℕ) where
  abbrev Related : CodePlace → LaidPlace → Type 0
  Related = Paired (λ (s : CodePlace). s) (λ (s : CodePlace). At s)

  -- one step of the laid code
  step : (s : LaidPlace) (ls : List Label) (t : LaidPlace) → small_laid byte s ≡ Go ls t → Goes (small_laid byte) s 1 ls t
  step s ls t h = runs.goes_step (small_laid byte) s ls t h

  jumps : (n : ℕ) → Goes (small_laid byte) (At (Jump (suc n))) 2 [] (At (Call n))
  jumps n = runs.goes_then (small_laid byte) (At (Jump (suc n))) 1 [] (Landing (suc n)) 1 [] (At (Call n)) (step (At (Jump (suc n))) [] (Landing (suc n)) refl) (step (Landing (suc n)) [] (At (Call n)) refl)

  ends : Goes (small_laid byte) (At (Jump 0)) 2 [] Past
  ends = runs.goes_then (small_laid byte) (At (Jump 0)) 1 [] (Landing 0) 1 [] Past (step (At (Jump 0)) [] (Landing 0) refl) (step (Landing 0) [] Past refl)

  ended : run (small_laid byte) (At (Jump 0)) 3 ≡ seen [] (Some Outside)
  ended = ends.by 1 ∙ ap (before []) (runs.run_halt (small_laid byte) Past [] Outside refl 0)

  simulates : (s : CodePlace) → Simulates (small_laid byte) Fits SameEvents Related (laid_steps s) 1 (small_code byte s) (At s)
  simulates (First n) = record { steps = 1; few = omega arith; trace = []; state = At (Second n); fits = refl; goes = step (At (First n)) [] (At (Second n)) refl; related = (Second n, refl, refl) }
  simulates (Second n) = record { steps = 1; few = omega arith; trace = []; state = At (Jump n); fits = refl; goes = step (At (Second n)) [] (At (Jump n)) refl; related = (Jump n, refl, refl) }
  simulates (Jump zero) = (record { steps = 3; few = omega arith; fits = rw ended (ends_outside (Turn 5 ∷ []) refl) }, ends.awake)
  simulates (Jump (suc n)) = record { steps = 2; few = omega arith; trace = []; state = At (Call n); fits = refl; goes = jumps n; related = (Call n, refl, refl) }
  simulates (Call n) = record { steps = 1; few = omega arith; trace = written_byte byte; state = At (Jump n); fits = refl; goes = step (At (Call n)) (written_byte byte) (At (Jump n)) refl; related = (Jump n, refl, refl) }

  pub laid_costs_code : ((byte : ℕ) → SimulationLaws CodePlace LaidPlace CodePlace) → (n : ℕ) → Covers (Costs (small_code_clock byte n) 1) (small_code_run byte n) (small_laid_run byte n)
  laid_costs_code pairs n = (pairs byte).simulation_by_costs (small_code byte) (small_laid byte) (λ s. s) (λ s. At s) laid_steps 1 simulates (First n)

-- the chain, from the weight of the code and what the laid code takes for it
module _ (laws : ChainLaws) (weighs : CodeWeighs 3 2) (costs : LaidCostsCode 1) (byte : ℕ) where
  pub code_costs_swept : (n : ℕ) → CostsByTurns (small_code_clock byte n) 3 2 (small_swept_run byte n) (small_code_run byte n)
  code_costs_swept n = laws.turns.code_costs (small_code_clock byte n) 3 2 (small_swept_run byte n) (small_code_run byte n) (weighs byte n) (code_refines_swept laws byte n)

  swept_grows : (n : ℕ) → Grows (small_swept_run byte n)
  swept_grows n = laws.unit_runs.run_grows (small_swept byte) (Begin n)

  pub laid_follows_unit : (n : ℕ) → FollowsByTurns 3 3 (small_unit_run byte n) (small_laid_run byte n)
  laid_follows_unit n =
      laws.turns.refines_then_turns (λ k. k) 3 3 (small_unit_run byte n) (small_swept_run byte n) (small_laid_run byte n) (swept_grows n) (swept_refines_unit laws byte n)
      (laws.turns.turns_then_costs (small_code_clock byte n) 3 2 1 (small_swept_run byte n) (small_code_run byte n) (small_laid_run byte n) (code_costs_swept n) (costs byte n))

  never_stops : (n : ℕ) → NeverStops (small_cut_run byte n)
  never_stops n k a h = let z = laws.cut_moves.ends_by_moves (small_cut byte) ends_in_guard (cut_ends byte) n k (Stopped a) h in cc

  pub laid_agrees_with_cut : (n : ℕ) → AgreePlainly 3 3 (small_cut_run byte n) (small_laid_run byte n)
  laid_agrees_with_cut n =
      let grows = laws.unit_runs.run_grows _ (Begin n) in
      laws.agreements.agrees_plainly 3 3 3 3 (small_cut_run byte n) (small_laid_run byte n) (omega arith) (omega arith) (laws.laid_runs.run_grows (small_laid byte) (At (First n))) (never_stops n)
      (laws.turns.cut_then_turns 3 3 0 (small_cut_run byte n) (small_unit_run byte n) (small_laid_run byte n) grows (unit_refines_cut laws byte n) (laid_follows_unit n))

-- a turn of the cut run is one step, and one of the laid code three
module _ (cut_runs : RunLaws ℕ) (runs : RunLaws LaidPlace) (byte : ℕ) where
  cut_runs_on : (k n : ℕ) → k < n → ((small_cut_run byte n k).end ≡ None) × (length (events (small_cut_run byte n k).trace) ≡ k)
  cut_runs_on zero zero h = absurd (omega (arith, h))
  cut_runs_on zero (suc n) h = let z = cut_runs.rest_go (small_cut byte) (suc n) (Turn 8 ∷ written_byte byte) n refl in rw z (refl, refl)
  cut_runs_on (suc k) zero h = absurd (omega (arith, h))
  cut_runs_on (suc k) (suc n) h =
      let z = cut_runs.run_go (small_cut byte) (suc n) (Turn 8 ∷ written_byte byte) n refl k in
      let i = cut_runs_on k n (omega (arith, h)) in
      rw z (i.0, ap suc i.1)

  -- one of the laid code is three: so many of them are over
  abbrev over : LaidPlace → ℕ
  over (At (First n)) = 0
  over (At (Second n)) = 0
  over (At (Jump n)) = 0
  over (At (Call n)) = 2
  over (Landing n) = 1
  over Past = 0

  abbrev Slow : ℕ → LaidPlace → Type 0
  Slow m s = 3 * length (events (run (small_laid byte) s m).trace) ≤ m + over s

  slow_rest : (s : LaidPlace) → run (small_laid byte) s 0 ≡ seen [] None → Slow 0 s
  slow_rest s h = omega (arith, ap (λ x. length (events x.trace)) h)

  slow_on : (m : ℕ) (s t : LaidPlace) → small_laid byte s ≡ Go [] t → over t ≤ suc (over s) → Slow m t → Slow (suc m) s
  slow_on m s t h o i = omega (arith, ap (λ x. length (events x.trace)) (runs.run_go (small_laid byte) s [] t h m), i, o)

  slow : (m : ℕ) (s : LaidPlace) → Slow m s
  slow zero (At (First n)) = slow_rest _ (step runs byte (At (First n)) [] (At (Second n)) refl).awake
  slow zero (At (Second n)) = slow_rest _ (step runs byte (At (Second n)) [] (At (Jump n)) refl).awake
  slow zero (At (Jump n)) = slow_rest _ (step runs byte (At (Jump n)) [] (Landing n) refl).awake
  slow zero (At (Call n)) = slow_rest _ (step runs byte (At (Call n)) (written_byte byte) (At (Jump n)) refl).awake
  slow zero (Landing zero) = slow_rest _ (step runs byte (Landing zero) [] Past refl).awake
  slow zero (Landing (suc n)) = slow_rest _ (step runs byte (Landing (suc n)) [] (At (Call n)) refl).awake
  slow zero Past = slow_rest _ (runs.rest_halt (small_laid byte) Past [] Outside refl)
  slow (suc m) (At (First n)) = slow_on m _ (At (Second n)) refl (omega arith) (slow m (At (Second n)))
  slow (suc m) (At (Second n)) = slow_on m _ (At (Jump n)) refl (omega arith) (slow m (At (Jump n)))
  slow (suc m) (At (Jump n)) = slow_on m _ (Landing n) refl (omega arith) (slow m (Landing n))
  slow (suc m) (At (Call n)) = omega (arith, ap (λ x. length (events x.trace)) (runs.run_go (small_laid byte) (At (Call n)) (written_byte byte) (At (Jump n)) refl m), slow m (At (Jump n)))
  slow (suc m) (Landing zero) = slow_on m _ Past refl (omega arith) (slow m Past)
  slow (suc m) (Landing (suc n)) = slow_on m _ (At (Call n)) refl (omega arith) (slow m (At (Call n)))
  slow (suc m) Past = omega (arith, ap (λ x. length (events x.trace)) (runs.run_halt (small_laid byte) Past [] Outside refl m))

  pub refuses_two_steps : (b : ℕ) → ((n : ℕ) → AgreePlainly 2 b (small_cut_run byte n) (small_laid_run byte n)) → ⊥
  refuses_two_steps b p =
      let d = (p (suc (suc b))).does (suc b) in
      let c = cut_runs_on (suc b) (suc (suc b)) (omega arith) in
      absurd (omega (arith, d.bound, ap guard_turn c.0, ap length d.same_events, c.1, slow d.steps (At (First (suc (suc b))))))
