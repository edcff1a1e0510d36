-- The chain of small machines, by the laws of traces alone.
use Rattle.std.proofs.Common.{◌≡◌, ℕ, zero, suc, ◌≤◌, Bool, true, false, [], ◌∷◌, Some, refl, ap, arith, inl, inr}
use Rattle.traces.specs.Trace.{Turn, Code, End, Exited, MemoryFault, DivideFault, Outside, OtherCall, Unspecified, Guard, Stopped, Move, seen, run}
use Rattle.traces.specs.Agree.{outside_run}
use Rattle.traces.specs.Steps.{Goes}
use Rattle.traces.specs.Turns.{RefinesByTurns, RefinesCut}
use Rattle.traces.specs.Weight.{Paced, Ticks}
use Rattle.traces.specs.Machines.{guarded, outside_machine}
use Rattle.traces.specs.Moves.{PacedMove, OneEventStep, Unturned, EndsIn}
use Rattle.traces.specs.Meeting.{SeenRefines, SeenRefinesCut, Meets}
use Rattle.traces.specs.MeetingLaws.{MeetingLaws}
use Rattle.traces.specs.TurnLaws.{TurnLaws}
use Rattle.traces.specs.AgreementLaws.{AgreementLaws}
use Rattle.traces.specs.RunLaws.{RunLaws}
use Rattle.traces.specs.MoveLaws.{MoveLaws}
use Rattle.traces.specs.SimulationLaws.{SimulationLaws}
use Rattle.trace_checks.specs.Chain.{written_byte, small_program, cut_at_end, small_cut, small_cut_run, UnitPlace, Begin, Idle, Put, small_unit, small_unit_run, small_swept, small_swept_run, CodePlace, First, Second, Jump, Call, small_code, small_code_run, laid_steps, LaidPlace}

-- the cut run and the unit
abbrev pub ends_in_guard : End → Bool
ends_in_guard (Guard k a) = true
ends_in_guard (Exited x) = false
ends_in_guard MemoryFault = false
ends_in_guard DivideFault = false
ends_in_guard Outside = false
ends_in_guard (OtherCall x) = false
ends_in_guard Unspecified = false
ends_in_guard (Stopped a) = false

module _ (byte : ℕ) where
  plain : (n : ℕ) → Unturned (guarded cut_at_end (small_program byte) n)
  plain zero = refl
  plain (suc n) = refl

  pub cut_ends : (n : ℕ) → EndsIn (λ e. ends_in_guard e ≡ true) (small_cut byte n)
  cut_ends zero = refl
  cut_ends (suc n) = tt

  -- the steps that are left of a turn of the unit, and of the unit after the pass
  abbrev unit_left : UnitPlace → ℕ
  unit_left (Begin n) = 0
  unit_left (Idle n) = 2
  unit_left (Put n) = 1

  unit_paces : (s : UnitPlace) → PacedMove 3 unit_left (unit_left s) 1 (small_unit byte s)
  unit_paces (Begin zero) = record { one_turn = refl; left = omega arith }
  unit_paces (Begin (suc n)) = record { one_turn = refl; left = omega arith }
  unit_paces (Idle n) = record { one_turn = tt; left = omega arith }
  unit_paces (Put n) = record { one_turn = refl; left = omega arith }

  swept_paces : (s : UnitPlace) → PacedMove 3 unit_left (unit_left s) 1 (small_swept byte s)
  swept_paces (Begin zero) = record { one_turn = refl; left = omega arith }
  swept_paces (Begin (suc n)) = record { one_turn = refl; left = omega arith }
  swept_paces (Idle n) = record { one_turn = tt; left = omega arith }
  swept_paces (Put n) = record { one_turn = refl; left = omega arith }

  -- the steps of laid code that are left of a turn of the code, or of its beginning
  abbrev pub code_left : CodePlace → ℕ
  code_left (First n) = 2
  code_left (Second n) = 1
  code_left (Jump n) = 0
  code_left (Call n) = 1

  pub code_paces : (s : CodePlace) → PacedMove 3 code_left (code_left s) (laid_steps s) (small_code byte s)
  code_paces (First n) = record { one_turn = tt; left = omega arith }
  code_paces (Second n) = record { one_turn = tt; left = omega arith }
  code_paces (Jump zero) = record { one_turn = refl; left = omega arith }
  code_paces (Jump (suc n)) = record { one_turn = refl; left = omega arith }
  code_paces (Call n) = record { one_turn = refl; left = omega arith }

  laid_some : (s : CodePlace) → 1 ≤ laid_steps s
  laid_some (First n) = omega arith
  laid_some (Second n) = omega arith
  laid_some (Jump n) = omega arith
  laid_some (Call n) = omega arith

  unit_one : (s : UnitPlace) → OneEventStep (small_unit byte s)
  unit_one (Begin zero) = omega arith
  unit_one (Begin (suc n)) = omega arith
  unit_one (Idle n) = omega arith
  unit_one (Put n) = omega arith

  swept_one : (s : UnitPlace) → OneEventStep (small_swept byte s)
  swept_one (Begin zero) = omega arith
  swept_one (Begin (suc n)) = omega arith
  swept_one (Idle n) = omega arith
  swept_one (Put n) = omega arith

  code_one : (s : CodePlace) → OneEventStep (small_code byte s)
  code_one (First n) = omega arith
  code_one (Second n) = omega arith
  code_one (Jump zero) = omega arith
  code_one (Jump (suc n)) = omega arith
  code_one (Call n) = omega arith

-- the laws that the chain takes
pub record ChainLaws : Type 0 where
  pub cut_runs : RunLaws ℕ
  pub cut_moves : MoveLaws ℕ
  pub unit_runs : RunLaws UnitPlace
  pub unit_moves : MoveLaws UnitPlace
  pub code_runs : RunLaws CodePlace
  pub code_moves : MoveLaws CodePlace
  pub laid_runs : RunLaws LaidPlace
  pub to_unit : (byte : ℕ) → SimulationLaws ℕ UnitPlace ℕ
  pub to_swept : (byte : ℕ) → SimulationLaws UnitPlace UnitPlace ℕ
  pub to_code : (byte : ℕ) → SimulationLaws UnitPlace CodePlace ℕ
  pub meetings : MeetingLaws
  pub turns : TurnLaws
  pub agreements : AgreementLaws

module _ (laws : ChainLaws) (byte : ℕ) where
  -- a turn of each
  cut_goes : (n : ℕ) → Goes (small_cut byte) (suc n) 1 (Turn 8 ∷ written_byte byte) n
  cut_goes n = laws.cut_runs.goes_step (small_cut byte) (suc n) (Turn 8 ∷ written_byte byte) n refl

  unit_goes : (n : ℕ) → Goes (small_unit byte) (Begin (suc n)) 3 (Turn 8 ∷ written_byte byte) (Begin n)
  unit_goes n =
      let r = laws.unit_runs in
      let m = small_unit byte in
      r.goes_then m (Begin (suc n)) 2 (Turn 8 ∷ []) (Put n) 1 (written_byte byte) (Begin n)
      (r.goes_then m (Begin (suc n)) 1 (Turn 8 ∷ []) (Idle n) 1 [] (Put n) (r.goes_step m (Begin (suc n)) (Turn 8 ∷ []) (Idle n) refl) (r.goes_step m (Idle n) [] (Put n) refl))
      (r.goes_step m (Put n) (written_byte byte) (Begin n) refl)

  swept_goes : (next : UnitPlace → Move UnitPlace) (n : ℕ) → Goes next (Begin (suc n)) 1 (Turn 8 ∷ []) (Put n) → Goes next (Put n) 1 (written_byte byte) (Begin n) → Goes next (Begin (suc n)) 2 (Turn 8 ∷ written_byte byte) (Begin n)
  swept_goes next n p q = laws.unit_runs.goes_then next (Begin (suc n)) 1 (Turn 8 ∷ []) (Put n) 1 (written_byte byte) (Begin n) p q

  swept_turn : (n : ℕ) → Goes (small_swept byte) (Begin (suc n)) 2 (Turn 8 ∷ written_byte byte) (Begin n)
  swept_turn n = swept_goes (small_swept byte) n (laws.unit_runs.goes_step (small_swept byte) (Begin (suc n)) (Turn 8 ∷ []) (Put n) refl) (laws.unit_runs.goes_step (small_swept byte) (Put n) (written_byte byte) (Begin n) refl)

  outside_turn : (n : ℕ) → Goes (outside_machine (small_swept byte)) (Begin (suc n)) 2 (Turn 8 ∷ written_byte byte) (Begin n)
  outside_turn n =
      let m = outside_machine (small_swept byte) in
      swept_goes m n (laws.unit_runs.goes_step m (Begin (suc n)) (Turn 8 ∷ []) (Put n) refl) (laws.unit_runs.goes_step m (Put n) (written_byte byte) (Begin n) refl)

  code_goes : (n : ℕ) → Goes (small_code byte) (Jump (suc n)) 2 (Turn 8 ∷ written_byte byte) (Jump n)
  code_goes n =
      let r = laws.code_runs in
      let m = small_code byte in
      r.goes_then m (Jump (suc n)) 1 (Turn 8 ∷ []) (Call n) 1 (written_byte byte) (Jump n) (r.goes_step m (Jump (suc n)) (Turn 8 ∷ []) (Call n) refl) (r.goes_step m (Call n) (written_byte byte) (Jump n) refl)

  code_begins : (n : ℕ) → Goes (small_code byte) (First n) 2 [] (Jump n)
  code_begins n =
      let r = laws.code_runs in
      let m = small_code byte in
      r.goes_then m (First n) 1 [] (Second n) 1 [] (Jump n) (r.goes_step m (First n) [] (Second n) refl) (r.goes_step m (Second n) [] (Jump n) refl)

  -- the cut run and the unit meet after each turn
  cut_meets : Meets (small_cut byte) (small_unit byte) (λ (n : ℕ). n) (λ (n : ℕ). Begin n) (SeenRefinesCut 0)
  cut_meets zero =
      let c = laws.cut_runs.run_stand (small_cut byte) 0 [] (Guard Code 5) refl 0 in
      let u = laws.unit_runs.run_halt (small_unit byte) (Begin 0) (Turn 5 ∷ []) (Stopped 5) refl 0 in
      inr (record { steps = 0; ended = λ z. let y = ap (λ x. x.end) c in cc; steps' = 1; fits = rw (c, u) (laws.meetings.cut_stop_turn [] Code 5) })
  cut_meets (suc n) = inl (record { steps = 1; trace = Turn 8 ∷ written_byte byte; state = n; goes = cut_goes n; steps' = 3; state' = Begin n; goes' = unit_goes n; related = (n, refl, refl) })

  -- the two units do
  swept_meets : Meets (small_unit byte) (small_swept byte) (λ (n : ℕ). Begin n) (λ (n : ℕ). Begin n) SeenRefines
  swept_meets zero =
      let u = laws.unit_runs.run_halt (small_unit byte) (Begin 0) (Turn 5 ∷ []) (Stopped 5) refl 0 in
      let v = laws.unit_runs.run_halt (small_swept byte) (Begin 0) (Turn 5 ∷ []) (Stopped 5) refl 0 in
      inr (record { steps = 1; ended = λ z. let y = ap (λ x. x.end) u in cc; steps' = 1; fits = rw (u, v) (laws.meetings.refines_itself (seen (Turn 5 ∷ []) (Some (Stopped 5)))) })
  swept_meets (suc n) = inl (record { steps = 3; trace = Turn 8 ∷ written_byte byte; state = Begin n; goes = unit_goes n; steps' = 2; state' = Begin n; goes' = swept_turn n; related = (n, refl, refl) })

  -- the unit, which ends `Outside` for this, and the code do
  code_meets : Meets (outside_machine (small_swept byte)) (small_code byte) (λ (n : ℕ). Begin n) (λ (n : ℕ). Jump n) SeenRefines
  code_meets zero =
      let u = laws.unit_runs.run_halt (outside_machine (small_swept byte)) (Begin 0) (Turn 5 ∷ []) Outside refl 0 in
      let v = laws.code_runs.run_halt (small_code byte) (Jump 0) (Turn 5 ∷ []) Outside refl 0 in
      inr (record { steps = 1; ended = λ z. let y = ap (λ x. x.end) u in cc; steps' = 1; fits = rw (u, v) (laws.meetings.refines_itself (seen (Turn 5 ∷ []) (Some Outside))) })
  code_meets (suc n) = inl (record { steps = 2; trace = Turn 8 ∷ written_byte byte; state = Begin n; goes = outside_turn n; steps' = 2; state' = Jump n; goes' = code_goes n; related = (n, refl, refl) })

  -- the weights
  cut_ticks : (n : ℕ) → Ticks (small_cut_run byte n) × Paced 1 0 (small_cut_run byte n)
  cut_ticks n = laws.cut_moves.turned_ticks (λ n. 8) (guarded cut_at_end (small_program byte)) (plain byte) n

  unit_paced : (n : ℕ) → Paced 3 0 (small_unit_run byte n)
  unit_paced n = laws.unit_moves.paced_by_moves (small_unit byte) 3 0 (unit_left byte) (unit_paces byte) (Begin n) (omega arith)

  swept_paced : (n : ℕ) → Paced 3 0 (small_swept_run byte n)
  swept_paced n = laws.unit_moves.paced_by_moves (small_swept byte) 3 0 (unit_left byte) (swept_paces byte) (Begin n) (omega arith)

  code_paced : (n : ℕ) → Paced 3 0 (run (small_code byte) (Jump n))
  code_paced n = laws.code_moves.paced_in_steps (small_code byte) laid_steps 3 0 (code_left byte) (laid_some byte) (code_paces byte) (Jump n) (omega arith)

  pub unit_refines_cut : (n : ℕ) → RefinesCut 0 (small_cut_run byte n) (small_unit_run byte n)
  unit_refines_cut n = (laws.to_unit byte).cut_by_meeting (small_cut byte) (small_unit byte) (λ n. n) (λ n. Begin n) 0 3 0 cut_meets n (cut_ticks n).0 (cut_ticks n).1 (unit_paced n) (laws.unit_moves.one_event_by_steps (small_unit byte) (unit_one byte) (Begin n)) (laws.unit_moves.starts_by_move (small_unit byte) (small_cut_run byte n) (Begin n) (unit_one byte (Begin n)))

  pub swept_refines_unit : (n : ℕ) → RefinesByTurns (small_unit_run byte n) (small_swept_run byte n)
  swept_refines_unit n = (laws.to_swept byte).refines_by_meeting (small_unit byte) (small_swept byte) (λ n. Begin n) (λ n. Begin n) 3 0 swept_meets n (swept_paced n) (laws.unit_moves.one_event_by_steps (small_swept byte) (swept_one byte) (Begin n)) (laws.unit_moves.starts_by_move (small_swept byte) (small_unit_run byte n) (Begin n) (swept_one byte (Begin n)))

  -- from its first jump on, and after its beginning
  code_from_jump : (n : ℕ) → RefinesByTurns (run (outside_machine (small_swept byte)) (Begin n)) (run (small_code byte) (Jump n))
  code_from_jump n = (laws.to_code byte).refines_by_meeting (outside_machine (small_swept byte)) (small_code byte) (λ n. Begin n) (λ n. Jump n) 3 0 code_meets n (code_paced n) (laws.code_moves.one_event_by_steps (small_code byte) (code_one byte) (Jump n)) (laws.code_moves.starts_by_move (small_code byte) (run (outside_machine (small_swept byte)) (Begin n)) (Jump n) (code_one byte (Jump n)))

  pub code_refines_swept : (n : ℕ) → RefinesByTurns (outside_run (small_swept_run byte n)) (small_code_run byte n)
  code_refines_swept n = laws.unit_moves.refines_outside (small_swept byte) (Begin n) (small_code_run byte n) (laws.code_runs.refines_after (small_code byte) _ (First n) 2 (Jump n) (code_begins n) (code_from_jump n))
