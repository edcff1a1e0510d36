-- A unit that takes two steps for each turn, and code that takes one.
use Rattle.std.proofs.Common.{◌≡◌, ◌∙◌, ◌+◌, ℕ, zero, suc, List, [], ◌∷◌, None, refl, sym, ap, arith, inl}
use Rattle.traces.specs.Trace.{Label, Turn, Behaviour, run}
use Rattle.traces.specs.Turns.{RefinesByTurns}
use Rattle.traces.specs.Weight.{Paced, OneEvent, StartsWithNoMore}
use Rattle.traces.specs.Agree.{Covers, Follows, end_as, outside}
use Rattle.traces.specs.Steps.{Goes}
use Rattle.traces.specs.Meeting.{SeenRefines, Meets}
use Rattle.traces.specs.TurnLaws.{TurnLaws}
use Rattle.traces.specs.RunLaws.{RunLaws}
use Rattle.traces.specs.MoveLaws.{MoveLaws}
use Rattle.traces.specs.SimulationLaws.{SimulationLaws}
use Rattle.trace_checks.specs.Played.{repeat, alternate, one}
use Rattle.trace_checks.specs.TurnChecks.{AllowsStepLeftOut}

abbrev shown : List Label
shown = Turn 1 ∷ one ∷ []

unit_goes : Goes (alternate shown) 1 2 shown 1
unfolding run
unit_goes = record { some = omega arith; awake = refl; by = λ j. let e : 2 + j ≡ suc (suc j) = omega arith in rw e refl }

code_goes : (n : ℕ) → Goes (repeat shown) n 1 shown n
unfolding run
code_goes n = record { some = omega arith; awake = refl; by = λ j. let e : 1 + j ≡ suc j = omega arith in rw e refl }

-- after each turn of both the unit is in state 1 again
meets : Meets (alternate shown) (repeat shown) (λ (n : ℕ). 1) (λ (n : ℕ). n) SeenRefines
meets n = inl (record { steps = 2; trace = shown; state = 1; goes = unit_goes; steps' = 1; state' = n; goes' = code_goes n; related = (n, refl, refl) })

starts : StartsWithNoMore (run (alternate shown) 1) (run (repeat shown) 0)
unfolding run
starts = omega arith

runs_on : (n s : ℕ) → (run (repeat shown) s n).end ≡ None
unfolding run
runs_on zero s = refl
runs_on (suc n) s = runs_on n s

code : Behaviour
code = run (repeat shown) 0

itself : Covers (Follows 1 0) code code
unfolding code
itself n = (n, record { bound = omega arith; does = record { ahead = λ h. omega arith; same_events = refl; same_end = λ d. runs_on n 0 ∙ sym (ap (end_as outside) (runs_on n 0)) } })

-- what the laws of runs say of machines whose states are numbers, and of turns
pub record Laws : Type 0 where
  pub runs : RunLaws ℕ
  pub moves : MoveLaws ℕ
  pub pairs : SimulationLaws ℕ ℕ ℕ
  pub turns : TurnLaws

module _ (laws : Laws) where
  code_paced : Paced 1 0 (run (repeat shown) 0)
  code_paced = laws.moves.paced_by_moves (repeat shown) 1 0 (λ s. 0) (λ s. record { one_turn = refl; left = omega arith }) 0 (omega arith)

  code_one : OneEvent (run (repeat shown) 0)
  code_one = laws.moves.one_event_by_moves (repeat shown) (λ s. omega arith) 0

  same : RefinesByTurns (run (alternate shown) 1) (run (repeat shown) 0)
  same = laws.pairs.refines_by_meeting (alternate shown) (repeat shown) (λ n. 1) (λ n. n) 1 0 meets 0 code_paced code_one starts

  pub allows_step_left_out : AllowsStepLeftOut
  unfolding code
  allows_step_left_out = laws.turns.refines_then_turns (λ n. n) 1 0 _ _ _ (laws.runs.run_grows (repeat shown) 0) same (laws.turns.paced_then_follows 1 0 1 0 _ _ code_paced itself)
