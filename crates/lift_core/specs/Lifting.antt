-- What the list and the way of an instruction come to, and what is promised of them. All of this is own.
use Rattle.std.specs.Prelude.{◌≡◌, ℕ, zero, suc, ◌==◌, cond, List, [], Option, Some, None, Result, Ok}
use Rattle.x86_values.specs.Words.{known}
use Rattle.traces.specs.Trace.{Label, End}
use Rattle.x86_types.specs.declared.instr.Instr.{Instr}
use Rattle.x86_meaning.specs.Step.{State, step}
use Rattle.flag_ir.specs.declared.operation.Op.{Op}
use Rattle.flag_ir.specs.Storage.{Storage, term_in}
use Rattle.flag_ir.specs.Operations.{and_then, needed, performs, shown_by_all}
use Rattle.lift_relation.specs.Matching.{StateMatches, MoveMatches}
use Rattle.lift_core.specs.declared.way.Way.{Way}
use Rattle.lift_core.specs.declared.way.Way.TheVariants as way

-- the address at which a run goes on, behind the list
abbrev pub goes_to : Way → Storage → Result ℕ End
goes_to (way.On a) u = Ok a
goes_to (way.Either test a b) u = and_then (needed (known (term_in test u))) (λ v. Ok (cond (v == 0) b a))
goes_to (way.Repeat count again a b) u = and_then (needed (known (term_in again u))) (λ v. Ok (cond (v == 0) b a))
goes_to (way.To target) u = needed (known (term_in target u))
goes_to (way.Back target) u = needed (known (term_in target u))

abbrev pub listed : ℕ → Way → List Op → Storage → Result (ℕ × Storage) End
listed turn w ops u = and_then (performs turn ops u) (λ v. and_then (goes_to w v) (λ a. Ok (a, v)))

-- one iteration of a repeat, where the count isn't 0
abbrev pub unless_counted : ℕ → Result (ℕ × Storage) End → Result (ℕ × Storage) End → Result (ℕ × Storage) End
unless_counted zero done more = done
unless_counted (suc n) done more = more

-- the list and the way together
abbrev pub lifted : ℕ → Way → List Op → Storage → Result (ℕ × Storage) End
lifted turn (way.Repeat count again a b) ops u = and_then (needed (known (term_in count u))) (λ n. unless_counted n (Ok (b, u)) (listed turn (way.Repeat count again a b) ops u))
lifted turn w ops u = listed turn w ops u

-- what they show
abbrev pub shown_if_counted : Option ℕ → List Label → List Label
shown_if_counted None labels = []
shown_if_counted (Some zero) labels = []
shown_if_counted (Some (suc n)) labels = labels

abbrev pub shown_lifted : ℕ → Way → List Op → Storage → List Label
shown_lifted turn (way.Repeat count again a b) ops u = shown_if_counted (known (term_in count u)) (shown_by_all turn ops u)
shown_lifted turn w ops u = shown_by_all turn ops u

-- The list and the way do what the step of the instruction does that stands at this address with this length: from each state of the
-- machine and each storage that matches it, to a state and a storage that match.
pub record Lifts (i : Instr) (at len : ℕ) (ops : List Op) (w : Way) : Type 0 where
  pub lifts : (turn : ℕ) (s : State) (u : Storage) → s.eip ≡ at → StateMatches s u → MoveMatches (step i len s) (shown_lifted turn w ops u) (lifted turn w ops u)
