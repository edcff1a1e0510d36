-- The moves of the code by one item, simulated by one step of the processor.
use Rattle.std.proofs.Common.{◌≡◌, ◌≢◌, ℕ, Bool, true, false, List, [], Option, Some, None, Result, Ok, Err, refl, sym, ap, ◌∙◌, subst, arith}
use Rattle.x86_values.specs.Words.{known}
use Rattle.traces.specs.Trace.{Label, End, Exited, OtherCall, Outside, MemoryFault, DivideFault, Guard, Stopped, Move, Stand, Go, Halt, Seen, seen, events, run}
use Rattle.traces.specs.Trace as trace
use Rattle.traces.specs.Agree.{outside}
use Rattle.traces.specs.Simulation.{Ends, Simulates, Fits, SameEvents, Paired}
use Rattle.memory.specs.Memory.{Memory}
use Rattle.memory.specs.CallLaws.{is_own_end}
use Rattle.memory.specs.SystemCall.{Called, Ends as CallEnds, Gives}
use Rattle.x86_types.specs.declared.instr.Instr.{Instr}
use Rattle.x86_code.specs.Code.{Code}
use Rattle.x86_meaning.specs.declared.stop.Stop.{Stop}
use Rattle.x86_meaning.specs.Outcomes.{Way, Falls, JumpsBy, JumpsTo, Repeats, Calls}
use Rattle.x86_meaning.specs.Effect.{Effect}
use Rattle.x86_meaning.specs.Step.{State, settled_by, settled, at_address, request_of, with_result, finish, step, step_at, next}
use Rattle.x86_meaning.specs.Step as processor
use Rattle.named_code.specs.Items.{CodeBlock}
use Rattle.named_code.specs.Running.{CodeState, CodePoint, CodePosition, standing_at}
use Rattle.laid_code.specs.Laid.{Places}
use Rattle.laid_code.specs.LaidRun.{StandsAt, BesidePair}
use Rattle.laid_code.proofs.Given.{Given}
use Rattle.laid_code.proofs.Stepping.{GoesBeside, EndsAs}

-- ---- a step of an instruction doesn't stand
abbrev pub IsStep : Move State → Type 0
IsStep (Stand ls e) = ⊥
IsStep (Go ls s) = Unit {0}
IsStep (Halt ls e) = Unit {0}

settled_step : (ls : List Label) (s : State) → IsStep (settled ls s)
unfolding settled
settled_step ls s = by (known (s.cpu.regs 4))
  where
    by : (o : Option ℕ) → IsStep (settled_by o ls s)
    by None = tt
    by (Some esp) = tt

called_step : (c : Called) (s : State) → IsStep (processor.after_call c s)
called_step (CallEnds e) s = tt
called_step (Gives ls result stores left) s = settled_step ls _

finish_step : (w : Way) (n : ℕ) (s : State) → IsStep (finish w n s)
unfolding finish
finish_step Falls n s = settled_step [] _
finish_step (JumpsBy by) n s = settled_step [] _
finish_step (JumpsTo at) n s = settled_step [] _
finish_step Repeats n s = settled_step [] _
finish_step Calls n s = called_step _ _

stores_step : (b : Bool) (e : Effect) (n : ℕ) (s : State) → IsStep (processor.by_stores b e n s)
stores_step false e n s = tt
stores_step true e n s = finish_step e.way n _

effect_step : (r : Result Effect Stop) (b : Bool) (n : ℕ) (s : State) → IsStep (processor.by_effect r b n s)
effect_step (Err x) b n s = tt
effect_step (Ok e) b n s = stores_step b e n s

loads_step : (a b : Bool) (r : Result Effect Stop) (n : ℕ) (s : State) → IsStep (processor.by_loads a b r n s)
loads_step false b r n s = tt
loads_step true b r n s = effect_step r b n s

is_step : (i : Instr) (len : ℕ) (s : State) → IsStep (step i len s)
unfolding step
is_step i len s = loads_step _ _ _ _ s

module _ (given : Given) (l : Places) (code : Code) (blocks : List CodeBlock) (first : Memory) where
  -- ---- the pairs of the simulation
  abbrev Pair : Type 0
  Pair = BesidePair (record { places = l; code = code; blocks = blocks; first = first })

  abbrev pub Related : CodePosition → State → Type 0
  Related = Paired (λ (p : Pair). p.position) (λ (p : Pair). p.state)

  abbrev pub Simulated : ℕ → Move CodePosition → State → Type 0
  Simulated K m t = Simulates (next code) Fits SameEvents Related K 0 m t

  pub awake : (t : State) (i : Instr) (len : ℕ) → code t.eip ≡ Some (i, len) → run (next code) t 0 ≡ seen [] None
  awake t i len stands = by (next code t) refl (subst IsStep (sym (given.steps.at_instruction code t i len stands)) (is_step i len t))
    where
      by : (m : Move State) → next code t ≡ m → IsStep m → run (next code) t 0 ≡ seen [] None
      by (Stand ls e) is h = absurd h
      by (Go ls s) is h = given.runs.rest_go (next code) t ls s is
      by (Halt ls e) is h = given.runs.rest_halt (next code) t ls e is

  -- ---- both go on
  pub goes_met : (ls : List Label) (point : CodePoint) (s : CodeState) (q : ℕ) (t : State) → GoesBeside first code s ls q t → StandsAt l code blocks point q → Simulated 1 (Go ls (standing_at point s)) t
  goes_met ls point s q t g stands = record {
    steps = 1;
    few = omega arith;
    trace = ls;
    state = g.state;
    fits = refl;
    goes = given.runs.goes_step (next code) t ls g.state g.goes;
    related = (record { position = standing_at point s; state = g.state; beside = record { stands = subst (StandsAt l code blocks point) (sym g.eip) stands; states = g.beside } }, refl, refl);
  }

  -- ---- both end
  fits_end : (e : End) (r : Seen) → is_own_end e ≡ true → (e ≢ trace.Unspecified → r ≡ seen [] (Some e)) → events r.trace ≡ [] → Fits (seen [] (Some e)) r
  fits_end e r own same quiet = record { same_events = quiet; same_end = λ defined. ap (λ (x : Seen). x.end) (same (λ is. defined (ap (λ y. Some y) is))) ∙ by e own }
    where
      by : (e : End) → is_own_end e ≡ true → Some e ≡ Some (outside e)
      by trace.Unspecified own = refl
      by (Exited n) own = refl
      by MemoryFault own = refl
      by DivideFault own = refl
      by Outside own = refl
      by (OtherCall n) own = refl
      by (Guard k a) own = absurd (cc own)
      by (Stopped a) own = absurd (cc own)

  pub ends_met : (e : End) (t : State) → is_own_end e ≡ true → run (next code) t 0 ≡ seen [] None → EndsAs code e t → Simulated 1 (Halt [] e) t
  ends_met e t own rests ends = (by e refl, rests)
    where
      excused : e ≡ trace.Unspecified → Ends (next code) Fits 1 (seen [] (Some e)) t
      excused is = record { steps = 0; few = omega arith; fits = fits_end e (run (next code) t 0) own (λ differs. absurd (differs is)) (ap (λ (x : Seen). events x.trace) rests) }

      ended : e ≢ trace.Unspecified → Ends (next code) Fits 1 (seen [] (Some e)) t
      ended differs =
          let same = given.runs.run_halt (next code) t [] e (ends differs) 0 in
          record { steps = 1; few = omega arith; fits = fits_end e (run (next code) t 1) own (λ d. same) (ap (λ (x : Seen). events x.trace) same) }

      by : (x : End) → e ≡ x → Ends (next code) Fits 1 (seen [] (Some e)) t
      by trace.Unspecified is = excused is
      by (Exited n) is = ended (λ z. absurd (let w : Exited n ≡ trace.Unspecified = sym is ∙ z in cc w))
      by MemoryFault is = ended (λ z. absurd (let w : MemoryFault ≡ trace.Unspecified = sym is ∙ z in cc w))
      by DivideFault is = ended (λ z. absurd (let w : DivideFault ≡ trace.Unspecified = sym is ∙ z in cc w))
      by Outside is = ended (λ z. absurd (let w : Outside ≡ trace.Unspecified = sym is ∙ z in cc w))
      by (OtherCall n) is = ended (λ z. absurd (let w : OtherCall n ≡ trace.Unspecified = sym is ∙ z in cc w))
      by (Guard k a) is = ended (λ z. absurd (let w : Guard k a ≡ trace.Unspecified = sym is ∙ z in cc w))
      by (Stopped a) is = ended (λ z. absurd (let w : Stopped a ≡ trace.Unspecified = sym is ∙ z in cc w))
