-- What holds of a step, where it holds of each outcome that a step can have.
use Rattle.std.proofs.Common.{◌≡◌, ℕ, ◌+◌, Bool, true, false, List, [], Option, Some, None, Result, Ok, Err, refl}
use Rattle.x86_values.specs.Words.{known}
use Rattle.traces.specs.Trace.{Label, Outside, Unspecified, Move, Stand, Go, Halt}
use Rattle.memory.specs.Memory.{wrapped, forget_below}
use Rattle.memory.specs.SystemCall.{system_call}
use Rattle.x86_types.specs.declared.instr.Instr.{Instr}
use Rattle.x86_code.specs.Code.{Code}
use Rattle.x86_meaning.specs.Registers.{machine_naming}
use Rattle.x86_meaning.specs.declared.stop.Stop.{Stop}
use Rattle.x86_meaning.specs.declared.stop.Stop.TheVariants.{MemoryFault}
use Rattle.x86_meaning.specs.Outcomes.{Way, Falls, JumpsBy, JumpsTo, Repeats, Calls}
use Rattle.x86_meaning.specs.Effect.{Effect, effect}
use Rattle.x86_meaning.specs.Step.{State, settled_by, settled, at_address, request_of, after_call, finish, performed, end_of, by_stores, by_effect, by_loads, step, step_at, next}

-- the effect of the instruction at a state
abbrev pub made : Instr → ℕ → State → Result Effect Stop
made i len s = effect machine_naming i (wrapped (s.eip + len)) s.cpu s.memory

module _ (P : Move State → Type 0) where
  pub settled_holds : (ls : List Label) (s : State) → P (Halt ls Unspecified) → ((esp : ℕ) → known (s.cpu.regs 4) ≡ Some esp → P (Go ls (record s { memory = forget_below esp s.memory }))) → P (settled ls s)
  unfolding settled
  settled_holds ls s h k = cases (known (s.cpu.regs 4)) refl
    where
      cases : (o : Option ℕ) → known (s.cpu.regs 4) ≡ o → P (settled_by o ls s)
      cases None e = h
      cases (Some esp) e = k esp e

  pub finish_holds : (w : Way) (n : ℕ) (t : State) → ((a : ℕ) → P (settled [] (at_address a t))) → P (settled [] t) → ((a : ℕ) → P (after_call (system_call (request_of t.cpu) t.memory t.left) (at_address a t))) → P (finish w n t)
  unfolding finish
  finish_holds Falls n t goes stays calls = goes n
  finish_holds (JumpsBy by) n t goes stays calls = goes (n + by)
  finish_holds (JumpsTo target) n t goes stays calls = goes target
  finish_holds Repeats n t goes stays calls = stays
  finish_holds Calls n t goes stays calls = calls n

  module _ (s : State) (n : ℕ) (ends : (x : Stop) → P (Halt [] (end_of x))) where
    stores_hold : (b : Bool) (e : Effect) → P (finish e.way n (performed e s)) → P (by_stores b e n s)
    stores_hold false e h = ends MemoryFault
    stores_hold true e h = h

    effect_holds : (r : Result Effect Stop) (b : Bool) → ((e : Effect) → r ≡ Ok e → P (finish e.way n (performed e s))) → P (by_effect r b n s)
    effect_holds (Err x) b h = ends x
    effect_holds (Ok e) b h = stores_hold b e (h e refl)

    loads_hold : (r : Result Effect Stop) (a b : Bool) → ((e : Effect) → r ≡ Ok e → P (finish e.way n (performed e s))) → P (by_loads a b r n s)
    loads_hold r false b h = ends MemoryFault
    loads_hold r true b h = effect_holds r b h

  pub step_holds : (i : Instr) (len : ℕ) (s : State) → ((x : Stop) → P (Halt [] (end_of x))) → ((e : Effect) → made i len s ≡ Ok e → P (finish e.way (s.eip + len) (performed e s))) → P (step i len s)
  unfolding step
  step_holds i len s ends rest = loads_hold s (s.eip + len) ends (made i len s) _ _ rest

  pub next_holds : (code : Code) (s : State) → P (Stand [] Outside) → ((i : Instr) (len : ℕ) → P (step i len s)) → P (next code s)
  unfolding next
  next_holds code s h k = cases (code s.eip)
    where
      cases : (o : Option (Instr × ℕ)) → P (step_at o s)
      cases None = h
      cases (Some p) = k p.0 p.1
