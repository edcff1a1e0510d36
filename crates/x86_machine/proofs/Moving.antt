-- A step of an instruction goes on or halts: the machine stands at none.
use Rattle.std.proofs.Common.{◌≡◌, ℕ, ◌+◌, List, [], Bool, true, false, Option, Some, None, Result, Ok, Err, refl}
use Rattle.x86_values.specs.Words.{known}
use Rattle.traces.specs.Trace.{Label, Move, seen, at_rest}
use Rattle.traces.specs.Machines.{marked}
use Rattle.memory.specs.SystemCall.{Called, Ends, Gives, system_call}
use Rattle.x86_types.specs.declared.instr.Instr.{Instr}
use Rattle.x86_meaning.specs.declared.stop.Stop.{Stop}
use Rattle.x86_meaning.specs.Outcomes.{Way, Falls, JumpsBy, JumpsTo, Repeats, Calls}
use Rattle.x86_meaning.specs.Effect.{Effect}
use Rattle.x86_meaning.specs.Step.{State, settled, settled_by, after_call, finish, by_stores, by_effect, by_loads, step, at_address, request_of, performed}

-- a move, marked as a turn, isn't a stand
abbrev IsAwake : ℕ → Move State → Type 0
IsAwake at x = at_rest (marked at x) ≡ seen [] None

settled_by_awake : (at : ℕ) (o : Option ℕ) (ls : List Label) (s : State) → IsAwake at (settled_by o ls s)
settled_by_awake at None ls s = refl
settled_by_awake at (Some esp) ls s = refl

settled_awake : (at : ℕ) (ls : List Label) (s : State) → IsAwake at (settled ls s)
unfolding settled
settled_awake at ls s = settled_by_awake at (known (s.cpu.regs 4)) ls s

call_awake : (at : ℕ) (c : Called) (s : State) → IsAwake at (after_call c s)
call_awake at (Ends e) s = refl
call_awake at (Gives ls result stores left) s = settled_awake at ls _

finish_awake : (at : ℕ) (w : Way) (next : ℕ) (s : State) → IsAwake at (finish w next s)
unfolding finish
finish_awake at Falls next s = settled_awake at [] (at_address next s)
finish_awake at (JumpsBy by) next s = settled_awake at [] (at_address (next + by) s)
finish_awake at (JumpsTo target) next s = settled_awake at [] (at_address target s)
finish_awake at Repeats next s = settled_awake at [] s
finish_awake at Calls next s = call_awake at (system_call (request_of s.cpu) s.memory s.left) (at_address next s)

stores_awake : (at : ℕ) (b : Bool) (e : Effect) (next : ℕ) (s : State) → IsAwake at (by_stores b e next s)
stores_awake at false e next s = refl
stores_awake at true e next s = finish_awake at e.way next (performed e s)

effect_awake : (at : ℕ) (r : Result Effect Stop) (b : Bool) (next : ℕ) (s : State) → IsAwake at (by_effect r b next s)
effect_awake at (Err x) b next s = refl
effect_awake at (Ok e) b next s = stores_awake at b e next s

loads_awake : (at : ℕ) (l b : Bool) (r : Result Effect Stop) (next : ℕ) (s : State) → IsAwake at (by_loads l b r next s)
loads_awake at false b r next s = refl
loads_awake at true b r next s = effect_awake at r b next s

pub never_stands : (at : ℕ) (i : Instr) (len : ℕ) (s : State) → at_rest (marked at (step i len s)) ≡ seen [] None
unfolding step
never_stands at i len s = loads_awake at _ _ _ _ s
