-- The state of the machine, and one step: the accesses are judged, the effect is made, and the step is finished.
use Rattle.std.specs.Prelude.{ℕ, ◌+◌, ◌&&◌, Bool, true, false, List, [], ◌∷◌, Option, Some, None, Result, Ok, Err}
use Rattle.x86_values.specs.Words.{word_of, known}
use Rattle.outside.specs.Environment.{Environment}
use Rattle.traces.specs.Trace.{Label, End, MemoryFault, DivideFault, Outside, Unspecified, Move, Stand, Go, Halt}
use Rattle.memory.specs.Memory.{Memory, wrapped, AccessKind, Load, Store, allows_all, store_all, forget_below}
use Rattle.memory.specs.SystemCall.{Request, Called, Ends, Gives, system_call}
use Rattle.x86_types.specs.declared.instr.Instr.{Instr}
use Rattle.x86_code.specs.Code.{Code}
use Rattle.x86_meaning.specs.declared.stop.Stop.{Stop}
use Rattle.x86_meaning.specs.declared.stop.Stop.TheVariants as stop
use Rattle.x86_meaning.specs.Registers.{Processor, with_register, machine_naming}
use Rattle.x86_meaning.specs.Operands.{Access}
use Rattle.x86_meaning.specs.Outcomes.{Way, Falls, JumpsBy, JumpsTo, Repeats, Calls}
use Rattle.x86_meaning.specs.Effect.{Effect, accesses, effect}

pub record State : Type 0 where
  pub cpu : Processor
  pub eip : ℕ
  pub memory : Memory
  pub left : Environment

-- ---- the judging
-- an access of this kind is allowed; the others aren't looked at
abbrev pub access_allowed : AccessKind → AccessKind → Memory → ℕ → ℕ → Bool
access_allowed Load Load m at size = allows_all Load m at size
access_allowed Store Store m at size = allows_all Store m at size
access_allowed Load Store m at size = true
access_allowed Store Load m at size = true

-- so is each one of a list
abbrev pub all_allowed : AccessKind → List Access → Memory → Bool
all_allowed kind [] m = true
all_allowed kind (a ∷ more) m = access_allowed kind a.kind m a.at a.size && all_allowed kind more m

-- ---- the finish
-- After each step no byte of the stack below esp is known; an unspecified byte in esp ends the run. (own)
abbrev pub settled_by : Option ℕ → List Label → State → Move State
settled_by None ls s = Halt ls Unspecified
settled_by (Some esp) ls s = Go ls (record s { memory = forget_below esp s.memory })

unfoldable pub settled : List Label → State → Move State
settled ls s = settled_by (known (s.cpu.regs 4)) ls s

-- the same state at another address; addresses wrap
abbrev pub at_address : ℕ → State → State
at_address a s = record s { eip = wrapped a }

-- a call is asked by eax, ebx, ecx and edx
abbrev pub request_of : Processor → Request
request_of cpu = record { number = cpu.regs 0; fd = cpu.regs 3; at = cpu.regs 1; count = cpu.regs 2 }

-- the result of a call goes to eax, and the other registers and the flags are kept
abbrev pub with_result : ℕ → Processor → Processor
with_result result cpu = record cpu { regs = with_register 0 (word_of result) cpu.regs }

abbrev pub after_call : Called → State → Move State
after_call (Ends e) s = Halt [] e
after_call (Gives ls result stores left) s = settled ls (record { cpu = with_result result s.cpu; eip = s.eip; memory = store_all stores s.memory; left = left })

-- by the way of the effect, where the next instruction stands at an address
unfoldable pub finish : Way → ℕ → State → Move State
finish Falls next s = settled [] (at_address next s)
finish (JumpsBy by) next s = settled [] (at_address (next + by) s)
finish (JumpsTo target) next s = settled [] (at_address target s)
finish Repeats next s = settled [] s
finish Calls next s = after_call (system_call (request_of s.cpu) s.memory s.left) (at_address next s)

-- ---- the step
abbrev pub performed : Effect → State → State
performed e s = record s { cpu = e.cpu; memory = store_all e.stores s.memory }

abbrev pub end_of : Stop → End
end_of stop.MemoryFault = MemoryFault
end_of stop.DivideFault = DivideFault
end_of stop.Unspecified = Unspecified

-- the stores are judged after the effect, so that one that faults leaves nothing half done
abbrev pub by_stores : Bool → Effect → ℕ → State → Move State
by_stores false e next s = Halt [] (end_of stop.MemoryFault)
by_stores true e next s = finish e.way next (performed e s)

abbrev pub by_effect : Result Effect Stop → Bool → ℕ → State → Move State
by_effect (Err x) stores next s = Halt [] (end_of x)
by_effect (Ok e) stores next s = by_stores stores e next s

-- the loads before it
abbrev pub by_loads : Bool → Bool → Result Effect Stop → ℕ → State → Move State
by_loads false stores e next s = Halt [] (end_of stop.MemoryFault)
by_loads true stores e next s = by_effect e stores next s

-- one step of an instruction of this length
unfoldable pub step : Instr → ℕ → State → Move State
step i len s =
    let made = accesses machine_naming i s.cpu.regs in
    by_loads (all_allowed Load made s.memory) (all_allowed Store made s.memory) (effect machine_naming i (wrapped (s.eip + len)) s.cpu s.memory) (s.eip + len) s

abbrev pub step_at : Option (Instr × ℕ) → State → Move State
step_at None s = Stand [] Outside
step_at (Some p) s = step p.0 p.1 s

-- the machine; a place where no instruction stands ends the run without a step
unfoldable pub next : Code → State → Move State
next code s = step_at (code s.eip) s
