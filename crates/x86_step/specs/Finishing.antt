-- How a step is finished once its effect is known.
use Rattle.std.specs.Prelude.{◌≡◌, ℕ, ◌+◌, Bool, true, false, [], Option, Result, Ok, Err}
use Rattle.std.specs.declared.alloc.AllocError.{AllocError}
use Rattle.outside.specs.Environment.{Environment}
use Rattle.traces.specs.Trace.{End, Move, Go, Halt}
use Rattle.traces.specs.Trace as trace
use Rattle.memory.specs.Memory.{Memory, store_all}
use Rattle.mem_pages.specs.declared.pages.Pages.{Pages}
use Rattle.mem_pages.specs.declared.fault.PageFault.{PageFault}
use Rattle.mem_pages.specs.declared.fault.PageFault.TheVariants as fault
use Rattle.mem_pages.specs.Contents.{memory_in}
use Rattle.mem_pages.specs.Accesses.{SameMemory}
use Rattle.x86_meaning.specs.declared.state.Cpu.{Cpu}
use Rattle.x86_meaning.specs.declared.stop.Stop.{Stop}
use Rattle.x86_meaning.specs.declared.stop.Stop.TheVariants as stop
use Rattle.x86_meaning.specs.Outcomes.{Way, Falls, JumpsBy, JumpsTo, Repeats, Calls}
use Rattle.x86_meaning.specs.Step.{State, by_stores}
use Rattle.x86_step.specs.declared.effect.Stored.{Stored}
use Rattle.x86_step.specs.declared.effect.Effect.{Effect}
use Rattle.x86_step.specs.declared.stepped.Stepped.{Stepped}
use Rattle.x86_step.specs.declared.stepped.Stepped.TheVariants as stepped
use Rattle.x86_step.specs.Judged.{store_allowed, stores_of, effect_seen}
use Rattle.x86_step.specs.Steps.{state_of, Stays}

-- a way goes through a system call
abbrev pub is_call : Way → Bool
is_call Falls = false
is_call (JumpsBy by) = false
is_call (JumpsTo target) = false
is_call Repeats = false
is_call Calls = true

-- the answer of a stop
abbrev pub stepped_by : Stop → Stepped
stepped_by stop.MemoryFault = stepped.MemoryFault
stepped_by stop.DivideFault = stepped.DivideFault
stepped_by stop.Unspecified = stepped.Unspecified

-- The store of an effect: it is made; or it isn't allowed; or memory is wanting.
abbrev pub StoresIf : Option Stored → Result (Unit {0}) PageFault → Pages → Pages → Type 0
StoresIf s (Ok _) p q = (store_allowed s (memory_in p) ≡ true) × (memory_in q ≡ store_all (stores_of s) (memory_in p))
StoresIf s (Err fault.NotMapped) p q = (store_allowed s (memory_in p) ≡ false) × SameMemory p q
StoresIf s (Err fault.NotWritable) p q = (store_allowed s (memory_in p) ≡ false) × SameMemory p q
StoresIf s (Err fault.Memory) p q = SameMemory p q

-- what is left of a step of an instruction of this length, over each environment
abbrev pub rest_of_step : Effect → ℕ → Cpu → Memory → Environment → Move State
rest_of_step e len c m left = by_stores (store_allowed e.store m) (effect_seen e) (c.eip + len) (state_of c m left)

-- a move halts with this end, whatever is left of the outside; nothing has changed
pub record HaltsBy (move : Environment → Move State) (end : End) (c : Cpu) (m : Memory) (d : Cpu) (n : Memory) : Type 0 where
  pub halts : (left : Environment) → move left ≡ Halt [] end
  pub cpu : d ≡ c
  pub memory : n ≡ m

-- what a move that makes no system call does, by its answer
abbrev pub Moves : (Environment → Move State) → Stepped → Cpu → Memory → Cpu → Memory → Type 0
Moves move stepped.Next c m d n = (left : Environment) → move left ≡ Go [] (state_of d n left)
Moves move stepped.Call c m d n = ⊥
Moves move stepped.MemoryFault c m d n = HaltsBy move trace.MemoryFault c m d n
Moves move stepped.DivideFault c m d n = HaltsBy move trace.DivideFault c m d n
Moves move stepped.Unspecified c m d n = HaltsBy move trace.Unspecified c m d n

abbrev pub MovesOrStays : (Environment → Move State) → Result Stepped AllocError → Cpu → Memory → Cpu → Memory → Type 0
MovesOrStays move (Ok answer) c m d n = Moves move answer c m d n
MovesOrStays move (Err _) c m d n = Stays c m d n
