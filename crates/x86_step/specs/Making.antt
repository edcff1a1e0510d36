-- A step whose effect is made in place: what it leaves where it is made, and where it isn't.
use Rattle.std.specs.Prelude.{◌≡◌, ℕ, ◌+◌, Bool, true, false, List, [], Option, Some, Ok}
use Rattle.outside.specs.Environment.{Environment}
use Rattle.traces.specs.Trace.{Go}
use Rattle.x86_values.specs.declared.word.Flags.{Flags}
use Rattle.x86_values.specs.Words.{known}
use Rattle.memory.specs.Memory.{Memory, store_all, forget_below}
use Rattle.x86_types.specs.declared.instr.Instr.{Instr}
use Rattle.x86_meaning.specs.declared.state.Cpu.{Cpu}
use Rattle.x86_meaning.specs.Registers.{Registers}
use Rattle.x86_meaning.specs.Operands.{SizedOperand}
use Rattle.x86_meaning.specs.Outcomes.{Computation}
use Rattle.x86_meaning.specs.Effect.{effect_of}
use Rattle.x86_step.specs.declared.effect.Stored.{Stored}
use Rattle.x86_step.specs.declared.effect.Effect.{Effect}
use Rattle.x86_step.specs.declared.outcome.Way.{Way}
use Rattle.x86_step.specs.declared.stepped.Stepped.TheVariants as stepped
use Rattle.x86_step.specs.Computed.{way_of}
use Rattle.x86_step.specs.Judged.{store_allowed, stores_of, effect_seen, eip_after}
use Rattle.x86_step.specs.Finishing.{rest_of_step}
use Rattle.x86_step.specs.Steps.{registers_of, state_of, Stays, Steps}

-- registers, flags, a store and a way are made of a processor and its memory, behind an instruction of this length
pub record IsMade (regs : Registers) (flags : Flags) (store : Option Stored) (way : Way) (len : ℕ) (c : Cpu) (m : Memory) (d : Cpu) (n : Memory) : Type 0 where
  pub registers_are : registers_of d.regs ≡ regs
  pub flags_are : d.flags ≡ flags
  pub eip_is : d.eip ≡ eip_after (way_of way) c.eip (c.eip + len)
  pub esp : ℕ
  pub is_esp : known (regs 4) ≡ Some esp
  pub is_allowed : store_allowed store m ≡ true
  pub memory_is : n ≡ forget_below esp (store_all (stores_of store) m)

abbrev pub MadeOrStays : Registers → Flags → Option Stored → Way → ℕ → Bool → Cpu → Memory → Cpu → Memory → Type 0
MadeOrStays regs flags store way len true c m d n = IsMade regs flags store way len c m d n
MadeOrStays regs flags store way len false c m d n = Stays c m d n

-- the step goes on to the next instruction; or nothing has changed
abbrev pub FastOrStays : Instr → ℕ → Bool → Cpu → Memory → Cpu → Memory → Type 0
FastOrStays i len true c m d n = Steps i len stepped.Next c m d n
FastOrStays i len false c m d n = Stays c m d n

-- an outcome is written to these operands and the step goes on; or nothing has changed
abbrev pub PerformsOrStays : List SizedOperand → Computation → ℕ → Bool → Cpu → Memory → Cpu → Memory → Type 0
PerformsOrStays writes k len true c m d n = (e : Effect) × (Ok (effect_seen e) ≡ effect_of writes (registers_of c.regs) k) × ((left : Environment) → rest_of_step e len c m left ≡ Go [] (state_of d n left))
PerformsOrStays writes k len false c m d n = Stays c m d n
