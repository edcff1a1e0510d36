-- What one step of the processor does to its registers and its pages, by its answer.
use Rattle.std.specs.Prelude.{◌≡◌, ℕ, ◌+◌, List, [], slice_index_or, Result, Ok, Err}
use Rattle.std.specs.declared.alloc.AllocError.{AllocError}
use Rattle.outside.specs.Environment.{Environment}
use Rattle.x86_values.specs.declared.word.Word.{Word}
use Rattle.x86_values.specs.Words.{word_of}
use Rattle.traces.specs.Trace.{End, Go, Halt}
use Rattle.traces.specs.Trace as trace
use Rattle.memory.specs.Memory.{Memory, wrapped}
use Rattle.x86_types.specs.declared.instr.Instr.{Instr}
use Rattle.x86_types.specs.declared.instr.Instr.TheVariants.{Int80}
use Rattle.x86_meaning.specs.declared.state.Cpu.{Cpu}
use Rattle.x86_meaning.specs.Registers.{Registers}
use Rattle.x86_meaning.specs.Step.{State, step}
use Rattle.x86_step.specs.declared.stepped.Stepped.{Stepped}
use Rattle.x86_step.specs.declared.stepped.Stepped.TheVariants as stepped

-- the registers by number; there are eight, and a further place would hold 0
abbrev pub registers_of : List Word → Registers
registers_of regs k = slice_index_or regs k (word_of 0)

-- the state of a processor over a memory, with what is left of the outside
abbrev pub state_of : Cpu → Memory → Environment → State
state_of c m left = record { cpu = record { regs = registers_of c.regs; flags = c.flags }; eip = c.eip; memory = m; left = left }

-- the step halts with this end, whatever is left of the outside; nothing has changed
pub record HaltsWith (i : Instr) (len : ℕ) (end : End) (c : Cpu) (m : Memory) (d : Cpu) (n : Memory) : Type 0 where
  pub halts : (left : Environment) → step i len (state_of c m left) ≡ Halt [] end
  pub cpu : d ≡ c
  pub memory : n ≡ m

-- the instruction is a system call: eip has moved on, and the call is not made yet
pub record IsCall (i : Instr) (len : ℕ) (c : Cpu) (m : Memory) (d : Cpu) (n : Memory) : Type 0 where
  pub is_call : i ≡ Int80
  pub cpu : d ≡ record c { eip = wrapped (c.eip + len) }
  pub memory : n ≡ m

-- what a step of an instruction of this length does, by its answer
abbrev pub Steps : Instr → ℕ → Stepped → Cpu → Memory → Cpu → Memory → Type 0
Steps i len stepped.Next c m d n = (left : Environment) → step i len (state_of c m left) ≡ Go [] (state_of d n left)
Steps i len stepped.Call c m d n = IsCall i len c m d n
Steps i len stepped.MemoryFault c m d n = HaltsWith i len trace.MemoryFault c m d n
Steps i len stepped.DivideFault c m d n = HaltsWith i len trace.DivideFault c m d n
Steps i len stepped.Unspecified c m d n = HaltsWith i len trace.Unspecified c m d n

-- nothing has changed, where memory was wanting
pub record Stays (c : Cpu) (m : Memory) (d : Cpu) (n : Memory) : Type 0 where
  pub cpu : d ≡ c
  pub memory : n ≡ m

abbrev pub StepsOrStays : Instr → ℕ → Result Stepped AllocError → Cpu → Memory → Cpu → Memory → Type 0
StepsOrStays i len (Ok answer) c m d n = Steps i len answer c m d n
StepsOrStays i len (Err _) c m d n = Stays c m d n
