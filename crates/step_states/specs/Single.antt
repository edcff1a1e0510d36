-- A step of the instruction that some bytes begin with.
use Rattle.std.specs.Prelude.{◌≡◌, ℕ, List, Option, Some, None, Result, Ok, Err}
use Rattle.std.specs.declared.alloc.AllocError.{AllocError}
use Rattle.memory.specs.Memory.{Memory}
use Rattle.x86_types.specs.declared.instr.Instr.{Instr}
use Rattle.x86_grammar.specs.Front.{front}
use Rattle.x86_meaning.specs.declared.state.Cpu.{Cpu}
use Rattle.x86_step.specs.declared.stepped.Stepped.{Stepped}
use Rattle.x86_step.specs.Steps.{Steps, Stays}

-- the step of that instruction, of its length
abbrev pub StepsBy : Option (Instr × ℕ) → Stepped → Cpu → Memory → Cpu → Memory → Type 0
StepsBy None answer c m d n = ⊥
StepsBy (Some p) answer c m d n = Steps p.0 p.1 answer c m d n

-- a step, or nothing where the bytes begin with no instruction or memory is wanting
abbrev pub MakesOne : List ℕ → Result (Option Stepped) AllocError → Cpu → Memory → Cpu → Memory → Type 0
MakesOne bytes (Ok (Some answer)) c m d n = StepsBy (front bytes) answer c m d n
MakesOne bytes (Ok None) c m d n = (front bytes ≡ None) × Stays c m d n
MakesOne bytes (Err _) c m d n = Stays c m d n
