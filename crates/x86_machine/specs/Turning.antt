-- What one turn of a machine does that runs over a host that tells.
use Rattle.std.specs.Prelude.{◌≡◌, ℕ, List, [], ◌++◌, Option, Some, None, Result, Ok, Err}
use Rattle.std.specs.declared.alloc.AllocError.{AllocError}
use Rattle.outside.specs.declared.answer.Answer.{Answer}
use Rattle.outside.specs.Environment.{Environment}
use Rattle.traces.specs.Trace.{Label, End, Move, Stand, Go, Halt}
use Rattle.traces.specs.Trace as trace
use Rattle.mem_pages.specs.Ends.{end_of_run}
use Rattle.mem_pages.specs.declared.end.RunEnd.{RunEnd}
use Rattle.mem_pages.specs.declared.end.RunEnd.TheVariants as run
use Rattle.memory.specs.Memory.{Memory}
use Rattle.memory.specs.SystemCall.{Request, system_call}
use Rattle.x86_types.specs.declared.instr.Instr.{Instr}
use Rattle.x86_meaning.specs.declared.state.Cpu.{Cpu}
use Rattle.x86_meaning.specs.Step.{State, after_call, step}
use Rattle.x86_meaning.specs.Run.{machine}
use Rattle.x86_step.specs.Steps.{registers_of, state_of}
use Rattle.sw_host.specs.Told.{Told}
use Rattle.system_calls.specs.Given.{environment, HasGiven}
use Rattle.x86_machine.specs.declared.machine.Machine.{Machine}
use Rattle.x86_machine.specs.declared.turn.Turned.{Turned}
use Rattle.x86_machine.specs.declared.turn.Turned.TheVariants as turned
use Rattle.x86_machine.specs.Standing.{code_in, state_in, steps_in, ended_in}
use Rattle.x86_machine.specs.Running.{steps_after}

-- a move that goes on, whatever answers are left after those that the host gave
pub record MoveGoes (move : Environment → Move State) (to : Environment → State) (a b : Told) : Type 0 where
  pub answers : List Answer
  pub labels : List Label
  pub goes : (rest : List Answer) → move (environment a (answers ++ rest)) ≡ Go labels (to (environment b rest))
  pub host : HasGiven answers 0 labels a b

-- a move that halts with this end
pub record MoveHalts (move : Environment → Move State) (end : RunEnd) (a b : Told) : Type 0 where
  pub answers : List Answer
  pub labels : List Label
  pub last : End
  pub is_last : end_of_run end ≡ Some last
  pub halts : (rest : List Answer) → move (environment a (answers ++ rest)) ≡ Halt labels last
  pub host : HasGiven answers 0 labels a b

-- some calls of the host gave no answer
pub record Wanted (a b : Told) : Type 0 where
  pub calls : ℕ
  pub host : HasGiven [] calls [] a b

-- ---- the step of a system call, where eip has moved on
-- what a call is asked by: eax, ebx, ecx and edx
abbrev pub asked : Cpu → Request
asked c = record { number = registers_of c.regs 0; fd = registers_of c.regs 3; at = registers_of c.regs 1; count = registers_of c.regs 2 }

-- a state in which a call is made, with what is left of the outside
abbrev pub called_from : Cpu → Memory → Environment → Move State
called_from c m left = after_call (system_call (asked c) m left) (state_of c m left)

-- what making it does, by its answer: it goes on, or the run ends, or memory was wanting and nothing has changed
abbrev pub CallsOn : Result (Option RunEnd) AllocError → Cpu → Memory → Cpu → Memory → Told → Told → Type 0
CallsOn (Ok None) c m d n a b = MoveGoes (called_from c m) (state_of d n) a b
CallsOn (Ok (Some end)) c m d n a b = MoveHalts (called_from c m) end a b
CallsOn (Err _) c m d n a b = (d ≡ c) × (n ≡ m) × Wanted a b

-- ---- a step
-- what making a step of an instruction does, by its answer: it goes on, or the run ends, or memory was wanting and nothing has changed
abbrev pub StepsOn : Instr → ℕ → Result (Option RunEnd) AllocError → Cpu → Memory → Cpu → Memory → Told → Told → Type 0
StepsOn i len (Ok None) c m d n a b = MoveGoes (λ left. step i len (state_of c m left)) (state_of d n) a b
StepsOn i len (Ok (Some end)) c m d n a b = MoveHalts (λ left. step i len (state_of c m left)) end a b
StepsOn i len (Err _) c m d n a b = (d ≡ c) × (n ≡ m) × Wanted a b

-- ---- a turn
-- it stands as it did
pub record StandsAsBefore (m n : Machine) : Type 0 where
  pub code : code_in n ≡ code_in m
  pub state : (left : Environment) → state_in n left ≡ state_in m left
  pub steps : steps_in n ≡ steps_in m
  pub ended : ended_in n ≡ ended_in m

-- it made one step, and goes on
pub record MadeStep (m n : Machine) (a b : Told) : Type 0 where
  pub move : MoveGoes (λ left. machine (code_in m) (state_in m left)) (state_in n) a b
  pub code : code_in n ≡ code_in m
  pub counted : steps_in n ≡ steps_after 1 (steps_in m)
  pub ended : ended_in n ≡ None

-- it made a step that ends its run so
pub record MadeLast (end : RunEnd) (m n : Machine) (a b : Told) : Type 0 where
  pub move : MoveHalts (λ left. machine (code_in m) (state_in m left)) end a b
  pub code : code_in n ≡ code_in m
  pub counted : steps_in n ≡ steps_after 1 (steps_in m)
  pub ended : ended_in n ≡ Some end

-- no instruction stands where it is, so its run has ended without a step
pub record StoodOutside (m n : Machine) : Type 0 where
  pub move : (left : Environment) → machine (code_in m) (state_in m left) ≡ Stand [] trace.Outside
  pub code : code_in n ≡ code_in m
  pub steps : steps_in n ≡ steps_in m
  pub ended : ended_in n ≡ Some run.Outside

-- what a turn does, by its answer
abbrev pub Turns : Result Turned AllocError → Machine → Machine → Told → Told → Type 0
Turns (Ok turned.On) m n a b = MadeStep m n a b
Turns (Ok (turned.Ended end)) m n a b = MadeLast end m n a b
Turns (Ok turned.Outside) m n a b = StoodOutside m n × (b ≡ a)
Turns (Err _) m n a b = StandsAsBefore m n × Wanted a b

-- where no step is to be made: an instruction stands there, or none, or memory was wanting
pub record Waits (m n : Machine) : Type 0 where
  pub as_before : StandsAsBefore m n
  pub awake : (left : Environment) → trace.at_rest (machine (code_in m) (state_in m left)) ≡ trace.seen [] None

abbrev pub Rests : Result RunEnd AllocError → Machine → Machine → Type 0
Rests (Ok run.Spent) m n = Waits m n
Rests (Ok run.Outside) m n = StoodOutside m n
Rests (Ok _) m n = ⊥
Rests (Err _) m n = StandsAsBefore m n
