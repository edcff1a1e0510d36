-- Runs of programs. The instructions and the memory that a run begins with are two things.
use Rattle.std.specs.Prelude.{◌≡◌, ℕ, ◌+◌, ◌%◌, ◌<◌, ◌≤◌, ◌==◌, cond, List, length, All}
use Rattle.outside.specs.Environment.{Environment}
use Rattle.x86_values.specs.Words.{word_of}
use Rattle.x86_values.specs.Results.{no_flags}
use Rattle.traces.specs.Trace.{Move, Behaviour, run}
use Rattle.traces.specs.Machines.{turned}
use Rattle.image.specs.declared.image.Image.{Image}
use Rattle.memory.specs.Memory.{Memory, memory_of, with_stack}
use Rattle.x86_code.specs.Code.{Code, code_of}
use Rattle.x86_meaning.specs.Registers.{Registers, Processor}
use Rattle.x86_meaning.specs.Step.{State, next}

abbrev pub first_registers : ℕ → Registers
first_registers esp0 k = cond (k == 4) (word_of esp0) (word_of 0)

-- the processor at process entry (psABI, Intel386 supplement, "Process Initialization"): esp is given; that the other registers are
-- 0 and the flags unspecified is own
abbrev pub first_processor : ℕ → Processor
first_processor esp0 = record { regs = first_registers esp0; flags = no_flags }

-- a run begins at an entry, over a memory to which the stack is added
unfoldable pub start_over : Memory → ℕ → ℕ → List ℕ → Environment → State
start_over m entry esp0 stack left = record { cpu = first_processor esp0; eip = entry; memory = with_stack esp0 stack m; left = left }

-- that of an image
abbrev pub start_of : Image → ℕ → List ℕ → Environment → State
start_of image esp0 stack left = start_over (memory_of image) image.entry esp0 stack left

-- which starts there are (own)
pub record IsStart (esp0 : ℕ) (stack : List ℕ) : Type 0 where
  pub aligned : esp0 % 4 ≡ 0
  pub high : 0x80000000 ≤ esp0
  pub at_least : 128 ≤ length stack
  pub at_most : length stack ≤ 131072
  pub bytes : All (λ b. b < 256) stack
  pub within : esp0 + length stack ≤ 0xFFFFE000

-- the machine of some instructions, each of whose steps is a turn at the address of its instruction
abbrev pub machine : Code → State → Move State
machine code = turned (λ t. t.eip) (next code)

-- What is seen of their run from a state. A run that is cut earlier is this run with an earlier stop.
unfoldable pub run_from : Code → State → Behaviour
run_from code s = run (machine code) s

-- the run of an image
abbrev pub run_of : Image → ℕ → List ℕ → Environment → Behaviour
run_of image esp0 stack left = run_from (code_of image) (start_of image esp0 stack left)
