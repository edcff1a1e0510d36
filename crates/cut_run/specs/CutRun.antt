-- The run of a program that ends before a step where a guard event holds. All of this is own.
use Rattle.std.specs.Prelude.{ℕ, ◌==◌, Bool, true, false, List, [], find, Option, Some, None, is_some}
use Rattle.outside.specs.Environment.{Environment}
use Rattle.traces.specs.Trace as trace
use Rattle.traces.specs.Trace.{GuardKind, Guard, Move, Behaviour, run}
use Rattle.traces.specs.Machines.{Cut, turned, guarded}
use Rattle.image.specs.declared.image.Image.{Image}
use Rattle.memory.specs.Memory.{Memory, memory_of}
use Rattle.x86_code.specs.Code.{Code, code_of}
use Rattle.x86_meaning.specs.Step.{State, next}
use Rattle.x86_meaning.specs.Run.{start_over}
use Rattle.plan_types.specs.Contents.{FoundContents}
use Rattle.cut_run.specs.declared.event.GuardEvent.{GuardEvent}
use Rattle.cut_run.specs.declared.event.GuardEvent.TheVariants as event

-- the kind that an end tells
abbrev pub kind_of : GuardEvent → GuardKind
kind_of event.Code = trace.Code
kind_of event.Return = trace.Return
kind_of event.Depth = trace.Depth
kind_of event.Frame = trace.Frame

-- an event ends the run at the address of the step that isn't made, and shows nothing
abbrev pub cut_at : ℕ → Option GuardEvent → Option Cut
cut_at eip None = None
cut_at eip (Some e) = Some (record { trace = []; end = Guard (kind_of e) eip })

-- ---- the events
-- an instruction is found at an address
abbrev pub is_place : FoundContents → ℕ → Bool
is_place found a = is_some (find (λ p. p.at == a) found.code)

-- the place that is reached isn't found
abbrev pub code_event : Bool → Option GuardEvent
code_event true = None
code_event false = Some event.Code

-- The event before a step. Without separable procedures this one is possible alone.
unfoldable pub event_at : FoundContents → State → Option GuardEvent
event_at found s = code_event (is_place found s.eip)

-- ---- the cut run
-- the machine that is cut before a step where an event holds, each of whose steps is a turn at the address of its instruction
abbrev pub cut_machine : Code → FoundContents → State → Move State
cut_machine code found = turned (λ s. s.eip) (guarded (λ s. cut_at s.eip (event_at found s)) (next code))

-- the instructions and the memory that it begins with are two things
unfoldable pub cut_run_over : Code → FoundContents → Memory → ℕ → ℕ → List ℕ → Environment → Behaviour
cut_run_over code found m entry esp0 stack left = run (cut_machine code found) (start_over m entry esp0 stack left)

-- that of an image
abbrev pub cut_run : Image → FoundContents → ℕ → List ℕ → Environment → Behaviour
cut_run image found esp0 stack left = cut_run_over (code_of image) found (memory_of image) image.entry esp0 stack left
