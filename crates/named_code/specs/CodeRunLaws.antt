-- The laws of code over places.
use Rattle.std.specs.Prelude.{◌≡◌, ℕ, true, List, All, Some, Ok}
use Rattle.outside.specs.Environment.{Environment}
use Rattle.traces.specs.Trace.{End, Grows}
use Rattle.traces.specs.Moves.{OneEventStep}
use Rattle.traces.specs.Steps.{clock_of}
use Rattle.traces.specs.Weight.{PacedBy, Paced, OneEvent}
use Rattle.memory.specs.Memory.{Memory, with_stack}
use Rattle.memory.specs.CallLaws.{is_own_end}
use Rattle.x86_types.specs.declared.instr.Instr.{Instr}
use Rattle.x86_types.specs.declared.instr.Instr.TheVariants.{Int80}
use Rattle.x86_meaning.specs.Outcomes.{Calls}
use Rattle.x86_meaning.specs.Registers.{Naming, Processor}
use Rattle.x86_meaning.specs.Effect.{Effect, effect}
use Rattle.named_code.specs.Items.{Item, CodeBlock}
use Rattle.named_code.specs.Running.{CodePoint, AtNumber, AtOld, Inside, CodePosition, Marks, code_next}
use Rattle.named_code.specs.CodeRun.{first_position, blocks_run}
use Rattle.named_code.specs.Weight.{Next, course_of, IsWayOf, IsOnce, step_cost, BoundsCode}

-- at a jump, or within items none of which comes again at once
abbrev pub IsOncePoint : CodePoint → Type 0
IsOncePoint (AtNumber n) = Unit {0}
IsOncePoint (AtOld a) = Unit {0}
IsOncePoint (Inside items) = All IsOnce items

pub record OncePosition : Type 0 where
  pub position : CodePosition
  pub once : IsOncePoint position.point

pub record CodeRunLaws : Type 0 where
  -- more steps show the same and more, and an end stays
  pub grow : (marks : Marks) (code : List CodeBlock) (m : Memory) (entry esp0 : ℕ) (stack : List ℕ) (left : Environment) → Grows (blocks_run marks code m entry esp0 stack left)
  -- each step shows at most one event, and none where the run stands
  pub move_event : (marks : Marks) (code : List CodeBlock) (p : CodePosition) → OneEventStep (code_next marks code p)
  pub one_event : (marks : Marks) (code : List CodeBlock) (m : Memory) (entry esp0 : ℕ) (stack : List ℕ) (left : Environment) → OneEvent (blocks_run marks code m entry esp0 stack left)
  -- no run stops or has a guard event
  pub own_end : (marks : Marks) (code : List CodeBlock) (m : Memory) (entry esp0 : ℕ) (stack : List ℕ) (left : Environment) (n : ℕ) (e : End) → (blocks_run marks code m entry esp0 stack left n).end ≡ Some e → is_own_end e ≡ true
  -- turns cost what is read off the text
  pub paced : (marks : Marks) (cost : Item → ℕ) (rest : ℕ → ℕ) (w : ℕ) (code : List CodeBlock) (m : Memory) (entry esp0 : ℕ) (stack : List ℕ) (left : Environment) → BoundsCode marks cost rest w code
      → PacedBy (clock_of (code_next marks code) (step_cost cost code) (first_position (with_stack esp0 stack m) entry esp0 left)) w 0 (blocks_run marks code m entry esp0 stack left)
  -- so they have that weight in steps where each instruction counts as one
  pub paced_in_steps : (marks : Marks) (rest : ℕ → ℕ) (w : ℕ) (code : List CodeBlock) (m : Memory) (entry esp0 : ℕ) (stack : List ℕ) (left : Environment) → BoundsCode marks (λ x. 1) rest w code → Paced w 0 (blocks_run marks code m entry esp0 stack left)
  -- the way of an effect is one of the course that is read off the instruction
  pub way : (v : Naming) (i : Instr) (n : ℕ) (cpu : Processor) (m : Memory) (e : Effect) → effect v i n cpu m ≡ Ok e → IsWayOf (course_of i) e.way
  -- the next instruction follows through a call behind INT 80h alone
  pub calls : (v : Naming) (i : Instr) (n : ℕ) (cpu : Processor) (m : Memory) (e : Effect) → effect v i n cpu m ≡ Ok e → course_of i ≡ Next → e.way ≡ Calls → i ≡ Int80
