-- The run of the processor over laid code, beside the run of the code. All of this is own.
use Rattle.std.specs.Prelude.{◌≡◌, ℕ, ◌+◌, ◌*◌, ◌<◌, ◌≤◌, true, false, cond, List, map, All, Contains, Some}
use Rattle.outside.specs.Environment.{IsEnvironment}
use Rattle.x86_values.specs.Words.{word_of, word_list}
use Rattle.x86_values.specs.LessSpecified.{WordLessSpecified, FlagsLessSpecified}
use Rattle.traces.specs.Trace.{run}
use Rattle.traces.specs.Steps.{clock_of}
use Rattle.traces.specs.Agree.{Covers, Costs}
use Rattle.x86_types.specs.declared.instr.Instr.{Instr}
use Rattle.x86_types.specs.declared.instr.Instr.TheVariants as instr
use Rattle.memory.specs.Memory.{Memory, Load, allows_all, bytes_at, kind_of}
use Rattle.memory.specs.LessSpecified.{MemoryLessSpecified}
use Rattle.x86_code.specs.Code.{Code}
use Rattle.x86_meaning.specs.Step.{State, next}
use Rattle.private_memory.specs.PrivateArea.{is_unreserved, is_clear_access}
use Rattle.named_code.specs.Items.{Item, CodeBlock}
use Rattle.named_code.specs.Running.{CodeState, CodePoint, AtNumber, AtOld, Inside, CodePosition, Marks}
use Rattle.named_code.specs.TestedRun.{tested_next}
use Rattle.named_code.specs.Weight.{step_cost}
use Rattle.laid_code.specs.Laid.{Places, Lies, place_of_old, IsLaid, IsLayable, AreLayable}

-- ---- the states of both runs
-- a memory that is at reserved addresses as at first
unfoldable pub with_reserved : Memory → Memory → Memory
with_reserved first l a = cond (is_unreserved a) (l a) (first a)

-- reserved addresses can be read and written by the code, whatever is there for the processor; else the code's memory is less specified
pub record AreMemoriesBeside (first l m : Memory) : Type 0 where
  pub free : (a : ℕ) → is_unreserved a ≡ false → kind_of (l a) ≡ Some (true, false)
  pub less : MemoryLessSpecified (with_reserved first l) m

-- esp is 0, so that no byte is below it
pub record AreStatesBeside (first : Memory) (s : CodeState) (t : State) : Type 0 where
  pub registers : (k : ℕ) → k < 8 → WordLessSpecified (s.cpu.regs k) (t.cpu.regs k)
  pub esp : s.cpu.regs 4 ≡ word_of 0
  pub flags : FlagsLessSpecified s.cpu.flags t.cpu.flags
  pub memory : AreMemoriesBeside first s.memory t.memory
  pub left : s.left ≡ t.left
  pub environment : IsEnvironment s.left

-- where the processor stands
abbrev pub StandsAt : Places → Code → List CodeBlock → CodePoint → ℕ → Type 0
StandsAt l code blocks (AtNumber n) q = Contains (map (λ (b : CodeBlock). b.number) blocks) n × (q ≡ l.by_number n)
StandsAt l code blocks (AtOld a) q = q ≡ place_of_old l a
StandsAt l code blocks (Inside items) q = Lies l code q items × All (IsLayable (map (λ (b : CodeBlock). b.number) blocks)) items

pub record IsBeside (l : Places) (code : Code) (blocks : List CodeBlock) (first : Memory) (p : CodePosition) (t : State) : Type 0 where
  pub stands : StandsAt l code blocks p.point t.eip
  pub states : AreStatesBeside first p.state t

-- code that is laid, beside what stands at reserved addresses at first
pub record LaidCode : Type 0 where
  pub places : Places
  pub code : Code
  pub blocks : List CodeBlock
  pub first : Memory

pub record BesidePair (x : LaidCode) : Type 0 where
  pub position : CodePosition
  pub state : State
  pub beside : IsBeside x.places x.code x.blocks x.first position state

-- the table lies at reserved addresses, and can be read
pub record HasAddressTable (l : Places) (first : Memory) : Type 0 where
  pub words : (k : ℕ) → k < l.count → bytes_at first (l.table + 4 * k) 4 ≡ word_list (word_of (l.by_address (l.span + k)))
  pub readable : (k : ℕ) → k < l.count → allows_all Load first (l.table + 4 * k) 4 ≡ true
  pub reserved : (a : ℕ) → l.table ≤ a → a < l.table + 4 * l.count → is_unreserved a ≡ false

-- ---- how many steps an item takes
abbrev pub instr_steps : Instr → ℕ
instr_steps (instr.JmpTo to) = 6
instr_steps _ = 1

abbrev pub laid_steps : Item → ℕ
laid_steps x = instr_steps x.instr

pub record LaidLaws : Type 0 where
  -- the processor does what the code does, whose accesses are clear, in so many steps
  pub follows : (marks : Marks) (blocks : List CodeBlock) (l : Places) (code : Code) (first : Memory) → AreLayable blocks → IsLaid l code blocks → HasAddressTable l first →
      (p : CodePosition) (t : State) → IsBeside l code blocks first p t
      → Covers (Costs (clock_of (tested_next is_clear_access marks blocks) (step_cost laid_steps blocks) p) 0) (run (tested_next is_clear_access marks blocks) p) (run (next code) t)
