-- The beginning of laid code: esp is stored where the code finds it, and is made 0. All of this is own.
use Rattle.std.specs.Prelude.{◌≡◌, ℕ, ◌+◌, ◌<◌, ◌≤◌, Bool, true, false, not, List, [], Option, Some, None}
use Rattle.outside.specs.Environment.{Environment, IsEnvironment}
use Rattle.x86_values.specs.Words.{word_of, word_list}
use Rattle.traces.specs.Steps.{Goes}
use Rattle.x86_types.specs.declared.operand.Reg.TheVariants.{Esp}
use Rattle.x86_types.specs.declared.operand.Rm.TheVariants as rm
use Rattle.x86_types.specs.declared.operand.Src.TheVariants as src
use Rattle.x86_types.specs.declared.width.Width.TheVariants.{Four}
use Rattle.x86_types.specs.declared.instr.Instr.{Instr}
use Rattle.x86_types.specs.declared.instr.Instr.TheVariants as instr
use Rattle.memory.specs.Memory.{Memory, HasBytes, kind_of, put_all, with_stack}
use Rattle.memory.specs.LessSpecified.{PlaceLessSpecified}
use Rattle.x86_code.specs.Code.{Code}
use Rattle.x86_meaning.specs.Step.{State, next}
use Rattle.x86_meaning.specs.Run.{start_over, IsStart}
use Rattle.private_memory.specs.PrivateArea.{is_unreserved}
use Rattle.named_code.specs.declared.placed.Home.{Home}
use Rattle.named_code.specs.Items.{CodeBlock, word_at}
use Rattle.named_code.specs.CodeRun.{with_cells, first_position}
use Rattle.laid_code.specs.Laid.{Places, Stands, Leads, place_of_old}
use Rattle.laid_code.specs.LaidRun.{IsBeside}

-- ---- the instructions
abbrev pub esp_to : ℕ → Instr
esp_to cell = instr.Mov Four (rm.Mem (word_at cell)) (src.Reg Esp)

-- esp goes to the first cell and to another, becomes 0, and the run goes to the place of the entry
pub record Begins (l : Places) (code : Code) (q cell entry : ℕ) : Type 0 where
  pub q1 : ℕ
  pub stores : Stands code q (esp_to 0x75000000) q1
  pub q2 : ℕ
  pub stores_again : Stands code q1 (esp_to cell) q2
  pub q3 : ℕ
  pub clears : Stands code q2 (instr.Mov Four (rm.Reg Esp) (src.Imm 0)) q3
  pub q4 : ℕ
  pub enters : Leads code q3 instr.Jmp q4 (place_of_old l entry)

-- ---- the memories of the code and of the processor, without the stack
-- both words of esp are stored
unfoldable pub with_esp : ℕ → ℕ → Memory → Memory
with_esp cell esp0 n = put_all cell (word_list (word_of esp0)) (put_all 0x75000000 (word_list (word_of esp0)) n)

abbrev pub is_off_stack : Option (Bool × Bool) → Bool
is_off_stack None = true
is_off_stack (Some k) = not k.1

-- reserved addresses can be read and written by the code; elsewhere its memory, with each name in its cell, is less specified than the
-- processor's with both words. The cells can be written, and the stack is nowhere
pub record CanBegin (homes : List Home) (cell esp0 : ℕ) (m n : Memory) : Type 0 where
  pub from : 0x75000000 ≤ cell
  pub to : cell + 4 ≤ 0x75800000
  pub free : (a : ℕ) → is_unreserved a ≡ false → kind_of (m a) ≡ Some (true, false)
  pub beside : (a : ℕ) → is_unreserved a ≡ true → PlaceLessSpecified (with_cells esp0 homes m a) (with_esp cell esp0 n a)
  pub cells : (a : ℕ) → 0x75000000 ≤ a → a < 0x75800000 → kind_of (n a) ≡ Some (true, false)
  pub off_stack : (a : ℕ) → is_off_stack (kind_of (n a)) ≡ true
  pub bytes : HasBytes n

-- after four steps the processor stands beside the code's first position
pub record HasBegun (l : Places) (code : Code) (blocks : List CodeBlock) (homes : List Home) (entry q esp0 : ℕ) (stack : List ℕ) (left : Environment) (m n : Memory) : Type 0 where
  pub state : State
  pub goes : Goes (next code) (start_over n q esp0 stack left) 4 [] state
  pub beside : IsBeside l code blocks n (first_position (with_stack esp0 stack (with_cells esp0 homes m)) entry esp0 left) state

pub record BeginningLaws : Type 0 where
  pub begins : (l : Places) (code : Code) (blocks : List CodeBlock) (homes : List Home) (cell entry q esp0 : ℕ) (stack : List ℕ) (left : Environment) (m n : Memory) →
      IsStart esp0 stack → IsEnvironment left → Begins l code q cell entry → CanBegin homes cell esp0 m n → HasBegun l code blocks homes entry q esp0 stack left m n
