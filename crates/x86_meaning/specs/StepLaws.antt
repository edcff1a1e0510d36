-- The laws of a step, and of the states before and after it.
use Rattle.std.specs.Prelude.{◌≡◌, ◌≢◌, ℕ, ◌+◌, ◌<◌, true, List, [], ◌∷◌, map, length, Some, None, Ok}
use Rattle.x86_values.specs.declared.byte.Byte.TheVariants.{Unspecified}
use Rattle.x86_values.specs.declared.word.Word.{Word}
use Rattle.x86_values.specs.Words.{word_of, known, IsWord}
use Rattle.outside.specs.Environment.{Environment, IsEnvironment}
use Rattle.traces.specs.Trace.{Label, Stand, Go, Outside}
use Rattle.image.specs.declared.image.Image.{Image}
use Rattle.image.specs.Addresses.{byte_at}
use Rattle.memory.specs.Memory.{Place, Memory, Stored, AccessKind, Load, Store, HasBytes, kind_of}
use Rattle.memory.specs.SystemCall.{system_call}
use Rattle.x86_types.specs.declared.operand.Reg.{Reg}
use Rattle.x86_types.specs.declared.operand.Rm.TheVariants as rm
use Rattle.x86_types.specs.declared.operand.Src.TheVariants as src
use Rattle.x86_types.specs.declared.width.Width.TheVariants.{Four}
use Rattle.x86_types.specs.declared.instr.Instr.{Instr}
use Rattle.x86_types.specs.declared.instr.Instr.TheVariants.{Mov, Jmp, Int80}
use Rattle.x86_types.specs.Numbers.{number_of_reg}
use Rattle.x86_code.specs.Code.{Code}
use Rattle.x86_meaning.specs.Registers.{Registers, Processor, Naming, with_register}
use Rattle.x86_meaning.specs.Operands.{Access}
use Rattle.x86_meaning.specs.Effect.{Effect, accesses, effect}
use Rattle.x86_meaning.specs.Step.{State, at_address, settled, request_of, after_call, step, next}
use Rattle.x86_meaning.specs.Run.{start_of, IsStart}

-- ---- what holds of each state of a run
-- esp is known, and no byte of the stack below it
pub record IsForgotten (s : State) : Type 0 where
  pub esp : ℕ
  pub is_esp : known (s.cpu.regs 4) ≡ Some esp
  pub below : (a : ℕ) (p : Place) → a < esp → s.memory a ≡ Some p → p.on_stack ≡ true → p.byte ≡ Unspecified

-- known bytes of registers and of memory are below 256, and the environment is one
pub record IsOfBytes (s : State) : Type 0 where
  pub registers : (k : ℕ) → IsWord (s.cpu.regs k)
  pub memory : HasBytes s.memory
  pub left : IsEnvironment s.left

-- each byte of an image is below 256
abbrev pub IsImageOfBytes : Image → Type 0
IsImageOfBytes image = (a b : ℕ) → byte_at image a ≡ Some b → b < 256

pub record StateLaws : Type 0 where
  -- at a start esp is known and no byte of the stack below it, and so it is after each step
  pub start_is_forgotten : (image : Image) (esp0 : ℕ) (stack : List ℕ) (left : Environment) → IsStart esp0 stack → IsForgotten (start_of image esp0 stack left)
  pub step_forgets : (code : Code) (s t : State) (ls : List Label) → next code s ≡ Go ls t → IsForgotten t
  -- a step maps and unmaps nothing, and changes no permission
  pub step_keeps_kinds : (code : Code) (s t : State) (ls : List Label) → next code s ≡ Go ls t → (a : ℕ) → kind_of (t.memory a) ≡ kind_of (s.memory a)
  -- a start of an image of bytes is of bytes, and each step keeps that
  pub start_is_of_bytes : (image : Image) (esp0 : ℕ) (stack : List ℕ) (left : Environment) → IsImageOfBytes image → IsStart esp0 stack → IsEnvironment left → IsOfBytes (start_of image esp0 stack left)
  pub step_keeps_bytes : (code : Code) (s t : State) (ls : List Label) → IsOfBytes s → next code s ≡ Go ls t → IsOfBytes t

-- ---- the steps of some instructions, and what all effects have in common
-- the addresses of what is stored, with the numbers of bytes, and those of the accesses that store
abbrev pub stored_range : Stored → ℕ × ℕ
stored_range s = (s.at, length s.bytes)

abbrev pub if_store : AccessKind → ℕ × ℕ → List (ℕ × ℕ) → List (ℕ × ℕ)
if_store Load range ranges = ranges
if_store Store range ranges = range ∷ ranges

abbrev pub store_ranges : List Access → List (ℕ × ℕ)
store_ranges [] = []
store_ranges (a ∷ more) = if_store a.kind (a.at, a.size) (store_ranges more)

-- a state with another register, at another address
abbrev pub with_moved : ℕ → ℕ → ℕ → State → State
with_moved n w a s = at_address a (record s { cpu = record s.cpu { regs = with_register n (word_of w) s.cpu.regs } })

pub record StepLaws : Type 0 where
  -- MOV of a constant to a register
  pub move : (to : Reg) (from len : ℕ) (s : State) → step (Mov Four (rm.Reg to) (src.Imm from)) len s ≡ settled [] (with_moved (number_of_reg to) from (s.eip + len) s)
  -- JMP by a distance from the next instruction
  pub jump : (by len : ℕ) (s : State) → step (Jmp by) len s ≡ settled [] (at_address (s.eip + len + by) s)
  -- INT 80h
  pub call : (len : ℕ) (s : State) → step Int80 len s ≡ after_call (system_call (request_of s.cpu) s.memory s.left) (at_address (s.eip + len) s)
  -- a register that is set, and the others
  pub set_there : (n : ℕ) (w : Word) (regs : Registers) → with_register n w regs n ≡ w
  pub set_elsewhere : (n : ℕ) (w : Word) (regs : Registers) (k : ℕ) → k ≢ n → with_register n w regs k ≡ regs k
  -- the machine steps by the instruction that stands there, and stands where none does
  pub at_instruction : (code : Code) (s : State) (i : Instr) (len : ℕ) → code s.eip ≡ Some (i, len) → next code s ≡ step i len s
  pub at_none : (code : Code) (s : State) → code s.eip ≡ None → next code s ≡ Stand [] Outside
  -- what an effect stores are the stores among its accesses, in their order
  pub stores_are_accesses : (v : Naming) (i : Instr) (n : ℕ) (cpu : Processor) (m : Memory) (e : Effect) → effect v i n cpu m ≡ Ok e → map stored_range e.stores ≡ store_ranges (accesses v i cpu.regs)
