-- Worked rows of code whose accesses keep apart: which accesses end it, and what is shown then.
use Rattle.std.specs.Prelude.{◌≡◌, ℕ, ◌==◌, cond, true, false, List, [], ◌∷◌, Option, Some, None}
use Rattle.traces.specs.Trace.{Turn, End, MemoryFault, Unspecified}
use Rattle.x86_values.specs.declared.byte.Byte.TheVariants.{Known}
use Rattle.x86_values.specs.Words.{word_of}
use Rattle.x86_types.specs.declared.operand.Rm.TheVariants as rm
use Rattle.x86_types.specs.declared.operand.Src.TheVariants as src
use Rattle.x86_types.specs.declared.width.Width.TheVariants.{One}
use Rattle.x86_types.specs.declared.instr.Instr.TheVariants as instr
use Rattle.memory.specs.Memory.{Memory}
use Rattle.x86_meaning.specs.Registers.{Registers}
use Rattle.named_code.specs.Items.{Item, CodeBlock}
use Rattle.named_code.specs.Running.{CodeState, AtNumber, AtOld, Inside, CodePosition, standing_at}
use Rattle.named_code.specs.RowParts.{item, block, row_memory, row_state, end_of_move, labels_of_move}
use Rattle.named_code.specs.CodeRows.{mark_six, load_at, call}
use Rattle.private_memory.specs.PrivateArea.{is_apart_access}
use Rattle.named_code.specs.TestedRun.{tested_next}

-- each address can be written
abbrev pub full_memory : Memory
full_memory a = Some (record { byte = Known 0; can_write = true; on_stack = false })

abbrev pub state_over : Memory → CodeState
state_over m = record row_state { memory = m }

-- ---- the end of the first move of some items
abbrev pub apart_end : Memory → Item → Option End
apart_end m x = end_of_move (tested_next is_apart_access mark_six [] (standing_at (Inside (x ∷ [])) (state_over m)))

abbrev pub store_at : ℕ → Item
store_at n = item (instr.Mov One (rm.Mem (record { base = None; index = None; scale = 1; disp = n })) (src.Imm 7)) []

-- block 6 begins a turn, and block 5 doesn't; the word at 0x75220000 is loaded by both
abbrev pub loading_blocks : List CodeBlock
loading_blocks = block 5 0 (load_at 0x75220000 ∷ []) ∷ block 6 0x300 (load_at 0x75220000 ∷ []) ∷ block 7 0x301 (load_at 0x1000 ∷ []) ∷ []

abbrev pub standing_before : ℕ → CodePosition
standing_before n = standing_at (AtNumber n) row_state

-- a call with these words of eax, ecx, edx and ebx
abbrev pub call_registers : ℕ → ℕ → ℕ → ℕ → Registers
call_registers number at count fd k = word_of (cond (k == 0) number (cond (k == 1) at (cond (k == 2) count fd)))

abbrev pub call_end : ℕ → ℕ → ℕ → ℕ → Option End
call_end number at count fd = end_of_move (tested_next is_apart_access mark_six [] (standing_at (Inside (call ∷ [])) (record (state_over full_memory) { cpu = record row_state.cpu { regs = call_registers number at count fd } })))

pub record ApartRows : Type 0 where
  -- it ends with the turn that it begins
  pub turn : labels_of_move (tested_next is_apart_access mark_six loading_blocks (standing_before 6)) ≡ Turn 0x300 ∷ []
  pub ended : end_of_move (tested_next is_apart_access mark_six loading_blocks (standing_before 6)) ≡ Some Unspecified
  pub by_old : labels_of_move (tested_next is_apart_access mark_six loading_blocks (standing_at (AtOld 0x300) row_state)) ≡ Turn 0x300 ∷ []
  pub no_turn : labels_of_move (tested_next is_apart_access mark_six loading_blocks (standing_before 5)) ≡ []
  -- what isn't allowed faults, be it in an area that isn't reached or elsewhere
  pub refused : end_of_move (tested_next is_apart_access mark_six loading_blocks (standing_before 7)) ≡ Some MemoryFault
  pub not_mapped : apart_end row_memory (load_at 0x60000000) ≡ Some MemoryFault
  -- the bounds of both ranges, for words and bytes
  pub below_code : apart_end full_memory (load_at 0x5FFFFFFC) ≡ None
  pub into_code : apart_end full_memory (load_at 0x5FFFFFFD) ≡ Some Unspecified
  pub last_of_code : apart_end full_memory (store_at 0x74FFFFFF) ≡ Some Unspecified
  pub cells : apart_end full_memory (store_at 0x75000000) ≡ None
  pub last_cell : apart_end full_memory (load_at 0x7521FFFC) ≡ None
  pub behind_cells : apart_end full_memory (load_at 0x7521FFFD) ≡ Some Unspecified
  pub before_images : apart_end full_memory (store_at 0x75FFFFFF) ≡ Some Unspecified
  pub images : apart_end full_memory (store_at 0x76000000) ≡ None
  -- the buffer of a call is an access where the call moves bytes
  pub write : call_end 4 0x75FFFFFF 2 1 ≡ Some Unspecified
  pub read : call_end 3 0x75FFFFFF 2 0 ≡ Some Unspecified
  pub elsewhere : call_end 4 0x76000000 2 1 ≡ None
  pub empty : call_end 4 0x75FFFFFF 0 1 ≡ None
  pub no_descriptor : call_end 4 0x75FFFFFF 2 5 ≡ None
  -- where there is no item nothing is accessed
  pub nothing : labels_of_move (tested_next is_apart_access mark_six loading_blocks (standing_before 8)) ≡ []
