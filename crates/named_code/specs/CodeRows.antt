-- Worked rows of code over places: what instructions do to places, where jumps lead, and what is lost.
use Rattle.std.specs.Prelude.{◌≡◌, ℕ, ◌+◌, ◌==◌, cond, true, List, [], ◌∷◌, Option, Some, None}
use Rattle.traces.specs.Trace.{Turn, Made, Write, End, Exited, MemoryFault, Outside, Unspecified, run}
use Rattle.x86_values.specs.Words.{word_of}
use Rattle.x86_types.specs.declared.operand.Reg.{Reg}
use Rattle.x86_types.specs.declared.operand.Reg.TheVariants.{Eax, Ecx, Edx, Ebx, Esp, Edi}
use Rattle.x86_types.specs.declared.operand.Rm.TheVariants as rm
use Rattle.x86_types.specs.declared.operand.Src.TheVariants as src
use Rattle.x86_types.specs.declared.operation.AluOp.TheVariants as alu
use Rattle.x86_types.specs.declared.operation.Cond.TheVariants as condition
use Rattle.x86_types.specs.declared.width.Width.TheVariants.{One, Four}
use Rattle.x86_types.specs.declared.instr.Instr.TheVariants as instr
use Rattle.named_code.specs.declared.slot.Slot.TheVariants.{Fixed, Name}
use Rattle.named_code.specs.declared.placed.Home.{Home}
use Rattle.named_code.specs.declared.placed.PInstr.TheVariants as placed
use Rattle.named_code.specs.Items.{Item, CodeBlock, word_at, placed_item}
use Rattle.named_code.specs.Running.{CodePosition, AtNumber, AtOld, Inside, standing_at, lost, code_next}
use Rattle.named_code.specs.RowParts.{item, block, row_state, state_after, place_in, word_in, zf_in, end_of_move, labels_of_move, from}

-- ---- fields: a MOV of a word between two fields, of a constant byte to one, and an operation of two fields
abbrev pub move_to : Reg → Reg → Item
move_to to from = item (instr.Mov Four (rm.Reg to) (src.Reg from)) []

abbrev pub byte_to : Item
byte_to = item (instr.Mov One (rm.Reg Eax) (src.Imm 7)) (Name 1 ∷ [])

abbrev pub ah_to : Item
ah_to = item (instr.Mov One (rm.Reg Eax) (src.Imm 7)) (Fixed Esp ∷ [])

abbrev pub add_two : Item
add_two = item (instr.Alu alu.Add Four (rm.Reg Eax) (src.Reg Ecx)) (Name 1 ∷ Name 2 ∷ [])

abbrev pub move_fixed : Item
move_fixed = item (instr.Mov Four (rm.Reg Eax) (src.Reg Ecx)) (Fixed Edx ∷ Name 5 ∷ [])

-- mov [name 1 + 4 * name 2 + disp], name 3: 0x109 + 4 * 0x10A + 0x75220000 - 0x531 is 0x75220000
abbrev pub store_indexed : Item
store_indexed = item (instr.Mov Four (rm.Mem (record { base = Some Eax; index = Some Ecx; scale = 4; disp = 0x7521FACF })) (src.Reg Edx)) (Name 1 ∷ Name 2 ∷ Name 3 ∷ [])

abbrev pub after : List Item → ℕ → Option ℕ
after items k = place_in k (state_after 1 [] (from items))

pub record FieldRows : Type 0 where
  -- 0x109 and 0x10A are the words of places 9 and 10, those of the names 1 and 2
  pub names : after (add_two ∷ []) 9 ≡ Some 0x213
  pub others : after (add_two ∷ []) 10 ≡ Some 0x10A
  pub fixed : after (move_fixed ∷ []) 2 ≡ Some 0x10D
  -- the lowest byte of a name; and AH, whose number is that of ESP
  pub lowest : after (byte_to ∷ []) 9 ≡ Some 0x107
  pub second : after (ah_to ∷ []) 0 ≡ Some 0x700
  -- a field without a slot is its register
  pub none : after (move_to Ebx Ecx ∷ []) 3 ≡ Some 0x101
  -- base and index are two fields
  pub address : word_in 0x75220000 (state_after 1 [] (from (store_indexed ∷ []))) ≡ Some 0x10B

-- ---- XOR of a name with itself is 0 whatever it holds, and of two names of which nothing is known it is unspecified
abbrev pub xor_of : ℕ → ℕ → Item
xor_of m n = item (instr.Alu alu.Xor Four (rm.Reg Eax) (src.Reg Ecx)) (Name m ∷ Name n ∷ [])

-- the register eax is unspecified behind a jump to an old address
abbrev pub with_lost : List Item → CodePosition
with_lost items = standing_at (Inside items) (lost row_state)

abbrev pub lost_to : ℕ → Item
lost_to n = item (instr.Mov Four (rm.Reg Eax) (src.Reg Ecx)) (Name n ∷ Fixed Eax ∷ [])

pub record ItselfRows : Type 0 where
  pub one_name : place_in 9 (state_after 2 [] (with_lost (lost_to 1 ∷ xor_of 1 1 ∷ []))) ≡ Some 0
  pub two_names : place_in 9 (state_after 3 [] (with_lost (lost_to 1 ∷ lost_to 2 ∷ xor_of 1 2 ∷ []))) ≡ None
  pub known_names : place_in 9 (state_after 1 [] (from (xor_of 1 2 ∷ []))) ≡ Some 3

-- ---- jumps
abbrev pub jump : ℕ → Item
jump n = item (instr.Jmp n) []

abbrev pub jump_if_zero : ℕ → Item
jump_if_zero n = item (instr.Jcc condition.E n) []

abbrev pub jump_to_old : Item
jump_to_old = item (instr.JmpTo (rm.Reg Eax)) (Name 1 ∷ [])

abbrev pub set_to : ℕ → ℕ → Item
set_to n value = item (instr.Mov Four (rm.Reg Eax) (src.Imm value)) (Name n ∷ [])

-- a block of number 5 and old address 0x109, another of both, one of old address 0, and an empty one
abbrev pub blocks : List CodeBlock
blocks = block 5 0x109 (set_to 0 1 ∷ []) ∷ block 5 0x109 (set_to 0 2 ∷ []) ∷ block 6 0 (set_to 0 3 ∷ []) ∷ block 7 0x10B [] ∷ []

abbrev pub name_0_after : ℕ → CodePosition → Option ℕ
name_0_after n p = place_in 8 (state_after n blocks p)

abbrev pub at_number : ℕ → CodePosition
at_number n = standing_at (AtNumber n) row_state

abbrev pub at_old : ℕ → CodePosition
at_old a = standing_at (AtOld a) row_state

abbrev pub end_at : CodePosition → Option End
end_at p = end_of_move (code_next (λ k. 0) blocks p)

pub record CodeJumpRows : Type 0 where
  -- by its number, to the first block
  pub number : name_0_after 2 (from (jump 5 ∷ [])) ≡ Some 1
  pub by_number_alone : name_0_after 2 (from (jump 6 ∷ [])) ≡ Some 3
  -- by a condition: ZF is false, so the next item is next
  pub not_taken : name_0_after 2 (from (jump_if_zero 5 ∷ set_to 0 9 ∷ [])) ≡ Some 9
  pub taken : name_0_after 3 (from (xor_of 0 0 ∷ jump_if_zero 5 ∷ [])) ≡ Some 1
  -- by an old address, that of name 1: esp and the names stay, the other registers and the flags are lost
  pub old : name_0_after 2 (from (jump_to_old ∷ [])) ≡ Some 1
  pub keeps_esp : place_in 4 (state_after 1 blocks (from (jump_to_old ∷ []))) ≡ Some 0x104
  pub keeps_names : place_in 10 (state_after 1 blocks (from (jump_to_old ∷ []))) ≡ Some 0x10A
  pub loses_registers : place_in 7 (state_after 1 blocks (from (jump_to_old ∷ []))) ≡ None
  pub loses_flags : zf_in (state_after 1 blocks (from (jump_to_old ∷ []))) ≡ None
  -- where there is no block, and at the end of one, the run has ended; old address 0 has none
  pub no_number : end_at (at_number 8) ≡ Some Outside
  pub no_old : end_at (at_old 0x10A) ≡ Some Outside
  pub zero : end_at (at_old 0) ≡ Some Outside
  pub end_of_block : end_at (from []) ≡ Some Outside
  pub empty_block : end_at (at_old 0x10B) ≡ Some Outside
  pub within : end_at (at_old 0x109) ≡ None

-- ---- turns are marked by the numbers of blocks, with the first instruction
abbrev pub mark_six : ℕ → ℕ
mark_six n = cond (n == 6) 0x300 0

pub record MarkRows : Type 0 where
  pub marked : labels_of_move (code_next mark_six blocks (at_number 6)) ≡ Turn 0x300 ∷ []
  pub unmarked : labels_of_move (code_next mark_six blocks (at_number 5)) ≡ []

-- ---- what ends a run, and what goes on at the same item
abbrev pub load_at : ℕ → Item
load_at n = item (instr.Mov Four (rm.Reg Eax) (src.Mem (record { base = None; index = None; scale = 1; disp = n }))) (Name 0 ∷ [])

abbrev pub call : Item
call = item instr.Int80 []

abbrev pub set_register : Reg → ℕ → Item
set_register r value = item (instr.Mov Four (rm.Reg Eax) (src.Imm value)) (Fixed r ∷ [])

-- the call with this number, of a descriptor that there isn't
abbrev pub calls : ℕ → List Item
calls number = set_register Eax number ∷ set_register Ebx 5 ∷ call ∷ []

abbrev pub end_after : ℕ → List Item → Option End
end_after n items = (run (code_next (λ k. 0) []) (from items) n).end

-- two bytes from 0x75220000 on become 7
abbrev pub stored : List Item
stored = set_register Eax 7 ∷ set_register Ecx 2 ∷ set_register Edi 0x75220000 ∷ item (instr.Stos One true) [] ∷ set_to 0 9 ∷ []

pub record EndRows : Type 0 where
  pub fault : end_at (from (load_at 0x1000 ∷ [])) ≡ Some MemoryFault
  pub mapped : end_at (from (load_at 0x75220000 ∷ [])) ≡ None
  pub not_writable : end_at (from (item (instr.Mov Four (rm.Mem (word_at 0x75221000)) (src.Imm 1)) [] ∷ [])) ≡ Some MemoryFault
  pub unknown : end_at (with_lost (jump_if_zero 5 ∷ [])) ≡ Some Unspecified
  -- a call ends the run, or its result, -9, stands in eax
  pub exit : end_after 3 (calls 1) ≡ Some (Exited 5)
  pub goes_on : end_after 2 (calls 1) ≡ None
  pub result : place_in 0 (state_after 3 [] (from (calls 4))) ≡ Some 0xFFFFFFF7
  pub shown : labels_of_move (code_next (λ k. 0) [] (standing_at (Inside (call ∷ [])) (record row_state { cpu = record row_state.cpu { regs = λ k. word_of (4 + k) } }))) ≡ Made (Write 7 [] 0xFFFFFFF7) ∷ []
  -- STOS stores al at edi, without a field; a repeat is next again until ecx is 0, an iteration a step
  pub once : word_in 0x75220000 (state_after 4 [] (from stored)) ≡ Some 7
  pub again : word_in 0x75220000 (state_after 5 [] (from stored)) ≡ Some 0x707
  pub last : place_in 8 (state_after 6 [] (from stored)) ≡ Some 0x108
  pub behind : place_in 8 (state_after 7 [] (from stored)) ≡ Some 9

-- ---- placed code: name 1 has the cell at 0x75220004
abbrev pub homes : List Home
homes = record { register = None; cell = 0x75220000 } ∷ record { register = Some Eax; cell = 0x75220004 } ∷ []

abbrev pub kept : List Item
kept = placed_item homes (placed.Keep 1 Ebx) ∷ placed_item homes (placed.Fetch 1 Ecx) ∷ []

pub record PlacedRows : Type 0 where
  pub keep : word_in 0x75220004 (state_after 1 [] (from kept)) ≡ Some 0x103
  pub fetch : place_in 1 (state_after 2 [] (from kept)) ≡ Some 0x103
  -- without a home there is no cell
  pub homeless : end_at (from (placed_item homes (placed.Fetch 2 Ecx) ∷ [])) ≡ Some MemoryFault
  pub own : place_in 3 (state_after 1 [] (from (placed_item homes (placed.Own (instr.Mov Four (rm.Reg Ebx) (src.Imm 9))) ∷ []))) ≡ Some 9
