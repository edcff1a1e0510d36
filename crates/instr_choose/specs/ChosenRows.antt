-- Worked rows of the chosen lists, run by the machine of named code. The numbers are those of the processor (Intel SDM volume 2, "ADD", "SUB",
-- "AND", "OR", "XOR", "MUL", "IMUL", "SAL/SAR/SHL/SHR", "DIV", "IDIV"), and of comparisons.
use Rattle.std.specs.Prelude.{◌≡◌, ℕ, ◌+◌, ◌-◌, cond, ltb, Bool, true, false, List, [], ◌∷◌, length, map, get_or, Option, Some, None}
use Rattle.x86_values.specs.Words.{word_of}
use Rattle.traces.specs.Trace.{Label, Made, Write, End, Exited, MemoryFault, DivideFault, Outside, run}
use Rattle.x86_types.specs.declared.operand.Reg.TheVariants.{Eax}
use Rattle.x86_types.specs.declared.operand.Rm.TheVariants as rm
use Rattle.x86_types.specs.declared.operand.Src.TheVariants as src
use Rattle.x86_types.specs.declared.width.Width.TheVariants.{Four}
use Rattle.x86_types.specs.declared.instr.Instr.TheVariants as instr
use Rattle.flag_ir.specs.declared.operation.Calc.{Calc}
use Rattle.flag_ir.specs.declared.operation.Calc.TheVariants as calc
use Rattle.flag_ir.specs.declared.operation.Op.{Op}
use Rattle.flag_ir.specs.declared.operation.Op.TheVariants as op
use Rattle.flag_ir.specs.declared.block.Exit.{Exit}
use Rattle.flag_ir.specs.declared.block.Exit.TheVariants as exit
use Rattle.flag_ir.specs.RowParts.{reg, of_reg, of_word}
use Rattle.named_code.specs.declared.slot.Slot.TheVariants.{Name}
use Rattle.named_code.specs.declared.named.VInstr.{VInstr}
use Rattle.named_code.specs.Items.{Item, CodeBlock, named_item}
use Rattle.named_code.specs.Running.{CodeState, CodePosition, Inside, standing_at, code_next}
use Rattle.named_code.specs.RowParts.{item, block, row_state, state_after, place_in, word_in}
use Rattle.instr_choose.specs.Lists.{choose_ops}
use Rattle.instr_choose.specs.Blocks.{choose_exit}

-- ---- the unit's registers from 0 on hold these numbers, and each other place shows its own
abbrev pub with_numbers : List ℕ → CodeState
with_numbers numbers = record row_state { cpu = record row_state.cpu { regs = λ k. word_of (cond (ltb k 8) (0x100 + k) (get_or numbers (k - 8) (0x100 + k))) } }

abbrev pub before_list : List VInstr → List ℕ → CodePosition
before_list list numbers = standing_at (Inside (map named_item list)) (with_numbers numbers)

-- ---- what is seen behind the lists of operations
abbrev pub after_ops : List Op → List ℕ → Option CodeState
after_ops ops numbers = state_after (length (choose_ops ops)) [] (before_list (choose_ops ops) numbers)

abbrev pub register_after : ℕ → List Op → List ℕ → Option ℕ
register_after n ops numbers = place_in (8 + n) (after_ops ops numbers)

abbrev pub end_of_ops : List Op → List ℕ → Option End
end_of_ops ops numbers = (run (code_next (λ k. 0) []) (before_list (choose_ops ops) numbers) (length (choose_ops ops))).end

abbrev pub shown_by_ops : List Op → List ℕ → List Label
shown_by_ops ops numbers = (run (code_next (λ k. 0) []) (before_list (choose_ops ops) numbers) (length (choose_ops ops))).trace

-- ---- calculations of registers 1 and 2: the result is written to register 0, or to one of both
abbrev pub calculated : Calc → ℕ → ℕ → ℕ → Option ℕ
calculated c to a b = register_after to (op.Calc (reg to) c (of_reg 1) (of_reg 2) ∷ []) (0 ∷ a ∷ b ∷ [])

pub record ChosenSumRows : Type 0 where
  pub add : calculated calc.Add 0 0xFFFFFFFF 2 ≡ Some 1
  pub add_to_left : calculated calc.Add 1 5 3 ≡ Some 8
  pub sub : calculated calc.Sub 0 5 3 ≡ Some 2
  pub sub_to_right : calculated calc.Sub 2 3 5 ≡ Some 0xFFFFFFFE
  pub sub_words : register_after 0 (op.Calc (reg 0) calc.Sub (of_word 3) (of_word 5) ∷ []) [] ≡ Some 0xFFFFFFFE
  pub and : calculated calc.And 0 0x0FF0F0F0 0x12345678 ≡ Some 0x02305070
  pub or : calculated calc.Or 2 0x0FF0F0F0 0x12345678 ≡ Some 0x1FF4F6F8
  pub xor : calculated calc.Xor 1 0x0FF0F0F0 0x12345678 ≡ Some 0x1DC4A688

-- 0x10001 * 0x10001 is 0x100020001; 0xFFFFFFFF is -1 with a sign
pub record ChosenProductRows : Type 0 where
  pub mul : calculated calc.Mul 0 0x10001 0x10001 ≡ Some 0x00020001
  pub mul_to_right : calculated calc.Mul 2 3 5 ≡ Some 15
  pub mulhu : calculated calc.Mulhu 0 0x10001 0x10001 ≡ Some 1
  pub mulhu_greatest : calculated calc.Mulhu 1 0xFFFFFFFF 0xFFFFFFFF ≡ Some 0xFFFFFFFE
  pub mulhs : calculated calc.Mulhs 0 0xFFFFFFFF 2 ≡ Some 0xFFFFFFFF
  pub mulhs_least : calculated calc.Mulhs 2 0x80000000 0x80000000 ≡ Some 0x40000000

-- a count of 33 is one of 1
pub record ChosenShiftRows : Type 0 where
  pub shl : calculated calc.Shl 0 3 4 ≡ Some 0x30
  pub shl_again : calculated calc.Shl 1 3 33 ≡ Some 6
  pub shl_to_count : calculated calc.Shl 2 3 4 ≡ Some 0x30
  pub shr : calculated calc.Shr 0 0x80000010 4 ≡ Some 0x08000001
  pub sar : calculated calc.Sar 0 0x80000010 4 ≡ Some 0xF8000001

-- -2^31 is less than 1, and not below it
pub record ChosenComparisonRows : Type 0 where
  pub equal : calculated calc.Eq 0 0x01000005 0x01000005 ≡ Some 1
  pub unequal : calculated calc.Eq 1 0x01000005 5 ≡ Some 0
  pub below : calculated calc.Ltu 2 3 5 ≡ Some 1
  pub not_below : calculated calc.Ltu 0 0x80000000 1 ≡ Some 0
  pub less : calculated calc.Lts 1 0x80000000 1 ≡ Some 1
  pub not_less : calculated calc.Lts 0 5 5 ≡ Some 0

-- ---- divisions of registers 2 and 3 by register 4: quotient and remainder are written to registers 0 and 1
abbrev pub division : ℕ → Bool → List Op
division size signed = op.Divide (reg 0) (reg 1) (of_reg 2) (of_reg 3) (of_reg 4) size signed ∷ []

abbrev pub divided : ℕ → Bool → ℕ → ℕ → ℕ → Option ℕ × Option ℕ
divided size signed high low by = (register_after 0 (division size signed) (0 ∷ 0 ∷ high ∷ low ∷ by ∷ []), register_after 1 (division size signed) (0 ∷ 0 ∷ high ∷ low ∷ by ∷ []))

abbrev pub division_ends : ℕ → Bool → ℕ → ℕ → ℕ → Option End
division_ends size signed high low by = end_of_ops (division size signed) (0 ∷ 0 ∷ high ∷ low ∷ by ∷ [])

-- 2^32 is 3 * 0x55555555 and 1, 65536 is 7 * 9362 and 2, 0x107 is 16 * 16 and 7; -7 is 2 * -3 and -1
pub record ChosenDivisionRows : Type 0 where
  pub word : divided 4 false 1 0 3 ≡ (Some 0x55555555, Some 1)
  pub word_signed : divided 4 true 0xFFFFFFFF 0xFFFFFFF9 2 ≡ (Some 0xFFFFFFFD, Some 0xFFFFFFFF)
  pub word_by_zero : division_ends 4 false 0 1 0 ≡ Some DivideFault
  -- what stands above the operands doesn't count
  pub half : divided 2 false 0xABCD0001 0x12340000 0x56780007 ≡ (Some 9362, Some 2)
  pub half_signed : divided 2 true 0xFFFF 0xFFF9 2 ≡ (Some 0xFFFD, Some 0xFFFF)
  pub half_too_great : division_ends 2 false 7 0 7 ≡ Some DivideFault
  pub byte : divided 1 false 0xFFFFFF01 0xABCDEF07 0x11111110 ≡ (Some 0x10, Some 7)
  pub byte_signed : divided 1 true 0xFF 0xF9 2 ≡ (Some 0xFD, Some 0xFF)
  pub byte_too_great : division_ends 1 false 0x10 0 0x10 ≡ Some DivideFault

-- ---- picks by register 1, of registers 2 and 3
abbrev pub picked : ℕ → ℕ → Option ℕ
picked to test = register_after to (op.Pick (reg to) (of_reg 1) (of_reg 2) (of_reg 3) ∷ []) (0 ∷ test ∷ 7 ∷ 9 ∷ [])

pub record ChosenPickRows : Type 0 where
  pub yes : picked 0 0x80000000 ≡ Some 7
  pub no : picked 0 0 ≡ Some 9
  pub to_test : picked 1 0x80000000 ≡ Some 7
  pub to_yes : picked 2 1 ≡ Some 7
  pub to_no : picked 3 1 ≡ Some 7
  pub set : register_after 0 (op.Set (reg 0) (of_reg 1) ∷ op.Set (reg 1) (of_word 5) ∷ []) (3 ∷ 4 ∷ []) ≡ Some 4

-- ---- memory
abbrev pub store_word : Op
store_word = op.Store 4 (of_word 0x75220000) (of_word 0x12345678)

pub record ChosenMemoryRows : Type 0 where
  pub word : word_in 0x75220000 (after_ops (store_word ∷ []) []) ≡ Some 0x12345678
  pub half : word_in 0x75220004 (after_ops (op.Store 2 (of_reg 0) (of_reg 1) ∷ []) (0x75220004 ∷ 0x12345678 ∷ [])) ≡ Some 0x5678
  pub byte : word_in 0x75220004 (after_ops (op.Store 1 (of_reg 0) (of_word 0x12345678) ∷ []) (0x75220004 ∷ [])) ≡ Some 0x78
  pub load : register_after 2 (store_word ∷ op.Load (reg 2) 4 (of_word 0x75220000) ∷ []) [] ≡ Some 0x12345678
  pub load_half : register_after 2 (store_word ∷ op.Load (reg 2) 2 (of_word 0x75220001) ∷ []) [] ≡ Some 0x3456
  pub load_byte : register_after 2 (store_word ∷ op.Load (reg 2) 1 (of_reg 2) ∷ []) (0 ∷ 0 ∷ 0x75220002 ∷ []) ≡ Some 0x34
  pub fault : end_of_ops (op.Load (reg 0) 4 (of_word 0x1000) ∷ []) [] ≡ Some MemoryFault

-- ---- a system call: its number is register 0, and what it is asked for stands in registers 3, 1 and 2
pub record ChosenCallRows : Type 0 where
  pub result : register_after 0 (op.System ∷ []) (4 ∷ 5 ∷ 6 ∷ 7 ∷ []) ≡ Some 0xFFFFFFF7
  pub kept : register_after 3 (op.System ∷ []) (4 ∷ 5 ∷ 6 ∷ 7 ∷ []) ≡ Some 7
  pub shown : shown_by_ops (op.System ∷ []) (4 ∷ 5 ∷ 6 ∷ 7 ∷ []) ≡ Made (Write 7 [] 0xFFFFFFF7) ∷ []
  pub exits : end_of_ops (op.System ∷ []) (1 ∷ 0 ∷ 0 ∷ 5 ∷ []) ≡ Some (Exited 5)

-- ---- exits: block 5 sets register 0 to 1, and block 6, of the old address 0x4000, to 2
abbrev pub set_to : ℕ → Item
set_to n = item (instr.Mov Four (rm.Reg Eax) (src.Imm n)) (Name 0 ∷ [])

abbrev pub two_blocks : List CodeBlock
two_blocks = block 5 0 (set_to 1 ∷ []) ∷ block 6 0x4000 (set_to 2 ∷ []) ∷ []

abbrev pub led_to : ℕ → Exit → List ℕ → Option ℕ
led_to steps e numbers = place_in 8 (state_after steps two_blocks (before_list (choose_exit e) numbers))

abbrev pub end_of_exit : ℕ → Exit → Option End
end_of_exit steps e = (run (code_next (λ k. 0) two_blocks) (before_list (choose_exit e) []) steps).end

pub record ChosenExitRows : Type 0 where
  pub go : led_to 2 (exit.Go 6) [] ≡ Some 2
  pub yes : led_to 4 (exit.Branch (of_reg 1) 5 6) (0 ∷ 0x80000000 ∷ []) ≡ Some 1
  pub no : led_to 5 (exit.Branch (of_reg 1) 5 6) (9 ∷ 0 ∷ []) ≡ Some 2
  pub jump : led_to 3 (exit.Jump (of_reg 1)) (0 ∷ 0x4000 ∷ []) ≡ Some 2
  pub fault : end_of_exit 1 exit.Fault ≡ Some MemoryFault
  pub stop : end_of_exit 1 exit.Stop ≡ Some Outside
  pub stop_in_its_block : end_of_exit 0 exit.Stop ≡ None
