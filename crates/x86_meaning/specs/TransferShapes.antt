-- The shapes that the operands of instructions have, those that are read and those that are written, each in order. None where an
-- address or a repeat count has an unspecified byte, which ends the run before anything is read (own).
use Rattle.std.specs.Prelude.{ℕ, zero, suc, ◌+◌, ◌-◌, ◌%◌, ◌==◌, ◌&&◌, Bool, true, false, cond, List, [], ◌∷◌, Option, Some, None}
use Rattle.x86_values.specs.Words.{word_of}
use Rattle.x86_types.specs.declared.operation.AluOp.{AluOp}
use Rattle.x86_types.specs.declared.operation.AluOp.TheVariants as alu
use Rattle.x86_types.specs.declared.operation.Count.{Count}
use Rattle.x86_types.specs.declared.operation.Count.TheVariants as count
use Rattle.x86_types.specs.declared.width.Width.{Width}
use Rattle.x86_types.specs.declared.width.Width.TheVariants.{One, Two, Four}
use Rattle.x86_types.specs.Numbers.{size_of}
use Rattle.x86_meaning.specs.Registers.{Registers, with_register}
use Rattle.x86_meaning.specs.Operands.{Location, InRegister, InMemory, Constant, SizedOperand, operand}

pub record Transfer : Type 0 where
  pub reads : List SizedOperand
  pub writes : List SizedOperand

abbrev pub transfer_of : List SizedOperand → List SizedOperand → Transfer
transfer_of reads writes = record { reads = reads; writes = writes }

abbrev pub no_transfer : Option Transfer
no_transfer = Some (transfer_of [] [])

-- ---- operands without a field
-- EAX, ECX, EDX, EBX, ESP, EBP, ESI and EDI by number, whole or their lowest bytes
abbrev pub register : ℕ → ℕ → SizedOperand
register size n = operand size (InRegister n 0)

abbrev pub esp : SizedOperand
esp = register 4 4

-- AL, AX or EAX
abbrev pub accumulator : Width → SizedOperand
accumulator w = register (size_of w) 0

-- what stands above it in a product or a dividend: AH, DX or EDX
abbrev pub upper_accumulator : Width → SizedOperand
upper_accumulator One = operand 1 (InRegister 0 1)
upper_accumulator Two = register 2 2
upper_accumulator Four = register 4 2

abbrev pub constant : ℕ → ℕ → SizedOperand
constant size n = operand size (Constant (Some n))

abbrev pub stack_word : ℕ → SizedOperand
stack_word at = operand 4 (InMemory at)

-- the count of a shift: a constant or CL
abbrev pub count_operand : Count → SizedOperand
count_operand (count.Imm n) = constant 1 n
count_operand count.Cl = register 1 1

-- ---- one operand with a field, and two
abbrev pub by_one : (Location → Transfer) → Option Location → Option Transfer
by_one f None = None
by_one f (Some a) = Some (f a)

abbrev pub by_two : (Location → Location → Transfer) → Option Location → Option Location → Option Transfer
by_two f (Some a) (Some b) = Some (f a b)
by_two f _ _ = None

-- the second is moved to the first; their sizes may differ
abbrev pub move_transfer : ℕ → ℕ → Location → Location → Transfer
move_transfer to_size from_size to from = transfer_of (operand from_size from ∷ []) (operand to_size to ∷ [])

-- the first is computed from both
abbrev pub combine_transfer : ℕ → Location → Location → Transfer
combine_transfer size to from = transfer_of (operand size to ∷ operand size from ∷ []) (operand size to ∷ [])

-- both are read, and neither is written
abbrev pub compare_transfer : ℕ → Location → Location → Transfer
compare_transfer size to from = transfer_of (operand size to ∷ operand size from ∷ []) []

-- one operand is computed from itself
abbrev pub update_transfer : ℕ → Location → Transfer
update_transfer size to = transfer_of (operand size to ∷ []) (operand size to ∷ [])

-- it is written alone
abbrev pub set_transfer : ℕ → Location → Transfer
set_transfer size to = transfer_of [] (operand size to ∷ [])

-- it is read alone
abbrev pub read_transfer : ℕ → Location → Transfer
read_transfer size from = transfer_of (operand size from ∷ []) []

-- ---- ADD to CMP
-- SUB, SBB, CMP and XOR of a register with itself come to the same whatever is in it, so both operands count as 0 (own)
abbrev pub cancels : AluOp → Bool
cancels alu.Add = false
cancels alu.Or = false
cancels alu.Adc = false
cancels alu.Sbb = true
cancels alu.And = false
cancels alu.Sub = true
cancels alu.Xor = true
cancels alu.Cmp = true

abbrev pub is_same_register : Location → Location → Bool
is_same_register (InRegister p i) (InRegister q j) = p == q && i == j
is_same_register _ _ = false

abbrev pub alu_reads : AluOp → ℕ → Location → Location → List SizedOperand
alu_reads op size to from = cond (cancels op && is_same_register to from) (constant size 0 ∷ constant size 0 ∷ []) (operand size to ∷ operand size from ∷ [])

abbrev pub alu_writes : AluOp → ℕ → Location → List SizedOperand
alu_writes alu.Cmp size to = []
alu_writes _ size to = operand size to ∷ []

abbrev pub alu_transfer : AluOp → ℕ → Location → Location → Transfer
alu_transfer op size to from = transfer_of (alu_reads op size to from) (alu_writes op size to)

-- ---- products and divisions
abbrev pub multiply_transfer : Width → Location → Transfer
multiply_transfer w from = transfer_of (accumulator w ∷ operand (size_of w) from ∷ []) (accumulator w ∷ upper_accumulator w ∷ [])

abbrev pub divide_transfer : Width → Location → Transfer
divide_transfer w from = transfer_of (upper_accumulator w ∷ accumulator w ∷ operand (size_of w) from ∷ []) (accumulator w ∷ upper_accumulator w ∷ [])

abbrev pub multiply_by_transfer : ℕ → ℕ → Location → Location → Transfer
multiply_by_transfer size by to from = transfer_of (operand size from ∷ constant size by ∷ []) (operand size to ∷ [])

-- ---- shifts
abbrev pub shift_transfer : ℕ → Count → Location → Transfer
shift_transfer size n to = transfer_of (operand size to ∷ count_operand n ∷ []) (operand size to ∷ [])

abbrev pub double_shift_transfer : Count → Location → Location → Transfer
double_shift_transfer n to from = transfer_of (operand 4 to ∷ operand 4 from ∷ count_operand n ∷ []) (operand 4 to ∷ [])

-- ---- both are read and written
abbrev pub exchange_transfer : ℕ → Location → Location → Transfer
exchange_transfer size right left = transfer_of (operand size left ∷ operand size right ∷ []) (operand size left ∷ operand size right ∷ [])

-- ---- the stack; addresses wrap
abbrev pub up : ℕ → ℕ → ℕ
up n a = (a + n) % 4294967296

abbrev pub down : ℕ → ℕ → ℕ
down n a = (a + (4294967296 - n)) % 4294967296

-- the word below esp is written, with other operands read before
abbrev pub push_transfer : List SizedOperand → Option ℕ → Option Transfer
push_transfer reads None = None
push_transfer reads (Some at) = Some (transfer_of (esp ∷ reads) (stack_word (down 4 at) ∷ esp ∷ []))

abbrev pub push_of : Option Location → Option ℕ → Option Transfer
push_of None at = None
push_of (Some from) at = push_transfer (operand 4 from ∷ []) at

-- the word at esp is read, and other operands are written after esp
abbrev pub pop_transfer : List SizedOperand → Option ℕ → Option Transfer
pop_transfer writes None = None
pop_transfer writes (Some at) = Some (transfer_of (esp ∷ stack_word at ∷ []) (esp ∷ writes))

-- the address of the target of POP uses the raised esp
abbrev pub esp_raised : Option ℕ → Registers → Registers
esp_raised None regs = regs
esp_raised (Some at) regs = with_register 4 (word_of (up 4 at)) regs

abbrev pub pop_to : Option Location → Option ℕ → Option Transfer
pop_to None at = None
pop_to (Some to) at = pop_transfer (operand 4 to ∷ []) at

-- LEAVE: esp is ebp, and then ebp is pop_transfer
abbrev pub leave_transfer : Option ℕ → Option Transfer
leave_transfer None = None
leave_transfer (Some at) = Some (transfer_of (register 4 5 ∷ stack_word at ∷ []) (esp ∷ register 4 5 ∷ []))

-- ---- strings: ESI is 6, EDI is 7, ECX is 1
abbrev pub movs_transfer : ℕ → Option ℕ → Option ℕ → List SizedOperand → Option Transfer
movs_transfer size (Some from) (Some to) repeat =
    Some (transfer_of (operand size (InMemory from) ∷ register 4 6 ∷ register 4 7 ∷ repeat) (operand size (InMemory to) ∷ register 4 6 ∷ register 4 7 ∷ repeat))
movs_transfer size _ _ repeat = None

abbrev pub stos_transfer : Width → Option ℕ → List SizedOperand → Option Transfer
stos_transfer w None repeat = None
stos_transfer w (Some to) repeat = Some (transfer_of (accumulator w ∷ register 4 7 ∷ repeat) (operand (size_of w) (InMemory to) ∷ register 4 7 ∷ repeat))

-- With a repeat the count is looked at first, and where it is 0 nothing else is.
abbrev pub if_counted : Option ℕ → Option Transfer → Option Transfer
if_counted None t = None
if_counted (Some zero) t = no_transfer
if_counted (Some (suc n)) t = t

abbrev pub string_transfer : Bool → Option ℕ → (List SizedOperand → Option Transfer) → Option Transfer
string_transfer false n f = f []
string_transfer true n f = if_counted n (f (register 4 1 ∷ []))
