-- How many bytes of the written file an item takes at most, whatever registers stand in its fields (Intel SDM volume 2, figure 2-1). Which
-- of the spellings is written, and what stands for a jump to an old address, is own.
use Rattle.std.specs.Prelude.{ℕ, zero, ◌+◌, ◌*◌, length, Option, Some, None}
use Rattle.x86_types.specs.declared.operand.Reg.{Reg}
use Rattle.x86_types.specs.declared.operand.Rm.{Rm}
use Rattle.x86_types.specs.declared.operand.Rm.TheVariants as rm
use Rattle.x86_types.specs.declared.operand.Src.{Src}
use Rattle.x86_types.specs.declared.operand.Src.TheVariants as src
use Rattle.x86_types.specs.declared.operation.Count.{Count}
use Rattle.x86_types.specs.declared.operation.Count.TheVariants as count
use Rattle.x86_types.specs.declared.width.Width.{Width}
use Rattle.x86_types.specs.declared.width.Width.TheVariants.{One, Two, Four}
use Rattle.x86_types.specs.declared.instr.Instr.{Instr}
use Rattle.x86_types.specs.declared.instr.Instr.TheVariants as instr
use Rattle.x86_types.specs.Numbers.{size_of}
use Rattle.x86_encode.specs.Choice.{best_wide}
use Rattle.named_code.specs.Items.{Item}
use Rattle.code_bounds.specs.Steps.{move_count}

-- ---- an instruction over registers: its best spelling without short jumps, and for a jump to an old address 40 bytes at most
abbrev pub jump_bytes : ℕ
jump_bytes = 40

abbrev pub own_bytes : Instr → ℕ
own_bytes (instr.JmpTo to) = jump_bytes
own_bytes i = length (best_wide i)

abbrev pub placed_bytes : Item → ℕ
placed_bytes x = own_bytes x.instr

-- ---- what the shape of an instruction says of that
-- ModRM with SIB and a displacement: an address that is a number alone, a register alone, and another
abbrev pub address_bytes : Option Reg → Option Reg → ℕ → ℕ
address_bytes None None disp = 5
address_bytes (Some base) None zero = 2
address_bytes base index disp = 6

abbrev pub operand_bytes : Rm → ℕ
operand_bytes (rm.Reg r) = 1
operand_bytes (rm.Mem a) = address_bytes a.base a.index a.disp

-- an opcode of one byte, behind 66 at width Two
abbrev pub opcode_length : Width → ℕ
opcode_length One = 1
opcode_length Two = 2
opcode_length Four = 1

-- no text of the encoder is longer than sixteen bytes
abbrev pub longest : ℕ
longest = 16

abbrev pub mov_bytes : Width → Rm → Src → ℕ
mov_bytes w (rm.Reg r) (src.Imm n) = opcode_length w + size_of w
mov_bytes w (rm.Reg r) (src.Reg from) = opcode_length w + 1
mov_bytes w (rm.Reg r) (src.Mem a) = opcode_length w + operand_bytes (rm.Mem a)
mov_bytes w (rm.Mem a) (src.Reg from) = opcode_length w + operand_bytes (rm.Mem a)
mov_bytes w to from = longest

abbrev pub alu_bytes : Width → Rm → Src → ℕ
alu_bytes w (rm.Reg r) (src.Imm n) = opcode_length w + 1 + size_of w
alu_bytes w (rm.Reg r) (src.Reg from) = opcode_length w + 1
alu_bytes w to from = longest

abbrev pub movzx_bytes : Width → Width → Rm → ℕ
movzx_bytes Four One from = 2 + operand_bytes from
movzx_bytes Four Two from = 2 + operand_bytes from
movzx_bytes wide w from = longest

abbrev pub cmov_bytes : Width → Rm → ℕ
cmov_bytes Four from = 2 + operand_bytes from
cmov_bytes w from = longest

abbrev pub count_bytes : Count → ℕ
count_bytes (count.Imm n) = 1
count_bytes count.Cl = 0

abbrev pub most_bytes : Instr → ℕ
most_bytes (instr.Mov w to from) = mov_bytes w to from
most_bytes (instr.Alu op w to from) = alu_bytes w to from
most_bytes (instr.Movzx wide w to from) = movzx_bytes wide w from
most_bytes (instr.Cmov c w to from) = cmov_bytes w from
most_bytes (instr.Setcc c to) = 2 + operand_bytes to
most_bytes (instr.Shift op w to n) = opcode_length w + operand_bytes to + count_bytes n
most_bytes (instr.Mul w from) = opcode_length w + operand_bytes from
most_bytes (instr.ImulWide w from) = opcode_length w + operand_bytes from
most_bytes (instr.Div w from) = opcode_length w + operand_bytes from
most_bytes (instr.Idiv w from) = opcode_length w + operand_bytes from
most_bytes (instr.Jmp by) = 5
most_bytes (instr.JmpTo to) = jump_bytes
most_bytes (instr.Jcc c by) = 6
most_bytes instr.Int80 = 2
most_bytes instr.Nop = 1
most_bytes _ = longest

-- ---- an instruction over names: each MOV from a cell or to one has six bytes at most
abbrev pub bytes : Item → ℕ
bytes x = most_bytes x.instr + 6 * move_count x
