-- The most operations that the list of an instruction has. All of this is own.
use Rattle.std.specs.Prelude.{ℕ}
use Rattle.x86_types.specs.declared.instr.Instr.{Instr}
use Rattle.x86_types.specs.declared.instr.Instr.TheVariants as instr

-- whatever its operands and widths are
unfoldable pub most_ops : Instr → ℕ
most_ops (instr.Alu op w to from) = 34
most_ops (instr.Test w to from) = 21
most_ops (instr.Mov w to from) = 11
most_ops (instr.Lea w to a) = 8
most_ops (instr.Inc w to) = 25
most_ops (instr.Dec w to) = 25
most_ops (instr.Not w to) = 11
most_ops (instr.Neg w to) = 26
most_ops (instr.Mul w from) = 29
most_ops (instr.ImulWide w from) = 29
most_ops (instr.Div w from) = 19
most_ops (instr.Idiv w from) = 19
most_ops (instr.Imul w to from) = 25
most_ops (instr.ImulBy w to from by) = 25
most_ops (instr.Shift op w to n) = 45
most_ops (instr.Shld to from n) = 48
most_ops (instr.Shrd to from n) = 48
most_ops (instr.Push from) = 6
most_ops (instr.Pop to) = 9
most_ops (instr.Xchg w to from) = 17
most_ops (instr.Movzx wide w to from) = 9
most_ops (instr.Movsx wide w to from) = 14
most_ops (instr.Cmov c w to from) = 16
most_ops (instr.Setcc c to) = 11
most_ops (instr.Extend w) = 13
most_ops (instr.Spread w) = 12
most_ops (instr.Bsf w to from) = 37
most_ops (instr.Bsr w to from) = 37
most_ops (instr.Bswap to) = 24
most_ops (instr.Movs w repeat) = 5
most_ops (instr.Stos w repeat) = 6
most_ops (instr.Jmp by) = 0
most_ops (instr.JmpTo to) = 4
most_ops (instr.CallTo to) = 6
most_ops (instr.Jcc c by) = 3
most_ops (instr.Call by) = 2
most_ops (instr.Ret drop) = 2
most_ops instr.Leave = 3
most_ops instr.Int80 = 1
most_ops instr.Cld = 0
most_ops instr.Nop = 0
