-- Which operands each instruction reads and which it writes, in order (Intel SDM volume 2, "Operation" of each instruction). Each
-- instruction has its line, so that one that is left out is seen.
use Rattle.std.specs.Prelude.{◌/◌, [], Option, Some}
use Rattle.x86_values.specs.Words.{known}
use Rattle.x86_types.specs.declared.instr.Instr.{Instr}
use Rattle.x86_types.specs.declared.instr.Instr.TheVariants as instr
use Rattle.x86_types.specs.declared.width.Width.TheVariants.{One, Four}
use Rattle.x86_types.specs.Numbers.{size_of}
use Rattle.x86_meaning.specs.Registers.{Registers, Naming}
use Rattle.x86_meaning.specs.Operands.{InRegister, Constant, field, effective_address, location_of, source_of}
use Rattle.x86_meaning.specs.TransferShapes.{Transfer, alu_transfer, by_one, by_two, combine_transfer, compare_transfer, divide_transfer, double_shift_transfer, exchange_transfer, leave_transfer, move_transfer, movs_transfer, multiply_by_transfer, multiply_transfer, no_transfer, pop_to, pop_transfer, push_of, push_transfer, esp_raised, read_transfer, set_transfer, shift_transfer, stos_transfer, string_transfer, update_transfer}

-- ---- each instruction
-- LEA makes no access: where a register of its address has an unspecified byte, its whole result is unspecified, and the run goes on
-- (own). CMOVcc reads its source and writes its target whether its condition holds or not.
unfoldable pub transfer : Naming → Instr → Registers → Option Transfer
transfer v (instr.Alu op w to from) regs = by_two (alu_transfer op (size_of w)) (location_of v regs w to) (source_of v regs w from)
transfer v (instr.Test w to from) regs = by_two (compare_transfer (size_of w)) (location_of v regs w to) (source_of v regs w from)
transfer v (instr.Mov w to from) regs = by_two (move_transfer (size_of w) (size_of w)) (location_of v regs w to) (source_of v regs w from)
transfer v (instr.Lea w to at) regs = Some (move_transfer (size_of w) (size_of w) (field v w to) (Constant (effective_address v regs at)))
transfer v (instr.Inc w to) regs = by_one (update_transfer (size_of w)) (location_of v regs w to)
transfer v (instr.Dec w to) regs = by_one (update_transfer (size_of w)) (location_of v regs w to)
transfer v (instr.Not w to) regs = by_one (update_transfer (size_of w)) (location_of v regs w to)
transfer v (instr.Neg w to) regs = by_one (update_transfer (size_of w)) (location_of v regs w to)
transfer v (instr.Mul w from) regs = by_one (multiply_transfer w) (location_of v regs w from)
transfer v (instr.ImulWide w from) regs = by_one (multiply_transfer w) (location_of v regs w from)
transfer v (instr.Div w from) regs = by_one (divide_transfer w) (location_of v regs w from)
transfer v (instr.Idiv w from) regs = by_one (divide_transfer w) (location_of v regs w from)
transfer v (instr.Imul w to from) regs = by_one (combine_transfer (size_of w) (field v w to)) (location_of v regs w from)
transfer v (instr.ImulBy w to from by) regs = by_one (multiply_by_transfer (size_of w) by (field v w to)) (location_of v regs w from)
transfer v (instr.Shift op w to n) regs = by_one (shift_transfer (size_of w) n) (location_of v regs w to)
transfer v (instr.Shld to from n) regs = by_two (double_shift_transfer n) (location_of v regs Four to) (Some (field v Four from))
transfer v (instr.Shrd to from n) regs = by_two (double_shift_transfer n) (location_of v regs Four to) (Some (field v Four from))
transfer v (instr.Push from) regs = push_of (source_of v regs Four from) (known (regs 4))
transfer v (instr.Pop to) regs = pop_to (location_of v (esp_raised (known (regs 4)) regs) Four to) (known (regs 4))
transfer v (instr.Xchg w to from) regs = by_one (exchange_transfer (size_of w) (field v w from)) (location_of v regs w to)
transfer v (instr.Movzx wide w to from) regs = by_one (move_transfer (size_of wide) (size_of w) (field v wide to)) (location_of v regs w from)
transfer v (instr.Movsx wide w to from) regs = by_one (move_transfer (size_of wide) (size_of w) (field v wide to)) (location_of v regs w from)
transfer v (instr.Cmov c w to from) regs = by_one (combine_transfer (size_of w) (field v w to)) (location_of v regs w from)
transfer v (instr.Setcc c to) regs = by_one (set_transfer 1) (location_of v regs One to)
transfer v (instr.Extend w) regs = Some (move_transfer (size_of w) (size_of w / 2) (InRegister 0 0) (InRegister 0 0))
transfer v (instr.Spread w) regs = Some (move_transfer (size_of w) (size_of w) (InRegister 2 0) (InRegister 0 0))
transfer v (instr.Bsf w to from) regs = by_one (move_transfer (size_of w) (size_of w) (field v w to)) (location_of v regs w from)
transfer v (instr.Bsr w to from) regs = by_one (move_transfer (size_of w) (size_of w) (field v w to)) (location_of v regs w from)
transfer v (instr.Bswap to) regs = Some (update_transfer 4 (field v Four to))
transfer v (instr.Movs w repeat) regs = string_transfer repeat (known (regs 1)) (movs_transfer (size_of w) (known (regs 6)) (known (regs 7)))
transfer v (instr.Stos w repeat) regs = string_transfer repeat (known (regs 1)) (stos_transfer w (known (regs 7)))
transfer v (instr.Jmp by) regs = no_transfer
transfer v (instr.JmpTo to) regs = by_one (read_transfer 4) (location_of v regs Four to)
transfer v (instr.CallTo to) regs = push_of (location_of v regs Four to) (known (regs 4))
transfer v (instr.Jcc c by) regs = no_transfer
transfer v (instr.Call by) regs = push_transfer [] (known (regs 4))
transfer v (instr.Ret drop) regs = pop_transfer [] (known (regs 4))
transfer v instr.Leave regs = leave_transfer (known (regs 5))
transfer v instr.Int80 regs = no_transfer
transfer v instr.Cld regs = no_transfer
transfer v instr.Nop regs = no_transfer
