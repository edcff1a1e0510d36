-- What each instruction computes, by the operation that it stands for. Each instruction has its line, so that one that is left out is
-- seen.
use Rattle.std.specs.Prelude.{ℕ, ◌/◌, true, false, List}
use Rattle.x86_values.specs.declared.word.Word.{Word}
use Rattle.x86_values.specs.declared.word.Flags.{Flags}
use Rattle.x86_values.specs.Conditions.{condition}
use Rattle.x86_types.specs.declared.instr.Instr.{Instr}
use Rattle.x86_types.specs.declared.instr.Instr.TheVariants as instr
use Rattle.x86_types.specs.Numbers.{size_of}
use Rattle.x86_meaning.specs.Outcomes.{Calls, Falls, JumpsBy, Computation, alu_computed, call_computed, call_to_computed, cmov_computed, dec_computed, div_computed, double_shift_computed, exchange_computed, extend_computed, goes, imul_computed, inc_computed, jump_computed, jump_to_computed, move_computed, movs_computed, mul_computed, neg_computed, not_computed, on_one, on_three, on_two, pop_computed, push_computed, ret_computed, scan_computed, set_computed, shift_computed, spread_computed, stos_computed, swap_computed, test_computed}

-- ---- each instruction, behind which the next one stands at an address
unfoldable pub compute : Instr → ℕ → Flags → List Word → Computation
compute (instr.Alu op w to from) next f xs = on_two (alu_computed op (size_of w) f) xs
compute (instr.Test w to from) next f xs = on_two (test_computed (size_of w)) xs
compute (instr.Mov w to from) next f xs = on_one (move_computed f) xs
compute (instr.Lea w to at) next f xs = on_one (move_computed f) xs
compute (instr.Inc w to) next f xs = on_one (inc_computed (size_of w) f) xs
compute (instr.Dec w to) next f xs = on_one (dec_computed (size_of w) f) xs
compute (instr.Not w to) next f xs = on_one (not_computed (size_of w) f) xs
compute (instr.Neg w to) next f xs = on_one (neg_computed (size_of w)) xs
compute (instr.Mul w from) next f xs = on_two (mul_computed false (size_of w)) xs
compute (instr.ImulWide w from) next f xs = on_two (mul_computed true (size_of w)) xs
compute (instr.Div w from) next f xs = on_three (div_computed false (size_of w)) xs
compute (instr.Idiv w from) next f xs = on_three (div_computed true (size_of w)) xs
compute (instr.Imul w to from) next f xs = on_two (imul_computed (size_of w)) xs
compute (instr.ImulBy w to from by) next f xs = on_two (imul_computed (size_of w)) xs
compute (instr.Shift op w to n) next f xs = on_two (shift_computed op (size_of w) f) xs
compute (instr.Shld to from n) next f xs = on_three (double_shift_computed false f) xs
compute (instr.Shrd to from n) next f xs = on_three (double_shift_computed true f) xs
compute (instr.Push from) next f xs = on_two (push_computed f) xs
compute (instr.Pop to) next f xs = on_two (pop_computed f) xs
compute (instr.Xchg w to from) next f xs = on_two (exchange_computed f) xs
compute (instr.Movzx wide w to from) next f xs = on_one (move_computed f) xs
compute (instr.Movsx wide w to from) next f xs = on_one (extend_computed (size_of wide) (size_of w) f) xs
compute (instr.Cmov c w to from) next f xs = on_two (cmov_computed (size_of w) (condition c f) f) xs
compute (instr.Setcc c to) next f xs = set_computed (condition c f) f
compute (instr.Extend w) next f xs = on_one (extend_computed (size_of w) (size_of w / 2) f) xs
compute (instr.Spread w) next f xs = on_one (spread_computed (size_of w) f) xs
compute (instr.Bsf w to from) next f xs = on_one (scan_computed false (size_of w)) xs
compute (instr.Bsr w to from) next f xs = on_one (scan_computed true (size_of w)) xs
compute (instr.Bswap to) next f xs = on_one (swap_computed f) xs
compute (instr.Movs w repeat) next f xs = movs_computed (size_of w) f xs
compute (instr.Stos w repeat) next f xs = stos_computed (size_of w) f xs
compute (instr.Jmp by) next f xs = goes (JumpsBy by) f
compute (instr.JmpTo to) next f xs = on_one (jump_to_computed f) xs
compute (instr.CallTo to) next f xs = on_two (call_to_computed next f) xs
compute (instr.Jcc c by) next f xs = jump_computed (condition c f) by f
compute (instr.Call by) next f xs = on_one (call_computed by next f) xs
compute (instr.Ret drop) next f xs = on_two (ret_computed drop f) xs
compute instr.Leave next f xs = on_two (pop_computed f) xs
compute instr.Int80 next f xs = goes Calls f
compute instr.Cld next f xs = goes Falls f
compute instr.Nop next f xs = goes Falls f
