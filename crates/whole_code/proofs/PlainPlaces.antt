-- The lists and the ways of the instructions are plain, by the laws of lifting.
use Rattle.std.proofs.Common.{◌≤◌, arith}
use Rattle.x86_types.specs.declared.instr.Instr.{Instr}
use Rattle.x86_types.specs.declared.instr.Instr.TheVariants as instr
use Rattle.lift_core.specs.Laws.{LiftingLaws}
use Rattle.lift_core.specs.Lengths.{most_ops}
use Rattle.whole_code.specs.Building.{lifting_of_places}
use Rattle.whole_code.specs.Weight.{longest_list}
use Rattle.whole_code.proofs.Shapes.{IsPlain}

below_longest : (i : Instr) → most_ops i ≤ longest_list
unfolding most_ops
below_longest (instr.Alu op w to from) = omega arith
below_longest (instr.Test w to from) = omega arith
below_longest (instr.Mov w to from) = omega arith
below_longest (instr.Lea w to a) = omega arith
below_longest (instr.Inc w to) = omega arith
below_longest (instr.Dec w to) = omega arith
below_longest (instr.Not w to) = omega arith
below_longest (instr.Neg w to) = omega arith
below_longest (instr.Mul w from) = omega arith
below_longest (instr.ImulWide w from) = omega arith
below_longest (instr.Div w from) = omega arith
below_longest (instr.Idiv w from) = omega arith
below_longest (instr.Imul w to from) = omega arith
below_longest (instr.ImulBy w to from by) = omega arith
below_longest (instr.Shift op w to n) = omega arith
below_longest (instr.Shld to from n) = omega arith
below_longest (instr.Shrd to from n) = omega arith
below_longest (instr.Push from) = omega arith
below_longest (instr.Pop to) = omega arith
below_longest (instr.Xchg w to from) = omega arith
below_longest (instr.Movzx wide w to from) = omega arith
below_longest (instr.Movsx wide w to from) = omega arith
below_longest (instr.Cmov c w to from) = omega arith
below_longest (instr.Setcc c to) = omega arith
below_longest (instr.Extend w) = omega arith
below_longest (instr.Spread w) = omega arith
below_longest (instr.Bsf w to from) = omega arith
below_longest (instr.Bsr w to from) = omega arith
below_longest (instr.Bswap to) = omega arith
below_longest (instr.Movs w repeat) = omega arith
below_longest (instr.Stos w repeat) = omega arith
below_longest (instr.Jmp by) = omega arith
below_longest (instr.JmpTo to) = omega arith
below_longest (instr.CallTo to) = omega arith
below_longest (instr.Jcc c by) = omega arith
below_longest (instr.Call by) = omega arith
below_longest (instr.Ret drop) = omega arith
below_longest instr.Leave = omega arith
below_longest instr.Int80 = omega arith
below_longest instr.Cld = omega arith
below_longest instr.Nop = omega arith

pub plain_places : LiftingLaws → IsPlain longest_list lifting_of_places
plain_places laws = record {
  ops = λ p. laws.ops p.instr p.at p.len;
  frameless = λ p. laws.frameless p.instr p.at p.len;
  short = λ p. omega (arith, laws.short p.instr p.at p.len, below_longest p.instr);
  way = λ p. laws.way p.instr p.at p.len;
}
