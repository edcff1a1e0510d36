-- What an instruction that isn't CALL does is the same wherever the next one stands.
use Rattle.std.proofs.Common.{◌≡◌, ℕ, List, Option, Some, None, refl, ap}
use Rattle.x86_values.specs.declared.word.Word.{Word}
use Rattle.x86_values.specs.declared.word.Flags.{Flags}
use Rattle.memory.specs.Memory.{Memory}
use Rattle.x86_types.specs.declared.instr.Instr.{Instr}
use Rattle.x86_types.specs.declared.instr.Instr.TheVariants as instr
use Rattle.x86_meaning.specs.Operands.{values_in}
use Rattle.x86_meaning.specs.Registers.{Naming, Processor}
use Rattle.x86_meaning.specs.TransferShapes.{Transfer}
use Rattle.x86_meaning.specs.Transfers.{transfer}
use Rattle.x86_meaning.specs.Effect.{effect_of, effect_by, effect}
use Rattle.x86_meaning.specs.Computing.{compute}
use Rattle.named_code.specs.Form.{IsStackless}

same_computed : (i : Instr) (n k : ℕ) (f : Flags) (xs : List Word) → IsStackless i → compute i n f xs ≡ compute i k f xs
unfolding compute
same_computed (instr.Alu op w to from) n k f xs h = refl
same_computed (instr.Test w left right) n k f xs h = refl
same_computed (instr.Mov w to from) n k f xs h = refl
same_computed (instr.Lea w to at) n k f xs h = refl
same_computed (instr.Inc w to) n k f xs h = refl
same_computed (instr.Dec w to) n k f xs h = refl
same_computed (instr.Not w to) n k f xs h = refl
same_computed (instr.Neg w to) n k f xs h = refl
same_computed (instr.Mul w from) n k f xs h = refl
same_computed (instr.ImulWide w from) n k f xs h = refl
same_computed (instr.Div w from) n k f xs h = refl
same_computed (instr.Idiv w from) n k f xs h = refl
same_computed (instr.Imul w to from) n k f xs h = refl
same_computed (instr.ImulBy w to from by) n k f xs h = refl
same_computed (instr.Shift op w to m) n k f xs h = refl
same_computed (instr.Shld to from m) n k f xs h = refl
same_computed (instr.Shrd to from m) n k f xs h = refl
same_computed (instr.Push from) n k f xs h = refl
same_computed (instr.Pop to) n k f xs h = refl
same_computed (instr.Xchg w left right) n k f xs h = refl
same_computed (instr.Movzx wide w to from) n k f xs h = refl
same_computed (instr.Movsx wide w to from) n k f xs h = refl
same_computed (instr.Cmov c w to from) n k f xs h = refl
same_computed (instr.Setcc c to) n k f xs h = refl
same_computed (instr.Extend w) n k f xs h = refl
same_computed (instr.Spread w) n k f xs h = refl
same_computed (instr.Bsf w to from) n k f xs h = refl
same_computed (instr.Bsr w to from) n k f xs h = refl
same_computed (instr.Bswap to) n k f xs h = refl
same_computed (instr.Movs w repeat) n k f xs h = refl
same_computed (instr.Stos w repeat) n k f xs h = refl
same_computed (instr.Jmp by) n k f xs h = refl
same_computed (instr.JmpTo to) n k f xs h = refl
same_computed (instr.CallTo to) n k f xs h = absurd h
same_computed (instr.Jcc c by) n k f xs h = refl
same_computed (instr.Call by) n k f xs h = absurd h
same_computed (instr.Ret drop) n k f xs h = refl
same_computed instr.Leave n k f xs h = refl
same_computed instr.Int80 n k f xs h = refl
same_computed instr.Cld n k f xs h = refl
same_computed instr.Nop n k f xs h = refl

pub same_effect : (v : Naming) (i : Instr) (n k : ℕ) (cpu : Processor) (m : Memory) → IsStackless i → effect v i n cpu m ≡ effect v i k cpu m
unfolding effect
same_effect v i n k cpu m h = by (transfer v i cpu.regs)
  where
    by : (t : Option Transfer) → effect_by t i n cpu m ≡ effect_by t i k cpu m
    by None = refl
    by (Some t) = ap (effect_of t.writes cpu.regs) (same_computed i n k cpu.flags (values_in t.reads cpu.regs m) h)
