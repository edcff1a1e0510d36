-- What a change of registers keeps.
use Rattle.std.proofs.Common.{◌≡◌, Option, Some, None, refl, ap}
use Rattle.x86_types.specs.declared.instr.Instr.{Instr}
use Rattle.x86_types.specs.declared.instr.Instr.TheVariants as instr
use Rattle.x86_types.specs.declared.operand.Address.{Address}
use Rattle.x86_types.specs.declared.operand.Reg.{Reg}
use Rattle.x86_types.specs.declared.operand.Reg.TheVariants as reg
use Rattle.x86_types.specs.declared.operand.Rm.{Rm}
use Rattle.x86_types.specs.declared.operand.Rm.TheVariants as rm
use Rattle.x86_types.specs.declared.operand.Src.{Src}
use Rattle.x86_types.specs.declared.operand.Src.TheVariants as src
use Rattle.x86_types.specs.declared.width.Width.{Width}
use Rattle.x86_types.specs.declared.width.Width.TheVariants.{One, Four}
use Rattle.x86_types.specs.Registers.{Index, Whole, Renaming, renamed_option, renamed_address, renamed_rm, renamed_src, renamed, ByteRegisterIsNumber, RenamingLaws}

pub byte_number : ByteRegisterIsNumber
byte_number reg.Eax = refl
byte_number reg.Ecx = refl
byte_number reg.Edx = refl
byte_number reg.Ebx = refl
byte_number reg.Esp = refl
byte_number reg.Ebp = refl
byte_number reg.Esi = refl
byte_number reg.Edi = refl

option_same : (o : Option Reg) → renamed_option (λ r. r) o ≡ o
option_same None = refl
option_same (Some r) = refl

option_twice : (f g : Reg → Reg) (o : Option Reg) → renamed_option f (renamed_option g o) ≡ renamed_option (λ r. f (g r)) o
option_twice f g None = refl
option_twice f g (Some r) = refl

module _ where
  abbrev id : Renaming
  id k r = r

  address_same : (a : Address) → renamed_address id a ≡ a
  address_same a = rw (option_same a.base, option_same a.index) refl

  rm_same : (w : Width) (m : Rm) → renamed_rm id w m ≡ m
  rm_same w (rm.Reg r) = refl
  rm_same w (rm.Mem a) = ap rm.Mem (address_same a)

  src_same : (w : Width) (m : Src) → renamed_src id w m ≡ m
  src_same w (src.Reg r) = refl
  src_same w (src.Mem a) = ap src.Mem (address_same a)
  src_same w (src.Imm v) = refl

  pub same : (i : Instr) → renamed id i ≡ i
  same (instr.Alu op w to from) = rw (rm_same w to, src_same w from) refl
  same (instr.Test w left right) = rw (rm_same w left, src_same w right) refl
  same (instr.Mov w to from) = rw (rm_same w to, src_same w from) refl
  same (instr.Lea w to a) = rw (address_same a) refl
  same (instr.Inc w to) = rw (rm_same w to) refl
  same (instr.Dec w to) = rw (rm_same w to) refl
  same (instr.Not w to) = rw (rm_same w to) refl
  same (instr.Neg w to) = rw (rm_same w to) refl
  same (instr.Mul w from) = rw (rm_same w from) refl
  same (instr.ImulWide w from) = rw (rm_same w from) refl
  same (instr.Div w from) = rw (rm_same w from) refl
  same (instr.Idiv w from) = rw (rm_same w from) refl
  same (instr.Imul w to from) = rw (rm_same w from) refl
  same (instr.ImulBy w to from by) = rw (rm_same w from) refl
  same (instr.Shift op w to n) = rw (rm_same w to) refl
  same (instr.Shld to from n) = rw (rm_same Four to) refl
  same (instr.Shrd to from n) = rw (rm_same Four to) refl
  same (instr.Push from) = rw (src_same Four from) refl
  same (instr.Pop to) = rw (rm_same Four to) refl
  same (instr.Xchg w left right) = rw (rm_same w left) refl
  same (instr.Movzx wide w to from) = rw (rm_same w from) refl
  same (instr.Movsx wide w to from) = rw (rm_same w from) refl
  same (instr.Cmov c w to from) = rw (rm_same w from) refl
  same (instr.Setcc c to) = rw (rm_same One to) refl
  same (instr.Extend w) = refl
  same (instr.Spread w) = refl
  same (instr.Bsf w to from) = rw (rm_same w from) refl
  same (instr.Bsr w to from) = rw (rm_same w from) refl
  same (instr.Bswap to) = refl
  same (instr.Movs w repeat) = refl
  same (instr.Stos w repeat) = refl
  same (instr.Jmp by) = refl
  same (instr.JmpTo to) = rw (rm_same Four to) refl
  same (instr.CallTo to) = rw (rm_same Four to) refl
  same (instr.Jcc c by) = refl
  same (instr.Call by) = refl
  same (instr.Ret drop) = refl
  same instr.Leave = refl
  same instr.Int80 = refl
  same instr.Cld = refl
  same instr.Nop = refl

module _ (f g : Renaming) where
  abbrev both : Renaming
  both k r = f k (g k r)

  address_twice : (a : Address) → renamed_address f (renamed_address g a) ≡ renamed_address both a
  address_twice a = rw (option_twice (f Whole) (g Whole) a.base, option_twice (f Index) (g Index) a.index) refl

  rm_twice : (w : Width) (m : Rm) → renamed_rm f w (renamed_rm g w m) ≡ renamed_rm both w m
  rm_twice w (rm.Reg r) = refl
  rm_twice w (rm.Mem a) = ap rm.Mem (address_twice a)

  src_twice : (w : Width) (m : Src) → renamed_src f w (renamed_src g w m) ≡ renamed_src both w m
  src_twice w (src.Reg r) = refl
  src_twice w (src.Mem a) = ap src.Mem (address_twice a)
  src_twice w (src.Imm v) = refl

  pub twice : (i : Instr) → renamed f (renamed g i) ≡ renamed both i
  twice (instr.Alu op w to from) = rw (rm_twice w to, src_twice w from) refl
  twice (instr.Test w left right) = rw (rm_twice w left, src_twice w right) refl
  twice (instr.Mov w to from) = rw (rm_twice w to, src_twice w from) refl
  twice (instr.Lea w to a) = rw (address_twice a) refl
  twice (instr.Inc w to) = rw (rm_twice w to) refl
  twice (instr.Dec w to) = rw (rm_twice w to) refl
  twice (instr.Not w to) = rw (rm_twice w to) refl
  twice (instr.Neg w to) = rw (rm_twice w to) refl
  twice (instr.Mul w from) = rw (rm_twice w from) refl
  twice (instr.ImulWide w from) = rw (rm_twice w from) refl
  twice (instr.Div w from) = rw (rm_twice w from) refl
  twice (instr.Idiv w from) = rw (rm_twice w from) refl
  twice (instr.Imul w to from) = rw (rm_twice w from) refl
  twice (instr.ImulBy w to from by) = rw (rm_twice w from) refl
  twice (instr.Shift op w to n) = rw (rm_twice w to) refl
  twice (instr.Shld to from n) = rw (rm_twice Four to) refl
  twice (instr.Shrd to from n) = rw (rm_twice Four to) refl
  twice (instr.Push from) = rw (src_twice Four from) refl
  twice (instr.Pop to) = rw (rm_twice Four to) refl
  twice (instr.Xchg w left right) = rw (rm_twice w left) refl
  twice (instr.Movzx wide w to from) = rw (rm_twice w from) refl
  twice (instr.Movsx wide w to from) = rw (rm_twice w from) refl
  twice (instr.Cmov c w to from) = rw (rm_twice w from) refl
  twice (instr.Setcc c to) = rw (rm_twice One to) refl
  twice (instr.Extend w) = refl
  twice (instr.Spread w) = refl
  twice (instr.Bsf w to from) = rw (rm_twice w from) refl
  twice (instr.Bsr w to from) = rw (rm_twice w from) refl
  twice (instr.Bswap to) = refl
  twice (instr.Movs w repeat) = refl
  twice (instr.Stos w repeat) = refl
  twice (instr.Jmp by) = refl
  twice (instr.JmpTo to) = rw (rm_twice Four to) refl
  twice (instr.CallTo to) = rw (rm_twice Four to) refl
  twice (instr.Jcc c by) = refl
  twice (instr.Call by) = refl
  twice (instr.Ret drop) = refl
  twice instr.Leave = refl
  twice instr.Int80 = refl
  twice instr.Cld = refl
  twice instr.Nop = refl

pub renaming_laws : RenamingLaws
renaming_laws = record { same = same; twice = twice }
