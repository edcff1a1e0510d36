-- Whether an instruction's fields are in the ranges of its spellings.
use Rattle.std.specs.Prelude.{ℕ, ◌^◌, Bool, true, false, ◌&&◌, ◌||◌, nat_lt, ◌==◌, List, Option, Some, None}
use Rattle.x86_types.specs.declared.operand.Reg.{Reg}
use Rattle.x86_types.specs.declared.operand.Reg.TheVariants as reg
use Rattle.x86_types.specs.declared.operation.Count.{Count}
use Rattle.x86_types.specs.declared.operation.Count.TheVariants as count
use Rattle.x86_types.specs.declared.width.Width.{Width}
use Rattle.x86_types.specs.declared.width.Width.TheVariants.{One, Two, Four}
use Rattle.x86_types.specs.declared.operand.Address.{Address}
use Rattle.x86_types.specs.declared.operand.Rm.{Rm}
use Rattle.x86_types.specs.declared.operand.Rm.TheVariants as rm
use Rattle.x86_types.specs.declared.operand.Src.{Src}
use Rattle.x86_types.specs.declared.operand.Src.TheVariants as src
use Rattle.x86_types.specs.declared.instr.Instr.{Instr}
use Rattle.x86_types.specs.declared.instr.Instr.TheVariants as instr
use Rattle.x86_types.specs.Numbers.{size_of}
use Rattle.x86_grammar.specs.Parts.{w_bit}
use Rattle.x86_grammar.specs.Spells.{Spells}

-- a number of that width
abbrev pub number_fits : Width → ℕ → Bool
number_fits w v = nat_lt v (256 ^ size_of w)

-- 1, 2, 4 or 8
abbrev pub scale_fits : ℕ → Bool
scale_fits s = s == 1 || s == 2 || s == 4 || s == 8

-- without an index the scale is 1; ESP is no index
abbrev pub index_fits : Option Reg → ℕ → Bool
index_fits None s = s == 1
index_fits (Some reg.Esp) s = false
index_fits (Some _) s = scale_fits s

-- an index, a scale and a displacement that SIB can name
abbrev pub address_fits : Address → Bool
address_fits a = index_fits a.index a.scale && number_fits Four a.disp

-- a register, or a place in memory that fits
abbrev pub rm_fits : Rm → Bool
rm_fits (rm.Reg r) = true
rm_fits (rm.Mem a) = address_fits a

-- a count of one byte, or CL
abbrev pub count_fits : Count → Bool
count_fits (count.Imm v) = number_fits One v
count_fits count.Cl = true

-- an operand and a source of that width, not both in memory
abbrev pub moves_fit : Width → Rm → Src → Bool
moves_fit w to (src.Reg r) = rm_fits to
moves_fit w (rm.Reg t) (src.Mem a) = address_fits a
moves_fit w (rm.Mem b) (src.Mem a) = false
moves_fit w to (src.Imm v) = rm_fits to && number_fits w v

-- as moves_fit, but TEST reads no place in memory as its source
abbrev pub test_fits : Width → Rm → Src → Bool
test_fits w left (src.Reg r) = rm_fits left
test_fits w left (src.Mem a) = false
test_fits w left (src.Imm v) = rm_fits left && number_fits w v

-- a source of four bytes
abbrev pub push_fits : Src → Bool
push_fits (src.Reg r) = true
push_fits (src.Mem a) = address_fits a
push_fits (src.Imm v) = number_fits Four v

-- a wider width and one that is widened to it
abbrev pub widens : Width → Width → Bool
widens Two One = true
widens Four One = true
widens Four Two = true
widens _ _ = false

-- an instruction whose fields are all in range
abbrev pub fields_fit : Instr → Bool
fields_fit (instr.Alu op w to from) = moves_fit w to from
fields_fit (instr.Test w left right) = test_fits w left right
fields_fit (instr.Mov w to from) = moves_fit w to from
fields_fit (instr.Lea w to a) = w_bit w && address_fits a
fields_fit (instr.Inc w to) = rm_fits to
fields_fit (instr.Dec w to) = rm_fits to
fields_fit (instr.Not w to) = rm_fits to
fields_fit (instr.Neg w to) = rm_fits to
fields_fit (instr.Mul w from) = rm_fits from
fields_fit (instr.ImulWide w from) = rm_fits from
fields_fit (instr.Div w from) = rm_fits from
fields_fit (instr.Idiv w from) = rm_fits from
fields_fit (instr.Imul w to from) = w_bit w && rm_fits from
fields_fit (instr.ImulBy w to from by) = w_bit w && (rm_fits from && number_fits w by)
fields_fit (instr.Shift op w to n) = rm_fits to && count_fits n
fields_fit (instr.Shld to from n) = rm_fits to && count_fits n
fields_fit (instr.Shrd to from n) = rm_fits to && count_fits n
fields_fit (instr.Push from) = push_fits from
fields_fit (instr.Pop to) = rm_fits to
fields_fit (instr.Xchg w left right) = rm_fits left
fields_fit (instr.Movzx wide w to from) = widens wide w && rm_fits from
fields_fit (instr.Movsx wide w to from) = widens wide w && rm_fits from
fields_fit (instr.Cmov c w to from) = w_bit w && rm_fits from
fields_fit (instr.Setcc c to) = rm_fits to
fields_fit (instr.Extend w) = w_bit w
fields_fit (instr.Spread w) = w_bit w
fields_fit (instr.Bsf w to from) = w_bit w && rm_fits from
fields_fit (instr.Bsr w to from) = w_bit w && rm_fits from
fields_fit (instr.Bswap to) = true
fields_fit (instr.Movs w repeat) = true
fields_fit (instr.Stos w repeat) = true
fields_fit (instr.Jmp by) = number_fits Four by
fields_fit (instr.JmpTo to) = rm_fits to
fields_fit (instr.CallTo to) = rm_fits to
fields_fit (instr.Jcc c by) = number_fits Four by
fields_fit (instr.Call by) = number_fits Four by
fields_fit (instr.Ret drop) = number_fits Two drop
fields_fit instr.Leave = true
fields_fit instr.Int80 = true
fields_fit instr.Cld = true
fields_fit instr.Nop = true

-- some bytes spell it
pub record HasSpelling (i : Instr) : Type 0 where
  pub bytes : List ℕ
  pub spells : Spells bytes i
