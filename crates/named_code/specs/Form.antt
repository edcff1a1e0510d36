-- The register fields of instructions, and named code in form. All of this is own.
use Rattle.std.specs.Prelude.{◌≡◌, ◌≢◌, ℕ, ◌<◌, List, [], ◌∷◌, ◌++◌, map, length, All, Contains, Option, Some, None}
use Rattle.std.specs.List.{range_with_len}
use Rattle.x86_types.specs.declared.operand.Reg.{Reg}
use Rattle.x86_types.specs.declared.operand.Reg.TheVariants.{Esp}
use Rattle.x86_types.specs.declared.operand.Rm.{Rm}
use Rattle.x86_types.specs.declared.operand.Rm.TheVariants as rm
use Rattle.x86_types.specs.declared.operand.Src.{Src}
use Rattle.x86_types.specs.declared.operand.Src.TheVariants as src
use Rattle.x86_types.specs.declared.operand.Address.{Address}
use Rattle.x86_types.specs.declared.instr.Instr.{Instr}
use Rattle.x86_types.specs.declared.instr.Instr.TheVariants as instr
use Rattle.x86_types.specs.Numbers.{number_of_reg}
use Rattle.x86_grammar.specs.Fields.{HasSpelling}
use Rattle.named_code.specs.declared.slot.Slot.{Slot}
use Rattle.named_code.specs.declared.slot.Slot.TheVariants.{Fixed, Name}
use Rattle.named_code.specs.declared.named.VInstr.{VInstr}
use Rattle.named_code.specs.declared.named.VBlock.{VBlock}

-- ---- the register fields of an instruction, in order
abbrev pub if_some : Option Reg → List Reg
if_some None = []
if_some (Some r) = r ∷ []

abbrev pub address_fields : Address → List Reg
address_fields a = if_some a.base ++ if_some a.index

abbrev pub rm_fields : Rm → List Reg
rm_fields (rm.Reg r) = r ∷ []
rm_fields (rm.Mem a) = address_fields a

abbrev pub src_fields : Src → List Reg
src_fields (src.Reg r) = r ∷ []
src_fields (src.Mem a) = address_fields a
src_fields (src.Imm n) = []

unfoldable pub register_fields : Instr → List Reg
register_fields (instr.Alu op w to from) = rm_fields to ++ src_fields from
register_fields (instr.Test w left right) = rm_fields left ++ src_fields right
register_fields (instr.Mov w to from) = rm_fields to ++ src_fields from
register_fields (instr.Lea w to at) = to ∷ address_fields at
register_fields (instr.Inc w to) = rm_fields to
register_fields (instr.Dec w to) = rm_fields to
register_fields (instr.Not w to) = rm_fields to
register_fields (instr.Neg w to) = rm_fields to
register_fields (instr.Mul w from) = rm_fields from
register_fields (instr.ImulWide w from) = rm_fields from
register_fields (instr.Div w from) = rm_fields from
register_fields (instr.Idiv w from) = rm_fields from
register_fields (instr.Imul w to from) = to ∷ rm_fields from
register_fields (instr.ImulBy w to from by) = to ∷ rm_fields from
register_fields (instr.Shift op w to n) = rm_fields to
register_fields (instr.Shld to from n) = rm_fields to ++ from ∷ []
register_fields (instr.Shrd to from n) = rm_fields to ++ from ∷ []
register_fields (instr.Push from) = src_fields from
register_fields (instr.Pop to) = rm_fields to
register_fields (instr.Xchg w left right) = rm_fields left ++ right ∷ []
register_fields (instr.Movzx wide w to from) = to ∷ rm_fields from
register_fields (instr.Movsx wide w to from) = to ∷ rm_fields from
register_fields (instr.Cmov c w to from) = to ∷ rm_fields from
register_fields (instr.Setcc c to) = rm_fields to
register_fields (instr.Extend w) = []
register_fields (instr.Spread w) = []
register_fields (instr.Bsf w to from) = to ∷ rm_fields from
register_fields (instr.Bsr w to from) = to ∷ rm_fields from
register_fields (instr.Bswap to) = to ∷ []
register_fields (instr.Movs w repeat) = []
register_fields (instr.Stos w repeat) = []
register_fields (instr.Jmp by) = []
register_fields (instr.JmpTo to) = rm_fields to
register_fields (instr.CallTo to) = rm_fields to
register_fields (instr.Jcc c by) = []
register_fields (instr.Call by) = []
register_fields (instr.Ret drop) = []
register_fields instr.Leave = []
register_fields instr.Int80 = []
register_fields instr.Cld = []
register_fields instr.Nop = []

-- ---- instructions in form
-- the numbers of the names, each of which has a cell in the range of cells
abbrev pub IsSlot : Slot → Type 0
IsSlot (Fixed r) = r ≢ Esp
IsSlot (Name n) = n < 1540096

-- it uses no esp, also without a field: it isn't PUSH, POP, CALL, RET or LEAVE
abbrev pub IsStackless : Instr → Type 0
IsStackless (instr.Push from) = ⊥
IsStackless (instr.Pop to) = ⊥
IsStackless (instr.CallTo to) = ⊥
IsStackless (instr.Call by) = ⊥
IsStackless (instr.Ret drop) = ⊥
IsStackless instr.Leave = ⊥
IsStackless _ = Unit {0}

-- the block that it names is one of these numbers
abbrev pub NamesBlock : List ℕ → Instr → Type 0
NamesBlock numbers (instr.Jmp by) = Contains numbers by
NamesBlock numbers (instr.Jcc c by) = Contains numbers by
NamesBlock numbers _ = Unit {0}

pub record IsInstrInForm (code : List VBlock) (i : VInstr) : Type 0 where
  -- it can be spelled, with any registers in its fields
  pub spelled : HasSpelling i.instr
  -- its fields are numbered in order, and each has a slot
  pub fields : map number_of_reg (register_fields i.instr) ≡ range_with_len 0 (length i.slots)
  pub slots : All IsSlot i.slots
  pub stackless : IsStackless i.instr
  pub target : NamesBlock (map (λ b. b.number) code) i.instr

-- ---- code in form: blocks with an old address have an instruction
pub record IsBlockInForm (code : List VBlock) (b : VBlock) : Type 0 where
  pub instrs : All (IsInstrInForm code) b.code
  pub begins : b.at ≢ 0 → b.code ≢ []

abbrev pub IsCodeInForm : List VBlock → Type 0
IsCodeInForm code = All (IsBlockInForm code) code
