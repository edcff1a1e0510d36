-- What an instruction with other registers in its fields has in common with itself.
use Rattle.std.proofs.Common.{◌≡◌, ℕ, List, [], ◌∷◌, ◌++◌, map, Option, Some, None, refl, sym, ap, ap₂, ◌∙◌}
use Rattle.std.proofs.lemmas.List.{map-append}
use Rattle.x86_types.specs.declared.operand.Address.{Address}
use Rattle.x86_types.specs.declared.operand.Reg.{Reg}
use Rattle.x86_types.specs.declared.operand.Rm.{Rm}
use Rattle.x86_types.specs.declared.operand.Rm.TheVariants as rm
use Rattle.x86_types.specs.declared.operand.Src.{Src}
use Rattle.x86_types.specs.declared.operand.Src.TheVariants as src
use Rattle.x86_types.specs.declared.width.Width.{Width}
use Rattle.x86_types.specs.declared.width.Width.TheVariants.{One, Four}
use Rattle.x86_types.specs.declared.instr.Instr.{Instr}
use Rattle.x86_types.specs.declared.instr.Instr.TheVariants as instr
use Rattle.x86_types.specs.Registers.{Renaming, renamed_option, renamed_address, renamed_rm, renamed_src, renamed}
use Rattle.named_code.specs.Running.{CodeState}
use Rattle.named_code.specs.TestedRun.{call_buffer}
use Rattle.named_code.specs.Form.{if_some, address_fields, rm_fields, src_fields, register_fields, IsStackless, NamesBlock}
use Rattle.named_code.specs.Weight.{course_of}

-- ---- all that doesn't depend on its fields
abbrev pub IsKept : Renaming → Instr → Type 0
IsKept f i =
    (IsStackless i → IsStackless (renamed f i)) × ((numbers : List ℕ) → NamesBlock numbers i → NamesBlock numbers (renamed f i)) × (course_of (renamed f i) ≡ course_of i) × ((s : CodeState) → call_buffer (renamed f i) s ≡ call_buffer i s)

pub is_kept : (f : Renaming) (i : Instr) → IsKept f i
is_kept f (instr.Alu op w to from) = (λ h. h, λ ns h. h, refl, λ s. refl)
is_kept f (instr.Test w left right) = (λ h. h, λ ns h. h, refl, λ s. refl)
is_kept f (instr.Mov w to from) = (λ h. h, λ ns h. h, refl, λ s. refl)
is_kept f (instr.Lea w to at) = (λ h. h, λ ns h. h, refl, λ s. refl)
is_kept f (instr.Inc w to) = (λ h. h, λ ns h. h, refl, λ s. refl)
is_kept f (instr.Dec w to) = (λ h. h, λ ns h. h, refl, λ s. refl)
is_kept f (instr.Not w to) = (λ h. h, λ ns h. h, refl, λ s. refl)
is_kept f (instr.Neg w to) = (λ h. h, λ ns h. h, refl, λ s. refl)
is_kept f (instr.Mul w from) = (λ h. h, λ ns h. h, refl, λ s. refl)
is_kept f (instr.ImulWide w from) = (λ h. h, λ ns h. h, refl, λ s. refl)
is_kept f (instr.Div w from) = (λ h. h, λ ns h. h, refl, λ s. refl)
is_kept f (instr.Idiv w from) = (λ h. h, λ ns h. h, refl, λ s. refl)
is_kept f (instr.Imul w to from) = (λ h. h, λ ns h. h, refl, λ s. refl)
is_kept f (instr.ImulBy w to from by') = (λ h. h, λ ns h. h, refl, λ s. refl)
is_kept f (instr.Shift op w to n) = (λ h. h, λ ns h. h, refl, λ s. refl)
is_kept f (instr.Shld to from n) = (λ h. h, λ ns h. h, refl, λ s. refl)
is_kept f (instr.Shrd to from n) = (λ h. h, λ ns h. h, refl, λ s. refl)
is_kept f (instr.Push from) = (λ h. h, λ ns h. h, refl, λ s. refl)
is_kept f (instr.Pop to) = (λ h. h, λ ns h. h, refl, λ s. refl)
is_kept f (instr.Xchg w left right) = (λ h. h, λ ns h. h, refl, λ s. refl)
is_kept f (instr.Movzx wide w to from) = (λ h. h, λ ns h. h, refl, λ s. refl)
is_kept f (instr.Movsx wide w to from) = (λ h. h, λ ns h. h, refl, λ s. refl)
is_kept f (instr.Cmov c w to from) = (λ h. h, λ ns h. h, refl, λ s. refl)
is_kept f (instr.Setcc c to) = (λ h. h, λ ns h. h, refl, λ s. refl)
is_kept f (instr.Extend w) = (λ h. h, λ ns h. h, refl, λ s. refl)
is_kept f (instr.Spread w) = (λ h. h, λ ns h. h, refl, λ s. refl)
is_kept f (instr.Bsf w to from) = (λ h. h, λ ns h. h, refl, λ s. refl)
is_kept f (instr.Bsr w to from) = (λ h. h, λ ns h. h, refl, λ s. refl)
is_kept f (instr.Bswap to) = (λ h. h, λ ns h. h, refl, λ s. refl)
is_kept f (instr.Movs w repeat) = (λ h. h, λ ns h. h, refl, λ s. refl)
is_kept f (instr.Stos w repeat) = (λ h. h, λ ns h. h, refl, λ s. refl)
is_kept f (instr.Jmp by') = (λ h. h, λ ns h. h, refl, λ s. refl)
is_kept f (instr.JmpTo to) = (λ h. h, λ ns h. h, refl, λ s. refl)
is_kept f (instr.CallTo to) = (λ h. h, λ ns h. h, refl, λ s. refl)
is_kept f (instr.Jcc c by') = (λ h. h, λ ns h. h, refl, λ s. refl)
is_kept f (instr.Call by') = (λ h. h, λ ns h. h, refl, λ s. refl)
is_kept f (instr.Ret drop) = (λ h. h, λ ns h. h, refl, λ s. refl)
is_kept f instr.Leave = (λ h. h, λ ns h. h, refl, λ s. refl)
is_kept f instr.Int80 = (λ h. h, λ ns h. h, refl, λ s. refl)
is_kept f instr.Cld = (λ h. h, λ ns h. h, refl, λ s. refl)
is_kept f instr.Nop = (λ h. h, λ ns h. h, refl, λ s. refl)

-- ---- its fields, where one register stands for another in each kind of field
module _ (g : Reg → Reg) where
  abbrev by : Renaming
  by k r = g r

  option_renamed : (o : Option Reg) → if_some (renamed_option g o) ≡ map g (if_some o)
  option_renamed None = refl
  option_renamed (Some r) = refl

  both : (xs ys xs' ys' : List Reg) → xs' ≡ map g xs → ys' ≡ map g ys → xs' ++ ys' ≡ map g (xs ++ ys)
  both xs ys xs' ys' e f = ap₂ (λ (a b : List Reg). a ++ b) e f ∙ sym (map-append g xs ys)

  address_renamed : (a : Address) → address_fields (renamed_address by a) ≡ map g (address_fields a)
  address_renamed a = both (if_some a.base) (if_some a.index) _ _ (option_renamed a.base) (option_renamed a.index)

  rm_renamed : (w : Width) (o : Rm) → rm_fields (renamed_rm by w o) ≡ map g (rm_fields o)
  rm_renamed w (rm.Reg r) = refl
  rm_renamed w (rm.Mem a) = address_renamed a

  src_renamed : (w : Width) (o : Src) → src_fields (renamed_src by w o) ≡ map g (src_fields o)
  src_renamed w (src.Reg r) = refl
  src_renamed w (src.Mem a) = address_renamed a
  src_renamed w (src.Imm n) = refl

  rm_and_src : (w : Width) (to : Rm) (from : Src) → rm_fields (renamed_rm by w to) ++ src_fields (renamed_src by w from) ≡ map g (rm_fields to ++ src_fields from)
  rm_and_src w to from = both (rm_fields to) (src_fields from) _ _ (rm_renamed w to) (src_renamed w from)

  rm_and_field : (w : Width) (to : Rm) (from : Reg) → rm_fields (renamed_rm by w to) ++ g from ∷ [] ≡ map g (rm_fields to ++ from ∷ [])
  rm_and_field w to from = both (rm_fields to) (from ∷ []) _ _ (rm_renamed w to) refl

  field_and_rm : (to : Reg) (w : Width) (from : Rm) → g to ∷ rm_fields (renamed_rm by w from) ≡ map g (to ∷ rm_fields from)
  field_and_rm to w from = ap (λ (rs : List Reg). g to ∷ rs) (rm_renamed w from)

  pub fields_renamed : (i : Instr) → register_fields (renamed by i) ≡ map g (register_fields i)
  unfolding register_fields
  fields_renamed (instr.Alu op w to from) = rm_and_src w to from
  fields_renamed (instr.Test w left right) = rm_and_src w left right
  fields_renamed (instr.Mov w to from) = rm_and_src w to from
  fields_renamed (instr.Lea w to at) = ap (λ (rs : List Reg). g to ∷ rs) (address_renamed at)
  fields_renamed (instr.Inc w to) = rm_renamed w to
  fields_renamed (instr.Dec w to) = rm_renamed w to
  fields_renamed (instr.Not w to) = rm_renamed w to
  fields_renamed (instr.Neg w to) = rm_renamed w to
  fields_renamed (instr.Mul w from) = rm_renamed w from
  fields_renamed (instr.ImulWide w from) = rm_renamed w from
  fields_renamed (instr.Div w from) = rm_renamed w from
  fields_renamed (instr.Idiv w from) = rm_renamed w from
  fields_renamed (instr.Imul w to from) = field_and_rm to w from
  fields_renamed (instr.ImulBy w to from by') = field_and_rm to w from
  fields_renamed (instr.Shift op w to n) = rm_renamed w to
  fields_renamed (instr.Shld to from n) = rm_and_field Four to from
  fields_renamed (instr.Shrd to from n) = rm_and_field Four to from
  fields_renamed (instr.Push from) = src_renamed Four from
  fields_renamed (instr.Pop to) = rm_renamed Four to
  fields_renamed (instr.Xchg w left right) = rm_and_field w left right
  fields_renamed (instr.Movzx wide w to from) = field_and_rm to w from
  fields_renamed (instr.Movsx wide w to from) = field_and_rm to w from
  fields_renamed (instr.Cmov c w to from) = field_and_rm to w from
  fields_renamed (instr.Setcc c to) = rm_renamed One to
  fields_renamed (instr.Extend w) = refl
  fields_renamed (instr.Spread w) = refl
  fields_renamed (instr.Bsf w to from) = field_and_rm to w from
  fields_renamed (instr.Bsr w to from) = field_and_rm to w from
  fields_renamed (instr.Bswap to) = refl
  fields_renamed (instr.Movs w repeat) = refl
  fields_renamed (instr.Stos w repeat) = refl
  fields_renamed (instr.Jmp by') = refl
  fields_renamed (instr.JmpTo to) = rm_renamed Four to
  fields_renamed (instr.CallTo to) = rm_renamed Four to
  fields_renamed (instr.Jcc c by') = refl
  fields_renamed (instr.Call by') = refl
  fields_renamed (instr.Ret drop) = refl
  fields_renamed instr.Leave = refl
  fields_renamed instr.Int80 = refl
  fields_renamed instr.Cld = refl
  fields_renamed instr.Nop = refl
