-- Where an instruction has a field of one byte.
use Rattle.std.proofs.Common.{◌≡◌, ◌||◌, Bool, true, false, List, [], ◌∷◌, ◌++◌, Option, Some, None, refl}
use Rattle.x86_types.specs.declared.operand.Address.{Address}
use Rattle.x86_types.specs.declared.operand.Reg.{Reg}
use Rattle.x86_types.specs.declared.operand.Rm.{Rm}
use Rattle.x86_types.specs.declared.operand.Rm.TheVariants as rm
use Rattle.x86_types.specs.declared.operand.Src.{Src}
use Rattle.x86_types.specs.declared.operand.Src.TheVariants as src
use Rattle.x86_types.specs.declared.width.Width.{Width}
use Rattle.x86_types.specs.declared.width.Width.TheVariants.{One, Two, Four}
use Rattle.x86_types.specs.declared.instr.Instr.{Instr}
use Rattle.x86_types.specs.declared.instr.Instr.TheVariants as instr
use Rattle.x86_types.specs.Registers.{RegisterField, Index, Whole, Byte}
use Rattle.field_places.specs.Fields.{Field, fields, sized_field, as_field, if_some, address_fields, rm_fields, src_fields}
use Rattle.name_cells.specs.Holders.{is_one, rm_has_byte, src_has_byte, has_byte_field}

abbrev pub IsSeenKind : Bool → RegisterField → Type 0
IsSeenKind b Index = Unit {0}
IsSeenKind b Whole = Unit {0}
IsSeenKind b Byte = b ≡ true

-- each field of one byte in a list is told by a test
abbrev pub AreSeen : Bool → List Field → Type 0
AreSeen b [] = Unit {0}
AreSeen b (f ∷ fs) = IsSeenKind b f.kind × AreSeen b fs

both : (b : Bool) (xs ys : List Field) → AreSeen b xs → AreSeen b ys → AreSeen b (xs ++ ys)
both b [] ys h k = k
both b (x ∷ xs) ys h k = (h.0, both b xs ys h.1 k)

in_option : (b : Bool) (o : Option Reg) → AreSeen b (if_some Whole o)
in_option b None = tt
in_option b (Some r) = (tt, tt)

in_index : (b : Bool) (o : Option Reg) → AreSeen b (if_some Index o)
in_index b None = tt
in_index b (Some r) = (tt, tt)

in_address : (b : Bool) (a : Address) → AreSeen b (address_fields a)
in_address b a = both b (if_some Whole a.base) (if_some Index a.index) (in_option b a.base) (in_index b a.index)

sized : (b : Bool) (w : Width) (r : Reg) → (is_one w ≡ true → b ≡ true) → AreSeen b (sized_field w r ∷ [])
sized b One r h = (h refl, tt)
sized b Two r h = (tt, tt)
sized b Four r h = (tt, tt)

in_rm : (b : Bool) (w : Width) (o : Rm) → (rm_has_byte w o ≡ true → b ≡ true) → AreSeen b (rm_fields w o)
in_rm b w (rm.Reg r) h = sized b w r h
in_rm b w (rm.Mem a) h = in_address b a

in_src : (b : Bool) (w : Width) (o : Src) → (src_has_byte w o ≡ true → b ≡ true) → AreSeen b (src_fields w o)
in_src b w (src.Reg r) h = sized b w r h
in_src b w (src.Mem a) h = in_address b a
in_src b w (src.Imm n) h = tt

or_left : (a b : Bool) → a ≡ true → (a || b) ≡ true
or_left true b h = refl
or_left false b h = absurd cc

or_right : (a b : Bool) → b ≡ true → (a || b) ≡ true
or_right true b h = refl
or_right false b h = h

rm_and_src : (w : Width) (to : Rm) (from : Src) → AreSeen (rm_has_byte w to || src_has_byte w from) (rm_fields w to ++ src_fields w from)
rm_and_src w to from = let b = rm_has_byte w to || src_has_byte w from in both b (rm_fields w to) (src_fields w from) (in_rm b w to (or_left (rm_has_byte w to) (src_has_byte w from))) (in_src b w from (or_right (rm_has_byte w to) (src_has_byte w from)))

field_and_rm : (w : Width) (to : Reg) (z : Width) (from : Rm) → AreSeen (is_one w || rm_has_byte z from) (sized_field w to ∷ rm_fields z from)
field_and_rm w to z from = let b = is_one w || rm_has_byte z from in both b (sized_field w to ∷ []) (rm_fields z from) (sized b w to (or_left (is_one w) (rm_has_byte z from))) (in_rm b z from (or_right (is_one w) (rm_has_byte z from)))

rm_and_field : (w : Width) (to : Rm) (from : Reg) → AreSeen (rm_has_byte w to || is_one w) (rm_fields w to ++ sized_field w from ∷ [])
rm_and_field w to from = let b = rm_has_byte w to || is_one w in both b (rm_fields w to) (sized_field w from ∷ []) (in_rm b w to (or_left (rm_has_byte w to) (is_one w))) (sized b w from (or_right (rm_has_byte w to) (is_one w)))

-- in a whole word there is none
no_byte : (o : Rm) → AreSeen false (rm_fields Four o)
no_byte (rm.Reg r) = (tt, tt)
no_byte (rm.Mem a) = in_address false a

no_byte_source : (o : Src) → AreSeen false (src_fields Four o)
no_byte_source (src.Reg r) = (tt, tt)
no_byte_source (src.Mem a) = in_address false a
no_byte_source (src.Imm n) = tt

alone : (w : Width) (o : Rm) → AreSeen (rm_has_byte w o) (rm_fields w o)
alone w o = in_rm (rm_has_byte w o) w o (λ e. e)

pub seen : (i : Instr) → AreSeen (has_byte_field i) (fields i)
unfolding has_byte_field fields
seen (instr.Alu op w to from) = rm_and_src w to from
seen (instr.Test w left right) = rm_and_src w left right
seen (instr.Mov w to from) = rm_and_src w to from
seen (instr.Lea w to at) = both (is_one w) (sized_field w to ∷ []) (address_fields at) (sized (is_one w) w to (λ e. e)) (in_address (is_one w) at)
seen (instr.Inc w to) = alone w to
seen (instr.Dec w to) = alone w to
seen (instr.Not w to) = alone w to
seen (instr.Neg w to) = alone w to
seen (instr.Mul w from) = alone w from
seen (instr.ImulWide w from) = alone w from
seen (instr.Div w from) = alone w from
seen (instr.Idiv w from) = alone w from
seen (instr.Imul w to from) = field_and_rm w to w from
seen (instr.ImulBy w to from by) = field_and_rm w to w from
seen (instr.Shift op w to n) = alone w to
seen (instr.Shld to from n) = both false (rm_fields Four to) (as_field Whole from ∷ []) (no_byte to) (tt, tt)
seen (instr.Shrd to from n) = both false (rm_fields Four to) (as_field Whole from ∷ []) (no_byte to) (tt, tt)
seen (instr.Push from) = no_byte_source from
seen (instr.Pop to) = no_byte to
seen (instr.Xchg w left right) = rm_and_field w left right
seen (instr.Movzx wide w to from) = field_and_rm wide to w from
seen (instr.Movsx wide w to from) = field_and_rm wide to w from
seen (instr.Cmov c w to from) = field_and_rm w to w from
seen (instr.Setcc c to) = alone One to
seen (instr.Extend w) = tt
seen (instr.Spread w) = tt
seen (instr.Bsf w to from) = field_and_rm w to w from
seen (instr.Bsr w to from) = field_and_rm w to w from
seen (instr.Bswap to) = (tt, tt)
seen (instr.Movs w repeat) = tt
seen (instr.Stos w repeat) = tt
seen (instr.Jmp by) = tt
seen (instr.JmpTo to) = no_byte to
seen (instr.CallTo to) = no_byte to
seen (instr.Jcc c by) = tt
seen (instr.Call by) = tt
seen (instr.Ret drop) = tt
seen instr.Leave = tt
seen instr.Int80 = tt
seen instr.Cld = tt
seen instr.Nop = tt
