-- Placed code in form can be laid.
use Rattle.std.proofs.Common.{◌≡◌, ◌≢◌, ℕ, zero, suc, List, [], ◌∷◌, ◌++◌, map, All, Option, Some, None, refl, sym, ap, ◌∙◌, subst}
use Rattle.std.proofs.lemmas.List.Elements.{All-nil, All-cons, All-head, All-tail}
use Rattle.x86_types.specs.declared.operand.Reg.{Reg}
use Rattle.x86_types.specs.declared.operand.Reg.TheVariants.{Esp}
use Rattle.x86_types.specs.declared.operand.Rm.{Rm}
use Rattle.x86_types.specs.declared.operand.Rm.TheVariants as rm
use Rattle.x86_types.specs.declared.operand.Src.{Src}
use Rattle.x86_types.specs.declared.operand.Src.TheVariants as src
use Rattle.x86_types.specs.declared.operand.Address.{Address}
use Rattle.x86_types.specs.declared.width.Width.{Width}
use Rattle.x86_types.specs.declared.width.Width.TheVariants.{One, Two, Four}
use Rattle.x86_types.specs.declared.instr.Instr.{Instr}
use Rattle.x86_types.specs.declared.instr.Instr.TheVariants as instr
use Rattle.x86_types.specs.Registers.{RegisterField, Index, Whole}
use Rattle.field_places.specs.Fields as field
use Rattle.field_places.specs.Fields.{Field, fields}
use Rattle.named_code.specs.declared.placed.Home.{Home}
use Rattle.named_code.specs.declared.placed.PInstr.{PInstr}
use Rattle.named_code.specs.declared.placed.PInstr.TheVariants as item
use Rattle.named_code.specs.declared.placed.PBlock.{PBlock}
use Rattle.named_code.specs.declared.placed.Placed.{Placed}
use Rattle.named_code.specs.Items.{Item, CodeBlock, placed_item, placed_block, placed_blocks}
use Rattle.named_code.specs.Form as form
use Rattle.named_code.specs.Form.{register_fields}
use Rattle.named_code.specs.PlacedForm.{IsItemInForm, IsPBlockInForm, IsPlacedInForm}
use Rattle.named_code.specs.Weight.{IsOnce}
use Rattle.laid_code.specs.Laid.{IsLayable, AreLayable, FormIsLayable}

-- ---- both lists of the register fields of an instruction are of the same registers
abbrev register_of : Field → Reg
register_of f = f.register

abbrev registers : List Field → List Reg
registers fs = map register_of fs

abbrev SameRegisters : List Field → List Reg → Type 0
SameRegisters fs rs = registers fs ≡ rs

both : (fs gs : List Field) (rs qs : List Reg) → SameRegisters fs rs → SameRegisters gs qs → SameRegisters (fs ++ gs) (rs ++ qs)
both [] gs [] qs e d = d
both [] gs (r ∷ rs) qs e d = absurd cc
both (f ∷ fs) gs [] qs e d = absurd cc
both (f ∷ fs) gs (r ∷ rs) qs e d =
    let first : f.register ≡ r = cc in
    let rest : registers fs ≡ rs = cc in
    ap (λ (q : Reg). q ∷ registers (fs ++ gs)) first ∙ ap (λ (l : List Reg). r ∷ l) (both fs gs rs qs rest d)

optional : (k : RegisterField) (o : Option Reg) → SameRegisters (field.if_some k o) (form.if_some o)
optional k None = refl
optional k (Some r) = refl

of_address : (a : Address) → SameRegisters (field.address_fields a) (form.address_fields a)
of_address a = both (field.if_some Whole a.base) (field.if_some Index a.index) (form.if_some a.base) (form.if_some a.index) (optional Whole a.base) (optional Index a.index)

of_rm : (w : Width) (o : Rm) → SameRegisters (field.rm_fields w o) (form.rm_fields o)
of_rm w (rm.Reg r) = refl
of_rm w (rm.Mem a) = of_address a

of_src : (w : Width) (o : Src) → SameRegisters (field.src_fields w o) (form.src_fields o)
of_src w (src.Reg r) = refl
of_src w (src.Mem a) = of_address a
of_src w (src.Imm n) = refl

behind : (f : Field) (r : Reg) (fs : List Field) (rs : List Reg) → f.register ≡ r → SameRegisters fs rs → SameRegisters (f ∷ fs) (r ∷ rs)
behind f r fs rs e d = ap (λ (q : Reg). q ∷ registers fs) e ∙ ap (λ (l : List Reg). r ∷ l) d

rm_src : (w : Width) (to : Rm) (from : Src) → SameRegisters (field.rm_fields w to ++ field.src_fields w from) (form.rm_fields to ++ form.src_fields from)
rm_src w to from = both (field.rm_fields w to) (field.src_fields w from) (form.rm_fields to) (form.src_fields from) (of_rm w to) (of_src w from)

rm_register : (w : Width) (to : Rm) (f : Field) → SameRegisters (field.rm_fields w to ++ f ∷ []) (form.rm_fields to ++ f.register ∷ [])
rm_register w to f = both (field.rm_fields w to) (f ∷ []) (form.rm_fields to) (f.register ∷ []) (of_rm w to) refl

register_rm : (f : Field) (w : Width) (from : Rm) → SameRegisters (f ∷ field.rm_fields w from) (f.register ∷ form.rm_fields from)
register_rm f w from = behind f f.register (field.rm_fields w from) (form.rm_fields from) refl (of_rm w from)

same_registers : (i : Instr) → SameRegisters (fields i) (register_fields i)
unfolding fields register_fields
same_registers (instr.Alu op w to from) = rm_src w to from
same_registers (instr.Test w left right) = rm_src w left right
same_registers (instr.Mov w to from) = rm_src w to from
same_registers (instr.Lea w to at) = behind (field.sized_field w to) to (field.address_fields at) (form.address_fields at) refl (of_address at)
same_registers (instr.Inc w to) = of_rm w to
same_registers (instr.Dec w to) = of_rm w to
same_registers (instr.Not w to) = of_rm w to
same_registers (instr.Neg w to) = of_rm w to
same_registers (instr.Mul w from) = of_rm w from
same_registers (instr.ImulWide w from) = of_rm w from
same_registers (instr.Div w from) = of_rm w from
same_registers (instr.Idiv w from) = of_rm w from
same_registers (instr.Imul w to from) = register_rm (field.sized_field w to) w from
same_registers (instr.ImulBy w to from by) = register_rm (field.sized_field w to) w from
same_registers (instr.Shift op w to n) = of_rm w to
same_registers (instr.Shld to from n) = rm_register Four to (field.as_field Whole from)
same_registers (instr.Shrd to from n) = rm_register Four to (field.as_field Whole from)
same_registers (instr.Push from) = of_src Four from
same_registers (instr.Pop to) = of_rm Four to
same_registers (instr.Xchg w left right) = rm_register w left (field.sized_field w right)
same_registers (instr.Movzx wide w to from) = register_rm (field.sized_field wide to) w from
same_registers (instr.Movsx wide w to from) = register_rm (field.sized_field wide to) w from
same_registers (instr.Cmov c w to from) = register_rm (field.sized_field w to) w from
same_registers (instr.Setcc c to) = of_rm One to
same_registers (instr.Extend w) = refl
same_registers (instr.Spread w) = refl
same_registers (instr.Bsf w to from) = register_rm (field.sized_field w to) w from
same_registers (instr.Bsr w to from) = register_rm (field.sized_field w to) w from
same_registers (instr.Bswap to) = refl
same_registers (instr.Movs w repeat) = refl
same_registers (instr.Stos w repeat) = refl
same_registers (instr.Jmp by) = refl
same_registers (instr.JmpTo to) = of_rm Four to
same_registers (instr.CallTo to) = of_rm Four to
same_registers (instr.Jcc c by) = refl
same_registers (instr.Call by) = refl
same_registers (instr.Ret drop) = refl
same_registers instr.Leave = refl
same_registers instr.Int80 = refl
same_registers instr.Cld = refl
same_registers instr.Nop = refl

-- ---- an item in form can be laid
abbrev NotEsp : Reg → Type 0
NotEsp r = r ≢ Esp

fields_not_esp : (fs : List Field) (rs : List Reg) → SameRegisters fs rs → All NotEsp rs → All (λ f. f.register ≢ Esp) fs
fields_not_esp [] rs e h = All-nil (λ (f : Field). f.register ≢ Esp)
fields_not_esp (f ∷ fs) [] e h = absurd cc
fields_not_esp (f ∷ fs) (r ∷ rs) e h =
    let first : r ≡ f.register = cc in
    let rest : registers fs ≡ rs = cc in
    All-cons (λ (g : Field). g.register ≢ Esp) f fs (subst NotEsp first (All-head NotEsp r rs h)) (fields_not_esp fs rs rest (All-tail NotEsp r rs h))

one_not_esp : (r : Reg) → r ≢ Esp → All NotEsp (r ∷ [])
one_not_esp r h = All-cons NotEsp r [] h (All-nil NotEsp)

item_layable : (homes : List Home) (numbers : List ℕ) (x : PInstr) → IsItemInForm homes numbers x → IsOnce (placed_item homes x) → IsLayable numbers (placed_item homes x)
unfolding register_fields
item_layable homes numbers (item.Own i) h once = record {
  own = refl;
  no_esp = fields_not_esp (fields i) (register_fields i) (same_registers i) h.fields;
  stackless = h.stackless;
  target = h.target;
  once = once;
}
item_layable homes numbers (item.Fetch n r) h once =
    let i = (placed_item homes (item.Fetch n r)).instr in
    record {
      own = refl;
      no_esp = fields_not_esp (fields i) (r ∷ []) (same_registers i) (one_not_esp r h.register);
      stackless = tt;
      target = tt;
      once = once;
    }
item_layable homes numbers (item.Keep n r) h once =
    let i = (placed_item homes (item.Keep n r)).instr in
    record {
      own = refl;
      no_esp = fields_not_esp (fields i) (r ∷ []) (same_registers i) (one_not_esp r h.register);
      stackless = tt;
      target = tt;
      once = once;
    }

-- ---- all items of a block, and all blocks
module _ (homes : List Home) (numbers : List ℕ) where
  items_layable : (xs : List PInstr) → All (IsItemInForm homes numbers) xs → All IsOnce (map (placed_item homes) xs) → All (IsLayable numbers) (map (placed_item homes) xs)
  items_layable [] h once = All-nil (IsLayable numbers)
  items_layable (x ∷ xs) h once =
      All-cons (IsLayable numbers) (placed_item homes x) (map (placed_item homes) xs)
      (item_layable homes numbers x (All-head (IsItemInForm homes numbers) x xs h) (All-head IsOnce (placed_item homes x) (map (placed_item homes) xs) once))
      (items_layable xs (All-tail (IsItemInForm homes numbers) x xs h) (All-tail IsOnce (placed_item homes x) (map (placed_item homes) xs) once))

  abbrev OnceIn : CodeBlock → Type 0
  OnceIn b = All IsOnce b.items

  abbrev LayableIn : CodeBlock → Type 0
  LayableIn b = All (IsLayable numbers) b.items

  blocks_layable : (bs : List PBlock) → All (IsPBlockInForm homes numbers) bs → All OnceIn (map (placed_block homes) bs) → All LayableIn (map (placed_block homes) bs)
  blocks_layable [] h once = All-nil LayableIn
  blocks_layable (b ∷ bs) h once =
      let c = placed_block homes b in
      let cs = map (placed_block homes) bs in
      All-cons LayableIn c cs (items_layable b.code (All-head (IsPBlockInForm homes numbers) b bs h).items (All-head OnceIn c cs once))
      (blocks_layable bs (All-tail (IsPBlockInForm homes numbers) b bs h) (All-tail OnceIn c cs once))

same_numbers : (homes : List Home) (bs : List PBlock) → map (λ (b : PBlock). b.number) bs ≡ map (λ (c : CodeBlock). c.number) (map (placed_block homes) bs)
same_numbers homes [] = refl
same_numbers homes (b ∷ bs) = ap (λ (ns : List ℕ). b.number ∷ ns) (same_numbers homes bs)

pub form_is_layable : FormIsLayable
form_is_layable p h once =
    subst (λ (numbers : List ℕ). All (LayableIn p.homes numbers) (placed_blocks p)) (same_numbers p.homes p.blocks)
    (blocks_layable p.homes (map (λ (b : PBlock). b.number) p.blocks) p.blocks h.blocks once)
