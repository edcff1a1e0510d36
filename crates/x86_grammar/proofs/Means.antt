-- Each form of an instruction means it.
use Rattle.std.proofs.Common.{◌≡◌, ℕ, zero, suc, ◌%◌, Option, Some, None, Bool, true, false, cond, not, ◌&&◌, ◌||◌, eqb, eq-eqb, subst, refl, sym, [], ◌∷◌, ◌++◌, List, inl, inr}
use Rattle.std.proofs.lemmas.Bool.{eqb-true, cond_both}
use Rattle.x86_types.specs.Numbers.{number_of_reg, number_of_alu, number_of_shift}
use Rattle.x86_types.specs.NumberLaws.{reg_of-number, alu_of-number}
use Rattle.x86_types.specs.declared.operand.Reg.{Reg}
use Rattle.x86_types.specs.declared.operand.Reg.TheVariants as reg
use Rattle.x86_types.specs.declared.operation.AluOp.{AluOp}
use Rattle.x86_types.specs.declared.operation.ShiftOp.{ShiftOp}
use Rattle.x86_types.specs.declared.operation.Count.{Count}
use Rattle.x86_types.specs.declared.operation.Count.TheVariants as count
use Rattle.x86_types.specs.declared.width.Width.{Width}
use Rattle.x86_types.specs.declared.width.Width.TheVariants.{One, Two, Four}
use Rattle.x86_types.specs.declared.operand.Address.{Address}
use Rattle.x86_types.specs.declared.operand.Rm.{Rm}
use Rattle.x86_types.specs.declared.operand.Rm.TheVariants as rm
use Rattle.x86_types.specs.declared.operand.Src.{Src}
use Rattle.x86_types.specs.declared.operand.Src.TheVariants as src
use Rattle.x86_types.specs.declared.instr.Instr.{Instr}
use Rattle.x86_types.specs.declared.instr.Instr.TheVariants as instr
use Rattle.x86_grammar.specs.declared.row.Form.{Form}
use Rattle.x86_grammar.specs.declared.row.Row.{Row}
use Rattle.x86_grammar.specs.declared.row.Row.TheVariants as row
use Rattle.x86_grammar.specs.Rows.{reg_field_of, fits_reg_field, has_operand}
use Rattle.x86_grammar.specs.Attributes.{has_operand_size, rep_fits, width_of}
use Rattle.x86_grammar.specs.Meaning.{build, src_of, number_alone}
use Rattle.x86_grammar.specs.Forms.{forms, In, alu_byte, number_only, mov_load, mov_store, short_step, unit, imul_by_forms, xchg_short, other_reg}
use Rattle.x86_grammar.specs.Parts.{w_bit, operand_size_of, signed, if_signed, with_rm, plain, if_reg, if_acc, not_one}

abbrev pub rm_or : Option Rm → Rm → Rm
rm_or None m = m
rm_or (Some x) m = x

-- what the row wants of the prefixes and of the reg field
pub record Suits (r : Row) (h p : Bool) (n : ℕ) : Type 0 where
  pub operand_size : (not h || has_operand_size r) ≡ true
  pub rep : rep_fits r p ≡ true
  pub reg_field : fits_reg_field (reg_field_of r) n ≡ true

abbrev pub is_none : Option Rm → Bool
is_none None = true
is_none (Some m) = false

-- where no ModRM stands, nothing is said of it
abbrev pub is_plain : Row → ℕ → Option Rm → Bool
is_plain r n m = has_operand r || (eqb n 0 && is_none m)

pub record Means (i : Instr) (f : Form) : Type 0 where
  pub built : (m : Rm) → build f.row f.operand_size f.rep f.reg_field (rm_or f.rm m) f.imm ≡ Some i
  pub suits : Suits f.row f.operand_size f.rep f.reg_field
  pub plain : is_plain f.row f.reg_field f.rm ≡ true

abbrev pub AllMean : Instr → List Form → Type 0
AllMean i [] = Unit {0}
AllMean i (f ∷ fs) = Means i f × AllMean i fs

All-append : (i : Instr) (a b : List Form) → AllMean i a → AllMean i b → AllMean i (a ++ b)
All-append i [] b p q = q
All-append i (f ∷ fs) b p q = (p.0, All-append i fs b p.1 q)

All-signed : (i : Instr) (w : Width) (v : ℕ) (f : ℕ → Form) → (signed w (v % 256) ≡ v → Means i (f (v % 256))) → AllMean i (if_signed w v f)
All-signed i w v f h = cond_both (eqb (signed w (v % 256)) v) (f (v % 256) ∷ []) [] (AllMean i) (λ e. (h (eqb-true _ _ e), tt)) (λ e. tt)

one_if : (s : ℕ) (f : Form) (i : Instr) → (s ≡ 1 → Means i f) → AllMean i (cond (eqb s 1) (f ∷ []) [])
one_if s f i h = cond_both (eqb s 1) (f ∷ []) [] (AllMean i) (λ e. (h (eqb-true _ _ e), tt)) (λ e. tt)

pub widths : (w : Width) → width_of (w_bit w) (operand_size_of w) ≡ w
widths w = elim w as (λ w. width_of (w_bit w) (operand_size_of w) ≡ w) [ One ↦ refl | _ ↦ refl ]

operand_size_ok : (w : Width) → (not (operand_size_of w) || w_bit w) ≡ true
operand_size_ok w = elim w as (λ w. (not (operand_size_of w) || w_bit w) ≡ true) [ One ↦ refl | _ ↦ refl ]

same : (n : ℕ) → eqb n n ≡ true
same n = eq-eqb n n refl

-- a row whose operand has the width
module _ (i : Instr) (w : Width) where
  sized : (r : Row) (p : Bool) (n : ℕ) (m : Option Rm) (v : ℕ) → ((x : Rm) → build r (operand_size_of w) p n (rm_or m x) v ≡ Some i) → has_operand_size r ≡ w_bit w → rep_fits r p ≡ true → fits_reg_field (reg_field_of r) n ≡ true → is_plain r n m ≡ true → Means i (record { row = r; operand_size = operand_size_of w; rep = p; reg_field = n; rm = m; imm = v })
  sized r p n m v b h e q x = record { built = b; suits = record { operand_size = rw h (operand_size_ok w); rep = e; reg_field = q }; plain = x }

-- a row that knows no 66
module _ (i : Instr) where
  fixed : (r : Row) (t : Bool) (n : ℕ) (m : Option Rm) (v : ℕ) → ((x : Rm) → build r false t n (rm_or m x) v ≡ Some i) → rep_fits r t ≡ true → fits_reg_field (reg_field_of r) n ≡ true → is_plain r n m ≡ true → Means i (record { row = r; operand_size = false; rep = t; reg_field = n; rm = m; imm = v })
  fixed r t n m v b p q x = record { built = b; suits = record { operand_size = refl; rep = p; reg_field = q }; plain = x }

-- a row of widths Two and Four alone
module _ (i : Width → Instr) (r : Row) (n : ℕ) (m : Option Rm) (v : ℕ) where
  wide : ((h : Bool) (x : Rm) → build r h false n (rm_or m x) v ≡ Some (i (width_of true h))) → has_operand_size r ≡ true → rep_fits r false ≡ true → fits_reg_field (reg_field_of r) n ≡ true → is_plain r n m ≡ true → (w : Width) → AllMean (i w) (not_one w (record { row = r; operand_size = operand_size_of w; rep = false; reg_field = n; rm = m; imm = v } ∷ []))
  wide b h p q x One = tt
  wide b h p q x Two = (record { built = b true; suits = record { operand_size = h; rep = p; reg_field = q }; plain = x }, tt)
  wide b h p q x Four = (record { built = b false; suits = record { operand_size = refl; rep = p; reg_field = q }; plain = x }, tt)

alu_to_reg_mean : (op : AluOp) (w : Width) (to : Rm) (m : Rm) → AllMean (instr.Alu op w to (src_of m)) (if_reg to (λ t. with_rm (row.AluToReg op (w_bit w)) w (number_of_reg t) m 0 ∷ []))
alu_to_reg_mean op w (rm.Reg t) m = (sized _ w _ _ _ _ _ (λ x. rw (widths, reg_of-number) refl) refl refl refl refl, tt)
alu_to_reg_mean op w (rm.Mem a) m = tt

alu_acc_mean : (op : AluOp) (w : Width) (to : Rm) (v : ℕ) → AllMean (instr.Alu op w to (src.Imm v)) (if_acc to (plain (row.AluAcc op (w_bit w)) w v))
alu_acc_mean op w (rm.Reg reg.Eax) v = (sized _ w _ _ _ _ _ (λ x. rw widths refl) refl refl refl refl, tt)
alu_acc_mean op w (rm.Reg _) v = tt
alu_acc_mean op w (rm.Mem a) v = tt

alu_byte_mean : (op : AluOp) (w : Width) (to : Rm) (v : ℕ) → AllMean (instr.Alu op w to (src.Imm v)) (alu_byte w op to v)
alu_byte_mean op One to v = tt
alu_byte_mean op Two to v = All-signed _ Two v (λ b. with_rm row.AluByte Two (number_of_alu op) to b) (λ e. sized _ Two _ _ _ _ _ (λ x. rw (e, alu_of-number) refl) refl refl refl refl)
alu_byte_mean op Four to v = All-signed _ Four v (λ b. with_rm row.AluByte Four (number_of_alu op) to b) (λ e. sized _ Four _ _ _ _ _ (λ x. rw (e, alu_of-number) refl) refl refl refl refl)

alu_mean : (op : AluOp) (w : Width) (to : Rm) (from : Src) → AllMean (instr.Alu op w to from) (forms (instr.Alu op w to from))
alu_mean op w to (src.Reg r) = (sized _ w _ _ _ _ _ (λ x. rw (widths, reg_of-number) refl) refl refl refl refl, alu_to_reg_mean op w to (rm.Reg r))
alu_mean op w to (src.Mem a) = alu_to_reg_mean op w to (rm.Mem a)
alu_mean op w to (src.Imm v) = (sized _ w _ _ _ _ _ (λ x. rw (widths, alu_of-number) refl) refl refl refl refl, All-append _ _ _ (alu_acc_mean op w to v) (alu_byte_mean op w to v))

test_acc_mean : (w : Width) (to : Rm) (v : ℕ) → AllMean (instr.Test w to (src.Imm v)) (if_acc to (plain (row.TestAcc (w_bit w)) w v))
test_acc_mean w (rm.Reg reg.Eax) v = (sized _ w _ _ _ _ _ (λ x. rw widths refl) refl refl refl refl, tt)
test_acc_mean w (rm.Reg _) v = tt
test_acc_mean w (rm.Mem a) v = tt

test_mean : (w : Width) (to : Rm) (from : Src) → AllMean (instr.Test w to from) (forms (instr.Test w to from))
test_mean w to (src.Reg r) = (sized _ w _ _ _ _ _ (λ x. rw (widths, reg_of-number) refl) refl refl refl refl, tt)
test_mean w to (src.Mem a) = tt
test_mean w to (src.Imm v) = (sized _ w _ _ _ _ _ (λ x. rw widths refl) refl refl refl refl, test_acc_mean w to v)

number_mean : (b x : Option Reg) (s d : ℕ) (i : Address → Instr) (f : Form) → Means (i (number_alone d)) f → AllMean (i (record { base = b; index = x; scale = s; disp = d })) (number_only b x s f)
number_mean None None s d i f h = one_if s f _ (λ e. rw e h)
number_mean None (Some r) s d i f h = tt
number_mean (Some r) x s d i f h = tt

load_mean : (w : Width) (t : Reg) (a : Address) → AllMean (instr.Mov w (rm.Reg t) (src.Mem a)) (mov_load w t a)
load_mean w reg.Eax a = number_mean a.base a.index a.scale a.disp (λ a. instr.Mov w (rm.Reg reg.Eax) (src.Mem a)) _ (sized _ w _ _ _ _ _ (λ x. rw widths refl) refl refl refl refl)
load_mean w _ a = tt

store_mean : (w : Width) (to : Rm) (r : Reg) → AllMean (instr.Mov w to (src.Reg r)) (mov_store w to r)
store_mean w (rm.Mem a) reg.Eax = number_mean a.base a.index a.scale a.disp (λ a. instr.Mov w (rm.Mem a) (src.Reg reg.Eax)) _ (sized _ w _ _ _ _ _ (λ x. rw widths refl) refl refl refl refl)
store_mean w (rm.Reg t) reg.Eax = tt
store_mean w to _ = tt

mov_to_reg_mean : (w : Width) (to : Rm) (r : Reg) → AllMean (instr.Mov w to (src.Reg r)) (if_reg to (λ t. with_rm (row.MovToReg (w_bit w)) w (number_of_reg t) (rm.Reg r) 0 ∷ []))
mov_to_reg_mean w (rm.Reg t) r = (sized _ w _ _ _ _ _ (λ x. rw (widths, reg_of-number) refl) refl refl refl refl, tt)
mov_to_reg_mean w (rm.Mem a) r = tt

mov_mean : (w : Width) (to : Rm) (from : Src) → AllMean (instr.Mov w to from) (forms (instr.Mov w to from))
mov_mean w to (src.Reg r) = (sized _ w _ _ _ _ _ (λ x. rw (widths, reg_of-number) refl) refl refl refl refl, All-append _ _ _ (mov_to_reg_mean w to r) (store_mean w to r))
mov_mean w (rm.Reg t) (src.Mem a) = (sized _ w _ _ _ _ _ (λ x. rw (widths, reg_of-number) refl) refl refl refl refl, load_mean w t a)
mov_mean w (rm.Mem b) (src.Mem a) = tt
mov_mean w (rm.Reg t) (src.Imm v) = (sized _ w _ _ _ _ _ (λ x. rw widths refl) refl refl refl refl, (sized _ w _ _ _ _ _ (λ x. rw widths refl) refl refl refl refl, tt))
mov_mean w (rm.Mem b) (src.Imm v) = (sized _ w _ _ _ _ _ (λ x. rw widths refl) refl refl refl refl, tt)

inc_mean : (w : Width) (to : Rm) → AllMean (instr.Inc w to) (short_step row.IncReg w to)
inc_mean One to = tt
inc_mean Two (rm.Reg r) = (sized _ Two _ _ _ _ _ (λ x. refl) refl refl refl refl, tt)
inc_mean Four (rm.Reg r) = (sized _ Four _ _ _ _ _ (λ x. refl) refl refl refl refl, tt)
inc_mean Two (rm.Mem a) = tt
inc_mean Four (rm.Mem a) = tt

dec_mean : (w : Width) (to : Rm) → AllMean (instr.Dec w to) (short_step row.DecReg w to)
dec_mean One to = tt
dec_mean Two (rm.Reg r) = (sized _ Two _ _ _ _ _ (λ x. refl) refl refl refl refl, tt)
dec_mean Four (rm.Reg r) = (sized _ Four _ _ _ _ _ (λ x. refl) refl refl refl refl, tt)
dec_mean Two (rm.Mem a) = tt
dec_mean Four (rm.Mem a) = tt

imul_by_mean : (w : Width) (to : Reg) (from : Rm) (v : ℕ) → AllMean (instr.ImulBy w to from v) (imul_by_forms w to from v)
imul_by_mean One to from v = tt
imul_by_mean Two to from v = (sized _ Two _ _ _ _ _ (λ x. rw reg_of-number refl) refl refl refl refl, All-signed _ Two v (λ b. with_rm row.ImulByte Two (number_of_reg to) from b) (λ e. sized _ Two _ _ _ _ _ (λ x. rw (e, reg_of-number) refl) refl refl refl refl))
imul_by_mean Four to from v = (sized _ Four _ _ _ _ _ (λ x. rw reg_of-number refl) refl refl refl refl, All-signed _ Four v (λ b. with_rm row.ImulByte Four (number_of_reg to) from b) (λ e. sized _ Four _ _ _ _ _ (λ x. rw (e, reg_of-number) refl) refl refl refl refl))

shift_mean : (op : ShiftOp) (w : Width) (to : Rm) (n : Count) → AllMean (instr.Shift op w to n) (forms (instr.Shift op w to n))
shift_mean op w to (count.Imm v) = (sized _ w _ _ _ _ _ (λ x. rw widths refl) refl refl (same (number_of_shift op)) refl, one_if v _ _ (λ e. sized _ w _ _ _ _ _ (λ x. rw (widths, e) refl) refl refl (same (number_of_shift op)) refl))
shift_mean op w to count.Cl = (sized _ w _ _ _ _ _ (λ x. rw widths refl) refl refl (same (number_of_shift op)) refl, tt)

shld_mean : (to : Rm) (r : Reg) (n : Count) → AllMean (instr.Shld to r n) (forms (instr.Shld to r n))
shld_mean to r (count.Imm v) = (fixed _ _ _ _ _ _ (λ x. rw reg_of-number refl) refl refl refl, tt)
shld_mean to r count.Cl = (fixed _ _ _ _ _ _ (λ x. rw reg_of-number refl) refl refl refl, tt)

shrd_mean : (to : Rm) (r : Reg) (n : Count) → AllMean (instr.Shrd to r n) (forms (instr.Shrd to r n))
shrd_mean to r (count.Imm v) = (fixed _ _ _ _ _ _ (λ x. rw reg_of-number refl) refl refl refl, tt)
shrd_mean to r count.Cl = (fixed _ _ _ _ _ _ (λ x. rw reg_of-number refl) refl refl refl, tt)

push_mean : (from : Src) → AllMean (instr.Push from) (forms (instr.Push from))
push_mean (src.Reg r) = (fixed _ _ _ _ _ _ (λ x. refl) refl refl refl, (fixed _ _ _ _ _ _ (λ x. refl) refl refl refl, tt))
push_mean (src.Mem a) = (fixed _ _ _ _ _ _ (λ x. refl) refl refl refl, tt)
push_mean (src.Imm v) = (fixed _ _ _ _ _ _ (λ x. refl) refl refl refl, All-signed _ Four v (λ b. plain row.PushByte Four b) (λ e. fixed _ _ _ _ _ _ (λ x. rw e refl) refl refl refl))

pop_mean : (to : Rm) → AllMean (instr.Pop to) (forms (instr.Pop to))
pop_mean (rm.Reg r) = (fixed _ _ _ _ _ _ (λ x. refl) refl refl refl, (fixed _ _ _ _ _ _ (λ x. refl) refl refl refl, tt))
pop_mean (rm.Mem a) = (fixed _ _ _ _ _ _ (λ x. refl) refl refl refl, tt)

exchange : (w : Width) (r : Reg) → w_bit w ≡ true → fits_reg_field (reg_field_of (row.XchgAcc r)) 0 ≡ true → Means (instr.Xchg w (rm.Reg reg.Eax) r) (plain (row.XchgAcc r) w 0)
exchange One r h e = absurd cc
exchange Two r h e = sized _ Two _ _ _ _ _ (λ x. refl) refl refl e refl
exchange Four r h e = sized _ Four _ _ _ _ _ (λ x. refl) refl refl e refl

other_mean : (w : Width) (r : Reg) → w_bit w ≡ true → AllMean (instr.Xchg w (rm.Reg reg.Eax) r) (other_reg r (plain (row.XchgAcc r) w 0))
other_mean w reg.Eax h = tt
other_mean w reg.Ecx h = (exchange w _ h refl, tt)
other_mean w reg.Edx h = (exchange w _ h refl, tt)
other_mean w reg.Ebx h = (exchange w _ h refl, tt)
other_mean w reg.Esp h = (exchange w _ h refl, tt)
other_mean w reg.Ebp h = (exchange w _ h refl, tt)
other_mean w reg.Esi h = (exchange w _ h refl, tt)
other_mean w reg.Edi h = (exchange w _ h refl, tt)

xchg_short_mean : (w : Width) (left : Rm) (r : Reg) → w_bit w ≡ true → AllMean (instr.Xchg w left r) (xchg_short w left r)
xchg_short_mean w (rm.Reg reg.Eax) r h = other_mean w r h
xchg_short_mean w (rm.Reg _) r h = tt
xchg_short_mean w (rm.Mem a) r h = tt

xchg_acc_mean : (w : Width) (left : Rm) (r : Reg) → AllMean (instr.Xchg w left r) (not_one w (xchg_short w left r))
xchg_acc_mean One left r = tt
xchg_acc_mean Two left r = xchg_short_mean Two left r refl
xchg_acc_mean Four left r = xchg_short_mean Four left r refl

movzx_mean : (a w : Width) (to : Reg) (m : Rm) → AllMean (instr.Movzx a w to m) (forms (instr.Movzx a w to m))
movzx_mean Two One to m = (sized _ Two _ _ _ _ _ (λ x. rw reg_of-number refl) refl refl refl refl, tt)
movzx_mean Four One to m = (sized _ Four _ _ _ _ _ (λ x. rw reg_of-number refl) refl refl refl refl, tt)
movzx_mean Four Two to m = (fixed _ _ _ _ _ _ (λ x. rw reg_of-number refl) refl refl refl, tt)
movzx_mean One w to m = tt
movzx_mean Two Two to m = tt
movzx_mean Two Four to m = tt
movzx_mean Four Four to m = tt

movsx_mean : (a w : Width) (to : Reg) (m : Rm) → AllMean (instr.Movsx a w to m) (forms (instr.Movsx a w to m))
movsx_mean Two One to m = (sized _ Two _ _ _ _ _ (λ x. rw reg_of-number refl) refl refl refl refl, tt)
movsx_mean Four One to m = (sized _ Four _ _ _ _ _ (λ x. rw reg_of-number refl) refl refl refl refl, tt)
movsx_mean Four Two to m = (fixed _ _ _ _ _ _ (λ x. rw reg_of-number refl) refl refl refl, tt)
movsx_mean One w to m = tt
movsx_mean Two Two to m = tt
movsx_mean Two Four to m = tt
movsx_mean Four Four to m = tt

ret_mean : (d : ℕ) → AllMean (instr.Ret d) (forms (instr.Ret d))
ret_mean zero = (fixed _ _ _ _ _ _ (λ x. refl) refl refl refl, (fixed _ _ _ _ _ _ (λ x. refl) refl refl refl, (fixed _ _ _ _ _ _ (λ x. refl) refl refl refl, tt)))
ret_mean (suc d) = (fixed _ _ _ _ _ _ (λ x. refl) refl refl refl, tt)

-- a row of one operand
module _ (i : Instr) (r : Bool → Row) (n : ℕ) (w : Width) (m : Rm) where
  unit_mean : build (r (w_bit w)) (operand_size_of w) false n m 0 ≡ Some i → has_operand_size (r (w_bit w)) ≡ w_bit w → rep_fits (r (w_bit w)) false ≡ true → fits_reg_field (reg_field_of (r (w_bit w))) n ≡ true → is_plain (r (w_bit w)) n (Some m) ≡ true → AllMean i (unit r n w m)
  unit_mean b h p q x = (sized i w (r (w_bit w)) false n (Some m) 0 (λ y. b) h p q x, tt)

pub forms_mean : (i : Instr) → AllMean i (forms i)
forms_mean (instr.Alu op w to from) = alu_mean op w to from
forms_mean (instr.Test w to from) = test_mean w to from
forms_mean (instr.Mov w to from) = mov_mean w to from
forms_mean (instr.Lea w to a) = wide (λ w. instr.Lea w to a) row.Lea _ (Some (rm.Mem a)) 0 (λ h x. rw reg_of-number refl) refl refl refl refl w
forms_mean (instr.Inc w to) = (sized _ w _ _ _ _ _ (λ x. rw widths refl) refl refl refl refl, inc_mean w to)
forms_mean (instr.Dec w to) = (sized _ w _ _ _ _ _ (λ x. rw widths refl) refl refl refl refl, dec_mean w to)
forms_mean (instr.Not w to) = unit_mean _ row.Not 2 w to (rw widths refl) refl refl refl refl
forms_mean (instr.Neg w to) = unit_mean _ row.Neg 3 w to (rw widths refl) refl refl refl refl
forms_mean (instr.Mul w m) = unit_mean _ row.Mul 4 w m (rw widths refl) refl refl refl refl
forms_mean (instr.ImulWide w m) = unit_mean _ row.ImulWide 5 w m (rw widths refl) refl refl refl refl
forms_mean (instr.Div w m) = unit_mean _ row.Div 6 w m (rw widths refl) refl refl refl refl
forms_mean (instr.Idiv w m) = unit_mean _ row.Idiv 7 w m (rw widths refl) refl refl refl refl
forms_mean (instr.Imul w to m) = wide (λ w. instr.Imul w to m) row.Imul _ (Some m) 0 (λ h x. rw reg_of-number refl) refl refl refl refl w
forms_mean (instr.ImulBy w to m v) = imul_by_mean w to m v
forms_mean (instr.Shift op w to n) = shift_mean op w to n
forms_mean (instr.Shld to r n) = shld_mean to r n
forms_mean (instr.Shrd to r n) = shrd_mean to r n
forms_mean (instr.Push from) = push_mean from
forms_mean (instr.Pop to) = pop_mean to
forms_mean (instr.Xchg w left r) = (sized _ w _ _ _ _ _ (λ x. rw (widths, reg_of-number) refl) refl refl refl refl, xchg_acc_mean w left r)
forms_mean (instr.Movzx a w to m) = movzx_mean a w to m
forms_mean (instr.Movsx a w to m) = movsx_mean a w to m
forms_mean (instr.Cmov c w to m) = wide (λ w. instr.Cmov c w to m) (row.Cmov c) _ (Some m) 0 (λ h x. rw reg_of-number refl) refl refl refl refl w
forms_mean (instr.Setcc c to) = (fixed _ _ _ _ _ _ (λ x. refl) refl refl refl, tt)
forms_mean (instr.Extend w) = wide (λ w. instr.Extend w) row.Extend 0 None 0 (λ h x. refl) refl refl refl refl w
forms_mean (instr.Spread w) = wide (λ w. instr.Spread w) row.Spread 0 None 0 (λ h x. refl) refl refl refl refl w
forms_mean (instr.Bsf w to m) = wide (λ w. instr.Bsf w to m) row.Bsf _ (Some m) 0 (λ h x. rw reg_of-number refl) refl refl refl refl w
forms_mean (instr.Bsr w to m) = wide (λ w. instr.Bsr w to m) row.Bsr _ (Some m) 0 (λ h x. rw reg_of-number refl) refl refl refl refl w
forms_mean (instr.Bswap r) = (fixed _ _ _ _ _ _ (λ x. refl) refl refl refl, tt)
forms_mean (instr.Movs w p) = (sized _ w _ _ _ _ _ (λ x. rw widths refl) refl refl refl refl, tt)
forms_mean (instr.Stos w p) = (sized _ w _ _ _ _ _ (λ x. rw widths refl) refl refl refl refl, tt)
forms_mean (instr.Jmp by) = (fixed _ _ _ _ _ _ (λ x. refl) refl refl refl, All-signed _ Four by (λ b. plain row.JmpShort Four b) (λ e. fixed _ _ _ _ _ _ (λ x. rw e refl) refl refl refl))
forms_mean (instr.JmpTo to) = (fixed _ _ _ _ _ _ (λ x. refl) refl refl refl, tt)
forms_mean (instr.CallTo to) = (fixed _ _ _ _ _ _ (λ x. refl) refl refl refl, tt)
forms_mean (instr.Jcc c by) = (fixed _ _ _ _ _ _ (λ x. refl) refl refl refl, All-signed _ Four by (λ b. plain (row.JccShort c) Four b) (λ e. fixed _ _ _ _ _ _ (λ x. rw e refl) refl refl refl))
forms_mean (instr.Call by) = (fixed _ _ _ _ _ _ (λ x. refl) refl refl refl, tt)
forms_mean (instr.Ret d) = ret_mean d
forms_mean instr.Leave = (fixed _ _ _ _ _ _ (λ x. refl) refl refl refl, tt)
forms_mean instr.Int80 = (fixed _ _ _ _ _ _ (λ x. refl) refl refl refl, tt)
forms_mean instr.Cld = (fixed _ _ _ _ _ _ (λ x. refl) refl refl refl, tt)
forms_mean instr.Nop = (fixed _ _ _ _ _ _ (λ x. refl) refl refl refl, (fixed _ _ _ _ _ _ (λ x. refl) refl refl refl, (fixed _ _ _ _ _ _ (λ x. refl) refl refl refl, tt)))

pub mean_of : (i : Instr) (f : Form) (fs : List Form) → AllMean i fs → In f fs → Means i f
mean_of i f [] all h = absurd h
mean_of i f (g ∷ fs) all (inl e) = subst (λ (k : Form). Means i k) (sym e) all.0
mean_of i f (g ∷ fs) all (inr h) = mean_of i f fs all.1 h
