-- Each form of an instruction whose fields are in range has its own in range.
use Rattle.std.proofs.Common.{◌≡◌, ℕ, zero, suc, ◌%◌, ◌^◌, ◌<◌, Bool, true, false, cond, eqb, ◌&&◌, List, [], ◌∷◌, ◌++◌, Option, Some, None, inl, inr, lit<, refl, sym, subst, arith}
use Rattle.std.proofs.lemmas.Bool.{ltb-true, cond_both}
use Rattle.std.specs.Prelude.{IfSome}
use Rattle.x86_types.specs.Numbers.{number_of_reg, number_of_alu}
use Rattle.x86_types.specs.declared.operand.Reg.{Reg}
use Rattle.x86_types.specs.declared.operand.Reg.TheVariants as reg
use Rattle.x86_types.specs.declared.operation.AluOp.{AluOp}
use Rattle.x86_types.specs.declared.operation.ShiftOp.{ShiftOp}
use Rattle.x86_types.specs.declared.operation.Count.{Count}
use Rattle.x86_types.specs.declared.operation.Count.TheVariants as count
use Rattle.x86_types.specs.declared.width.Width.{Width}
use Rattle.x86_types.specs.declared.width.Width.TheVariants.{One, Two, Four}
use Rattle.x86_types.specs.declared.operand.Address.{Address}
use Rattle.x86_types.specs.declared.operand.Rm.{Rm}
use Rattle.x86_types.specs.declared.operand.Rm.TheVariants as rm
use Rattle.x86_types.specs.declared.operand.Src.{Src}
use Rattle.x86_types.specs.declared.operand.Src.TheVariants as src
use Rattle.x86_types.specs.declared.instr.Instr.{Instr}
use Rattle.x86_types.specs.declared.instr.Instr.TheVariants as instr
use Rattle.x86_grammar.specs.declared.row.Form.{Form}
use Rattle.x86_grammar.specs.declared.row.Row.{Row}
use Rattle.x86_grammar.specs.declared.row.Row.TheVariants as row
use Rattle.x86_grammar.specs.Attributes.{imm_size}
use Rattle.x86_grammar.specs.Fields.{number_fits, index_fits, address_fits, rm_fits, count_fits, widens, moves_fit, test_fits, push_fits, fields_fit}
use Rattle.x86_grammar.specs.FormLaws.{FormSuits, FormFits}
use Rattle.x86_grammar.specs.Forms.{In, forms, alu_forms, test_forms, number_only, if_number, mov_load, mov_store, mov_forms, short_step, to_reg, imul_by_forms, shift_forms, push_forms, other_reg, xchg_short, widen_forms, ret_forms}
use Rattle.x86_grammar.specs.Meaning.{build}
use Rattle.x86_grammar.specs.Parts.{w_bit, operand_size_of, signed, with_rm, plain, if_signed, if_reg, if_acc, not_one}
use Rattle.x86_grammar.proofs.Map.{and_left, and_right}
use Rattle.x86_grammar.proofs.Means.{mean_of, forms_mean, rm_or}
use Rattle.x86_grammar.proofs.Operands.{reg_low}
use Rattle.x86_grammar.proofs.SomeForm.{alu_low, shift_low, sized}

abbrev AllFit : List Form → Type 0
AllFit [] = Unit {0}
AllFit (f ∷ fs) = FormFits f × AllFit fs

fit : {f : Form} → f.reg_field < 8 → f.imm < 256 ^ imm_size f.row f.operand_size → IfSome f.rm (λ m. rm_fits m ≡ true) → FormFits f
fit m v o = record { reg_field = m; imm = v; operand = o }

fit_in : (f : Form) (fs : List Form) → AllFit fs → In f fs → FormFits f
fit_in f [] all h = absurd h
fit_in f (g ∷ fs) all (inl h) = subst FormFits (sym h) all.0
fit_in f (g ∷ fs) all (inr h) = fit_in f fs all.1 h

-- ---- the parts of the lists

All-append : (a b : List Form) → AllFit a → AllFit b → AllFit (a ++ b)
All-append [] b p q = q
All-append (f ∷ a) b p q = (p.0, All-append a b p.1 q)

All_signed : (w : Width) (v : ℕ) (f : ℕ → Form) → FormFits (f (v % 256)) → AllFit (if_signed w v f)
All_signed w v f h = cond_both (eqb (signed w (v % 256)) v) (f (v % 256) ∷ []) [] AllFit (λ e. (h, tt)) (λ e. tt)

All_one : (b : Bool) (f : Form) → FormFits f → AllFit (cond b (f ∷ []) [])
All_one true f h = (h, tt)
All_one false f h = tt

All_reg : (to : Rm) (f : Reg → List Form) → ((t : Reg) → AllFit (f t)) → AllFit (if_reg to f)
All_reg (rm.Reg t) f h = h t
All_reg (rm.Mem a) f h = tt

All_acc : (to : Rm) (f : Form) → FormFits f → AllFit (if_acc to f)
All_acc (rm.Reg reg.Eax) f h = (h, tt)
All_acc (rm.Reg _) f h = tt
All_acc (rm.Mem a) f h = tt

All_wide : (w : Width) (fs : List Form) → AllFit fs → AllFit (not_one w fs)
All_wide One fs h = tt
All_wide Two fs h = h
All_wide Four fs h = h

All_number : (b x : Option Reg) (s : ℕ) (f : Form) → FormFits f → AllFit (number_only b x s f)
All_number None None s f h = All_one (eqb s 1) f h
All_number None (Some r) s f h = tt
All_number (Some r) x s f h = tt

-- ---- each instruction's list

byte_low : (v : ℕ) → v % 256 < 256 ^ 1
byte_low v = omega arith

disp_low : (a : Address) → address_fits a ≡ true → a.disp < 256 ^ 4
disp_low a e = ltb-true _ _ (and_right (index_fits a.index a.scale) (number_fits Four a.disp) e)

load_all : (w : Width) (t : Reg) (a : Address) → address_fits a ≡ true → AllFit (mov_load w t a)
load_all w reg.Eax a e = All_number a.base a.index a.scale _ (fit (lit< tt) (disp_low a e) tt)
load_all w _ a e = tt

store_at : (w : Width) (to : Rm) → rm_fits to ≡ true → AllFit (if_number to (λ d. plain (row.MovStore (w_bit w)) w d))
store_at w (rm.Reg t) e = tt
store_at w (rm.Mem a) e = All_number a.base a.index a.scale _ (fit (lit< tt) (disp_low a e) tt)

store_all : (w : Width) (to : Rm) (r : Reg) → rm_fits to ≡ true → AllFit (mov_store w to r)
store_all w to reg.Eax e = store_at w to e
store_all w to _ e = tt

alu_all : (op : AluOp) (w : Width) (to : Rm) (from : Src) → moves_fit w to from ≡ true → AllFit (alu_forms op w to from)
alu_all op w to (src.Reg r) e = (fit (reg_low r) (lit< tt) e, All_reg to _ (λ t. (fit (reg_low t) (lit< tt) refl, tt)))
alu_all op w (rm.Reg t) (src.Mem a) e = (fit (reg_low t) (lit< tt) e, tt)
alu_all op w (rm.Mem b) (src.Mem a) e = tt
alu_all op w to (src.Imm v) e =
    let o = and_left (rm_fits to) (number_fits w v) e in
    let n = sized w v (and_right (rm_fits to) (number_fits w v) e) in
    (fit (alu_low op) n o, All-append _ _ (All_acc to _ (fit (lit< tt) n tt)) (All_wide w _ (All_signed w v (λ b. with_rm row.AluByte w (number_of_alu op) to b) (fit (alu_low op) (byte_low v) o))))

test_all : (w : Width) (left : Rm) (right : Src) → test_fits w left right ≡ true → AllFit (test_forms w left right)
test_all w left (src.Reg r) e = (fit (reg_low r) (lit< tt) e, tt)
test_all w left (src.Mem a) e = tt
test_all w left (src.Imm v) e =
    let n = sized w v (and_right (rm_fits left) (number_fits w v) e) in
    (fit (lit< tt) n (and_left (rm_fits left) (number_fits w v) e), All_acc left _ (fit (lit< tt) n tt))

mov_all : (w : Width) (to : Rm) (from : Src) → moves_fit w to from ≡ true → AllFit (mov_forms w to from)
mov_all w to (src.Reg r) e = (fit (reg_low r) (lit< tt) e, All-append _ _ (All_reg to _ (λ t. (fit (reg_low t) (lit< tt) refl, tt))) (store_all w to r e))
mov_all w (rm.Reg t) (src.Mem a) e = (fit (reg_low t) (lit< tt) e, load_all w t a e)
mov_all w (rm.Mem b) (src.Mem a) e = tt
mov_all w to (src.Imm v) e =
    let n = sized w v (and_right (rm_fits to) (number_fits w v) e) in
    (fit (lit< tt) n (and_left (rm_fits to) (number_fits w v) e), All_reg to _ (λ t. (fit (lit< tt) n tt, tt)))

step_all : (r : Reg → Row) (w : Width) (to : Rm) → ((t : Reg) → 0 < 256 ^ imm_size (r t) (operand_size_of w)) → AllFit (short_step r w to)
step_all r w to h = All_wide w _ (All_reg to _ (λ t. (fit (lit< tt) (h t) tt, tt)))

by_all : (w : Width) (to : Reg) (from : Rm) (v : ℕ) → (w_bit w && (rm_fits from && number_fits w v)) ≡ true → AllFit (imul_by_forms w to from v)
by_all One to from v e = tt
by_all Two to from v e =
    let o = and_left (rm_fits from) (number_fits Two v) e in
    (fit (reg_low to) (ltb-true _ _ (and_right (rm_fits from) (number_fits Two v) e)) o, All_signed Two v (λ b. with_rm row.ImulByte Two (number_of_reg to) from b) (fit (reg_low to) (byte_low v) o))
by_all Four to from v e =
    let o = and_left (rm_fits from) (number_fits Four v) e in
    (fit (reg_low to) (ltb-true _ _ (and_right (rm_fits from) (number_fits Four v) e)) o, All_signed Four v (λ b. with_rm row.ImulByte Four (number_of_reg to) from b) (fit (reg_low to) (byte_low v) o))

to_reg_all : (r : Row) (w : Width) (to : Reg) (from : Rm) → 0 < 256 ^ imm_size r (operand_size_of w) → (w_bit w && rm_fits from) ≡ true → AllFit (to_reg r w to from)
to_reg_all r w to from h e = All_wide w _ (fit (reg_low to) h (and_right (w_bit w) (rm_fits from) e), tt)

shift_all : (op : ShiftOp) (w : Width) (to : Rm) (n : Count) → (rm_fits to && count_fits n) ≡ true → AllFit (shift_forms op w to n)
shift_all op w to (count.Imm v) e =
    let o = and_left (rm_fits to) (number_fits One v) e in
    (fit (shift_low op) (ltb-true _ _ (and_right (rm_fits to) (number_fits One v) e)) o, All_one (eqb v 1) _ (fit (shift_low op) (lit< tt) o))
shift_all op w to count.Cl e = (fit (shift_low op) (lit< tt) (and_left (rm_fits to) true e), tt)

push_all : (from : Src) → push_fits from ≡ true → AllFit (push_forms from)
push_all (src.Reg r) e = (fit (lit< tt) (lit< tt) refl, (fit (lit< tt) (lit< tt) tt, tt))
push_all (src.Mem a) e = (fit (lit< tt) (lit< tt) e, tt)
push_all (src.Imm v) e = (fit (lit< tt) (ltb-true _ _ e) tt, All_signed Four v (λ b. plain row.PushByte Four b) (fit (lit< tt) (byte_low v) tt))

other_all : (r : Reg) (f : Form) → FormFits f → AllFit (other_reg r f)
other_all reg.Eax f h = tt
other_all _ f h = (h, tt)

xchg_all : (w : Width) (left : Rm) (r : Reg) → AllFit (xchg_short w left r)
xchg_all w (rm.Reg reg.Eax) r = other_all r _ (fit (lit< tt) (lit< tt) tt)
xchg_all w (rm.Reg _) r = tt
xchg_all w (rm.Mem a) r = tt

widen_all : (b h : Row) (wide w : Width) (to : Reg) (from : Rm) → ((x : Bool) → 0 < 256 ^ imm_size b x) → 0 < 256 ^ imm_size h false → rm_fits from ≡ true → AllFit (widen_forms b h wide w to from)
widen_all b h One w to from p q e = tt
widen_all b h Two One to from p q e = (fit (reg_low to) (p true) e, tt)
widen_all b h Two Two to from p q e = tt
widen_all b h Two Four to from p q e = tt
widen_all b h Four One to from p q e = (fit (reg_low to) (p false) e, tt)
widen_all b h Four Two to from p q e = (fit (reg_low to) q e, tt)
widen_all b h Four Four to from p q e = tt

ret_all : (d : ℕ) → number_fits Two d ≡ true → AllFit (ret_forms d)
ret_all zero e = (fit (lit< tt) (lit< tt) tt, (fit (lit< tt) (lit< tt) tt, (fit (lit< tt) (lit< tt) tt, tt)))
ret_all (suc d) e = (fit (lit< tt) (ltb-true _ _ e) tt, tt)

forms_all : (i : Instr) → fields_fit i ≡ true → AllFit (forms i)
forms_all (instr.Alu op w to from) e = alu_all op w to from e
forms_all (instr.Test w left right) e = test_all w left right e
forms_all (instr.Mov w to from) e = mov_all w to from e
forms_all (instr.Lea w to a) e = All_wide w _ (fit (reg_low to) (lit< tt) (and_right (w_bit w) (address_fits a) e), tt)
forms_all (instr.Inc w to) e = (fit (lit< tt) (lit< tt) e, step_all row.IncReg w to (λ t. lit< tt))
forms_all (instr.Dec w to) e = (fit (lit< tt) (lit< tt) e, step_all row.DecReg w to (λ t. lit< tt))
forms_all (instr.Not w to) e = (fit (lit< tt) (lit< tt) e, tt)
forms_all (instr.Neg w to) e = (fit (lit< tt) (lit< tt) e, tt)
forms_all (instr.Mul w from) e = (fit (lit< tt) (lit< tt) e, tt)
forms_all (instr.ImulWide w from) e = (fit (lit< tt) (lit< tt) e, tt)
forms_all (instr.Div w from) e = (fit (lit< tt) (lit< tt) e, tt)
forms_all (instr.Idiv w from) e = (fit (lit< tt) (lit< tt) e, tt)
forms_all (instr.Imul w to from) e = to_reg_all row.Imul w to from (lit< tt) e
forms_all (instr.ImulBy w to from by) e = by_all w to from by e
forms_all (instr.Shift op w to n) e = shift_all op w to n e
forms_all (instr.Shld to from (count.Imm v)) e = (fit (reg_low from) (ltb-true _ _ (and_right (rm_fits to) (number_fits One v) e)) (and_left (rm_fits to) (number_fits One v) e), tt)
forms_all (instr.Shld to from count.Cl) e = (fit (reg_low from) (lit< tt) (and_left (rm_fits to) true e), tt)
forms_all (instr.Shrd to from (count.Imm v)) e = (fit (reg_low from) (ltb-true _ _ (and_right (rm_fits to) (number_fits One v) e)) (and_left (rm_fits to) (number_fits One v) e), tt)
forms_all (instr.Shrd to from count.Cl) e = (fit (reg_low from) (lit< tt) (and_left (rm_fits to) true e), tt)
forms_all (instr.Push from) e = push_all from e
forms_all (instr.Pop to) e = (fit (lit< tt) (lit< tt) e, All_reg to _ (λ t. (fit (lit< tt) (lit< tt) tt, tt)))
forms_all (instr.Xchg w left r) e = (fit (reg_low r) (lit< tt) e, All_wide w _ (xchg_all w left r))
forms_all (instr.Movzx wide w to from) e = widen_all row.MovzxByte row.MovzxWord wide w to from (λ x. lit< tt) (lit< tt) (and_right (widens wide w) (rm_fits from) e)
forms_all (instr.Movsx wide w to from) e = widen_all row.MovsxByte row.MovsxWord wide w to from (λ x. lit< tt) (lit< tt) (and_right (widens wide w) (rm_fits from) e)
forms_all (instr.Cmov c w to from) e = to_reg_all (row.Cmov c) w to from (lit< tt) e
forms_all (instr.Setcc c to) e = (fit (lit< tt) (lit< tt) e, tt)
forms_all (instr.Extend w) e = All_wide w _ (fit (lit< tt) (lit< tt) tt, tt)
forms_all (instr.Spread w) e = All_wide w _ (fit (lit< tt) (lit< tt) tt, tt)
forms_all (instr.Bsf w to from) e = to_reg_all row.Bsf w to from (lit< tt) e
forms_all (instr.Bsr w to from) e = to_reg_all row.Bsr w to from (lit< tt) e
forms_all (instr.Bswap to) e = (fit (lit< tt) (lit< tt) tt, tt)
forms_all (instr.Movs w repeat) e = (fit (lit< tt) (lit< tt) tt, tt)
forms_all (instr.Stos w repeat) e = (fit (lit< tt) (lit< tt) tt, tt)
forms_all (instr.Jmp by) e = (fit (lit< tt) (ltb-true _ _ e) tt, All_signed Four by (λ b. plain row.JmpShort Four b) (fit (lit< tt) (byte_low by) tt))
forms_all (instr.JmpTo to) e = (fit (lit< tt) (lit< tt) e, tt)
forms_all (instr.CallTo to) e = (fit (lit< tt) (lit< tt) e, tt)
forms_all (instr.Jcc c by) e = (fit (lit< tt) (ltb-true _ _ e) tt, All_signed Four by (λ b. plain (row.JccShort c) Four b) (fit (lit< tt) (byte_low by) tt))
forms_all (instr.Call by) e = (fit (lit< tt) (ltb-true _ _ e) tt, tt)
forms_all (instr.Ret drop) e = ret_all drop e
forms_all instr.Leave e = (fit (lit< tt) (lit< tt) tt, tt)
forms_all instr.Int80 e = (fit (lit< tt) (lit< tt) tt, tt)
forms_all instr.Cld e = (fit (lit< tt) (lit< tt) tt, tt)
forms_all instr.Nop e = (fit (lit< tt) (lit< tt) tt, (fit (lit< tt) (lit< tt) tt, (fit (lit< tt) (lit< tt) tt, tt)))

-- ---- the laws

pub form_fits : (i : Instr) (f : Form) → fields_fit i ≡ true → In f (forms i) → FormFits f
form_fits i f e h = fit_in f (forms i) (forms_all i e) h

pub form_suits : (i : Instr) (f : Form) → In f (forms i) → FormSuits f
form_suits i f h =
    let s = (mean_of i f (forms i) (forms_mean i) h).suits in
    record { operand_size = s.operand_size; rep = s.rep }

allowed : (o : Option Rm) (m : Rm) → IfSome o (λ x. x ≡ m) → rm_or o m ≡ m
allowed None m h = refl
allowed (Some x) m h = h

pub form_means : (i : Instr) (f : Form) (m : Rm) → In f (forms i) → IfSome f.rm (λ x. x ≡ m) → build f.row f.operand_size f.rep f.reg_field m f.imm ≡ Some i
form_means i f m h a = subst (λ (x : Rm). build f.row f.operand_size f.rep f.reg_field x f.imm ≡ Some i) (allowed f.rm m a) ((mean_of i f (forms i) (forms_mean i) h).built m)
