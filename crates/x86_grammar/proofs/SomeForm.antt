-- An instruction whose fields fit has a form that can be spelled.
use Rattle.std.proofs.Common.{◌≡◌, ℕ, zero, suc, ◌^◌, ◌<◌, true, inl, lit<, refl}
use Rattle.std.proofs.lemmas.Bool.{false≢true, ltb-true}
use Rattle.std.specs.Prelude.{IfSome}
use Rattle.x86_types.specs.Numbers.{number_of_alu, number_of_shift}
use Rattle.x86_types.specs.declared.operation.AluOp.{AluOp}
use Rattle.x86_types.specs.declared.operation.AluOp.TheVariants as alu
use Rattle.x86_types.specs.declared.operation.ShiftOp.{ShiftOp}
use Rattle.x86_types.specs.declared.operation.ShiftOp.TheVariants as shift
use Rattle.x86_types.specs.declared.operation.Count.TheVariants as count
use Rattle.x86_types.specs.declared.width.Width.{Width}
use Rattle.x86_types.specs.declared.width.Width.TheVariants.{One, Two, Four}
use Rattle.x86_types.specs.declared.operand.Rm.TheVariants as rm
use Rattle.x86_types.specs.declared.operand.Src.TheVariants as src
use Rattle.x86_types.specs.declared.instr.Instr.{Instr}
use Rattle.x86_types.specs.declared.instr.Instr.TheVariants as instr
use Rattle.x86_grammar.specs.declared.row.Form.{Form}
use Rattle.x86_grammar.specs.Attributes.{imm_size, wide_size}
use Rattle.x86_grammar.specs.Forms.{forms, In}
use Rattle.x86_grammar.specs.Parts.{w_bit, operand_size_of}
use Rattle.x86_grammar.specs.Fields.{number_fits, rm_fits, fields_fit}
use Rattle.x86_grammar.proofs.Map.{and_left, and_right}
use Rattle.x86_grammar.proofs.Operands.{reg_low}

pub record HasForm (i : Instr) : Type 0 where
  pub form : Form
  pub among : In form (forms i)
  pub low : form.reg_field < 8
  pub imm : form.imm < 256 ^ imm_size form.row form.operand_size
  pub rm : IfSome form.rm (λ m. rm_fits m ≡ true)

module _ {i : Instr} where
  has : (f : Form) → In f (forms i) → f.reg_field < 8 → f.imm < 256 ^ imm_size f.row f.operand_size → IfSome f.rm (λ m. rm_fits m ≡ true) → HasForm i
  has f a b c d = record { form = f; among = a; low = b; imm = c; rm = d }

pub alu_low : (op : AluOp) → number_of_alu op < 8
alu_low op = elim op as (λ op. number_of_alu op < 8) [ alu.Add ↦ lit< tt | _ ↦ lit< tt ]

pub shift_low : (op : ShiftOp) → number_of_shift op < 8
shift_low op = elim op as (λ op. number_of_shift op < 8) [ shift.Rol ↦ lit< tt | _ ↦ lit< tt ]

pub sized : (w : Width) (v : ℕ) → number_fits w v ≡ true → v < 256 ^ wide_size (w_bit w) (operand_size_of w)
sized One v h = ltb-true _ _ h
sized Two v h = ltb-true _ _ h
sized Four v h = ltb-true _ _ h

pub some_form : (i : Instr) → fields_fit i ≡ true → HasForm i
some_form (instr.Alu op w to (src.Reg r)) e = has _ (inl refl) (reg_low r) (lit< tt) e
some_form (instr.Alu op w (rm.Reg t) (src.Mem a)) e = has _ (inl refl) (reg_low t) (lit< tt) e
some_form (instr.Alu op w (rm.Mem b) (src.Mem a)) e = absurd (false≢true e)
some_form (instr.Alu op w to (src.Imm v)) e = has _ (inl refl) (alu_low op) (sized w v (and_right (rm_fits to) _ e)) (and_left (rm_fits to) (number_fits w v) e)
some_form (instr.Mov w to (src.Reg r)) e = has _ (inl refl) (reg_low r) (lit< tt) e
some_form (instr.Mov w (rm.Reg t) (src.Mem a)) e = has _ (inl refl) (reg_low t) (lit< tt) e
some_form (instr.Mov w (rm.Mem b) (src.Mem a)) e = absurd (false≢true e)
some_form (instr.Mov w to (src.Imm v)) e = has _ (inl refl) (lit< tt) (sized w v (and_right (rm_fits to) _ e)) (and_left (rm_fits to) (number_fits w v) e)
some_form (instr.Test w to (src.Reg r)) e = has _ (inl refl) (reg_low r) (lit< tt) e
some_form (instr.Test w to (src.Mem a)) e = absurd (false≢true e)
some_form (instr.Test w to (src.Imm v)) e = has _ (inl refl) (lit< tt) (sized w v (and_right (rm_fits to) _ e)) (and_left (rm_fits to) (number_fits w v) e)
some_form (instr.Lea One to a) e = absurd (false≢true e)
some_form (instr.Lea Two to a) e = has _ (inl refl) (reg_low to) (lit< tt) e
some_form (instr.Lea Four to a) e = has _ (inl refl) (reg_low to) (lit< tt) e
some_form (instr.Inc w to) e = has _ (inl refl) (lit< tt) (lit< tt) e
some_form (instr.Dec w to) e = has _ (inl refl) (lit< tt) (lit< tt) e
some_form (instr.Not w to) e = has _ (inl refl) (lit< tt) (lit< tt) e
some_form (instr.Neg w to) e = has _ (inl refl) (lit< tt) (lit< tt) e
some_form (instr.Mul w to) e = has _ (inl refl) (lit< tt) (lit< tt) e
some_form (instr.ImulWide w to) e = has _ (inl refl) (lit< tt) (lit< tt) e
some_form (instr.Div w to) e = has _ (inl refl) (lit< tt) (lit< tt) e
some_form (instr.Idiv w to) e = has _ (inl refl) (lit< tt) (lit< tt) e
some_form (instr.Imul One to m) e = absurd (false≢true e)
some_form (instr.Imul Two to m) e = has _ (inl refl) (reg_low to) (lit< tt) e
some_form (instr.Imul Four to m) e = has _ (inl refl) (reg_low to) (lit< tt) e
some_form (instr.ImulBy One to m v) e = absurd (false≢true e)
some_form (instr.ImulBy Two to m v) e = has _ (inl refl) (reg_low to) (sized Two v (and_right (rm_fits m) _ e)) (and_left (rm_fits m) (number_fits Two v) e)
some_form (instr.ImulBy Four to m v) e = has _ (inl refl) (reg_low to) (sized Four v (and_right (rm_fits m) _ e)) (and_left (rm_fits m) (number_fits Four v) e)
some_form (instr.Shift op w to (count.Imm v)) e = has _ (inl refl) (shift_low op) (ltb-true _ _ (and_right (rm_fits to) (number_fits One v) e)) (and_left (rm_fits to) (number_fits One v) e)
some_form (instr.Shift op w to count.Cl) e = has _ (inl refl) (shift_low op) (lit< tt) (and_left (rm_fits to) true e)
some_form (instr.Shld to r (count.Imm v)) e = has _ (inl refl) (reg_low r) (ltb-true _ _ (and_right (rm_fits to) (number_fits One v) e)) (and_left (rm_fits to) (number_fits One v) e)
some_form (instr.Shld to r count.Cl) e = has _ (inl refl) (reg_low r) (lit< tt) (and_left (rm_fits to) true e)
some_form (instr.Shrd to r (count.Imm v)) e = has _ (inl refl) (reg_low r) (ltb-true _ _ (and_right (rm_fits to) (number_fits One v) e)) (and_left (rm_fits to) (number_fits One v) e)
some_form (instr.Shrd to r count.Cl) e = has _ (inl refl) (reg_low r) (lit< tt) (and_left (rm_fits to) true e)
some_form (instr.Push (src.Reg r)) e = has _ (inl refl) (lit< tt) (lit< tt) refl
some_form (instr.Push (src.Mem a)) e = has _ (inl refl) (lit< tt) (lit< tt) e
some_form (instr.Push (src.Imm v)) e = has _ (inl refl) (lit< tt) (ltb-true _ _ e) tt
some_form (instr.Pop to) e = has _ (inl refl) (lit< tt) (lit< tt) e
some_form (instr.Xchg w left r) e = has _ (inl refl) (reg_low r) (lit< tt) e
some_form (instr.Movzx One One to m) e = absurd (false≢true e)
some_form (instr.Movzx One Two to m) e = absurd (false≢true e)
some_form (instr.Movzx One Four to m) e = absurd (false≢true e)
some_form (instr.Movzx Two One to m) e = has _ (inl refl) (reg_low to) (lit< tt) e
some_form (instr.Movzx Two Two to m) e = absurd (false≢true e)
some_form (instr.Movzx Two Four to m) e = absurd (false≢true e)
some_form (instr.Movzx Four One to m) e = has _ (inl refl) (reg_low to) (lit< tt) e
some_form (instr.Movzx Four Two to m) e = has _ (inl refl) (reg_low to) (lit< tt) e
some_form (instr.Movzx Four Four to m) e = absurd (false≢true e)
some_form (instr.Movsx One One to m) e = absurd (false≢true e)
some_form (instr.Movsx One Two to m) e = absurd (false≢true e)
some_form (instr.Movsx One Four to m) e = absurd (false≢true e)
some_form (instr.Movsx Two One to m) e = has _ (inl refl) (reg_low to) (lit< tt) e
some_form (instr.Movsx Two Two to m) e = absurd (false≢true e)
some_form (instr.Movsx Two Four to m) e = absurd (false≢true e)
some_form (instr.Movsx Four One to m) e = has _ (inl refl) (reg_low to) (lit< tt) e
some_form (instr.Movsx Four Two to m) e = has _ (inl refl) (reg_low to) (lit< tt) e
some_form (instr.Movsx Four Four to m) e = absurd (false≢true e)
some_form (instr.Cmov c One to m) e = absurd (false≢true e)
some_form (instr.Cmov c Two to m) e = has _ (inl refl) (reg_low to) (lit< tt) e
some_form (instr.Cmov c Four to m) e = has _ (inl refl) (reg_low to) (lit< tt) e
some_form (instr.Setcc c to) e = has _ (inl refl) (lit< tt) (lit< tt) e
some_form (instr.Extend One) e = absurd (false≢true e)
some_form (instr.Extend Two) e = has _ (inl refl) (lit< tt) (lit< tt) tt
some_form (instr.Extend Four) e = has _ (inl refl) (lit< tt) (lit< tt) tt
some_form (instr.Spread One) e = absurd (false≢true e)
some_form (instr.Spread Two) e = has _ (inl refl) (lit< tt) (lit< tt) tt
some_form (instr.Spread Four) e = has _ (inl refl) (lit< tt) (lit< tt) tt
some_form (instr.Bsf One to m) e = absurd (false≢true e)
some_form (instr.Bsf Two to m) e = has _ (inl refl) (reg_low to) (lit< tt) e
some_form (instr.Bsf Four to m) e = has _ (inl refl) (reg_low to) (lit< tt) e
some_form (instr.Bsr One to m) e = absurd (false≢true e)
some_form (instr.Bsr Two to m) e = has _ (inl refl) (reg_low to) (lit< tt) e
some_form (instr.Bsr Four to m) e = has _ (inl refl) (reg_low to) (lit< tt) e
some_form (instr.Bswap r) e = has _ (inl refl) (lit< tt) (lit< tt) tt
some_form (instr.Movs w p) e = has _ (inl refl) (lit< tt) (lit< tt) tt
some_form (instr.Stos w p) e = has _ (inl refl) (lit< tt) (lit< tt) tt
some_form (instr.Jmp by) e = has _ (inl refl) (lit< tt) (ltb-true _ _ e) tt
some_form (instr.JmpTo to) e = has _ (inl refl) (lit< tt) (lit< tt) e
some_form (instr.CallTo to) e = has _ (inl refl) (lit< tt) (lit< tt) e
some_form (instr.Jcc c by) e = has _ (inl refl) (lit< tt) (ltb-true _ _ e) tt
some_form (instr.Call by) e = has _ (inl refl) (lit< tt) (ltb-true _ _ e) tt
some_form (instr.Ret zero) e = has _ (inl refl) (lit< tt) (lit< tt) tt
some_form (instr.Ret (suc d)) e = has _ (inl refl) (lit< tt) (ltb-true _ _ e) tt
some_form instr.Leave e = has _ (inl refl) (lit< tt) (lit< tt) tt
some_form instr.Int80 e = has _ (inl refl) (lit< tt) (lit< tt) tt
some_form instr.Cld e = has _ (inl refl) (lit< tt) (lit< tt) tt
some_form instr.Nop e = has _ (inl refl) (lit< tt) (lit< tt) tt
