-- What a row means fits, and so does what is spelled.
use Rattle.std.proofs.Common.{◌≡◌, ℕ, ◌+◌, ◌-◌, ◌^◌, ◌<◌, Bool, true, false, cond, ltb, eqb, ◌&&◌, ◌||◌, Option, Some, None, refl, sym, subst, arith}
use Rattle.std.proofs.lemmas.Bool.{false≢true, lt-ltb, cond_both}
use Rattle.std.specs.Prelude.{IfSome}
use Rattle.x86_types.specs.Numbers.{size_of}
use Rattle.x86_types.specs.declared.operand.Reg.TheVariants as reg
use Rattle.x86_types.specs.declared.width.Width.{Width}
use Rattle.x86_types.specs.declared.width.Width.TheVariants.{One, Two, Four}
use Rattle.x86_types.specs.declared.operand.Rm.{Rm}
use Rattle.x86_types.specs.declared.operand.Rm.TheVariants as rm
use Rattle.x86_types.specs.declared.instr.Instr.{Instr}
use Rattle.x86_grammar.specs.declared.row.Form.{Form}
use Rattle.x86_grammar.specs.declared.row.Row.{Row}
use Rattle.x86_grammar.specs.declared.row.Row.TheVariants as row
use Rattle.x86_grammar.specs.Rows.{has_operand}
use Rattle.x86_grammar.specs.Attributes.{imm_size, width_of}
use Rattle.x86_grammar.specs.Meaning.{build}
use Rattle.x86_grammar.specs.Forms.{forms}
use Rattle.x86_grammar.specs.Parts.{w_bit, signed}
use Rattle.x86_grammar.specs.Operand.{rm_of}
use Rattle.x86_grammar.specs.Spells.{Spelling, IsSpelling}
use Rattle.x86_grammar.specs.Fields.{number_fits, rm_fits, widens, fields_fit}
use Rattle.x86_grammar.proofs.Map.{and_right}
use Rattle.x86_grammar.proofs.Means.{Means, mean_of, forms_mean, rm_or, is_none}
use Rattle.x86_grammar.proofs.Operands.{both, rm_is_fit}

num : (w : Width) (v : ℕ) → v < 256 ^ size_of w → number_fits w v ≡ true
num w v h = lt-ltb _ _ h

num_signed : (w : Width) (v : ℕ) → v < 256 → number_fits w (signed w v) ≡ true
num_signed One v h = cond_both (ltb v 0x80) v (v + (256 ^ 1 - 256)) (λ x. number_fits One x ≡ true) (λ e. lt-ltb _ _ (omega arith)) (λ e. lt-ltb _ _ (omega arith))
num_signed Two v h = cond_both (ltb v 0x80) v (v + (256 ^ 2 - 256)) (λ x. number_fits Two x ≡ true) (λ e. lt-ltb _ _ (omega arith)) (λ e. lt-ltb _ _ (omega arith))
num_signed Four v h = cond_both (ltb v 0x80) v (v + (256 ^ 4 - 256)) (λ x. number_fits Four x ≡ true) (λ e. lt-ltb _ _ (omega arith)) (λ e. lt-ltb _ _ (omega arith))

wide_is : (h : Bool) → w_bit (width_of true h) ≡ true
wide_is true = refl
wide_is false = refl

widens_one : (h : Bool) → widens (width_of true h) One ≡ true
widens_one true = refl
widens_one false = refl

if_some : (b : Bool) (i : Instr) → fields_fit i ≡ true → IfSome (cond b (Some i) None) (λ j. fields_fit j ≡ true)
if_some true i h = h
if_some false i h = tt

row_fits : (r : Row) (h p : Bool) (n : ℕ) (m : Rm) (v : ℕ) → rm_fits m ≡ true → v < 256 ^ imm_size r h → IfSome (build r h p n m v) (λ i. fields_fit i ≡ true)
row_fits (row.AluToRm op w) h p n m v a b = a
row_fits (row.AluToReg op w) h p n (rm.Reg x) v a b = refl
row_fits (row.AluToReg op w) h p n (rm.Mem x) v a b = a
row_fits (row.AluAcc op w) h p n m v a b = num _ v b
row_fits (row.AluImm w) h p n m v a b = both _ _ a (num _ v b)
row_fits row.AluByte h p n m v a b = both _ _ a (num_signed (width_of true h) v b)
row_fits (row.TestRm w) h p n m v a b = a
row_fits (row.TestAcc w) h p n m v a b = num _ v b
row_fits (row.TestImm w) h p n m v a b = both _ _ a (num _ v b)
row_fits (row.MovToRm w) h p n m v a b = a
row_fits (row.MovToReg w) h p n (rm.Reg x) v a b = refl
row_fits (row.MovToReg w) h p n (rm.Mem x) v a b = a
row_fits (row.MovReg r w) h p n m v a b = num _ v b
row_fits (row.MovImm w) h p n m v a b = both _ _ a (num _ v b)
row_fits (row.MovLoad w) h p n m v a b = num Four v b
row_fits (row.MovStore w) h p n m v a b = num Four v b
row_fits row.Lea h p n (rm.Reg x) v a b = tt
row_fits row.Lea h p n (rm.Mem x) v a b = both _ _ (wide_is h) a
row_fits (row.IncReg r) h p n m v a b = refl
row_fits (row.DecReg r) h p n m v a b = refl
row_fits (row.Inc w) h p n m v a b = a
row_fits (row.Dec w) h p n m v a b = a
row_fits (row.Not w) h p n m v a b = a
row_fits (row.Neg w) h p n m v a b = a
row_fits (row.Mul w) h p n m v a b = a
row_fits (row.ImulWide w) h p n m v a b = a
row_fits (row.Div w) h p n m v a b = a
row_fits (row.Idiv w) h p n m v a b = a
row_fits row.Imul h p n m v a b = both _ _ (wide_is h) a
row_fits row.ImulWord h p n m v a b = both _ _ (wide_is h) (both _ _ a (num _ v b))
row_fits row.ImulByte h p n m v a b = both _ _ (wide_is h) (both _ _ a (num_signed (width_of true h) v b))
row_fits (row.ShiftImm op w) h p n m v a b = both _ _ a (num One v b)
row_fits (row.ShiftOne op w) h p n m v a b = both _ _ a refl
row_fits (row.ShiftCl op w) h p n m v a b = both _ _ a refl
row_fits row.ShldImm h p n m v a b = both _ _ a (num One v b)
row_fits row.ShldCl h p n m v a b = both _ _ a refl
row_fits row.ShrdImm h p n m v a b = both _ _ a (num One v b)
row_fits row.ShrdCl h p n m v a b = both _ _ a refl
row_fits (row.PushReg r) h p n m v a b = refl
row_fits row.PushWord h p n m v a b = num Four v b
row_fits row.PushByte h p n m v a b = num_signed Four v b
row_fits row.Push h p n (rm.Reg x) v a b = refl
row_fits row.Push h p n (rm.Mem x) v a b = a
row_fits (row.PopReg r) h p n m v a b = refl
row_fits row.Pop h p n m v a b = a
row_fits (row.Xchg w) h p n m v a b = a
row_fits (row.XchgAcc r) h p n m v a b = refl
row_fits row.MovzxByte h p n m v a b = both _ _ (widens_one h) a
row_fits row.MovzxWord h p n m v a b = a
row_fits row.MovsxByte h p n m v a b = both _ _ (widens_one h) a
row_fits row.MovsxWord h p n m v a b = a
row_fits (row.Cmov c) h p n m v a b = both _ _ (wide_is h) a
row_fits (row.Setcc c) h p n m v a b = a
row_fits row.Extend h p n m v a b = wide_is h
row_fits row.Spread h p n m v a b = wide_is h
row_fits row.Bsf h p n m v a b = both _ _ (wide_is h) a
row_fits row.Bsr h p n m v a b = both _ _ (wide_is h) a
row_fits (row.BswapReg r) h p n m v a b = refl
row_fits (row.Movs w) h p n m v a b = refl
row_fits (row.Stos w) h p n m v a b = refl
row_fits row.JmpShort h p n m v a b = num_signed Four v b
row_fits row.JmpNear h p n m v a b = num Four v b
row_fits row.JmpTo h p n m v a b = a
row_fits row.CallTo h p n m v a b = a
row_fits (row.JccShort c) h p n m v a b = num_signed Four v b
row_fits (row.JccNear c) h p n m v a b = num Four v b
row_fits row.CallNear h p n m v a b = num Four v b
row_fits row.Ret h p n m v a b = refl
row_fits row.RetDrop h p n m v a b = num Two v b
row_fits row.Leave h p n m v a b = refl
row_fits row.Int80 h p n m v a b = if_some (eqb v 0x80) _ refl
row_fits row.Cld h p n m v a b = refl
row_fits row.Nop h p n m v a b = refl
row_fits row.NopLong h p n m v a b = refl
row_fits row.NopEnd h p n m v a b = if_some (eqb v 0xFB) _ refl

if_some_is : (o : Option Instr) (i : Instr) → o ≡ Some i → IfSome o (λ j. fields_fit j ≡ true) → fields_fit i ≡ true
if_some_is None i e h = absurd cc
if_some_is (Some j) i e h = let q : j ≡ i = (cc) in subst (λ (k : Instr). fields_fit k ≡ true) q h

rm_or_is : (o : Option Rm) (x : Rm) → IfSome o (λ m. x ≡ m) → rm_or o x ≡ x
rm_or_is None x h = refl
rm_or_is (Some m) x h = sym h

-- ---- what is spelled fits

module _ (x : Spelling) (i : Instr) (ok : IsSpelling x i) where
  abbrev f : Form
  f = x.form

  mean : Means i f
  mean = mean_of i f (forms i) (forms_mean i) ok.among

  fits_by : (m : Rm) → rm_fits m ≡ true → rm_or f.rm m ≡ m → fields_fit i ≡ true
  fits_by m h e = if_some_is _ i (subst (λ (y : Rm). build f.row f.operand_size f.rep f.reg_field y f.imm ≡ Some i) e (mean.built m)) (row_fits f.row f.operand_size f.rep f.reg_field m f.imm h ok.imm)

  no_rm : (b : Bool) (n : ℕ) (o : Option Rm) → b ≡ false → (b || (eqb n 0 && is_none o)) ≡ true → o ≡ None
  no_rm true n o e h = absurd (false≢true (sym e))
  no_rm false n None e h = refl
  no_rm false n (Some m) e h = absurd (false≢true (and_right (eqb n 0) false h))

  fits_cases : (b : Bool) → has_operand f.row ≡ b → fields_fit i ≡ true
  fits_cases true o = let s = ok.operand o in fits_by (rm_of x.operand.m x.operand.sib x.operand.disp) (rm_is_fit x.operand s.is) (rm_or_is f.rm _ s.rm)
  fits_cases false o = let e = no_rm (has_operand f.row) f.reg_field f.rm o mean.plain in fits_by (rm.Reg reg.Eax) refl (rw e refl)

  pub spelling_fits : fields_fit i ≡ true
  spelling_fits = fits_cases (has_operand f.row) refl
