-- In part written by tools/among.py.
-- What a row means has that row among its forms.
use Rattle.std.proofs.Common.{◌≡◌, ℕ, zero, suc, ◌+◌, ◌-◌, ◌<◌, ◌%◌, ◌^◌, Option, Some, None, Bool, true, false, cond, not, ◌||◌, eqb, ltb, eq-eqb, subst, refl, ap, sym, arith, [], ◌∷◌, ◌++◌, List, inl, inr, ◌⊎◌}
use Rattle.std.proofs.lemmas.Bool.{eqb-true, cond_both, false≢true}
use Rattle.x86_types.specs.Numbers.{number_of_reg, number_of_alu, number_of_shift, reg_of, alu_of}
use Rattle.x86_types.specs.NumberLaws.{reg_again, alu_again}
use Rattle.x86_types.specs.declared.operand.Reg.{Reg}
use Rattle.x86_types.specs.declared.operand.Reg.TheVariants as reg
use Rattle.x86_types.specs.declared.operation.AluOp.{AluOp}
use Rattle.x86_types.specs.declared.operation.ShiftOp.{ShiftOp}
use Rattle.x86_types.specs.declared.operation.Cond.{Cond}
use Rattle.x86_types.specs.declared.width.Width.{Width}
use Rattle.x86_types.specs.declared.width.Width.TheVariants.{One, Two, Four}
use Rattle.x86_types.specs.declared.operand.Rm.{Rm}
use Rattle.x86_types.specs.declared.operand.Rm.TheVariants as rm
use Rattle.x86_types.specs.declared.instr.Instr.{Instr}
use Rattle.x86_types.specs.declared.instr.Instr.TheVariants as instr
use Rattle.x86_grammar.specs.declared.row.Form.{Form}
use Rattle.x86_grammar.specs.declared.row.Row.{Row}
use Rattle.x86_grammar.specs.declared.row.Row.TheVariants as row
use Rattle.x86_grammar.specs.Rows.{has_operand}
use Rattle.x86_grammar.specs.Attributes.{imm_size, width_of}
use Rattle.x86_grammar.specs.Meaning.{build}
use Rattle.x86_grammar.specs.Forms.{forms, In}
use Rattle.x86_grammar.specs.Parts.{w_bit, operand_size_of, signed, if_signed, with_rm, plain, if_acc}
use Rattle.x86_grammar.proofs.Means.{Suits}

-- what a spelling has in its parts, with 0 for the reg field where there is none
pub record Parts (r : Row) (h p : Bool) (n v : ℕ) : Type 0 where
  pub suits : Suits r h p n
  pub reg_field : n < 8
  pub known : has_operand r ≡ false → n ≡ 0
  pub imm : v < 256 ^ imm_size r h

abbrev pub shown_if : Bool → Rm → Option Rm
shown_if true m = Some m
shown_if false m = None

-- what a form leaves open: 0F 1F takes any operand
abbrev pub shown : Row → Rm → Option Rm
shown row.NopLong m = None
shown r m = shown_if (has_operand r) m

abbrev pub form_of : Row → Bool → Bool → ℕ → Rm → ℕ → Form
form_of r h p n m v = record { row = r; operand_size = h; rep = p; reg_field = n; rm = shown r m; imm = v }

some_is : (i j : Instr) → Some i ≡ Some j → i ≡ j
some_is i j e = cc

In-append_right : (f : Form) (a b : List Form) → In f b → In f (a ++ b)
In-append_right f [] b h = h
In-append_right f (g ∷ gs) b h = inr (In-append_right f gs b h)

-- a byte is told by its signed number
pub signed_back : (w : Width) (b : ℕ) → b < 256 → signed w b % 256 ≡ b
signed_back One b h = cond_both (ltb b 0x80) b (b + (256 ^ 1 - 256)) (λ x. x % 256 ≡ b) (λ e. omega arith) (λ e. omega arith)
signed_back Two b h = cond_both (ltb b 0x80) b (b + (256 ^ 2 - 256)) (λ x. x % 256 ≡ b) (λ e. omega arith) (λ e. omega arith)
signed_back Four b h = cond_both (ltb b 0x80) b (b + (256 ^ 4 - 256)) (λ x. x % 256 ≡ b) (λ e. omega arith) (λ e. omega arith)

In-signed : (w : Width) (b : ℕ) (f : ℕ → Form) (x : Form) → b < 256 → x ≡ f b → In x (if_signed w (signed w b) f)
In-signed w b f x h e = rw (signed_back w b h, eq-eqb (signed w b) (signed w b) refl) (inl e)

operand_size_back : (f h : Bool) → (not h || f) ≡ true → h ≡ operand_size_of (width_of f h)
operand_size_back false false e = refl
operand_size_back false true e = absurd cc
operand_size_back true false e = refl
operand_size_back true true e = refl

w_back : (f h : Bool) → f ≡ w_bit (width_of f h)
w_back false h = refl
w_back true false = refl
w_back true true = refl

no_rep : (p : Bool) → not p ≡ true → p ≡ false
no_rep false e = refl
no_rep true e = absurd cc

no_operand_size : (h : Bool) → (not h || false) ≡ true → h ≡ false
no_operand_size false e = refl
no_operand_size true e = absurd cc

no_number : (v : ℕ) → v < 1 → v ≡ 0
no_number v h = omega arith

same_form : (r s : Row) (h g p q : Bool) (n k : ℕ) (m : Option Rm) (v u : ℕ) → r ≡ s → h ≡ g → p ≡ q → n ≡ k → v ≡ u → ◌≡◌ {A = Form} (record { row = r; operand_size = h; rep = p; reg_field = n; rm = m; imm = v }) (record { row = s; operand_size = g; rep = q; reg_field = k; rm = m; imm = u })
same_form r s h g p q n k m v u a b c d e = rw (a, b, c, d, e) refl

sized_form : (r : Bool → Row) (f h p : Bool) (n k : ℕ) (m : Option Rm) (v u : ℕ) → (not h || f) ≡ true → not p ≡ true → n ≡ k → v ≡ u → ◌≡◌ {A = Form} (record { row = r f; operand_size = h; rep = p; reg_field = n; rm = m; imm = v }) (record { row = r (w_bit (width_of f h)); operand_size = operand_size_of (width_of f h); rep = false; reg_field = k; rm = m; imm = u })
sized_form r f h p n k m v u a b c d = same_form _ _ _ _ _ _ _ _ _ _ _ (ap r (w_back f h)) (operand_size_back f h a) (no_rep p b) c d

fixed_form : (r : Row) (h p : Bool) (n k : ℕ) (m : Option Rm) (v u : ℕ) → (not h || false) ≡ true → not p ≡ true → n ≡ k → v ≡ u → ◌≡◌ {A = Form} (record { row = r; operand_size = h; rep = p; reg_field = n; rm = m; imm = v }) (record { row = r; operand_size = false; rep = false; reg_field = k; rm = m; imm = u })
fixed_form r h p n k m v u a b c d = same_form _ _ _ _ _ _ _ _ _ _ _ refl (no_operand_size h a) (no_rep p b) c d

chosen : {A : Type 0} (b : Bool) (x y z : A) → cond b x y ≡ z → ((b ≡ true) × (x ≡ z)) ⊎ ((b ≡ false) × (y ≡ z))
chosen true x y z e = inl (refl, e)
chosen false x y z e = inr (refl, e)

none_some : {i : Instr} → None ≡ Some i → ⊥
none_some e = cc

reg_field_is : (m n : ℕ) → eqb m n ≡ true → n ≡ m
reg_field_is m n h = sym (eqb-true m n h)

-- the row that the parts name is among the forms of what they mean
pub HasForm : Row → Type 0
HasForm r = (h p : Bool) (n : ℕ) (m : Rm) (v : ℕ) (i : Instr) → Parts r h p n v → build r h p n m v ≡ Some i → In (form_of r h p n m v) (forms i)

module _ (r : Row) (h p : Bool) (n : ℕ) (m : Rm) (v : ℕ) (i j : Instr) where
  by_built : Some j ≡ Some i → In (form_of r h p n m v) (forms j) → In (form_of r h p n m v) (forms i)
  by_built e x = subst (λ (k : Instr). In (form_of r h p n m v) (forms k)) (some_is j i e) x

-- ---- the rows, by tools/among.py

AluToRm_has : (op : AluOp) (w : Bool) → HasForm (row.AluToRm op w)
unfolding HasForm
AluToRm_has op w h p n m v i x e = by_built _ h p n m v i _ e (inl (sized_form (row.AluToRm op) w h p _ _ _ _ _ x.suits.operand_size x.suits.rep (sym (reg_again n x.reg_field)) (no_number v x.imm)))

AluToReg_has : (op : AluOp) (w : Bool) → HasForm (row.AluToReg op w)
unfolding HasForm
AluToReg_has op w h p n (rm.Reg q) v i x e = by_built _ h p n (rm.Reg q) v i _ e (inr (inl (sized_form (row.AluToReg op) w h p _ _ _ _ _ x.suits.operand_size x.suits.rep (sym (reg_again n x.reg_field)) (no_number v x.imm))))
AluToReg_has op w h p n (rm.Mem a) v i x e = by_built _ h p n (rm.Mem a) v i _ e (inl (sized_form (row.AluToReg op) w h p _ _ _ _ _ x.suits.operand_size x.suits.rep (sym (reg_again n x.reg_field)) (no_number v x.imm)))

AluAcc_has : (op : AluOp) (w : Bool) → HasForm (row.AluAcc op w)
unfolding HasForm
AluAcc_has op w h p n m v i x e = by_built _ h p n m v i _ e (inr (inl (sized_form (row.AluAcc op) w h p _ _ _ _ _ x.suits.operand_size x.suits.rep (x.known refl) refl)))

IncReg_has : (r : Reg) → HasForm (row.IncReg r)
unfolding HasForm
IncReg_has r false p n m v i x e = by_built _ false p n m v i _ e (inr (inl (same_form _ _ _ _ _ _ _ _ _ _ _ refl refl (no_rep p x.suits.rep) (x.known refl) (no_number v x.imm))))
IncReg_has r true p n m v i x e = by_built _ true p n m v i _ e (inr (inl (same_form _ _ _ _ _ _ _ _ _ _ _ refl refl (no_rep p x.suits.rep) (x.known refl) (no_number v x.imm))))

DecReg_has : (r : Reg) → HasForm (row.DecReg r)
unfolding HasForm
DecReg_has r false p n m v i x e = by_built _ false p n m v i _ e (inr (inl (same_form _ _ _ _ _ _ _ _ _ _ _ refl refl (no_rep p x.suits.rep) (x.known refl) (no_number v x.imm))))
DecReg_has r true p n m v i x e = by_built _ true p n m v i _ e (inr (inl (same_form _ _ _ _ _ _ _ _ _ _ _ refl refl (no_rep p x.suits.rep) (x.known refl) (no_number v x.imm))))

PushReg_has : (r : Reg) → HasForm (row.PushReg r)
unfolding HasForm
PushReg_has r h p n m v i x e = by_built _ h p n m v i _ e (inr (inl (fixed_form _ h p _ _ _ _ _ x.suits.operand_size x.suits.rep (x.known refl) (no_number v x.imm))))

PopReg_has : (r : Reg) → HasForm (row.PopReg r)
unfolding HasForm
PopReg_has r h p n m v i x e = by_built _ h p n m v i _ e (inr (inl (fixed_form _ h p _ _ _ _ _ x.suits.operand_size x.suits.rep (x.known refl) (no_number v x.imm))))

PushWord_has : HasForm row.PushWord
unfolding HasForm
PushWord_has h p n m v i x e = by_built _ h p n m v i _ e (inl (fixed_form _ h p _ _ _ _ _ x.suits.operand_size x.suits.rep (x.known refl) refl))

ImulWord_has : HasForm row.ImulWord
unfolding HasForm
ImulWord_has false p n m v i x e = by_built _ false p n m v i _ e (inl (same_form _ _ _ _ _ _ _ _ _ _ _ refl refl (no_rep p x.suits.rep) (sym (reg_again n x.reg_field)) refl))
ImulWord_has true p n m v i x e = by_built _ true p n m v i _ e (inl (same_form _ _ _ _ _ _ _ _ _ _ _ refl refl (no_rep p x.suits.rep) (sym (reg_again n x.reg_field)) refl))

PushByte_has : HasForm row.PushByte
unfolding HasForm
PushByte_has h p n m v i x e = by_built _ h p n m v i _ e (inr (In-signed Four v (λ b. plain row.PushByte Four b) (form_of row.PushByte h p n m v) x.imm (fixed_form _ h p _ _ _ _ _ x.suits.operand_size x.suits.rep (x.known refl) refl)))

ImulByte_has : HasForm row.ImulByte
unfolding HasForm
ImulByte_has false p n m v i x e = by_built _ false p n m v i _ e (inr (In-signed Four v (λ b. with_rm row.ImulByte Four (number_of_reg (reg_of n)) m b) (form_of row.ImulByte false p n m v) x.imm (same_form _ _ _ _ _ _ _ _ _ _ _ refl refl (no_rep p x.suits.rep) (sym (reg_again n x.reg_field)) refl)))
ImulByte_has true p n m v i x e = by_built _ true p n m v i _ e (inr (In-signed Two v (λ b. with_rm row.ImulByte Two (number_of_reg (reg_of n)) m b) (form_of row.ImulByte true p n m v) x.imm (same_form _ _ _ _ _ _ _ _ _ _ _ refl refl (no_rep p x.suits.rep) (sym (reg_again n x.reg_field)) refl)))

JccShort_has : (c : Cond) → HasForm (row.JccShort c)
unfolding HasForm
JccShort_has c h p n m v i x e = by_built _ h p n m v i _ e (inr (In-signed Four v (λ b. plain (row.JccShort c) Four b) (form_of (row.JccShort c) h p n m v) x.imm (fixed_form _ h p _ _ _ _ _ x.suits.operand_size x.suits.rep (x.known refl) refl)))

AluImm_has : (w : Bool) → HasForm (row.AluImm w)
unfolding HasForm
AluImm_has w h p n m v i x e = by_built _ h p n m v i _ e (inl (sized_form row.AluImm w h p _ _ _ _ _ x.suits.operand_size x.suits.rep (sym (alu_again n x.reg_field)) refl))

AluByte_has : HasForm row.AluByte
unfolding HasForm
AluByte_has false p n m v i x e = by_built _ false p n m v i _ e (inr (In-append_right _ (if_acc m _) _ (In-signed Four v (λ b. with_rm row.AluByte Four (number_of_alu (alu_of n)) m b) (form_of row.AluByte false p n m v) x.imm (same_form _ _ _ _ _ _ _ _ _ _ _ refl refl (no_rep p x.suits.rep) (sym (alu_again n x.reg_field)) refl))))
AluByte_has true p n m v i x e = by_built _ true p n m v i _ e (inr (In-append_right _ (if_acc m _) _ (In-signed Two v (λ b. with_rm row.AluByte Two (number_of_alu (alu_of n)) m b) (form_of row.AluByte true p n m v) x.imm (same_form _ _ _ _ _ _ _ _ _ _ _ refl refl (no_rep p x.suits.rep) (sym (alu_again n x.reg_field)) refl))))

TestRm_has : (w : Bool) → HasForm (row.TestRm w)
unfolding HasForm
TestRm_has w h p n m v i x e = by_built _ h p n m v i _ e (inl (sized_form row.TestRm w h p _ _ _ _ _ x.suits.operand_size x.suits.rep (sym (reg_again n x.reg_field)) (no_number v x.imm)))

Xchg_has : (w : Bool) → HasForm (row.Xchg w)
unfolding HasForm
Xchg_has w h p n m v i x e = by_built _ h p n m v i _ e (inl (sized_form row.Xchg w h p _ _ _ _ _ x.suits.operand_size x.suits.rep (sym (reg_again n x.reg_field)) (no_number v x.imm)))

MovToRm_has : (w : Bool) → HasForm (row.MovToRm w)
unfolding HasForm
MovToRm_has w h p n m v i x e = by_built _ h p n m v i _ e (inl (sized_form row.MovToRm w h p _ _ _ _ _ x.suits.operand_size x.suits.rep (sym (reg_again n x.reg_field)) (no_number v x.imm)))

MovToReg_has : (w : Bool) → HasForm (row.MovToReg w)
unfolding HasForm
MovToReg_has w h p n (rm.Reg q) v i x e = by_built _ h p n (rm.Reg q) v i _ e (inr (inl (sized_form row.MovToReg w h p _ _ _ _ _ x.suits.operand_size x.suits.rep (sym (reg_again n x.reg_field)) (no_number v x.imm))))
MovToReg_has w h p n (rm.Mem a) v i x e = by_built _ h p n (rm.Mem a) v i _ e (inl (sized_form row.MovToReg w h p _ _ _ _ _ x.suits.operand_size x.suits.rep (sym (reg_again n x.reg_field)) (no_number v x.imm)))

Lea_has : HasForm row.Lea
unfolding HasForm
Lea_has h p n (rm.Reg q) v i x e = absurd cc
Lea_has false p n (rm.Mem a) v i x e = by_built _ false p n (rm.Mem a) v i _ e (inl (same_form _ _ _ _ _ _ _ _ _ _ _ refl refl (no_rep p x.suits.rep) (sym (reg_again n x.reg_field)) (no_number v x.imm)))
Lea_has true p n (rm.Mem a) v i x e = by_built _ true p n (rm.Mem a) v i _ e (inl (same_form _ _ _ _ _ _ _ _ _ _ _ refl refl (no_rep p x.suits.rep) (sym (reg_again n x.reg_field)) (no_number v x.imm)))

Pop_has : HasForm row.Pop
unfolding HasForm
Pop_has h p n m v i x e = by_built _ h p n m v i _ e (inl (fixed_form _ h p _ _ _ _ _ x.suits.operand_size x.suits.rep (reg_field_is 0 n x.suits.reg_field) (no_number v x.imm)))

XchgAcc_has : (r : Reg) → HasForm (row.XchgAcc r)
unfolding HasForm
XchgAcc_has reg.Eax h p n m v i x e = absurd (false≢true x.suits.reg_field)
XchgAcc_has reg.Ecx false p n m v i x e = by_built _ false p n m v i _ e (inr (inl (same_form _ _ _ _ _ _ _ _ _ _ _ refl refl (no_rep p x.suits.rep) (x.known refl) (no_number v x.imm))))
XchgAcc_has reg.Ecx true p n m v i x e = by_built _ true p n m v i _ e (inr (inl (same_form _ _ _ _ _ _ _ _ _ _ _ refl refl (no_rep p x.suits.rep) (x.known refl) (no_number v x.imm))))
XchgAcc_has reg.Edx false p n m v i x e = by_built _ false p n m v i _ e (inr (inl (same_form _ _ _ _ _ _ _ _ _ _ _ refl refl (no_rep p x.suits.rep) (x.known refl) (no_number v x.imm))))
XchgAcc_has reg.Edx true p n m v i x e = by_built _ true p n m v i _ e (inr (inl (same_form _ _ _ _ _ _ _ _ _ _ _ refl refl (no_rep p x.suits.rep) (x.known refl) (no_number v x.imm))))
XchgAcc_has reg.Ebx false p n m v i x e = by_built _ false p n m v i _ e (inr (inl (same_form _ _ _ _ _ _ _ _ _ _ _ refl refl (no_rep p x.suits.rep) (x.known refl) (no_number v x.imm))))
XchgAcc_has reg.Ebx true p n m v i x e = by_built _ true p n m v i _ e (inr (inl (same_form _ _ _ _ _ _ _ _ _ _ _ refl refl (no_rep p x.suits.rep) (x.known refl) (no_number v x.imm))))
XchgAcc_has reg.Esp false p n m v i x e = by_built _ false p n m v i _ e (inr (inl (same_form _ _ _ _ _ _ _ _ _ _ _ refl refl (no_rep p x.suits.rep) (x.known refl) (no_number v x.imm))))
XchgAcc_has reg.Esp true p n m v i x e = by_built _ true p n m v i _ e (inr (inl (same_form _ _ _ _ _ _ _ _ _ _ _ refl refl (no_rep p x.suits.rep) (x.known refl) (no_number v x.imm))))
XchgAcc_has reg.Ebp false p n m v i x e = by_built _ false p n m v i _ e (inr (inl (same_form _ _ _ _ _ _ _ _ _ _ _ refl refl (no_rep p x.suits.rep) (x.known refl) (no_number v x.imm))))
XchgAcc_has reg.Ebp true p n m v i x e = by_built _ true p n m v i _ e (inr (inl (same_form _ _ _ _ _ _ _ _ _ _ _ refl refl (no_rep p x.suits.rep) (x.known refl) (no_number v x.imm))))
XchgAcc_has reg.Esi false p n m v i x e = by_built _ false p n m v i _ e (inr (inl (same_form _ _ _ _ _ _ _ _ _ _ _ refl refl (no_rep p x.suits.rep) (x.known refl) (no_number v x.imm))))
XchgAcc_has reg.Esi true p n m v i x e = by_built _ true p n m v i _ e (inr (inl (same_form _ _ _ _ _ _ _ _ _ _ _ refl refl (no_rep p x.suits.rep) (x.known refl) (no_number v x.imm))))
XchgAcc_has reg.Edi false p n m v i x e = by_built _ false p n m v i _ e (inr (inl (same_form _ _ _ _ _ _ _ _ _ _ _ refl refl (no_rep p x.suits.rep) (x.known refl) (no_number v x.imm))))
XchgAcc_has reg.Edi true p n m v i x e = by_built _ true p n m v i _ e (inr (inl (same_form _ _ _ _ _ _ _ _ _ _ _ refl refl (no_rep p x.suits.rep) (x.known refl) (no_number v x.imm))))

Nop_has : HasForm row.Nop
unfolding HasForm
Nop_has h p n m v i x e = by_built _ h p n m v i _ e (inl (fixed_form _ h p _ _ _ _ _ x.suits.operand_size x.suits.rep (x.known refl) (no_number v x.imm)))

Extend_has : HasForm row.Extend
unfolding HasForm
Extend_has false p n m v i x e = by_built _ false p n m v i _ e (inl (same_form _ _ _ _ _ _ _ _ _ _ _ refl refl (no_rep p x.suits.rep) (x.known refl) (no_number v x.imm)))
Extend_has true p n m v i x e = by_built _ true p n m v i _ e (inl (same_form _ _ _ _ _ _ _ _ _ _ _ refl refl (no_rep p x.suits.rep) (x.known refl) (no_number v x.imm)))

Spread_has : HasForm row.Spread
unfolding HasForm
Spread_has false p n m v i x e = by_built _ false p n m v i _ e (inl (same_form _ _ _ _ _ _ _ _ _ _ _ refl refl (no_rep p x.suits.rep) (x.known refl) (no_number v x.imm)))
Spread_has true p n m v i x e = by_built _ true p n m v i _ e (inl (same_form _ _ _ _ _ _ _ _ _ _ _ refl refl (no_rep p x.suits.rep) (x.known refl) (no_number v x.imm)))

MovLoad_has : (w : Bool) → HasForm (row.MovLoad w)
unfolding HasForm
MovLoad_has w h p n m v i x e = by_built _ h p n m v i _ e (inr (inl (sized_form row.MovLoad w h p _ _ _ _ _ x.suits.operand_size x.suits.rep (x.known refl) refl)))

MovStore_has : (w : Bool) → HasForm (row.MovStore w)
unfolding HasForm
MovStore_has w h p n m v i x e = by_built _ h p n m v i _ e (inr (inl (sized_form row.MovStore w h p _ _ _ _ _ x.suits.operand_size x.suits.rep (x.known refl) refl)))

Movs_has : (w : Bool) → HasForm (row.Movs w)
unfolding HasForm
Movs_has w h p n m v i x e = by_built _ h p n m v i _ e (inl (same_form _ _ _ _ _ _ _ _ _ _ _ (ap row.Movs (w_back w h)) (operand_size_back w h x.suits.operand_size) refl (x.known refl) (no_number v x.imm)))

TestAcc_has : (w : Bool) → HasForm (row.TestAcc w)
unfolding HasForm
TestAcc_has w h p n m v i x e = by_built _ h p n m v i _ e (inr (inl (sized_form row.TestAcc w h p _ _ _ _ _ x.suits.operand_size x.suits.rep (x.known refl) refl)))

Stos_has : (w : Bool) → HasForm (row.Stos w)
unfolding HasForm
Stos_has w h p n m v i x e = by_built _ h p n m v i _ e (inl (same_form _ _ _ _ _ _ _ _ _ _ _ (ap row.Stos (w_back w h)) (operand_size_back w h x.suits.operand_size) refl (x.known refl) (no_number v x.imm)))

MovReg_has : (r : Reg) (w : Bool) → HasForm (row.MovReg r w)
unfolding HasForm
MovReg_has r w h p n m v i x e = by_built _ h p n m v i _ e (inr (inl (sized_form (row.MovReg r) w h p _ _ _ _ _ x.suits.operand_size x.suits.rep (x.known refl) refl)))

ShiftImm_has : (op : ShiftOp) (w : Bool) → HasForm (row.ShiftImm op w)
unfolding HasForm
ShiftImm_has op w h p n m v i x e = by_built _ h p n m v i _ e (inl (sized_form (row.ShiftImm op) w h p _ _ _ _ _ x.suits.operand_size x.suits.rep (reg_field_is (number_of_shift op) n x.suits.reg_field) refl))

RetDrop_has : HasForm row.RetDrop
unfolding HasForm
RetDrop_has h p n m zero i x e = by_built _ h p n m zero i _ e (inl (fixed_form _ h p _ _ _ _ _ x.suits.operand_size x.suits.rep (x.known refl) refl))
RetDrop_has h p n m (suc v) i x e = by_built _ h p n m (suc v) i _ e (inl (fixed_form _ h p _ _ _ _ _ x.suits.operand_size x.suits.rep (x.known refl) refl))

Ret_has : HasForm row.Ret
unfolding HasForm
Ret_has h false n m v i x e = by_built _ h false n m v i _ e (inr (inl (same_form _ _ _ _ _ _ _ _ _ _ _ refl (no_operand_size h x.suits.operand_size) refl (x.known refl) (no_number v x.imm))))
Ret_has h true n m v i x e = by_built _ h true n m v i _ e (inr (inr (inl (same_form _ _ _ _ _ _ _ _ _ _ _ refl (no_operand_size h x.suits.operand_size) refl (x.known refl) (no_number v x.imm)))))

MovImm_has : (w : Bool) → HasForm (row.MovImm w)
unfolding HasForm
MovImm_has w h p n m v i x e = by_built _ h p n m v i _ e (inl (sized_form row.MovImm w h p _ _ _ _ _ x.suits.operand_size x.suits.rep (reg_field_is 0 n x.suits.reg_field) refl))

Leave_has : HasForm row.Leave
unfolding HasForm
Leave_has h p n m v i x e = by_built _ h p n m v i _ e (inl (fixed_form _ h p _ _ _ _ _ x.suits.operand_size x.suits.rep (x.known refl) (no_number v x.imm)))

Int80_has : HasForm row.Int80
unfolding HasForm
Int80_has h p n m v i x e =
    let g = chosen (eqb v 0x80) (Some instr.Int80) None (Some i) e in
    elim g [
      | inl t ↦ by_built _ h p n m v i _ t.1 (inl (same_form _ _ _ _ _ _ _ _ _ _ _ refl (no_operand_size h x.suits.operand_size) (no_rep p x.suits.rep) (x.known refl) (eqb-true _ _ t.0)))
      | inr t ↦ absurd (none_some t.1)
    ]

ShiftOne_has : (op : ShiftOp) (w : Bool) → HasForm (row.ShiftOne op w)
unfolding HasForm
ShiftOne_has op w h p n m v i x e = by_built _ h p n m v i _ e (inr (inl (sized_form (row.ShiftOne op) w h p _ _ _ _ _ x.suits.operand_size x.suits.rep (reg_field_is (number_of_shift op) n x.suits.reg_field) (no_number v x.imm))))

ShiftCl_has : (op : ShiftOp) (w : Bool) → HasForm (row.ShiftCl op w)
unfolding HasForm
ShiftCl_has op w h p n m v i x e = by_built _ h p n m v i _ e (inl (sized_form (row.ShiftCl op) w h p _ _ _ _ _ x.suits.operand_size x.suits.rep (reg_field_is (number_of_shift op) n x.suits.reg_field) (no_number v x.imm)))

CallNear_has : HasForm row.CallNear
unfolding HasForm
CallNear_has h p n m v i x e = by_built _ h p n m v i _ e (inl (fixed_form _ h p _ _ _ _ _ x.suits.operand_size x.suits.rep (x.known refl) refl))

JmpNear_has : HasForm row.JmpNear
unfolding HasForm
JmpNear_has h p n m v i x e = by_built _ h p n m v i _ e (inl (fixed_form _ h p _ _ _ _ _ x.suits.operand_size x.suits.rep (x.known refl) refl))

JmpShort_has : HasForm row.JmpShort
unfolding HasForm
JmpShort_has h p n m v i x e = by_built _ h p n m v i _ e (inr (In-signed Four v (λ b. plain row.JmpShort Four b) (form_of row.JmpShort h p n m v) x.imm (fixed_form _ h p _ _ _ _ _ x.suits.operand_size x.suits.rep (x.known refl) refl)))

TestImm_has : (w : Bool) → HasForm (row.TestImm w)
unfolding HasForm
TestImm_has w h p n m v i x e = by_built _ h p n m v i _ e (inl (sized_form row.TestImm w h p _ _ _ _ _ x.suits.operand_size x.suits.rep (reg_field_is 0 n x.suits.reg_field) refl))

Not_has : (w : Bool) → HasForm (row.Not w)
unfolding HasForm
Not_has w h p n m v i x e = by_built _ h p n m v i _ e (inl (sized_form row.Not w h p _ _ _ _ _ x.suits.operand_size x.suits.rep (reg_field_is 2 n x.suits.reg_field) (no_number v x.imm)))

Neg_has : (w : Bool) → HasForm (row.Neg w)
unfolding HasForm
Neg_has w h p n m v i x e = by_built _ h p n m v i _ e (inl (sized_form row.Neg w h p _ _ _ _ _ x.suits.operand_size x.suits.rep (reg_field_is 3 n x.suits.reg_field) (no_number v x.imm)))

Mul_has : (w : Bool) → HasForm (row.Mul w)
unfolding HasForm
Mul_has w h p n m v i x e = by_built _ h p n m v i _ e (inl (sized_form row.Mul w h p _ _ _ _ _ x.suits.operand_size x.suits.rep (reg_field_is 4 n x.suits.reg_field) (no_number v x.imm)))

ImulWide_has : (w : Bool) → HasForm (row.ImulWide w)
unfolding HasForm
ImulWide_has w h p n m v i x e = by_built _ h p n m v i _ e (inl (sized_form row.ImulWide w h p _ _ _ _ _ x.suits.operand_size x.suits.rep (reg_field_is 5 n x.suits.reg_field) (no_number v x.imm)))

Div_has : (w : Bool) → HasForm (row.Div w)
unfolding HasForm
Div_has w h p n m v i x e = by_built _ h p n m v i _ e (inl (sized_form row.Div w h p _ _ _ _ _ x.suits.operand_size x.suits.rep (reg_field_is 6 n x.suits.reg_field) (no_number v x.imm)))

Idiv_has : (w : Bool) → HasForm (row.Idiv w)
unfolding HasForm
Idiv_has w h p n m v i x e = by_built _ h p n m v i _ e (inl (sized_form row.Idiv w h p _ _ _ _ _ x.suits.operand_size x.suits.rep (reg_field_is 7 n x.suits.reg_field) (no_number v x.imm)))

Cld_has : HasForm row.Cld
unfolding HasForm
Cld_has h p n m v i x e = by_built _ h p n m v i _ e (inl (fixed_form _ h p _ _ _ _ _ x.suits.operand_size x.suits.rep (x.known refl) (no_number v x.imm)))

Inc_has : (w : Bool) → HasForm (row.Inc w)
unfolding HasForm
Inc_has w h p n m v i x e = by_built _ h p n m v i _ e (inl (sized_form row.Inc w h p _ _ _ _ _ x.suits.operand_size x.suits.rep (reg_field_is 0 n x.suits.reg_field) (no_number v x.imm)))

Dec_has : (w : Bool) → HasForm (row.Dec w)
unfolding HasForm
Dec_has w h p n m v i x e = by_built _ h p n m v i _ e (inl (sized_form row.Dec w h p _ _ _ _ _ x.suits.operand_size x.suits.rep (reg_field_is 1 n x.suits.reg_field) (no_number v x.imm)))

CallTo_has : HasForm row.CallTo
unfolding HasForm
CallTo_has h p n m v i x e = by_built _ h p n m v i _ e (inl (fixed_form _ h p _ _ _ _ _ x.suits.operand_size x.suits.rep (reg_field_is 2 n x.suits.reg_field) (no_number v x.imm)))

JmpTo_has : HasForm row.JmpTo
unfolding HasForm
JmpTo_has h p n m v i x e = by_built _ h p n m v i _ e (inl (fixed_form _ h p _ _ _ _ _ x.suits.operand_size x.suits.rep (reg_field_is 4 n x.suits.reg_field) (no_number v x.imm)))

Push_has : HasForm row.Push
unfolding HasForm
Push_has h p n (rm.Reg q) v i x e = by_built _ h p n (rm.Reg q) v i _ e (inl (fixed_form _ h p _ _ _ _ _ x.suits.operand_size x.suits.rep (reg_field_is 6 n x.suits.reg_field) (no_number v x.imm)))
Push_has h p n (rm.Mem a) v i x e = by_built _ h p n (rm.Mem a) v i _ e (inl (fixed_form _ h p _ _ _ _ _ x.suits.operand_size x.suits.rep (reg_field_is 6 n x.suits.reg_field) (no_number v x.imm)))

NopEnd_has : HasForm row.NopEnd
unfolding HasForm
NopEnd_has h p n m v i x e =
    let g = chosen (eqb v 0xFB) (Some instr.Nop) None (Some i) e in
    elim g [
      | inl t ↦ by_built _ h p n m v i _ t.1 (inr (inr (inl (same_form _ _ _ _ _ _ _ _ _ _ _ refl (no_operand_size h x.suits.operand_size) x.suits.rep (x.known refl) (eqb-true _ _ t.0)))))
      | inr t ↦ absurd (none_some t.1)
    ]

NopLong_has : HasForm row.NopLong
unfolding HasForm
NopLong_has h p n m v i x e = by_built _ h p n m v i _ e (inr (inl (fixed_form _ h p _ _ _ _ _ x.suits.operand_size x.suits.rep (reg_field_is 0 n x.suits.reg_field) (no_number v x.imm))))

Cmov_has : (c : Cond) → HasForm (row.Cmov c)
unfolding HasForm
Cmov_has c false p n m v i x e = by_built _ false p n m v i _ e (inl (same_form _ _ _ _ _ _ _ _ _ _ _ refl refl (no_rep p x.suits.rep) (sym (reg_again n x.reg_field)) (no_number v x.imm)))
Cmov_has c true p n m v i x e = by_built _ true p n m v i _ e (inl (same_form _ _ _ _ _ _ _ _ _ _ _ refl refl (no_rep p x.suits.rep) (sym (reg_again n x.reg_field)) (no_number v x.imm)))

JccNear_has : (c : Cond) → HasForm (row.JccNear c)
unfolding HasForm
JccNear_has c h p n m v i x e = by_built _ h p n m v i _ e (inl (fixed_form _ h p _ _ _ _ _ x.suits.operand_size x.suits.rep (x.known refl) refl))

Setcc_has : (c : Cond) → HasForm (row.Setcc c)
unfolding HasForm
Setcc_has c h p n m v i x e = by_built _ h p n m v i _ e (inl (fixed_form _ h p _ _ _ _ _ x.suits.operand_size x.suits.rep (reg_field_is 0 n x.suits.reg_field) (no_number v x.imm)))

ShldImm_has : HasForm row.ShldImm
unfolding HasForm
ShldImm_has h p n m v i x e = by_built _ h p n m v i _ e (inl (fixed_form _ h p _ _ _ _ _ x.suits.operand_size x.suits.rep (sym (reg_again n x.reg_field)) refl))

ShldCl_has : HasForm row.ShldCl
unfolding HasForm
ShldCl_has h p n m v i x e = by_built _ h p n m v i _ e (inl (fixed_form _ h p _ _ _ _ _ x.suits.operand_size x.suits.rep (sym (reg_again n x.reg_field)) (no_number v x.imm)))

ShrdImm_has : HasForm row.ShrdImm
unfolding HasForm
ShrdImm_has h p n m v i x e = by_built _ h p n m v i _ e (inl (fixed_form _ h p _ _ _ _ _ x.suits.operand_size x.suits.rep (sym (reg_again n x.reg_field)) refl))

ShrdCl_has : HasForm row.ShrdCl
unfolding HasForm
ShrdCl_has h p n m v i x e = by_built _ h p n m v i _ e (inl (fixed_form _ h p _ _ _ _ _ x.suits.operand_size x.suits.rep (sym (reg_again n x.reg_field)) (no_number v x.imm)))

Imul_has : HasForm row.Imul
unfolding HasForm
Imul_has false p n m v i x e = by_built _ false p n m v i _ e (inl (same_form _ _ _ _ _ _ _ _ _ _ _ refl refl (no_rep p x.suits.rep) (sym (reg_again n x.reg_field)) (no_number v x.imm)))
Imul_has true p n m v i x e = by_built _ true p n m v i _ e (inl (same_form _ _ _ _ _ _ _ _ _ _ _ refl refl (no_rep p x.suits.rep) (sym (reg_again n x.reg_field)) (no_number v x.imm)))

MovzxByte_has : HasForm row.MovzxByte
unfolding HasForm
MovzxByte_has false p n m v i x e = by_built _ false p n m v i _ e (inl (same_form _ _ _ _ _ _ _ _ _ _ _ refl refl (no_rep p x.suits.rep) (sym (reg_again n x.reg_field)) (no_number v x.imm)))
MovzxByte_has true p n m v i x e = by_built _ true p n m v i _ e (inl (same_form _ _ _ _ _ _ _ _ _ _ _ refl refl (no_rep p x.suits.rep) (sym (reg_again n x.reg_field)) (no_number v x.imm)))

MovzxWord_has : HasForm row.MovzxWord
unfolding HasForm
MovzxWord_has h p n m v i x e = by_built _ h p n m v i _ e (inl (fixed_form _ h p _ _ _ _ _ x.suits.operand_size x.suits.rep (sym (reg_again n x.reg_field)) (no_number v x.imm)))

Bsf_has : HasForm row.Bsf
unfolding HasForm
Bsf_has false p n m v i x e = by_built _ false p n m v i _ e (inl (same_form _ _ _ _ _ _ _ _ _ _ _ refl refl (no_rep p x.suits.rep) (sym (reg_again n x.reg_field)) (no_number v x.imm)))
Bsf_has true p n m v i x e = by_built _ true p n m v i _ e (inl (same_form _ _ _ _ _ _ _ _ _ _ _ refl refl (no_rep p x.suits.rep) (sym (reg_again n x.reg_field)) (no_number v x.imm)))

Bsr_has : HasForm row.Bsr
unfolding HasForm
Bsr_has false p n m v i x e = by_built _ false p n m v i _ e (inl (same_form _ _ _ _ _ _ _ _ _ _ _ refl refl (no_rep p x.suits.rep) (sym (reg_again n x.reg_field)) (no_number v x.imm)))
Bsr_has true p n m v i x e = by_built _ true p n m v i _ e (inl (same_form _ _ _ _ _ _ _ _ _ _ _ refl refl (no_rep p x.suits.rep) (sym (reg_again n x.reg_field)) (no_number v x.imm)))

MovsxByte_has : HasForm row.MovsxByte
unfolding HasForm
MovsxByte_has false p n m v i x e = by_built _ false p n m v i _ e (inl (same_form _ _ _ _ _ _ _ _ _ _ _ refl refl (no_rep p x.suits.rep) (sym (reg_again n x.reg_field)) (no_number v x.imm)))
MovsxByte_has true p n m v i x e = by_built _ true p n m v i _ e (inl (same_form _ _ _ _ _ _ _ _ _ _ _ refl refl (no_rep p x.suits.rep) (sym (reg_again n x.reg_field)) (no_number v x.imm)))

MovsxWord_has : HasForm row.MovsxWord
unfolding HasForm
MovsxWord_has h p n m v i x e = by_built _ h p n m v i _ e (inl (fixed_form _ h p _ _ _ _ _ x.suits.operand_size x.suits.rep (sym (reg_again n x.reg_field)) (no_number v x.imm)))

BswapReg_has : (r : Reg) → HasForm (row.BswapReg r)
unfolding HasForm
BswapReg_has r h p n m v i x e = by_built _ h p n m v i _ e (inl (fixed_form _ h p _ _ _ _ _ x.suits.operand_size x.suits.rep (x.known refl) (no_number v x.imm)))

pub has_form : (r : Row) → HasForm r
has_form (row.AluToRm op w) = AluToRm_has op w
has_form (row.AluToReg op w) = AluToReg_has op w
has_form (row.AluAcc op w) = AluAcc_has op w
has_form (row.IncReg r) = IncReg_has r
has_form (row.DecReg r) = DecReg_has r
has_form (row.PushReg r) = PushReg_has r
has_form (row.PopReg r) = PopReg_has r
has_form row.PushWord = PushWord_has
has_form row.ImulWord = ImulWord_has
has_form row.PushByte = PushByte_has
has_form row.ImulByte = ImulByte_has
has_form (row.JccShort c) = JccShort_has c
has_form (row.AluImm w) = AluImm_has w
has_form row.AluByte = AluByte_has
has_form (row.TestRm w) = TestRm_has w
has_form (row.Xchg w) = Xchg_has w
has_form (row.MovToRm w) = MovToRm_has w
has_form (row.MovToReg w) = MovToReg_has w
has_form row.Lea = Lea_has
has_form row.Pop = Pop_has
has_form (row.XchgAcc r) = XchgAcc_has r
has_form row.Nop = Nop_has
has_form row.Extend = Extend_has
has_form row.Spread = Spread_has
has_form (row.MovLoad w) = MovLoad_has w
has_form (row.MovStore w) = MovStore_has w
has_form (row.Movs w) = Movs_has w
has_form (row.TestAcc w) = TestAcc_has w
has_form (row.Stos w) = Stos_has w
has_form (row.MovReg r w) = MovReg_has r w
has_form (row.ShiftImm op w) = ShiftImm_has op w
has_form row.RetDrop = RetDrop_has
has_form row.Ret = Ret_has
has_form (row.MovImm w) = MovImm_has w
has_form row.Leave = Leave_has
has_form row.Int80 = Int80_has
has_form (row.ShiftOne op w) = ShiftOne_has op w
has_form (row.ShiftCl op w) = ShiftCl_has op w
has_form row.CallNear = CallNear_has
has_form row.JmpNear = JmpNear_has
has_form row.JmpShort = JmpShort_has
has_form (row.TestImm w) = TestImm_has w
has_form (row.Not w) = Not_has w
has_form (row.Neg w) = Neg_has w
has_form (row.Mul w) = Mul_has w
has_form (row.ImulWide w) = ImulWide_has w
has_form (row.Div w) = Div_has w
has_form (row.Idiv w) = Idiv_has w
has_form row.Cld = Cld_has
has_form (row.Inc w) = Inc_has w
has_form (row.Dec w) = Dec_has w
has_form row.CallTo = CallTo_has
has_form row.JmpTo = JmpTo_has
has_form row.Push = Push_has
has_form row.NopEnd = NopEnd_has
has_form row.NopLong = NopLong_has
has_form (row.Cmov c) = Cmov_has c
has_form (row.JccNear c) = JccNear_has c
has_form (row.Setcc c) = Setcc_has c
has_form row.ShldImm = ShldImm_has
has_form row.ShldCl = ShldCl_has
has_form row.ShrdImm = ShrdImm_has
has_form row.ShrdCl = ShrdCl_has
has_form row.Imul = Imul_has
has_form row.MovzxByte = MovzxByte_has
has_form row.MovzxWord = MovzxWord_has
has_form row.Bsf = Bsf_has
has_form row.Bsr = Bsr_has
has_form row.MovsxByte = MovsxByte_has
has_form row.MovsxWord = MovsxWord_has
has_form (row.BswapReg r) = BswapReg_has r

-- ---- the end of the rows

pub in_forms : (r : Row) (h p : Bool) (n : ℕ) (m : Rm) (v : ℕ) (i : Instr) → Parts r h p n v → build r h p n m v ≡ Some i → In (form_of r h p n m v) (forms i)
unfolding HasForm
in_forms r h p n m v i x e = has_form r h p n m v i x e
