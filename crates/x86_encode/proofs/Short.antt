-- No best spelling of a form is longer than eleven bytes.
use Rattle.std.proofs.Common.{◌≡◌, ℕ, ◌+◌, ◌-◌, ◌%◌, ◌≤◌, Bool, true, false, cond, not, ltb, eqb, ◌||◌, [], ◌∷◌, ◌++◌, length, Option, Some, None, inl, inr, ◌⊎◌, lit≤, arith, length-append}
use Rattle.std.proofs.lemmas.Bool.{cond_both, false≢true}
use Rattle.x86_types.specs.Numbers.{size_of, number_of_reg}
use Rattle.x86_types.specs.declared.operand.Reg.{Reg}
use Rattle.x86_types.specs.declared.operand.Rm.{Rm}
use Rattle.x86_types.specs.declared.operand.Rm.TheVariants as rm
use Rattle.x86_types.specs.declared.width.Width.TheVariants.{Four}
use Rattle.x86_grammar.specs.declared.row.Form.{Form}
use Rattle.x86_grammar.specs.declared.row.Row.{Row}
use Rattle.x86_grammar.specs.declared.row.Row.TheVariants as row
use Rattle.x86_grammar.specs.Rows.{opcode_of, has_operand}
use Rattle.x86_grammar.specs.Attributes.{has_operand_size, imm_size, rep_fits, width_of}
use Rattle.x86_grammar.specs.FormLaws.{FormSuits}
use Rattle.byte_lists.specs.LittleEndian.{le}
use Rattle.x86_grammar.specs.Operand.{sibs}
use Rattle.x86_grammar.specs.Parts.{signed}
use Rattle.x86_grammar.specs.Spells.{opcode_bytes}
use Rattle.x86_encode.specs.BestOperand.{best_size, best_sib, class_of, raw, wants_sib}
use Rattle.x86_encode.specs.BestForm.{best_prefixes, best_part, form_best}
use Rattle.x86_encode.proofs.OperandTest.{length-le}

prefixes_short : (h p : Bool) → length (best_prefixes h p) ≤ 2
prefixes_short true true = lit≤ tt
prefixes_short true false = lit≤ tt
prefixes_short false true = lit≤ tt
prefixes_short false false = lit≤ tt

opcode_short : (k : ℕ) → length (opcode_bytes k) ≤ 2
opcode_short k = cond_both (ltb k 256) (k ∷ []) (15 ∷ (k - 256) ∷ []) (λ x. length x ≤ 2) (λ e. lit≤ tt) (λ e. lit≤ tt)

sibs_short : (b : Bool) (s : ℕ) → length (sibs b s) ≤ 1
sibs_short true s = lit≤ tt
sibs_short false s = lit≤ tt

class_size : (b : Option Reg) (d : ℕ) → best_size b (class_of d) ≤ 4
class_size None d = lit≤ tt
class_size (Some r) d =
    cond_both (eqb d 0) 0 (cond (eqb (signed Four (d % 256)) d) 1 2) (λ c. best_size (Some r) c ≤ 4)
    (λ e. cond_both (eqb (number_of_reg r) 5) 1 0 (λ s. s ≤ 4) (λ f. lit≤ tt) (λ f. lit≤ tt))
    (λ e. cond_both (eqb (signed Four (d % 256)) d) 1 2 (λ c. best_size (Some r) c ≤ 4) (λ f. lit≤ tt) (λ f. lit≤ tt))

pub part_short : (b : Bool) (o : Option Rm) (n : ℕ) → length (best_part b o n) ≤ 6
part_short false o n = lit≤ tt
part_short true None n = lit≤ tt
part_short true (Some (rm.Reg r)) n = lit≤ tt
part_short true (Some (rm.Mem a)) n =
    let s = sibs_short (wants_sib a.base a.index) (best_sib a.base a.index a.scale) in
    let k = class_size a.base a.disp in
    let size = best_size a.base (class_of a.disp) in
    omega (arith, length-append (sibs (wants_sib a.base a.index) (best_sib a.base a.index a.scale)) (le size (raw size a.disp)), length-le size (raw size a.disp))

-- the most bytes of an operand
abbrev operand_length : Bool → ℕ
operand_length true = 6
operand_length false = 0

operand_short : (b : Bool) (o : Option Rm) (n : ℕ) → length (best_part b o n) ≤ operand_length b
operand_short true o n = part_short true o n
operand_short false o n = lit≤ tt

-- an opcode of one byte, and a number of the operand's width
heavy : (f h p : Bool) → (not h || f) ≡ true → not p ≡ true → length (best_prefixes h p) + (1 + size_of (width_of f h)) ≤ 5
heavy f h true a b = absurd (false≢true b)
heavy false true false a b = absurd (false≢true a)
heavy true true false a b = lit≤ tt
heavy true false false a b = lit≤ tt
heavy false false false a b = lit≤ tt

-- a number of the operand's width alone
number_short : (f h : Bool) → 0 + size_of (width_of f h) ≤ 7
number_short false h = lit≤ tt
number_short true true = lit≤ tt
number_short true false = lit≤ tt

-- what stands beside the operand
abbrev all_but : Row → Bool → Bool → ℕ
all_but r h p = length (best_prefixes h p) + (length (opcode_bytes (opcode_of r)) + imm_size r h)

-- the number has at most a byte beside an operand, or the opcode is one byte and no prefix stands beside four
row_short : (r : Row) (h p : Bool) → (not h || has_operand_size r) ≡ true → rep_fits r p ≡ true → (operand_length (has_operand r) + imm_size r h ≤ 7) ⊎ (all_but r h p ≤ 5)
row_short (row.AluAcc op f) h p a b = inl (number_short f h)
row_short (row.MovReg r f) h p a b = inl (number_short f h)
row_short (row.TestAcc f) h p a b = inl (number_short f h)
row_short (row.AluImm true) h p a b = inr (heavy true h p a b)
row_short (row.AluImm false) h p a b = inr (heavy false h p a b)
row_short (row.TestImm true) h p a b = inr (heavy true h p a b)
row_short (row.TestImm false) h p a b = inr (heavy false h p a b)
row_short (row.MovImm true) h p a b = inr (heavy true h p a b)
row_short (row.MovImm false) h p a b = inr (heavy false h p a b)
row_short row.ImulWord h p a b = inr (heavy true h p a b)
row_short _ h p a b = inl (lit≤ tt)

pub suited_short : (f : Form) → FormSuits f → length (form_best f) ≤ 11
suited_short f s =
    let part = best_part (has_operand f.row) f.rm f.reg_field in
    let tail = le (imm_size f.row f.operand_size) f.imm in
    let l1 = prefixes_short f.operand_size f.rep in
    let l2 = opcode_short (opcode_of f.row) in
    let l3 = operand_short (has_operand f.row) f.rm f.reg_field in
    let l4 = part_short (has_operand f.row) f.rm f.reg_field in
    let e1 = length-append (best_prefixes f.operand_size f.rep) (opcode_bytes (opcode_of f.row) ++ (part ++ tail)) in
    let e2 = length-append (opcode_bytes (opcode_of f.row)) (part ++ tail) in
    let e3 = length-append part tail in
    let e4 = length-le (imm_size f.row f.operand_size) f.imm in
    elim (row_short f.row f.operand_size f.rep s.operand_size s.rep) [
      | inl few ↦ omega (arith, few, e1, e2, e3, e4, l1, l2, l3)
      | inr few ↦ omega (arith, few, e1, e2, e3, e4, l4)
    ]
