-- The best spelling of an instruction is no longer than that of any of its forms.
use Rattle.std.proofs.Common.{◌≡◌, ℕ, zero, suc, ◌≤◌, ◌+◌, ◌/◌, true, false, ltb, eqb, ◌&&◌, List, [], ◌∷◌, ◌++◌, length, refl, sym, ◌∙◌, subst, inl, inr, arith, length-append}
use Rattle.std.proofs.lemmas.Bool.{cases_lt, cond_both, lt-ltb, ltb-true, eqb-true, false≢true, and_parts, or_cases}
use Rattle.byte_lists.specs.LittleEndian.{le}
use Rattle.x86_types.specs.declared.instr.Instr.{Instr}
use Rattle.x86_grammar.specs.declared.row.Form.{Form}
use Rattle.x86_grammar.specs.Rows.{opcode_of, has_operand}
use Rattle.x86_grammar.specs.Attributes.{imm_size}
use Rattle.x86_grammar.specs.Spells.{opcode_bytes}
use Rattle.x86_grammar.specs.Forms.{In}
use Rattle.x86_encode.specs.BestForm.{best_prefixes, best_part, form_best}
use Rattle.x86_encode.specs.Choice.{comes_before_by_bytes, comes_before, lesser, picks, no_text, forms_at, best_at, best_wide}

-- ---- the least of several is no longer than each of them
before_no_longer : (a b : List ℕ) → comes_before a b ≡ true → length a ≤ length b
before_no_longer a b h =
    elim (or_cases (ltb (length a) (length b)) (eqb (length a) (length b) && comes_before_by_bytes a b) h) [
      | inl l ↦ let g = ltb-true _ _ l in omega (arith, g)
      | inr r ↦ let g = eqb-true _ _ (and_parts (eqb (length a) (length b)) (comes_before_by_bytes a b) r).0 in omega (arith, g)
    ]

not_before_no_shorter : (a b : List ℕ) → comes_before a b ≡ false → length b ≤ length a
not_before_no_shorter a b h =
    elim (cases_lt (length a) (length b)) [
      | inl l ↦ absurd (false≢true (sym h ∙ rw (lt-ltb _ _ l) refl))
      | inr g ↦ g
    ]

lesser_no_longer : (a b : List ℕ) → (length (lesser a b) ≤ length a) × (length (lesser a b) ≤ length b)
lesser_no_longer a b = cond_both (comes_before b a) b a (λ x. (length x ≤ length a) × (length x ≤ length b)) (λ e. (before_no_longer b a e, omega arith)) (λ e. (omega arith, not_before_no_shorter b a e))

picks_no_longer : (a : List ℕ) (fs : List Form) → length (picks a fs) ≤ length a
picks_no_longer a [] = omega arith
picks_no_longer a (f ∷ fs) = let l = picks_no_longer (lesser a (form_best f)) fs in let g = (lesser_no_longer a (form_best f)).0 in omega (arith, l, g)

picks_within : (a : List ℕ) (f : Form) (fs : List Form) → In f fs → length (picks a fs) ≤ length (form_best f)
picks_within a f [] h = absurd h
picks_within a f (g ∷ fs) (inl h) =
    let l = picks_no_longer (lesser a (form_best g)) fs in let k = (lesser_no_longer a (form_best g)).1 in
    subst (λ (x : Form). length (picks a (g ∷ fs)) ≤ length (form_best x)) (sym h) (omega (arith, l, k))
picks_within a f (g ∷ fs) (inr h) = picks_within (lesser a (form_best g)) f fs h

-- ---- an instruction by one of its forms
by_form : (i : Instr) (f : Form) (n : ℕ) → In f (forms_at true i) → length (form_best f) ≤ n → length (best_wide i) ≤ n
unfolding best_at
by_form i f n among l = let g = picks_within no_text f (forms_at true i) among in omega (arith, g, l)

pub any : (i : Instr) → length (best_wide i) ≤ 16
unfolding best_at
any i = let g : length (picks no_text (forms_at true i)) ≤ 16 = picks_no_longer no_text (forms_at true i) in g

-- ---- the parts of a form
pub le_length : (n v : ℕ) → length (le n v) ≡ n
le_length zero v = refl
le_length (suc n) v = let e : length (le n (v / 256)) ≡ n = le_length n (v / 256) in omega (arith, e)

parts_length : (f : Form) (m : ℕ) → length (best_part (has_operand f.row) f.rm f.reg_field) ≤ m → length (form_best f) ≤ length (best_prefixes f.operand_size f.rep) + (length (opcode_bytes (opcode_of f.row)) + (m + imm_size f.row f.operand_size))
parts_length f m l =
    let prefixes = best_prefixes f.operand_size f.rep in
    let opcode = opcode_bytes (opcode_of f.row) in
    let operand = best_part (has_operand f.row) f.rm f.reg_field in
    let number = le (imm_size f.row f.operand_size) f.imm in
    let e1 = length-append prefixes (opcode ++ (operand ++ number)) in
    let e2 = length-append opcode (operand ++ number) in
    let e3 = length-append operand number in
    let e4 : length number ≡ imm_size f.row f.operand_size = le_length (imm_size f.row f.operand_size) f.imm in
    omega (arith, l, e1, e2, e3, e4)

pub by_parts : (i : Instr) (f : Form) (m n : ℕ) → In f (forms_at true i) → length (best_part (has_operand f.row) f.rm f.reg_field) ≤ m
    → length (best_prefixes f.operand_size f.rep) + (length (opcode_bytes (opcode_of f.row)) + (m + imm_size f.row f.operand_size)) ≤ n → length (best_wide i) ≤ n
by_parts i f m n among l k = let g = parts_length f m l in by_form i f n among (omega (arith, g, k))
