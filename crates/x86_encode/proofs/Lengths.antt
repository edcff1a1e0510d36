-- How long the best spellings of moves and of wide jumps are.
use Rattle.std.proofs.Common.{◌≡◌, ℕ, ◌≤◌, List, ◌∷◌, ◌++◌, length, refl, inl, Some, [], true, false, arith, length-append}
use Rattle.x86_types.specs.declared.instr.Instr.TheVariants as instr
use Rattle.x86_types.specs.declared.operand.Reg.{Reg}
use Rattle.x86_types.specs.declared.operand.Reg.TheVariants as reg
use Rattle.x86_types.specs.declared.operand.Address.{Address}
use Rattle.x86_types.specs.declared.operand.Rm.TheVariants as rm
use Rattle.x86_types.specs.declared.operand.Src.TheVariants as src
use Rattle.x86_types.specs.declared.operation.Cond.{Cond}
use Rattle.x86_types.specs.declared.operation.Cond.TheVariants as cond
use Rattle.x86_types.specs.declared.width.Width.TheVariants.{Four}
use Rattle.x86_types.specs.Numbers.{number_of_reg}
use Rattle.x86_grammar.specs.declared.row.Form.{Form}
use Rattle.x86_grammar.specs.declared.row.Row.TheVariants as row
use Rattle.x86_grammar.specs.Forms.{In, forms}
use Rattle.x86_grammar.specs.Parts.{with_rm}
use Rattle.x86_encode.specs.BestForm.{best_part, form_best}
use Rattle.x86_encode.specs.Choice.{best_at, best, best_wide, no_text, picks}
use Rattle.x86_encode.specs.Laws.{BestLengths}
use Rattle.x86_encode.proofs.Ordering.{no_longer, picks_least}
use Rattle.x86_encode.proofs.Short.{part_short}

constant : (to : Reg) (value : ℕ) → length (best (instr.Mov Four (rm.Reg to) (src.Imm value))) ≡ 5
unfolding best_at
constant to value = elim to as (λ r. length (best_at false (instr.Mov Four (rm.Reg r) (src.Imm value))) ≡ 5) [ reg.Eax ↦ refl | _ ↦ refl ]

copy : (to from : Reg) → length (best (instr.Mov Four (rm.Reg to) (src.Reg from))) ≡ 2
unfolding best_at
copy to from = elim from as (λ r. length (best_at false (instr.Mov Four (rm.Reg to) (src.Reg r))) ≡ 2) [ reg.Eax ↦ refl | _ ↦ refl ]

-- what is picked is no longer than an opcode of one byte with an address
move_short : (fs : List Form) (f : Form) (opcode : ℕ) (a : Address) (n : ℕ) → In f fs → form_best f ≡ opcode ∷ (best_part true (Some (rm.Mem a)) n ++ []) → length (picks no_text fs) ≤ 7
move_short fs f opcode a n among is =
    let l = no_longer _ _ (picks_least no_text f fs among) in
    let part = best_part true (Some (rm.Mem a)) n in
    let whole : length (form_best f) ≡ length (opcode ∷ (part ++ [])) = rw is refl in
    omega (arith, l, whole, length-append part [], part_short true (Some (rm.Mem a)) n)

load : (to : Reg) (from : Address) → length (best (instr.Mov Four (rm.Reg to) (src.Mem from))) ≤ 7
unfolding best_at
load to from = move_short (forms (instr.Mov Four (rm.Reg to) (src.Mem from))) (with_rm (row.MovToReg true) Four (number_of_reg to) (rm.Mem from) 0) 0x8B from (number_of_reg to) (inl refl) refl

store : (to : Address) (from : Reg) → length (best (instr.Mov Four (rm.Mem to) (src.Reg from))) ≤ 7
unfolding best_at
store to from = move_short (forms (instr.Mov Four (rm.Mem to) (src.Reg from))) (with_rm (row.MovToRm true) Four (number_of_reg from) (rm.Mem to) 0) 0x89 to (number_of_reg from) (inl refl) refl

jmp : (by : ℕ) → length (best_wide (instr.Jmp by)) ≡ 5
unfolding best_at
jmp by = refl

jcc : (cond : Cond) (by : ℕ) → length (best_wide (instr.Jcc cond by)) ≡ 6
unfolding best_at
jcc c by = elim c as (λ c. length (best_at true (instr.Jcc c by)) ≡ 6) [ cond.O ↦ refl | _ ↦ refl ]

pub best_lengths_hold : BestLengths
best_lengths_hold = record { constant = constant; copy = copy; load = load; store = store; jmp = jmp; jcc = jcc }
