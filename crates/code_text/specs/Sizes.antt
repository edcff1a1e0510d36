-- What holds of the sizes of instructions. All of this is own.
use Rattle.std.specs.Prelude.{◌≡◌, ℕ, ◌<◌, ◌≤◌, List, length, All}
use Rattle.x86_types.specs.declared.operand.Rm.{Rm}
use Rattle.x86_types.specs.declared.instr.Instr.{Instr}
use Rattle.x86_types.specs.declared.instr.Instr.TheVariants as instr
use Rattle.x86_grammar.specs.Fields.{HasSpelling}
use Rattle.x86_encode.specs.Choice.{best}
use Rattle.named_code.specs.Items.{Item}
use Rattle.laid_code.specs.Laid.{Places}
use Rattle.code_text.specs.KeptPlaces.{table_start, sized}
use Rattle.code_text.specs.Placing.{instr_size, most_bytes}
use Rattle.code_text.specs.Texts.{before_test, instr_text, jump_text, stores_text}

-- an instruction that is no jump but a call or a return
abbrev pub IsPlain : Instr → Type 0
IsPlain (instr.Jmp n) = ⊥
IsPlain (instr.Jcc c n) = ⊥
IsPlain (instr.JmpTo to) = ⊥
IsPlain i = Unit {0}

abbrev pub AreItemsSpelled : List Item → Type 0
AreItemsSpelled items = All (λ (x : Item). HasSpelling x.instr) items

pub record HasFields (l : Places) : Type 0 where
  pub span : l.span < 4294967296
  pub count : l.count < 4294967296
  pub table : l.table ≡ table_start

pub record SizeLaws : Type 0 where
  -- the size of an instruction's text hangs on the span and the table alone
  pub texts : (l : Places) (q : ℕ) (i : Instr) → length (instr_text l q i) ≡ instr_size l i
  pub same : (l : Places) (i : Instr) → l.table ≡ table_start → instr_size l i ≡ instr_size (sized l.span l.count) i
  -- and is at most this
  pub most : (l : Places) (i : Instr) → HasFields l → HasSpelling i → instr_size l i ≤ most_bytes i
  pub before : (l : Places) (to : Rm) → HasFields l → HasSpelling (instr.JmpTo to) → length (before_test l to) ≤ 33
  -- the beginning up to its jump, and the jump
  pub stores : (cell : ℕ) → cell < 4294967296 → length (stores_text cell) ≤ 33
  pub jump : (to q : ℕ) → length (jump_text instr.Jmp 5 to q) ≡ 5
  -- other instructions than jumps have their best spellings
  pub plain_text : (l : Places) (q : ℕ) (i : Instr) → IsPlain i → instr_text l q i ≡ best i
  pub plain_size : (l : Places) (i : Instr) → IsPlain i → instr_size l i ≡ length (best i)
