-- The best of an instruction's forms, picked one by one; and so the best spelling as it is computed.
use Rattle.std.specs.Prelude.{ℕ, Bool, true, false, ◌&&◌, ◌||◌, nat_lt, ◌==◌, if◌then◌else◌, List, [], ◌∷◌, length, replicate}
use Rattle.x86_types.specs.declared.instr.Instr.{Instr}
use Rattle.x86_types.specs.declared.instr.Instr.TheVariants as instr
use Rattle.x86_types.specs.declared.width.Width.TheVariants.{Four}
use Rattle.x86_grammar.specs.declared.row.Form.{Form}
use Rattle.x86_grammar.specs.declared.row.Row.TheVariants as row
use Rattle.x86_grammar.specs.Forms.{forms}
use Rattle.x86_grammar.specs.Parts.{plain, if_signed}
use Rattle.x86_encode.specs.BestForm.{form_best}

-- whether a list has the less byte where the two first differ: the test of BeforeByBytes
abbrev pub comes_before_by_bytes : List ℕ → List ℕ → Bool
comes_before_by_bytes [] b = false
comes_before_by_bytes (x ∷ a) [] = false
comes_before_by_bytes (x ∷ a) (y ∷ b) = nat_lt x y || (x == y && comes_before_by_bytes a b)

-- whether a list is shorter, or as long and before the other by bytes: the test of Before
abbrev pub comes_before : List ℕ → List ℕ → Bool
comes_before a b = nat_lt (length a) (length b) || (length a == length b && comes_before_by_bytes a b)

-- the one that comes first
abbrev pub lesser : List ℕ → List ℕ → List ℕ
lesser a b = if comes_before b a then b else a

-- the first of a list and a form's best spelling
abbrev pub pick : List ℕ → Form → List ℕ
pick a f = lesser a (form_best f)

-- the first of a list and all the forms' best spellings
abbrev pub picks : List ℕ → List Form → List ℕ
picks a [] = a
picks a (f ∷ fs) = picks (pick a f) fs

-- sixteen bytes, longer than each spelling
abbrev pub no_text : List ℕ
no_text = replicate 16 0

-- no forms where it is true
abbrev pub forms_unless : Bool → List Form → List Form
forms_unless true fs = []
forms_unless false fs = fs

-- the instruction's forms, without the short jumps where it is true
abbrev pub forms_at : Bool → Instr → List Form
forms_at wide (instr.Jmp by) = plain row.JmpNear Four by ∷ forms_unless wide (if_signed Four by (λ b. plain row.JmpShort Four b))
forms_at wide (instr.Jcc c by) = plain (row.JccNear c) Four by ∷ forms_unless wide (if_signed Four by (λ b. plain (row.JccShort c) Four b))
forms_at wide i = forms i

-- the least of what the forms offer, without the short jumps where it is true
unfoldable pub best_at : Bool → Instr → List ℕ
best_at wide i = picks no_text (forms_at wide i)

-- The bytes of an instruction's best spelling, and of its best one without short jumps. Where the instruction has no
-- spelling they say nothing.
abbrev pub best : Instr → List ℕ
best i = best_at false i

abbrev pub best_wide : Instr → List ℕ
best_wide i = best_at true i
