-- The bytes of laid code: the best spelling of each instruction, jumps with displacements of four bytes, and 0F 0B behind each block. All of
-- this is own.
use Rattle.std.specs.Prelude.{ℕ, ◌+◌, ◌-◌, ◌%◌, List, [], ◌∷◌, ◌++◌, length}
use Rattle.x86_types.specs.declared.operand.Reg.TheVariants.{Esp}
use Rattle.x86_types.specs.declared.operand.Rm.{Rm}
use Rattle.x86_types.specs.declared.operand.Rm.TheVariants as rm
use Rattle.x86_types.specs.declared.operand.Src.TheVariants as src
use Rattle.x86_types.specs.declared.operation.AluOp.TheVariants as alu
use Rattle.x86_types.specs.declared.operation.Cond.TheVariants as condition
use Rattle.x86_types.specs.declared.width.Width.TheVariants.{Four}
use Rattle.x86_types.specs.declared.instr.Instr.{Instr}
use Rattle.x86_types.specs.declared.instr.Instr.TheVariants as instr
use Rattle.x86_encode.specs.Choice.{best, best_wide}
use Rattle.named_code.specs.Items.{Item, CodeBlock}
use Rattle.laid_code.specs.Laid.{Places, eax, as_source, table_word, place_of_old}
use Rattle.laid_code.specs.Beginning.{esp_to}

-- 0F 0B (UD2) spells none of the instructions
abbrev pub stop : List ℕ
stop = 15 ∷ 11 ∷ []

-- how far an address lies from another, modulo 2^32
abbrev pub distance : ℕ → ℕ → ℕ
distance to from = (4294967296 + to - from) % 4294967296

-- a jump of so many bytes at a place, to another place
abbrev pub jump_text : (ℕ → Instr) → ℕ → ℕ → ℕ → List ℕ
jump_text jump len to q = best_wide (jump (distance to (q + len)))

-- ---- a jump to an old address: before the test, the test, and behind it
abbrev pub before_test : Places → Rm → List ℕ
before_test l to = best (instr.Mov Four eax (as_source to)) ++ (best (instr.Alu alu.Sub Four eax (src.Imm l.span)) ++ best (instr.Alu alu.Cmp Four eax (src.Imm l.count)))

abbrev pub behind_test : Places → List ℕ
behind_test l = best (instr.Mov Four eax (src.Mem (table_word l))) ++ best (instr.JmpTo eax)

abbrev pub table_text : Places → ℕ → Rm → List ℕ
table_text l q to = before_test l to ++ (jump_text (instr.Jcc condition.Ae) 6 l.stop (q + length (before_test l to)) ++ behind_test l)

-- ---- an instruction at a place
unfoldable pub instr_text : Places → ℕ → Instr → List ℕ
instr_text l q (instr.Jmp n) = jump_text instr.Jmp 5 (l.by_number n) q
instr_text l q (instr.Jcc c n) = jump_text (instr.Jcc c) 6 (l.by_number n) q
instr_text l q (instr.JmpTo to) = table_text l q to
instr_text l q i = best i

-- items one behind the other, and the stop behind the last
unfoldable pub items_text : Places → ℕ → List Item → List ℕ
items_text l q [] = stop
items_text l q (x ∷ xs) = instr_text l q x.instr ++ items_text l (q + length (instr_text l q x.instr)) xs

-- blocks one behind the other
unfoldable pub blocks_text : Places → ℕ → List CodeBlock → List ℕ
blocks_text l q [] = []
blocks_text l q (b ∷ bs) = items_text l q b.items ++ blocks_text l (q + length (items_text l q b.items)) bs

-- ---- the beginning, which stores esp in the first cell and in another one, makes it 0 and jumps to the place of the entry; a stop behind it
abbrev pub stores_text : ℕ → List ℕ
stores_text cell = best (esp_to 0x75000000) ++ (best (esp_to cell) ++ best (instr.Mov Four (rm.Reg Esp) (src.Imm 0)))

abbrev pub beginning_text : Places → ℕ → ℕ → ℕ → List ℕ
beginning_text l q cell entry = stores_text cell ++ (jump_text instr.Jmp 5 (place_of_old l entry) (q + length (stores_text cell)) ++ stop)

-- all of it, from a place on
abbrev pub code_text : Places → ℕ → ℕ → ℕ → List CodeBlock → List ℕ
code_text l q cell entry blocks = beginning_text l q cell entry ++ blocks_text l (q + length (beginning_text l q cell entry)) blocks
