-- Where the blocks stand: one behind the other, from a place on, by their sizes. The size of an instruction doesn't hang on where it or its
-- target stands. All of this is own.
use Rattle.std.specs.Prelude.{◌≡◌, ℕ, ◌+◌, ◌*◌, ◌<◌, ◌≤◌, ◌==◌, ◌&&◌, not, cond, List, [], ◌∷◌, ◌++◌, length, drop, All, None}
use Rattle.std.specs.List.{sum_by}
use Rattle.x86_types.specs.declared.instr.Instr.{Instr}
use Rattle.x86_types.specs.declared.instr.Instr.TheVariants as instr
use Rattle.x86_grammar.specs.Fields.{HasSpelling}
use Rattle.x86_grammar.specs.Front.{front}
use Rattle.x86_encode.specs.Choice.{best, best_wide}
use Rattle.x86_code.specs.Code.{Code}
use Rattle.named_code.specs.Items.{Item, CodeBlock}
use Rattle.laid_code.specs.Laid.{Places, IsLaid}
use Rattle.laid_code.specs.Beginning.{Begins}
use Rattle.code_text.specs.Texts.{before_test, behind_test, items_text, stores_text, code_text}

-- ---- sizes
unfoldable pub instr_size : Places → Instr → ℕ
instr_size l (instr.Jmp n) = 5
instr_size l (instr.Jcc c n) = 6
instr_size l (instr.JmpTo to) = length (before_test l to) + 6 + length (behind_test l)
instr_size l i = length (best i)

-- with the stop behind the last
unfoldable pub items_size : Places → List Item → ℕ
items_size l [] = 2
items_size l (x ∷ xs) = instr_size l x.instr + items_size l xs

abbrev pub beginning_size : ℕ → ℕ
beginning_size cell = length (stores_text cell) + 5 + 2

-- ---- places: of the first block of a number, and of the first of an old address; 0 where there is none
unfoldable pub numbered_from : Places → ℕ → ℕ → List CodeBlock → ℕ
numbered_from l q n [] = 0
numbered_from l q n (b ∷ bs) = cond (b.number == n) q (numbered_from l (q + items_size l b.items) n bs)

unfoldable pub addressed_from : Places → ℕ → ℕ → List CodeBlock → ℕ
addressed_from l q a [] = 0
addressed_from l q a (b ∷ bs) = cond (not (a == 0) && (b.at == a)) q (addressed_from l (q + items_size l b.items) a bs)

-- the places are those of blocks from q on, and the stop is the one behind the beginning
pub record PlacesFrom (l : Places) (q cell : ℕ) (blocks : List CodeBlock) : Type 0 where
  pub by_number : (n : ℕ) → l.by_number n ≡ numbered_from l (q + beginning_size cell) n blocks
  pub by_address : (a : ℕ) → l.by_address a ≡ addressed_from l (q + beginning_size cell) a blocks
  pub stop : l.stop ≡ q + length (stores_text cell) + 5

-- ---- how many bytes the blocks have at most, whatever their places are: a jump to an old address has 128, and a stop has two
abbrev pub most_bytes : Instr → ℕ
most_bytes (instr.JmpTo to) = 128
most_bytes i = length (best_wide i)

abbrev pub items_most : List Item → ℕ
items_most items = sum_by (λ x. most_bytes x.instr) items + 2

unfoldable pub blocks_most : List CodeBlock → ℕ
blocks_most blocks = sum_by (λ b. items_most b.items) blocks

-- ---- bytes that can be run from a place on
pub record HasBytesFrom (code : Code) (q : ℕ) (bytes : List ℕ) : Type 0 where
  pub fronts : (n : ℕ) → n ≤ length bytes → code (q + n) ≡ front (drop n bytes)

-- each instruction has a spelling, also JmpTo's MOV and those of the beginning
abbrev pub AreSpelled : List CodeBlock → Type 0
AreSpelled blocks = All (λ (b : CodeBlock). All (λ (x : Item). HasSpelling x.instr) b.items) blocks

-- old addresses with a block lie in the span
abbrev pub AreInSpan : ℕ → ℕ → List CodeBlock → Type 0
AreInSpan span count blocks = All (λ (b : CodeBlock). (b.at ≡ 0 → ⊥) → (span ≤ b.at) × (b.at < span + count)) blocks

abbrev pub LieInSpan : Places → List CodeBlock → Type 0
LieInSpan l blocks = AreInSpan l.span l.count blocks

-- ---- where the bytes of laid code stand, whatever stands behind them, the code is laid, and begins
abbrev pub TextIsLaid : Type 0
TextIsLaid = (l : Places) (code : Code) (q cell entry : ℕ) (blocks : List CodeBlock) (after : List ℕ) →
    HasBytesFrom code q (code_text l q cell entry blocks ++ after) → PlacesFrom l q cell blocks → AreSpelled blocks → LieInSpan l blocks →
    q + length (code_text l q cell entry blocks) < 4294967296 → l.span + l.count < 4294967296 → l.table + 4 * l.count < 4294967296 → cell < 4294967296 → code 0 ≡ None →
    IsLaid l code blocks × Begins l code q cell entry

-- sizes are the lengths of texts
pub record TextLengths : Type 0 where
  pub items : (l : Places) (q : ℕ) (xs : List Item) → length (items_text l q xs) ≡ items_size l xs
