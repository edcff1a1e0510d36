-- The best spelling of an instruction: the shortest, and of several as short the first in the order of bytes.
use Rattle.std.specs.Prelude.{◌≡◌, ℕ, Bool, true, false, List, ◌⊎◌}
use Rattle.x86_types.specs.declared.instr.Instr.{Instr}
use Rattle.x86_types.specs.declared.instr.Instr.TheVariants as instr
use Rattle.x86_grammar.specs.declared.row.Row.{Row}
use Rattle.x86_grammar.specs.declared.row.Row.TheVariants as row
use Rattle.x86_grammar.specs.Spells.{Spells}
use Rattle.x86_encode.specs.Order.{Before}

-- the bytes spell the instruction, and each other spelling comes after them
pub record IsBest (i : Instr) (t : List ℕ) : Type 0 where
  pub spells : Spells t i
  pub first : (u : List ℕ) → Spells u i → (t ≡ u) ⊎ Before t u

-- the rows of jumps whose displacement is a byte
abbrev pub is_short : Row → Bool
is_short row.JmpShort = true
is_short (row.JccShort c) = true
is_short _ = false

-- the instructions that have such a row among their forms
abbrev pub has_short : Instr → Bool
has_short (instr.Jmp by) = true
has_short (instr.Jcc c by) = true
has_short _ = false

-- the bytes spell the instruction, and not by a short jump
pub record SpellsWide (t : List ℕ) (i : Instr) : Type 0 where
  pub spells : Spells t i
  pub wide : is_short spells.spelling.form.row ≡ false

-- the same among the spellings without short jumps
pub record IsBestWide (i : Instr) (t : List ℕ) : Type 0 where
  pub spells : SpellsWide t i
  pub first : (u : List ℕ) → SpellsWide u i → (t ≡ u) ⊎ Before t u
