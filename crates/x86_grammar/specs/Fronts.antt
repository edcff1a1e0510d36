-- Which front of a list spells an instruction, and which lists are short of one. No spelling has more than
-- fifteen bytes: Intel SDM volume 2, section 2.3.11.
use Rattle.std.specs.Prelude.{ℕ, ◌<◌, ◌≤◌, List, ◌++◌, length, take}
use Rattle.x86_types.specs.declared.instr.Instr.{Instr}
use Rattle.x86_grammar.specs.Spells.{Spells}

-- the front of that length spells the instruction
pub record FrontSpells (bytes : List ℕ) (i : Instr) (len : ℕ) : Type 0 where
  pub there : len ≤ length bytes
  pub spells : Spells (take len bytes) i

-- no front of the bytes spells an instruction
abbrev pub NoFrontSpells : List ℕ → Type 0
NoFrontSpells bytes = (i : Instr) (len : ℕ) → FrontSpells bytes i len → ⊥

-- some longer list that begins with them has a front that spells
pub record CanGoOn (bytes : List ℕ) : Type 0 where
  pub more : List ℕ
  pub instr : Instr
  pub len : ℕ
  pub longer : FrontSpells (bytes ++ more) instr len

-- no front spells, there are fewer than fifteen bytes, and they can go on
pub record IsShort (bytes : List ℕ) : Type 0 where
  pub none : NoFrontSpells bytes
  pub few : length bytes < 15
  pub on : CanGoOn bytes

-- the remaining case
pub record IsOutside (bytes : List ℕ) : Type 0 where
  pub none : NoFrontSpells bytes
  pub not_short : IsShort bytes → ⊥
