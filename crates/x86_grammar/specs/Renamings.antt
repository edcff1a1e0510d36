-- Whether an instruction has a spelling, with other registers in its fields: ESP is no index (Intel SDM volume 2,
-- section 2.1.5, table 2-3), and no other field keeps a register out.
use Rattle.std.specs.Prelude.{◌≡◌, ◌↔◌, true}
use Rattle.x86_types.specs.declared.instr.Instr.{Instr}
use Rattle.x86_types.specs.Registers.{Renaming, renamed, KeepsEspIndex, MakesNoEspIndex}
use Rattle.x86_grammar.specs.Fields.{fields_fit, HasSpelling}

-- exactly as before, where ESP and no other index becomes ESP; and still one, where no other index becomes ESP
pub record SpellingIsKept : Type 0 where
  pub fields : (f : Renaming) (i : Instr) → KeepsEspIndex f → fields_fit (renamed f i) ≡ fields_fit i
  pub spelling : (f : Renaming) (i : Instr) → KeepsEspIndex f → HasSpelling (renamed f i) ↔ HasSpelling i
  pub fields_stay : (f : Renaming) (i : Instr) → MakesNoEspIndex f → fields_fit i ≡ true → fields_fit (renamed f i) ≡ true
  pub spelling_stays : (f : Renaming) (i : Instr) → MakesNoEspIndex f → HasSpelling i → HasSpelling (renamed f i)
