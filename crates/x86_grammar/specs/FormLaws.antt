-- What holds of each form of an instruction.
use Rattle.std.specs.Prelude.{◌≡◌, ◌^◌, ◌<◌, true, not, ◌||◌, Some, IfSome}
use Rattle.x86_types.specs.declared.operand.Rm.{Rm}
use Rattle.x86_types.specs.declared.instr.Instr.{Instr}
use Rattle.x86_grammar.specs.declared.row.Form.{Form}
use Rattle.x86_grammar.specs.Attributes.{has_operand_size, rep_fits, imm_size}
use Rattle.x86_grammar.specs.Fields.{fields_fit, rm_fits}
use Rattle.x86_grammar.specs.Forms.{In, forms}
use Rattle.x86_grammar.specs.Meaning.{build}

-- the row knows the prefixes
pub record FormSuits (f : Form) : Type 0 where
  pub operand_size : (not f.operand_size || has_operand_size f.row) ≡ true
  pub rep : rep_fits f.row f.rep ≡ true

-- the reg field, the number and the operand are in range
pub record FormFits (f : Form) : Type 0 where
  pub reg_field : f.reg_field < 8
  pub imm : f.imm < 256 ^ imm_size f.row f.operand_size
  pub operand : IfSome f.rm (λ m. rm_fits m ≡ true)

-- a form means the instruction with each operand that it allows, and where the instruction's fields are in
-- range, its own are
pub record FormsAreRight : Type 0 where
  pub means : (i : Instr) (f : Form) (m : Rm) → In f (forms i) → IfSome f.rm (λ x. x ≡ m) → build f.row f.operand_size f.rep f.reg_field m f.imm ≡ Some i
  pub suits : (i : Instr) (f : Form) → In f (forms i) → FormSuits f
  pub fit : (i : Instr) (f : Form) → fields_fit i ≡ true → In f (forms i) → FormFits f
