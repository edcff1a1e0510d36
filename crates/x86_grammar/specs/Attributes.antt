-- Which prefixes a row knows, its width, and how long its number is, by the table of rows.
use Rattle.std.specs.Prelude.{ℕ, Bool, true, false, not}
use Rattle.x86_types.specs.declared.width.Width.{Width}
use Rattle.x86_types.specs.declared.width.Width.TheVariants.{One, Two, Four}
use Rattle.x86_types.specs.Numbers.{size_of}
use Rattle.x86_grammar.specs.declared.row.Row.{Row}
use Rattle.x86_grammar.specs.declared.row.F3.{F3}
use Rattle.x86_grammar.specs.declared.row.F3.TheVariants as f3
use Rattle.x86_grammar.specs.declared.row.ImmSize.{ImmSize}
use Rattle.x86_grammar.specs.declared.row.ImmSize.TheVariants.{NoImm, Imm8, Imm16, Imm32, ImmOperand}
use Rattle.x86_grammar.specs.Rows.{attributes_of}

-- the width of an opcode, by its w bit and whether one 66 stands
abbrev pub width_of : Bool → Bool → Width
width_of false operand_size = One
width_of true true = Two
width_of true false = Four

-- the bytes of an operand
abbrev pub wide_size : Bool → Bool → ℕ
wide_size w operand_size = size_of (width_of w operand_size)

-- where one 66 makes width Two
abbrev pub has_operand_size : Row → Bool
has_operand_size r = (attributes_of r).prefixes.operand_size

-- the bytes of an immediate
abbrev pub size_in : ImmSize → Bool → ℕ
size_in NoImm operand_size = 0
size_in Imm8 operand_size = 1
size_in Imm16 operand_size = 2
size_in Imm32 operand_size = 4
size_in (ImmOperand w) operand_size = wide_size w operand_size

-- the bytes of a row's immediate
abbrev pub imm_size : Row → Bool → ℕ
imm_size r operand_size = size_in (attributes_of r).imm operand_size

-- where any number of 66 may stand, and says nothing
abbrev pub any_operand_sizes : Row → Bool
any_operand_sizes r = (attributes_of r).prefixes.any_66

-- where any number of 2E may stand
abbrev pub any_segments : Row → Bool
any_segments r = (attributes_of r).prefixes.any_2e

-- where one 3E may stand
abbrev pub can_hint : Row → Bool
can_hint r = (attributes_of r).prefixes.one_3e

-- whether F3 stands as it may or must
abbrev pub f3_fits : F3 → Bool → Bool
f3_fits f3.Never rep = not rep
f3_fits f3.May rep = true
f3_fits f3.Must rep = rep

-- whether F3 stands as the row may or must have it
abbrev pub rep_fits : Row → Bool → Bool
rep_fits r rep = f3_fits (attributes_of r).prefixes.f3 rep
