-- The numbers and old addresses of the blocks of a unit and of its code. All of this is own.
use Rattle.std.specs.Prelude.{◌≡◌, ℕ, ◌==◌, List, find, map, Option, Some, None}
use Rattle.flag_ir.specs.declared.block.Block.{Block}
use Rattle.flag_ir.specs.Entering.{CodeUnit}
use Rattle.named_code.specs.declared.named.VBlock.{VBlock}
use Rattle.named_code.specs.Running.{Marks}

-- ---- the number of a block and the address at which it begins a turn
abbrev pub names_of : Block → ℕ × ℕ
names_of b = (b.number, b.at)

abbrev pub HasNamesOf : CodeUnit → List VBlock → Type 0
HasNamesOf u code = map (λ (b : VBlock). (b.number, b.at)) code ≡ map names_of u.whole

-- ---- a block of the code begins a turn where the unit's block of its number does
abbrev pub at_or_zero : Option Block → ℕ
at_or_zero None = 0
at_or_zero (Some b) = b.at

abbrev pub marks_of : CodeUnit → Marks
marks_of u n = at_or_zero (find (λ b. b.number == n) u.whole)
