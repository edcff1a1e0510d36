-- Calculations on two words: those of the processor at four bytes (Intel SDM volume 2, "ADD", "SUB", "AND", "OR", "XOR", "MUL", "IMUL",
-- "SHL/SHR/SAR"), and comparisons. What an unspecified byte makes unspecified is what it makes so there. The count of a shift is the lowest
-- byte of its word, taken modulo 32.
use Rattle.std.specs.Prelude.{ℕ, ◌==◌, Bool, true, false, ltb, Option, Some}
use Rattle.x86_types.specs.declared.operation.ShiftOp.{ShiftOp}
use Rattle.x86_types.specs.declared.operation.ShiftOp.TheVariants as shiftop
use Rattle.x86_values.specs.declared.word.Word.{Word}
use Rattle.x86_values.specs.declared.logic.Bit.TheVariants as bit
use Rattle.x86_values.specs.Words.{word_of, known}
use Rattle.x86_values.specs.Sizes.{no_word}
use Rattle.x86_values.specs.Results.{no_flags}
use Rattle.x86_values.specs.Sums.{raised, add, sub}
use Rattle.x86_values.specs.Logic.{bitwise}
use Rattle.x86_values.specs.Shifts.{shift}
use Rattle.x86_values.specs.Products.{multiply}
use Rattle.flag_ir.specs.declared.operation.Calc.{Calc}
use Rattle.flag_ir.specs.declared.operation.Calc.TheVariants as calc

unfoldable pub sum_of : Word → Word → Word
sum_of x y = (add 4 x y (Some false)).value

unfoldable pub difference_of : Word → Word → Word
difference_of x y = (sub 4 x y (Some false)).value

unfoldable pub and_of : Word → Word → Word
and_of x y = (bitwise bit.And 4 x y).value

unfoldable pub or_of : Word → Word → Word
or_of x y = (bitwise bit.Or 4 x y).value

unfoldable pub xor_of : Word → Word → Word
xor_of x y = (bitwise bit.Xor 4 x y).value

-- the lower word of a product, and the upper one of numbers without and with a sign
unfoldable pub product_of : Word → Word → Word
product_of x y = (multiply false 4 x y).low

unfoldable pub upper_product_of : Bool → Word → Word → Word
upper_product_of signed x y = (multiply signed 4 x y).high

unfoldable pub shifted_of : ShiftOp → Word → Word → Word
shifted_of kind x y = (shift kind 4 x y.b0 no_flags).value

-- ---- comparisons: 1 where it holds, else 0, and unspecified where a byte is
abbrev pub one_if : Bool → ℕ
one_if true = 1
one_if false = 0

abbrev pub compared : (ℕ → ℕ → Bool) → Option ℕ → Option ℕ → Word
compared test (Some a) (Some b) = word_of (one_if (test a b))
compared test _ _ = no_word

unfoldable pub equal_of : Word → Word → Word
equal_of x y = compared (λ a b. a == b) (known x) (known y)

unfoldable pub below_of : Word → Word → Word
below_of x y = compared ltb (known x) (known y)

-- as numbers with a sign
unfoldable pub less_of : Word → Word → Word
less_of x y = compared (λ a b. ltb (raised 4 a) (raised 4 b)) (known x) (known y)

abbrev pub calculate : Calc → Word → Word → Word
calculate calc.Add x y = sum_of x y
calculate calc.Sub x y = difference_of x y
calculate calc.And x y = and_of x y
calculate calc.Or x y = or_of x y
calculate calc.Xor x y = xor_of x y
calculate calc.Mul x y = product_of x y
calculate calc.Mulhu x y = upper_product_of false x y
calculate calc.Mulhs x y = upper_product_of true x y
calculate calc.Shl x y = shifted_of shiftop.Shl x y
calculate calc.Shr x y = shifted_of shiftop.Shr x y
calculate calc.Sar x y = shifted_of shiftop.Sar x y
calculate calc.Eq x y = equal_of x y
calculate calc.Ltu x y = below_of x y
calculate calc.Lts x y = less_of x y
