-- Sums and differences (Intel SDM volume 2, "ADC", "SBB"; "ADD", "SUB", "CMP", "INC", "DEC" and "NEG" are these with a carry of 0
-- or a constant operand). Where a byte of an operand or the carry is unspecified, so are the result and all flags (own).
use Rattle.std.specs.Prelude.{ℕ, ◌+◌, ◌-◌, ◌%◌, ◌&&◌, Bool, not, leb, ltb, Option, Some}
use Rattle.x86_values.specs.declared.word.Word.{Word}
use Rattle.x86_values.specs.declared.answered.Answered.{Answered}
use Rattle.x86_values.specs.Sizes.{number, full, half}
use Rattle.x86_values.specs.Results.{carry_number, result_of, no_result}

-- a number as a signed one, to which half of the range is added, so that it is from 0 up to the whole range
abbrev pub raised : ℕ → ℕ → ℕ
raised size a = (a + half size) % full size

-- OF: the sum as signed numbers, with half of the range added twice, is none of the size
abbrev pub sum_overflows : ℕ → ℕ → ℕ → Bool → Bool
sum_overflows size a b carry = let r = raised size a + raised size b + carry_number carry in not (leb (half size) r && ltb r (full size + half size))

-- CF: the sum is at least the full range
unfoldable pub sum : ℕ → ℕ → ℕ → Bool → Answered
sum size a b carry = let s = a + b + carry_number carry in result_of size (s % full size) (Some (leb (full size) s)) (Some (sum_overflows size a b carry))

-- OF: the difference as signed numbers, which is that of the raised ones, is none of the size
abbrev pub difference_overflows : ℕ → ℕ → ℕ → Bool → Bool
difference_overflows size a b borrow = let r = raised size b + carry_number borrow in not (leb r (raised size a + half size) && ltb (raised size a) (r + half size))

-- CF: more is taken away than is there
unfoldable pub difference : ℕ → ℕ → ℕ → Bool → Answered
difference size a b borrow = let t = b + carry_number borrow in result_of size ((full size + a - t) % full size) (Some (ltb a t)) (Some (difference_overflows size a b borrow))

-- of two numbers and a carry, where they are known
abbrev pub of_known : (ℕ → ℕ → Bool → Answered) → Answered → Option ℕ → Option ℕ → Option Bool → Answered
of_known f other (Some a) (Some b) (Some c) = f a b c
of_known f other _ _ _ = other

unfoldable pub add : ℕ → Word → Word → Option Bool → Answered
add size x y carry = of_known (sum size) (no_result size) (number size x) (number size y) carry

unfoldable pub sub : ℕ → Word → Word → Option Bool → Answered
sub size x y borrow = of_known (difference size) (no_result size) (number size x) (number size y) borrow
