-- Double shifts of four bytes (Intel SDM volume 2, "SHLD", "SHRD"). The count is taken modulo 32, and 0 keeps the operand and all
-- flags, whatever is unspecified. Where a byte of the operand, of the filler or the count is unspecified, so are the result and all
-- flags (own).
use Rattle.std.specs.Prelude.{ℕ, ◌+◌, ◌-◌, ◌*◌, ◌/◌, ◌%◌, ◌^◌, ◌==◌, Bool, true, false, cond, Option, Some, None}
use Rattle.x86_values.specs.declared.byte.Byte.{Byte}
use Rattle.x86_values.specs.declared.word.Word.{Word}
use Rattle.x86_values.specs.declared.word.Flags.{Flags}
use Rattle.x86_values.specs.declared.answered.Answered.{Answered}
use Rattle.x86_values.specs.Words.{known_byte}
use Rattle.x86_values.specs.Sizes.{number, full, is_negative}
use Rattle.x86_values.specs.Results.{differ, result_of, no_result}
use Rattle.x86_values.specs.Shifts.{if_one}

-- SHLD: the filler stands below the operand, and the upper half of both is taken after the shift
abbrev pub below_filled : ℕ → ℕ → ℕ
below_filled a filler = a * full 4 + filler

-- SHRD: the filler stands above the operand, and the lower half of both is taken after the shift
abbrev pub above_filled : ℕ → ℕ → ℕ
above_filled a filler = filler * full 4 + a

abbrev pub double_result : Bool → ℕ → ℕ → ℕ → ℕ
double_result false a filler c = below_filled a filler * 2 ^ c / full 4 % full 4
double_result true a filler c = above_filled a filler / 2 ^ c % full 4

-- CF is the last bit that leaves the operand
abbrev pub double_out : Bool → ℕ → ℕ → ℕ → Bool
double_out false a filler c = (a * 2 ^ c / full 4 % 2) == 1
double_out true a filler c = (a / 2 ^ (c - 1) % 2) == 1

-- OF, for the count 1, is set where the sign changes
unfoldable pub double_shifted : Bool → ℕ → ℕ → ℕ → Answered
double_shifted right a filler c =
    let n = double_result right a filler c in
    result_of 4 n (Some (double_out right a filler c)) (if_one c (differ (is_negative 4 a) (is_negative 4 n)))

abbrev pub double_shifted_if : Bool → Option ℕ → Option ℕ → ℕ → Answered
double_shifted_if right (Some a) (Some filler) c = double_shifted right a filler c
double_shifted_if right _ _ c = no_result 4

abbrev pub double_shift_by : Bool → Word → Word → Option ℕ → Flags → Answered
double_shift_by right x filler None old = no_result 4
double_shift_by right x filler (Some n) old = let c = n % 32 in cond (c == 0) (record { value = x; flags = old }) (double_shifted_if right (number 4 x) (number 4 filler) c)

unfoldable pub double_shift : Bool → Word → Word → Byte → Flags → Answered
double_shift right x filler count old = double_shift_by right x filler (known_byte count) old
