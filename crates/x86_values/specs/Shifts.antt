-- Shifts and rotates (Intel SDM volume 2, "SAL/SAR/SHL/SHR", "RCL/RCR/ROL/ROR"). The count is taken modulo 32, and 0 keeps the
-- operand and all flags, whatever is unspecified. What an unspecified operand or count leaves unspecified, and that rotates by at
-- least the operand's bits leave CF and OF so, is own. A result is taken modulo the range of the size, which changes it for no
-- operand of the size: so the bytes above are 0 whatever the operand is.
use Rattle.std.specs.Prelude.{ℕ, ◌+◌, ◌-◌, ◌*◌, ◌/◌, ◌%◌, ◌^◌, ◌==◌, Bool, false, cond, ltb, Option, Some, None}
use Rattle.x86_types.specs.declared.operation.ShiftOp.{ShiftOp}
use Rattle.x86_types.specs.declared.operation.ShiftOp.TheVariants.{Rol, Ror, Shl, Shr, Sar}
use Rattle.x86_values.specs.declared.byte.Byte.{Byte}
use Rattle.x86_values.specs.declared.word.Word.{Word}
use Rattle.x86_values.specs.declared.word.Flags.{Flags}
use Rattle.x86_values.specs.declared.answered.Answered.{Answered}
use Rattle.x86_values.specs.Words.{word_of, known_byte}
use Rattle.x86_values.specs.Sizes.{cut, no_word, number, bits, full, half, is_negative}
use Rattle.x86_values.specs.Results.{differ, result_of, no_result}

-- ---- what is known of CF and OF by a count from 1 to 31
abbrev pub if_within : ℕ → ℕ → Bool → Option Bool
if_within size c b = cond (ltb c (bits size)) (Some b) None

abbrev pub if_one : ℕ → Bool → Option Bool
if_one c b = cond (c == 1) (Some b) None

-- ---- to the left: the operand times 2^c, and the last bit that leaves it
abbrev pub left_shifted : ℕ → ℕ → ℕ → ℕ
left_shifted size a c = a * 2 ^ c % full size

abbrev pub left_out : ℕ → ℕ → ℕ → Bool
left_out size a c = (a * 2 ^ c / full size % 2) == 1

-- ---- to the right: above the operand stand c copies of one bit, and the lowest c bits leave
abbrev pub filled : ℕ → ℕ → Bool → ℕ → ℕ
filled size a fill c = a + full size * cond fill (2 ^ c - 1) 0

abbrev pub right_shifted : ℕ → ℕ → Bool → ℕ → ℕ
right_shifted size a fill c = filled size a fill c / 2 ^ c % full size

abbrev pub right_out : ℕ → ℕ → Bool → ℕ → Bool
right_out size a fill c = (filled size a fill c / 2 ^ (c - 1) % 2) == 1

-- ---- rotates by r bits, fewer than the operand has: what leaves at one end enters at the other
abbrev pub left_rotated : ℕ → ℕ → ℕ → ℕ
left_rotated size a r = (a * 2 ^ r % full size + a * 2 ^ r / full size) % full size

abbrev pub right_rotated : ℕ → ℕ → ℕ → ℕ
right_rotated size a r = (a / 2 ^ r + a % 2 ^ r * 2 ^ (bits size - r)) % full size

-- a rotate sets CF and OF alone
abbrev pub rotated : ℕ → Option Bool → Option Bool → Flags → Answered
rotated n carry overflow old = record { value = word_of n; flags = record old { cf = carry; of = overflow } }

-- CF is the lowest bit of the result for ROL, and the highest for ROR. OF is set, for the count 1, where the highest bit isn't CF for
-- ROL, and where it isn't the bit below it for ROR.
abbrev pub rol_result : ℕ → ℕ → ℕ → Flags → Answered
rol_result size n c old = let low = (n % 2) == 1 in rotated n (if_within size c low) (if_one c (differ (is_negative size n) low)) old

abbrev pub ror_result : ℕ → ℕ → ℕ → Flags → Answered
ror_result size n c old = let high = is_negative size n in rotated n (if_within size c high) (if_one c (differ high ((n / (half size / 2) % 2) == 1))) old

-- ---- a number by a count from 1 to 31
-- CF is the last bit that leaves; for SHL and SHR it is unspecified where the count is at least the operand's bits. OF is set, for the
-- count 1, where the sign isn't CF for SHL, and where the operand was negative for SHR; it is cleared for SAR.
unfoldable pub shifted : ShiftOp → ℕ → ℕ → ℕ → Flags → Answered
shifted Rol size a c old = rol_result size (left_rotated size a (c % bits size)) c old
shifted Ror size a c old = ror_result size (right_rotated size a (c % bits size)) c old
shifted Shl size a c old = result_of size (left_shifted size a c) (if_within size c (left_out size a c)) (if_one c (differ (is_negative size (left_shifted size a c)) (left_out size a c)))
shifted Shr size a c old = result_of size (right_shifted size a false c) (if_within size c (right_out size a false c)) (if_one c (is_negative size a))
shifted Sar size a c old = result_of size (right_shifted size a (is_negative size a) c) (Some (right_out size a (is_negative size a) c)) (if_one c false)

-- where a byte of the operand or the count is unspecified
abbrev pub not_shifted : ShiftOp → ℕ → Flags → Answered
not_shifted Rol size old = record { value = cut size no_word; flags = record old { cf = None; of = None } }
not_shifted Ror size old = record { value = cut size no_word; flags = record old { cf = None; of = None } }
not_shifted Shl size old = no_result size
not_shifted Shr size old = no_result size
not_shifted Sar size old = no_result size

abbrev pub shifted_if : ShiftOp → ℕ → Option ℕ → ℕ → Flags → Answered
shifted_if kind size None c old = not_shifted kind size old
shifted_if kind size (Some a) c old = shifted kind size a c old

abbrev pub shift_by : ShiftOp → ℕ → Word → Option ℕ → Flags → Answered
shift_by kind size x None old = not_shifted kind size old
shift_by kind size x (Some n) old = let c = n % 32 in cond (c == 0) (record { value = cut size x; flags = old }) (shifted_if kind size (number size x) c old)

unfoldable pub shift : ShiftOp → ℕ → Word → Byte → Flags → Answered
shift kind size x count old = shift_by kind size x (known_byte count) old
