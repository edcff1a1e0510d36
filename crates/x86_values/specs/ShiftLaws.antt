-- The laws of shifts and rotates.
use Rattle.std.specs.Prelude.{◌≡◌, ℕ, ◌+◌, ◌-◌, ◌*◌, ◌/◌, ◌%◌, ◌^◌, ◌<◌, ◌≤◌, Bool}
use Rattle.x86_types.specs.declared.operation.ShiftOp.{ShiftOp}
use Rattle.x86_values.specs.declared.byte.Byte.{Byte}
use Rattle.x86_values.specs.declared.word.Word.{Word}
use Rattle.x86_values.specs.declared.word.Flags.{Flags}
use Rattle.x86_values.specs.Sizes.{IsSize, bits, full}
use Rattle.x86_values.specs.Shifts.{filled, left_rotated, right_rotated, shift}
use Rattle.x86_values.specs.LessSpecified.{ByteLessSpecified, WordLessSpecified, FlagsLessSpecified, AnsweredLessSpecified}

pub record ShiftLaws : Type 0 where
  -- they are monotone in what is specified, in the flags that they keep too
  pub shift_less : (kind : ShiftOp) (size : ℕ) (x u : Word) (m n : Byte) (f g : Flags) → IsSize size → WordLessSpecified x u → ByteLessSpecified m n → FlagsLessSpecified f g → AnsweredLessSpecified (shift kind size x m f) (shift kind size u n g)
  -- of an operand of the size the result is of the size before the modulus too, which so changes nothing
  pub right_shifted_within : (size a c : ℕ) (fill : Bool) → IsSize size → a < full size → filled size a fill c / 2 ^ c < full size
  pub left_rotated_within : (size a r : ℕ) → IsSize size → r ≤ bits size → a < full size → a * 2 ^ r % full size + a * 2 ^ r / full size < full size
  pub right_rotated_within : (size a r : ℕ) → IsSize size → r ≤ bits size → a < full size → a / 2 ^ r + a % 2 ^ r * 2 ^ (bits size - r) < full size
  -- a rotate takes the other one back
  pub left_then_right : (size a r : ℕ) → IsSize size → r ≤ bits size → a < full size → right_rotated size (left_rotated size a r) r ≡ a
  pub right_then_left : (size a r : ℕ) → IsSize size → r ≤ bits size → a < full size → left_rotated size (right_rotated size a r) r ≡ a
