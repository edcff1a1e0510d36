-- Worked rows of divisions: the upper and the lower half of the dividend, and the divisor.
use Rattle.std.specs.Prelude.{◌≡◌, ℕ, true, false}
use Rattle.x86_values.specs.declared.byte.Byte.TheVariants as byte
use Rattle.x86_values.specs.declared.byte.Byte.TheVariants.{Known}
use Rattle.x86_values.specs.declared.divided.Divided.{Divided}
use Rattle.x86_values.specs.declared.divided.Divided.TheVariants.{Got, Fault, Unspecified}
use Rattle.x86_values.specs.Words.{word_of}
use Rattle.x86_values.specs.Divisions.{divide}
use Rattle.x86_values.specs.WrittenOut.{bytes}

-- DIV and IDIV of three numbers
abbrev pub div : ℕ → ℕ → ℕ → ℕ → Divided
div size high low d = divide false size (word_of high) (word_of low) (word_of d)

abbrev pub idiv : ℕ → ℕ → ℕ → ℕ → Divided
idiv size high low d = divide true size (word_of high) (word_of low) (word_of d)

-- the quotient, and then the remainder
abbrev pub got : ℕ → ℕ → Divided
got q r = Got (word_of q) (word_of r)

-- 256 = 2 * 128, 511 = 2 * 255 + 1, 65279 = 255 * 255 + 254, 65280 = 255 * 256
pub record WorkedByteDiv : Type 0 where
  pub plain : div 1 0x00 0x07 0x02 ≡ got 0x03 0x01
  pub smaller : div 1 0x00 0x05 0x07 ≡ got 0x00 0x05
  pub by_upper_half : div 1 0x01 0x00 0x02 ≡ got 0x80 0x00
  pub greatest : div 1 0x01 0xFF 0x02 ≡ got 0xFF 0x01
  pub above_greatest : div 1 0x02 0x00 0x02 ≡ Fault
  pub greatest_divisor : div 1 0xFE 0xFF 0xFF ≡ got 0xFF 0xFE
  pub above_greatest_divisor : div 1 0xFF 0x00 0xFF ≡ Fault
  pub zero : div 1 0x00 0x05 0x00 ≡ Fault
  pub zero_by_zero : div 1 0x00 0x00 0x00 ≡ Fault

-- 65536 = 3 * 21845 + 1, 196607 = 3 * 65535 + 2; 2^32 = 3 * 1431655765 + 1
pub record WorkedDiv : Type 0 where
  pub two_bytes_plain : div 2 0x0001 0x0000 0x0003 ≡ got 0x5555 0x0001
  pub two_bytes_greatest : div 2 0x0002 0xFFFF 0x0003 ≡ got 0xFFFF 0x0002
  pub two_bytes_above_greatest : div 2 0x0003 0x0000 0x0003 ≡ Fault
  pub two_bytes_zero : div 2 0x0000 0x0000 0x0001 ≡ got 0x0000 0x0000
  pub word_plain : div 4 0x00000001 0x00000000 0x00000003 ≡ got 0x55555555 0x00000001
  pub word_greatest : div 4 0x00000001 0xFFFFFFFF 0x00000002 ≡ got 0xFFFFFFFF 0x00000001
  pub word_above_greatest : div 4 0x00000002 0x00000000 0x00000002 ≡ Fault
  pub word_greatest_divisor : div 4 0xFFFFFFFE 0xFFFFFFFF 0xFFFFFFFF ≡ got 0xFFFFFFFF 0xFFFFFFFE
  pub word_above_greatest_divisor : div 4 0xFFFFFFFF 0x00000000 0xFFFFFFFF ≡ Fault

-- 7 = 2 * 3 + 1, -7 = 2 * -3 - 1, 7 = -2 * -3 + 1, -7 = -2 * 3 - 1
pub record WorkedByteIdiv : Type 0 where
  pub plain : idiv 1 0x00 0x07 0x02 ≡ got 0x03 0x01
  pub negative_dividend : idiv 1 0xFF 0xF9 0x02 ≡ got 0xFD 0xFF
  pub negative_divisor : idiv 1 0x00 0x07 0xFE ≡ got 0xFD 0x01
  pub both_negative : idiv 1 0xFF 0xF9 0xFE ≡ got 0x03 0xFF
  pub below_one : idiv 1 0xFF 0xFF 0x02 ≡ got 0x00 0xFF
  pub zero_dividend : idiv 1 0x00 0x00 0xFF ≡ got 0x00 0x00
  pub least_divisor : idiv 1 0x00 0x01 0x80 ≡ got 0x00 0x01
  pub zero_divisor : idiv 1 0xFF 0xFF 0x00 ≡ Fault

-- the quotient is from -128 up to 127; 255 = 2 * 127 + 1, 257 = -2 * -128 + 1, -16256 = -128 * 127
pub record WorkedByteLimits : Type 0 where
  pub greatest : idiv 1 0x00 0x7F 0x01 ≡ got 0x7F 0x00
  pub greatest_with_rest : idiv 1 0x00 0xFF 0x02 ≡ got 0x7F 0x01
  pub greatest_by_negatives : idiv 1 0xC0 0x80 0x80 ≡ got 0x7F 0x00
  pub above_greatest : idiv 1 0x00 0x80 0x01 ≡ Fault
  pub above_greatest_by_two : idiv 1 0x01 0x00 0x02 ≡ Fault
  pub above_greatest_by_negatives : idiv 1 0xFF 0x80 0xFF ≡ Fault
  pub above_greatest_by_least : idiv 1 0xC0 0x00 0x80 ≡ Fault
  pub least : idiv 1 0xFF 0x80 0x01 ≡ got 0x80 0x00
  pub least_by_negative : idiv 1 0x00 0x80 0xFF ≡ got 0x80 0x00
  pub least_with_rest : idiv 1 0x01 0x01 0xFE ≡ got 0x80 0x01
  pub least_by_least : idiv 1 0x40 0x00 0x80 ≡ got 0x80 0x00
  pub below_least : idiv 1 0xFF 0x7F 0x01 ≡ Fault
  pub below_least_by_negative : idiv 1 0x00 0x81 0xFF ≡ Fault
  pub below_least_with_rest : idiv 1 0x01 0x02 0xFE ≡ Fault
  pub least_dividend : idiv 1 0x80 0x00 0x80 ≡ Fault

-- 2^62 - 2^32 + 1 = (2^31 - 1)^2, 2^31 - 2^62 = -2^31 * (2^31 - 1)
pub record WorkedIdiv : Type 0 where
  pub two_bytes_negative : idiv 2 0xFFFF 0xFFF9 0x0002 ≡ got 0xFFFD 0xFFFF
  pub two_bytes_least : idiv 2 0xFFFF 0x8000 0x0001 ≡ got 0x8000 0x0000
  pub two_bytes_negative_divisor : idiv 2 0x0000 0x7FFF 0xFFFF ≡ got 0x8001 0x0000
  pub two_bytes_above_greatest : idiv 2 0x0000 0x8000 0x0001 ≡ Fault
  pub two_bytes_least_negated : idiv 2 0xFFFF 0x8000 0xFFFF ≡ Fault
  pub two_bytes_least_dividend : idiv 2 0x8000 0x0000 0x0001 ≡ Fault
  pub word_negative : idiv 4 0xFFFFFFFF 0xFFFFFFF9 0x00000002 ≡ got 0xFFFFFFFD 0xFFFFFFFF
  pub word_greatest : idiv 4 0x3FFFFFFF 0x00000001 0x7FFFFFFF ≡ got 0x7FFFFFFF 0x00000000
  pub word_least : idiv 4 0xFFFFFFFF 0x80000000 0x00000001 ≡ got 0x80000000 0x00000000
  pub word_least_by_greatest : idiv 4 0xC0000000 0x80000000 0x7FFFFFFF ≡ got 0x80000000 0x00000000
  pub word_least_by_negative : idiv 4 0x00000000 0x80000000 0xFFFFFFFF ≡ got 0x80000000 0x00000000
  pub word_above_greatest : idiv 4 0x00000000 0x80000000 0x00000001 ≡ Fault
  pub word_least_negated : idiv 4 0xFFFFFFFF 0x80000000 0xFFFFFFFF ≡ Fault
  pub word_least_dividend : idiv 4 0x80000000 0x00000000 0x80000000 ≡ Fault

-- where a byte of the size is unspecified, nothing is known, even by a divisor of 0
pub record UnspecifiedDivisions : Type 0 where
  pub upper_half : divide false 1 (bytes byte.Unspecified (Known 0) (Known 0) (Known 0)) (word_of 0) (word_of 1) ≡ Unspecified
  pub lower_half : divide true 1 (word_of 0) (bytes byte.Unspecified (Known 0) (Known 0) (Known 0)) (word_of 1) ≡ Unspecified
  pub divisor : divide false 2 (word_of 0) (word_of 0) (bytes (Known 1) byte.Unspecified (Known 0) (Known 0)) ≡ Unspecified
  pub highest_byte : divide true 4 (bytes (Known 0) (Known 0) (Known 0) byte.Unspecified) (word_of 0) (word_of 1) ≡ Unspecified
  pub by_zero : divide false 1 (word_of 0) (bytes byte.Unspecified (Known 0) (Known 0) (Known 0)) (word_of 0) ≡ Unspecified
  -- what stands above the bytes of the size doesn't matter
  pub above_one : divide true 1 (bytes (Known 0) byte.Unspecified (Known 9) byte.Unspecified) (word_of 0x12345607) (bytes (Known 2) byte.Unspecified byte.Unspecified byte.Unspecified) ≡ got 0x03 0x01
  pub zero_above : divide false 2 (word_of 0) (word_of 7) (word_of 0xFFFF0000) ≡ Fault
