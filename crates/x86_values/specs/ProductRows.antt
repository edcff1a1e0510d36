-- Worked rows of products: the upper half, the lower half, and CF and OF, which are the same.
use Rattle.std.specs.Prelude.{◌≡◌, ℕ, true, false}
use Rattle.x86_values.specs.declared.byte.Byte.TheVariants.{Known, Unspecified}
use Rattle.x86_values.specs.declared.word.Word.{Word}
use Rattle.x86_values.specs.declared.product.Product.{Product}
use Rattle.x86_values.specs.Words.{word_of}
use Rattle.x86_values.specs.Products.{multiply}
use Rattle.x86_values.specs.WrittenOut.{bytes, flag, unknown_flags}

-- MUL and IMUL of two numbers
abbrev pub mul : ℕ → ℕ → ℕ → Product
mul size a b = multiply false size (word_of a) (word_of b)

abbrev pub imul : ℕ → ℕ → ℕ → Product
imul size a b = multiply true size (word_of a) (word_of b)

-- a product by its halves, and whether the upper one has bits of its own, 0 or 1
abbrev pub in_halves : ℕ → ℕ → ℕ → Product
in_halves high low exceeds = record { low = word_of low; high = word_of high; flags = record unknown_flags { cf = flag exceeds; of = flag exceeds } }

-- two halves of which nothing is known
abbrev pub nothing_of : Word → Product
nothing_of w = record { low = w; high = w; flags = unknown_flags }

-- 15 * 16 = 240, 16 * 16 = 256, 15 * 17 = 255, 2 * 128 = 256, 255 * 255 = 65025 = 0xFE01, 128 * 255 = 32640 = 0x7F80
pub record WorkedMul : Type 0 where
  pub byte_fits : mul 1 0x10 0x0F ≡ in_halves 0x00 0xF0 0
  pub byte_greatest : mul 1 0x0F 0x11 ≡ in_halves 0x00 0xFF 0
  pub byte_exceeds : mul 1 0x10 0x10 ≡ in_halves 0x01 0x00 1
  pub byte_exceeds_by_two : mul 1 0x02 0x80 ≡ in_halves 0x01 0x00 1
  pub byte_both_halves : mul 1 0xFF 0xFF ≡ in_halves 0xFE 0x01 1
  pub byte_high_bits : mul 1 0x80 0xFF ≡ in_halves 0x7F 0x80 1
  pub byte_by_one : mul 1 0xFF 0x01 ≡ in_halves 0x00 0xFF 0
  pub byte_by_zero : mul 1 0x00 0xFF ≡ in_halves 0x00 0x00 0
  pub two_bytes_fits : mul 2 0x0100 0x00FF ≡ in_halves 0x0000 0xFF00 0
  pub two_bytes_exceeds : mul 2 0x0100 0x0100 ≡ in_halves 0x0001 0x0000 1
  -- 4660 * 22136 = 103153760
  pub two_bytes_plain : mul 2 0x1234 0x5678 ≡ in_halves 0x0626 0x0060 1
  pub two_bytes_greatest : mul 2 0xFFFF 0xFFFF ≡ in_halves 0xFFFE 0x0001 1
  pub word_fits : mul 4 0x00010000 0x0000FFFF ≡ in_halves 0x00000000 0xFFFF0000 0
  pub word_exceeds : mul 4 0x00010000 0x00010000 ≡ in_halves 0x00000001 0x00000000 1
  pub word_exceeds_by_two : mul 4 0x80000000 0x00000002 ≡ in_halves 0x00000001 0x00000000 1
  pub word_greatest : mul 4 0xFFFFFFFF 0xFFFFFFFF ≡ in_halves 0xFFFFFFFE 0x00000001 1

-- 7 * 9 = 63; 64 * 2 = 128 doesn't fit, -64 * 2 = -128 does, -65 * 2 = -130 = 0xFF7E doesn't
pub record WorkedByteImul : Type 0 where
  pub plain : imul 1 0x07 0x09 ≡ in_halves 0x00 0x3F 0
  pub greatest : imul 1 0x7F 0x01 ≡ in_halves 0x00 0x7F 0
  pub above_greatest : imul 1 0x40 0x02 ≡ in_halves 0x00 0x80 1
  pub least : imul 1 0xC0 0x02 ≡ in_halves 0xFF 0x80 0
  pub least_by_one : imul 1 0x80 0x01 ≡ in_halves 0xFF 0x80 0
  pub below_least : imul 1 0xBF 0x02 ≡ in_halves 0xFF 0x7E 1
  pub both_negative : imul 1 0xFF 0xFF ≡ in_halves 0x00 0x01 0
  pub left_negative : imul 1 0xFF 0x01 ≡ in_halves 0xFF 0xFF 0
  pub right_negative : imul 1 0x02 0xFF ≡ in_halves 0xFF 0xFE 0
  pub zero_by_negative : imul 1 0x00 0x80 ≡ in_halves 0x00 0x00 0
  -- -128 * -128 = 16384, -128 * -1 = 128, -128 * 127 = -16256 = -0x3F80, 127 * 127 = 16129
  pub least_squared : imul 1 0x80 0x80 ≡ in_halves 0x40 0x00 1
  pub least_negated : imul 1 0x80 0xFF ≡ in_halves 0x00 0x80 1
  pub least_by_greatest : imul 1 0x80 0x7F ≡ in_halves 0xC0 0x80 1
  pub greatest_squared : imul 1 0x7F 0x7F ≡ in_halves 0x3F 0x01 1

pub record WorkedImul : Type 0 where
  pub two_bytes_above_greatest : imul 2 0x4000 0x0002 ≡ in_halves 0x0000 0x8000 1
  pub two_bytes_least : imul 2 0xC000 0x0002 ≡ in_halves 0xFFFF 0x8000 0
  pub two_bytes_exceeds : imul 2 0x0100 0x0100 ≡ in_halves 0x0001 0x0000 1
  pub two_bytes_left_negative : imul 2 0xFFFE 0x0003 ≡ in_halves 0xFFFF 0xFFFA 0
  pub two_bytes_right_negative : imul 2 0x7FFF 0xFFFF ≡ in_halves 0xFFFF 0x8001 0
  pub two_bytes_least_squared : imul 2 0x8000 0x8000 ≡ in_halves 0x4000 0x0000 1
  pub word_above_greatest : imul 4 0x40000000 0x00000002 ≡ in_halves 0x00000000 0x80000000 1
  pub word_least : imul 4 0xC0000000 0x00000002 ≡ in_halves 0xFFFFFFFF 0x80000000 0
  pub word_both_negative : imul 4 0xFFFFFFFF 0xFFFFFFFF ≡ in_halves 0x00000000 0x00000001 0
  pub word_left_negative : imul 4 0xFFFFFFFE 0x00000003 ≡ in_halves 0xFFFFFFFF 0xFFFFFFFA 0
  -- -2^31 * -2^31 = 2^62, -2^31 * (2^31 - 1) = 2^31 - 2^62, (2^31 - 1)^2 = 2^62 - 2^32 + 1
  pub word_least_squared : imul 4 0x80000000 0x80000000 ≡ in_halves 0x40000000 0x00000000 1
  pub word_least_by_greatest : imul 4 0x80000000 0x7FFFFFFF ≡ in_halves 0xC0000000 0x80000000 1
  pub word_greatest_squared : imul 4 0x7FFFFFFF 0x7FFFFFFF ≡ in_halves 0x3FFFFFFF 0x00000001 1

-- where a byte of the size is unspecified, so are both halves and all flags
pub record UnspecifiedProducts : Type 0 where
  pub left_byte : multiply false 1 (bytes Unspecified (Known 0) (Known 0) (Known 0)) (word_of 0) ≡ nothing_of (bytes Unspecified (Known 0) (Known 0) (Known 0))
  pub right_byte : multiply true 1 (word_of 0) (bytes Unspecified (Known 0) (Known 0) (Known 0)) ≡ nothing_of (bytes Unspecified (Known 0) (Known 0) (Known 0))
  pub second_byte : multiply true 2 (bytes (Known 1) Unspecified (Known 0) (Known 0)) (word_of 0) ≡ nothing_of (bytes Unspecified Unspecified (Known 0) (Known 0))
  pub highest_byte : multiply false 4 (word_of 1) (bytes (Known 1) (Known 0) (Known 0) Unspecified) ≡ nothing_of (bytes Unspecified Unspecified Unspecified Unspecified)
  -- what stands above the bytes of the size doesn't matter
  pub above_one : multiply false 1 (bytes (Known 2) Unspecified Unspecified Unspecified) (word_of 0xFFFFFF03) ≡ in_halves 0x00 0x06 0
  pub above_two : multiply true 2 (word_of 0x1234FFFE) (bytes (Known 3) (Known 0) Unspecified Unspecified) ≡ in_halves 0xFFFF 0xFFFA 0
