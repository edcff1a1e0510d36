-- The bitwise operations (Intel SDM volume 2, "AND", "OR", "XOR", "TEST"; "NOT" is XOR with ones, and sets no flag). They go byte by
-- byte: a byte of the result is unspecified where one of its operands is, except that AND with 0 gives 0 and OR with 255 gives
-- 255. All flags are unspecified where a byte of the result is. (both own)
use Rattle.std.specs.Prelude.{ℕ, ◌==◌, false, cond, Option, Some, None}
use Rattle.std.specs.Int.RustNames.{bit_and, bit_or, bit_xor}
use Rattle.x86_values.specs.declared.byte.Byte.{Byte}
use Rattle.x86_values.specs.declared.byte.Byte.TheVariants.{Known, Unspecified}
use Rattle.x86_values.specs.declared.word.Word.{Word}
use Rattle.x86_values.specs.declared.word.Flags.{Flags}
use Rattle.x86_values.specs.declared.answered.Answered.{Answered}
use Rattle.x86_values.specs.declared.logic.Bit.{Bit}
use Rattle.x86_values.specs.declared.logic.Bit.TheVariants.{And, Or, Xor}
use Rattle.x86_values.specs.Sizes.{cut, number}
use Rattle.x86_values.specs.Results.{no_flags, flags_of}

abbrev pub and_byte : Byte → Byte → Byte
and_byte (Known a) (Known b) = Known (bit_and a b)
and_byte (Known a) Unspecified = cond (a == 0) (Known 0) Unspecified
and_byte Unspecified (Known b) = cond (b == 0) (Known 0) Unspecified
and_byte Unspecified Unspecified = Unspecified

-- 255 is looked at first, so that it decides whatever stands on the other side
abbrev pub or_byte : Byte → Byte → Byte
or_byte (Known a) (Known b) = cond (a == 255) (Known 255) (cond (b == 255) (Known 255) (Known (bit_or a b)))
or_byte (Known a) Unspecified = cond (a == 255) (Known 255) Unspecified
or_byte Unspecified (Known b) = cond (b == 255) (Known 255) Unspecified
or_byte Unspecified Unspecified = Unspecified

abbrev pub xor_byte : Byte → Byte → Byte
xor_byte (Known a) (Known b) = Known (bit_xor a b)
xor_byte _ _ = Unspecified

abbrev pub byte_by : Bit → Byte → Byte → Byte
byte_by And = and_byte
byte_by Or = or_byte
byte_by Xor = xor_byte

abbrev pub word_by : Bit → Word → Word → Word
word_by kind x y = record { b0 = byte_by kind x.b0 y.b0; b1 = byte_by kind x.b1 y.b1; b2 = byte_by kind x.b2 y.b2; b3 = byte_by kind x.b3 y.b3 }

-- CF and OF are cleared
abbrev pub logic_flags : ℕ → Option ℕ → Flags
logic_flags size None = no_flags
logic_flags size (Some n) = flags_of size n (Some false) (Some false)

unfoldable pub bitwise : Bit → ℕ → Word → Word → Answered
bitwise kind size x y = record { value = cut size (word_by kind x y); flags = logic_flags size (number size (word_by kind x y)) }
