-- Bytes and addresses as text, in hexadecimal, in capitals: two digits for each byte, the highest byte of an address first.
use Rattle.std.specs.Prelude.{ℕ, ◌/◌, ◌%◌, true, List, [], ◌∷◌, ◌++◌}
use Rattle.std.specs.List.{flat_map}
use Rattle.std.specs.Fmt.{digit_glyph}

-- a byte
abbrev pub byte_text : ℕ → List ℕ
byte_text b = digit_glyph true (b / 16) ∷ digit_glyph true (b % 16) ∷ []

-- bytes, in their order
abbrev pub hex_text : List ℕ → List ℕ
hex_text bytes = flat_map byte_text bytes

-- an address
abbrev pub address_text : ℕ → List ℕ
address_text n = byte_text (n / 0x1000000 % 256) ++ byte_text (n / 0x10000 % 256) ++ byte_text (n / 0x100 % 256) ++ byte_text (n % 256)
