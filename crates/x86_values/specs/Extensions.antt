-- Extensions to more bytes, and the order of bytes turned (Intel SDM volume 2, "MOVZX", "MOVSX", "CBW/CWDE/CDQE", "CWD/CDQ/CQO",
-- "BSWAP"). They copy bytes; those that a sign fills are unspecified where the sign's byte is (own).
use Rattle.std.specs.Prelude.{ℕ, ◌==◌, cond, leb}
use Rattle.x86_values.specs.declared.byte.Byte.{Byte}
use Rattle.x86_values.specs.declared.byte.Byte.TheVariants.{Known, Unspecified}
use Rattle.x86_values.specs.declared.word.Word.{Word}
use Rattle.x86_values.specs.Sizes.{cut}

-- eight copies of the highest bit of a byte
abbrev pub sign_byte : Byte → Byte
sign_byte (Known a) = Known (cond (leb 128 a) 255 0)
sign_byte Unspecified = Unspecified

-- the highest byte of a size
abbrev pub top_byte : ℕ → Word → Byte
top_byte size w = cond (size == 1) w.b0 (cond (size == 2) w.b1 w.b3)

-- the bytes of a size, and above them copies of the sign up to four bytes
unfoldable pub sign_extended : ℕ → Word → Word
sign_extended size w =
    let fill = sign_byte (top_byte size w) in
    record { b0 = w.b0; b1 = cond (leb 2 size) w.b1 fill; b2 = cond (leb 3 size) w.b2 fill; b3 = cond (leb 4 size) w.b3 fill }

-- copies of the sign alone, in the bytes of the size
unfoldable pub sign_word : ℕ → Word → Word
sign_word size w = let fill = sign_byte (top_byte size w) in cut size (record { b0 = fill; b1 = fill; b2 = fill; b3 = fill })

-- BSWAP
abbrev pub bytes_swapped : Word → Word
bytes_swapped w = record { b0 = w.b3; b1 = w.b2; b2 = w.b1; b3 = w.b0 }
