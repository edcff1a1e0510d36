-- Words of four bytes, each known or unspecified; the lowest byte comes first (Intel SDM volume 1, "Byte Order").
use Rattle.std.specs.Prelude.{ℕ, ◌+◌, ◌*◌, ◌/◌, ◌%◌, ◌<◌, List, [], ◌∷◌, Option, Some, None}
use Rattle.x86_values.specs.declared.byte.Byte.{Byte}
use Rattle.x86_values.specs.declared.byte.Byte.TheVariants.{Known, Unspecified}
use Rattle.x86_values.specs.declared.word.Word.{Word}

-- the number of a byte, where it is known
abbrev pub known_byte : Byte → Option ℕ
known_byte (Known a) = Some a
known_byte Unspecified = None

-- a byte that is below 256, where it is known
abbrev pub IsByte : Byte → Type 0
IsByte (Known a) = a < 256
IsByte Unspecified = Unit {0}

-- the numbers of some bytes, where each is known
abbrev pub with_number : Option ℕ → Option (List ℕ) → Option (List ℕ)
with_number (Some n) (Some ns) = Some (n ∷ ns)
with_number _ _ = None

unfoldable pub all_known : List Byte → Option (List ℕ)
all_known [] = Some []
all_known (b ∷ bs) = with_number (known_byte b) (all_known bs)

-- the word of a number below 2^32
unfoldable pub word_of : ℕ → Word
word_of n = record { b0 = Known (n % 256); b1 = Known (n / 256 % 256); b2 = Known (n / 65536 % 256); b3 = Known (n / 16777216 % 256) }

abbrev pub known_bytes : Byte → Byte → Byte → Byte → Option ℕ
known_bytes (Known a) (Known b) (Known c) (Known d) = Some (a + 256 * b + 65536 * c + 16777216 * d)
known_bytes _ _ _ _ = None

-- the number of a word, where no byte is unspecified
unfoldable pub known : Word → Option ℕ
known w = known_bytes w.b0 w.b1 w.b2 w.b3

-- the bytes of a word, the lowest first
abbrev pub word_list : Word → List Byte
word_list w = w.b0 ∷ w.b1 ∷ w.b2 ∷ w.b3 ∷ []

-- the word of at most four bytes, the lowest first; those that are missing are 0
abbrev pub padded : List Byte → Word
padded [] = record { b0 = Known 0; b1 = Known 0; b2 = Known 0; b3 = Known 0 }
padded (a ∷ []) = record { b0 = a; b1 = Known 0; b2 = Known 0; b3 = Known 0 }
padded (a ∷ b ∷ []) = record { b0 = a; b1 = b; b2 = Known 0; b3 = Known 0 }
padded (a ∷ b ∷ c ∷ []) = record { b0 = a; b1 = b; b2 = c; b3 = Known 0 }
padded (a ∷ b ∷ c ∷ d ∷ rest) = record { b0 = a; b1 = b; b2 = c; b3 = d }

-- each byte of a word is below 256, where it is known
pub record IsWord (w : Word) : Type 0 where
  pub b0 : IsByte w.b0
  pub b1 : IsByte w.b1
  pub b2 : IsByte w.b2
  pub b3 : IsByte w.b3
