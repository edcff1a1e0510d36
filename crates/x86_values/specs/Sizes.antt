-- The lowest bytes of a word as a number. A size is 1, 2 or 4 bytes.
use Rattle.std.specs.Prelude.{◌≡◌, ℕ, ◌*◌, ◌/◌, ◌^◌, ◌==◌, ◌||◌, Bool, true, cond, leb, Option}
use Rattle.x86_values.specs.declared.byte.Byte.TheVariants.{Known, Unspecified}
use Rattle.x86_values.specs.declared.word.Word.{Word}
use Rattle.x86_values.specs.Words.{known}

abbrev pub IsSize : ℕ → Type 0
IsSize size = (size == 1 || size == 2 || size == 4) ≡ true

-- the lowest bytes of a word, and 0 above them
unfoldable pub cut : ℕ → Word → Word
cut size w = record { b0 = w.b0; b1 = cond (leb 2 size) w.b1 (Known 0); b2 = cond (leb 3 size) w.b2 (Known 0); b3 = cond (leb 4 size) w.b3 (Known 0) }

-- a word of which nothing is known
abbrev pub no_word : Word
no_word = record { b0 = Unspecified; b1 = Unspecified; b2 = Unspecified; b3 = Unspecified }

-- the number of the lowest bytes, where each of them is known
unfoldable pub number : ℕ → Word → Option ℕ
number size w = known (cut size w)

-- how many bits a size has
abbrev pub bits : ℕ → ℕ
bits size = 8 * size

-- how many numbers it has, and half of that: the least number whose highest bit is set
abbrev pub full : ℕ → ℕ
full size = 256 ^ size

abbrev pub half : ℕ → ℕ
half size = full size / 2

-- a number's highest bit, which is its sign
abbrev pub is_negative : ℕ → ℕ → Bool
is_negative size n = leb (half size) n
