-- Numbers as bytes, the lowest byte first (gABI, "Data Encoding", ELFDATA2LSB; Intel SDM volume 1, "Byte Order").
use Rattle.std.specs.Prelude.{ℕ, zero, suc, ◌+◌, ◌*◌, ◌/◌, ◌%◌, ◌<◌, List, [], ◌∷◌, replicate, slice_index}
use Rattle.std.specs.List.{AllByRecursion}

-- a number in that many bytes, the lowest first
abbrev pub le : ℕ → ℕ → List ℕ
le zero v = []
le (suc k) v = v % 256 ∷ le k (v / 256)

-- the number of the first k bytes of a list; where the list is shorter, its missing bytes count as 0
abbrev pub from_le : ℕ → List ℕ → ℕ
from_le zero bytes = 0
from_le (suc k) [] = 0
from_le (suc k) (b ∷ bytes) = b + 256 * from_le k bytes

-- each number of the list is a byte
abbrev pub AreBytes : List ℕ → Type 0
AreBytes bytes = AllByRecursion (λ b. b < 256) bytes

-- the two bytes of a half (Elf32_Half)
abbrev pub half_bytes : ℕ → List ℕ
half_bytes n = n % 256 ∷ n / 256 % 256 ∷ []

-- the four bytes of a word (Elf32_Word)
abbrev pub word_bytes : ℕ → List ℕ
word_bytes n = n % 256 ∷ n / 256 % 256 ∷ n / 0x10000 % 256 ∷ n / 0x1000000 % 256 ∷ []

-- the half of two bytes
abbrev pub half_from : ℕ → ℕ → ℕ
half_from a b = a + 256 * b

-- the word of four bytes
abbrev pub word_from : ℕ → ℕ → ℕ → ℕ → ℕ
word_from a b c d = a + 256 * b + 0x10000 * c + 0x1000000 * d

-- the half at an index of a list; past the end of the list each byte counts as 0
abbrev pub half_at : List ℕ → ℕ → ℕ
half_at bytes i = half_from (slice_index bytes i) (slice_index bytes (i + 1))

-- the word at an index of a list; past the end of the list each byte counts as 0
abbrev pub word_at : List ℕ → ℕ → ℕ
word_at bytes i = word_from (slice_index bytes i) (slice_index bytes (i + 1)) (slice_index bytes (i + 2)) (slice_index bytes (i + 3))

-- that many bytes that are 0
abbrev pub zeros : ℕ → List ℕ
zeros n = replicate n 0
