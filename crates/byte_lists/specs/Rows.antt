-- Numbers and bytes that are written out. The first ones are those of the gABI's figure "Data Encoding ELFDATA2LSB".
use Rattle.std.specs.Prelude.{◌≡◌, ℕ, List, [], ◌∷◌}
use Rattle.byte_lists.specs.LittleEndian.{le, from_le, half_bytes, word_bytes, half_from, word_from, half_at, word_at, zeros}

-- six bytes that are all different
abbrev pub six_bytes : List ℕ
six_bytes = 0xA1 ∷ 0xB2 ∷ 0xC3 ∷ 0xD4 ∷ 0xE5 ∷ 0xF6 ∷ []

-- the bytes of halves and words; what doesn't fit is left out
pub record NumbersAsBytes : Type 0 where
  pub half : half_bytes 0x0102 ≡ 0x02 ∷ 0x01 ∷ []
  pub word : word_bytes 0x01020304 ≡ 0x04 ∷ 0x03 ∷ 0x02 ∷ 0x01 ∷ []
  pub three : le 3 0x010203 ≡ 0x03 ∷ 0x02 ∷ 0x01 ∷ []
  pub small : word_bytes 0xFF ≡ 0xFF ∷ 0 ∷ 0 ∷ 0 ∷ []
  pub greatest_half : half_bytes 0xFFFF ≡ 0xFF ∷ 0xFF ∷ []
  pub greatest_word : word_bytes 0xFFFFFFFF ≡ 0xFF ∷ 0xFF ∷ 0xFF ∷ 0xFF ∷ []
  pub long_half : half_bytes 0xA1020304 ≡ 0x04 ∷ 0x03 ∷ []
  pub long_word : word_bytes 0xA101020304 ≡ 0x04 ∷ 0x03 ∷ 0x02 ∷ 0x01 ∷ []
  pub long : le 1 0x0102 ≡ 0x02 ∷ []
  pub none : le 0 0x0102 ≡ []
  pub zeros : zeros 3 ≡ 0 ∷ 0 ∷ 0 ∷ []

-- the numbers of bytes, also at the end of a list and past it
pub record BytesAsNumbers : Type 0 where
  pub half : half_from 0x02 0x01 ≡ 0x0102
  pub word : word_from 0x04 0x03 0x02 0x01 ≡ 0x01020304
  pub front : from_le 3 six_bytes ≡ 0xC3B2A1
  pub short : from_le 4 (0x02 ∷ 0x01 ∷ []) ≡ 0x0102
  pub none : from_le 0 six_bytes ≡ 0
  pub first_half : half_at six_bytes 0 ≡ 0xB2A1
  pub first_word : word_at six_bytes 0 ≡ 0xD4C3B2A1
  pub last_half : half_at six_bytes 4 ≡ 0xF6E5
  pub last_word : word_at six_bytes 2 ≡ 0xF6E5D4C3
  pub cut_half : half_at six_bytes 5 ≡ 0xF6
  pub cut_word : word_at six_bytes 3 ≡ 0xF6E5D4
  pub one_byte_of_a_word : word_at six_bytes 5 ≡ 0xF6
  pub half_past_the_end : half_at six_bytes 6 ≡ 0
  pub word_past_the_end : word_at six_bytes 6 ≡ 0
