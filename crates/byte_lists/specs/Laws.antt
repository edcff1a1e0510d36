-- Laws of numbers as bytes.
use Rattle.std.specs.Prelude.{◌≡◌, ℕ, ◌^◌, ◌<◌, ◌≤◌, List, ◌∷◌, ◌++◌, length, take, drop}
use Rattle.byte_lists.specs.LittleEndian.{le, from_le, AreBytes, half_bytes, word_bytes, half_from, word_from, half_at, word_at}

pub record LittleEndianLaws : Type 0 where
  -- what `le` gives: k bytes
  pub le_length : (k n : ℕ) → length (le k n) ≡ k
  pub le_bytes : (k n : ℕ) → AreBytes (le k n)
  -- a number that fits is read again, whatever stands behind its bytes
  pub le_reads : (k n : ℕ) → n < 256 ^ k → from_le k (le k n) ≡ n
  pub le_reads_before : (k n : ℕ) (rest : List ℕ) → n < 256 ^ k → from_le k (le k n ++ rest) ≡ n
  -- bytes that are read are written again
  pub from_le_below : (k : ℕ) (bytes : List ℕ) → AreBytes bytes → from_le k bytes < 256 ^ k
  pub from_le_writes : (k : ℕ) (bytes : List ℕ) → AreBytes bytes → length bytes ≡ k → le k (from_le k bytes) ≡ bytes
  pub from_le_writes_front : (k : ℕ) (bytes : List ℕ) → AreBytes bytes → k ≤ length bytes → le k (from_le k bytes) ≡ take k bytes
  -- a half is a number in two bytes, and a word a number in four
  pub half_bytes_is : (n : ℕ) → le 2 n ≡ half_bytes n
  pub word_bytes_is : (n : ℕ) → le 4 n ≡ word_bytes n
  pub half_from_is : (a b : ℕ) (rest : List ℕ) → from_le 2 (a ∷ b ∷ rest) ≡ half_from a b
  pub word_from_is : (a b c d : ℕ) (rest : List ℕ) → from_le 4 (a ∷ b ∷ c ∷ d ∷ rest) ≡ word_from a b c d
  pub half_at_is : (bytes : List ℕ) (i : ℕ) → from_le 2 (drop i bytes) ≡ half_at bytes i
  pub word_at_is : (bytes : List ℕ) (i : ℕ) → from_le 4 (drop i bytes) ≡ word_at bytes i
