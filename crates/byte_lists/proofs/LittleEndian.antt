-- Laws of numbers as bytes, by recursion on the number of bytes.
use Rattle.std.proofs.Common.{◌≡◌, ℕ, zero, suc, ◌+◌, ◌*◌, ◌/◌, ◌%◌, ◌^◌, ◌<◌, ◌≤◌, List, [], ◌∷◌, ◌++◌, length, take, drop, slice_index, refl, lit<, ap, sym, ◌∙◌, arith}
use Rattle.std.proofs.lemmas.Nat.{div_below}
use Rattle.std.proofs.lemmas.List.{append-nil}
use Rattle.std.proofs.Math.Nat.{pow-succ'}
use Rattle.std.proofs.Math.Seq.{take-length}
use Rattle.byte_lists.specs.LittleEndian.{le, from_le, AreBytes, half_bytes, word_bytes, half_from, word_from, half_at, word_at}
use Rattle.byte_lists.specs.Laws.{LittleEndianLaws}

le_length : (k n : ℕ) → length (le k n) ≡ k
le_length zero n = refl
le_length (suc k) n = ap suc (le_length k (n / 256))

le_bytes : (k n : ℕ) → AreBytes (le k n)
le_bytes zero n = tt
le_bytes (suc k) n = (omega arith, le_bytes k (n / 256))

one_more : (k : ℕ) → 256 ^ suc k ≡ 256 * 256 ^ k
one_more k = pow-succ' 256 k

reads_before : (k n : ℕ) (rest : List ℕ) → n < 256 ^ k → from_le k (le k n ++ rest) ≡ n
reads_before zero n rest h = omega arith
reads_before (suc k) n rest h =
    let p = one_more k in
    let below : n / 256 < 256 ^ k = div_below n 256 (256 ^ k) (omega arith) (omega arith) in
    let ih = reads_before k (n / 256) rest below in
    rw ih (omega arith)

reads : (k n : ℕ) → n < 256 ^ k → from_le k (le k n) ≡ n
reads k n h = ap (from_le k) (sym (append-nil (le k n))) ∙ reads_before k n [] h

positive : (k : ℕ) → 0 < 256 ^ k
positive zero = lit< tt
positive (suc k) = let p = one_more k in let ih = positive k in omega arith

below : (k : ℕ) (bytes : List ℕ) → AreBytes bytes → from_le k bytes < 256 ^ k
below zero bytes h = lit< tt
below (suc k) [] h = positive (suc k)
below (suc k) (b ∷ bytes) h =
    let p = one_more k in
    let ih = below k bytes h.1 in
    omega (arith, h.0)

writes_front : (k : ℕ) (bytes : List ℕ) → AreBytes bytes → k ≤ length bytes → le k (from_le k bytes) ≡ take k bytes
writes_front zero bytes h long = refl
writes_front (suc k) [] h long = absurd (omega arith)
writes_front (suc k) (b ∷ bytes) h long =
    let low : (b + 256 * from_le k bytes) % 256 ≡ b = omega (arith, h.0) in
    let high : (b + 256 * from_le k bytes) / 256 ≡ from_le k bytes = omega (arith, h.0) in
    rw (low, high, writes_front k bytes h.1 (omega arith)) refl

writes : (k : ℕ) (bytes : List ℕ) → AreBytes bytes → length bytes ≡ k → le k (from_le k bytes) ≡ bytes
writes k bytes h is = writes_front k bytes h (omega (arith, is)) ∙ ap (λ n. take n bytes) (sym is) ∙ take-length bytes

half_bytes_is : (n : ℕ) → le 2 n ≡ half_bytes n
half_bytes_is n = refl

word_bytes_is : (n : ℕ) → le 4 n ≡ word_bytes n
word_bytes_is n =
    let third : n / 256 / 256 ≡ n / 0x10000 = omega arith in
    let fourth : n / 256 / 256 / 256 ≡ n / 0x1000000 = omega arith in
    rw (fourth, third) refl

half_from_is : (a b : ℕ) (rest : List ℕ) → from_le 2 (a ∷ b ∷ rest) ≡ half_from a b
half_from_is a b rest = omega arith

word_from_is : (a b c d : ℕ) (rest : List ℕ) → from_le 4 (a ∷ b ∷ c ∷ d ∷ rest) ≡ word_from a b c d
word_from_is a b c d rest = omega arith

reads_nothing : (k : ℕ) → from_le k [] ≡ 0
reads_nothing zero = refl
reads_nothing (suc k) = refl

-- the byte at an index, and then the number from the next index on
one_byte_more : (k i : ℕ) (bytes : List ℕ) → from_le (suc k) (drop i bytes) ≡ slice_index bytes i + 256 * from_le k (drop (suc i) bytes)
one_byte_more k zero [] = rw (reads_nothing k) refl
one_byte_more k zero (b ∷ bytes) = refl
one_byte_more k (suc i) [] = rw (reads_nothing k) refl
one_byte_more k (suc i) (b ∷ bytes) = one_byte_more k i bytes

byte_then : (k i next : ℕ) (bytes : List ℕ) → next ≡ suc i → from_le (suc k) (drop i bytes) ≡ slice_index bytes i + 256 * from_le k (drop next bytes)
byte_then k i next bytes is = one_byte_more k i bytes ∙ ap (λ n. slice_index bytes i + 256 * from_le k (drop n bytes)) (sym is)

half_at_is : (bytes : List ℕ) (i : ℕ) → from_le 2 (drop i bytes) ≡ half_at bytes i
half_at_is bytes i =
    let first = byte_then 1 i (i + 1) bytes (omega arith) in
    let second = byte_then 0 (i + 1) (i + 2) bytes (omega arith) in
    omega (arith, first, second)

word_at_is : (bytes : List ℕ) (i : ℕ) → from_le 4 (drop i bytes) ≡ word_at bytes i
word_at_is bytes i =
    let first = byte_then 3 i (i + 1) bytes (omega arith) in
    let second = byte_then 2 (i + 1) (i + 2) bytes (omega arith) in
    let third = byte_then 1 (i + 2) (i + 3) bytes (omega arith) in
    let fourth = byte_then 0 (i + 3) (i + 4) bytes (omega arith) in
    omega (arith, first, second, third, fourth)

pub laws : LittleEndianLaws
laws =
    record { le_length = le_length; le_bytes = le_bytes; le_reads = reads; le_reads_before = reads_before; from_le_below = below; from_le_writes = writes; from_le_writes_front = writes_front; half_bytes_is = half_bytes_is; word_bytes_is = word_bytes_is; half_from_is = half_from_is; word_from_is = word_from_is; half_at_is = half_at_is; word_at_is = word_at_is }
