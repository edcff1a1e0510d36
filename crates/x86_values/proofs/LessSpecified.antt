-- Words that are less specified than others.
use Rattle.std.proofs.Common.{◌≡◌, ℕ, zero, suc, ◌+◌, ◌*◌, ◌<◌, Bool, true, false, cond, leb, Some, refl, ap, sym, ◌∙◌, arith}
use Rattle.std.proofs.lemmas.Bool.Decides.{nat_tests}
use Rattle.x86_values.specs.declared.byte.Byte.{Byte}
use Rattle.x86_values.specs.declared.byte.Byte.TheVariants.{Known, Unspecified}
use Rattle.x86_values.specs.declared.word.Word.{Word}
use Rattle.x86_values.specs.Words.{IsByte, IsWord, known, known_byte, known_bytes}
use Rattle.x86_values.specs.Sizes.{IsSize, cut, no_word, number, full}
use Rattle.x86_values.specs.LessSpecified.{ByteLessSpecified, WordLessSpecified}
use Rattle.x86_values.specs.LessSpecifiedLaws.{LessSpecifiedLaws}

pub byte_itself : (x : Byte) → IsByte x → ByteLessSpecified x x
byte_itself (Known a) h = (refl, h)
byte_itself Unspecified h = tt

byte_of_bytes : (x y : Byte) → ByteLessSpecified x y → IsByte x
byte_of_bytes (Known a) y h = h.1
byte_of_bytes Unspecified y h = tt

byte_then : (x y z : Byte) → ByteLessSpecified x y → ByteLessSpecified y z → ByteLessSpecified x z
byte_then (Known a) (Known b) z h k = go h.0 h.1 k
  where
    go : Known b ≡ Known a → a < 256 → ByteLessSpecified (Known b) z → ByteLessSpecified (Known a) z
    go e l m = (m.0 ∙ e, l)
byte_then (Known a) Unspecified z h k = absurd cc
byte_then Unspecified y z h k = tt

byte_either : (b : Bool) (x y : Byte) → ByteLessSpecified x y → ByteLessSpecified (cond b x (Known 0)) (cond b y (Known 0))
byte_either true x y h = h
byte_either false x y h = (refl, omega arith)

pub lowest : (size : ℕ) (x y : Word) → WordLessSpecified x y → WordLessSpecified (cut size x) (cut size y)
unfolding cut
lowest size x y h = record {
  b0 = h.b0;
  b1 = byte_either (leb 2 size) x.b1 y.b1 h.b1;
  b2 = byte_either (leb 3 size) x.b2 y.b2 h.b2;
  b3 = byte_either (leb 4 size) x.b3 y.b3 h.b3;
}

nothing : (size : ℕ) (y : Word) → WordLessSpecified (cut size no_word) (cut size y)
nothing size y = lowest size no_word y (record { b0 = tt; b1 = tt; b2 = tt; b3 = tt })

-- ---- numbers
pub same_byte : (x y : Byte) (n : ℕ) → ByteLessSpecified x y → known_byte x ≡ Some n → (known_byte y ≡ Some n) × (n < 256)
same_byte (Known a) y n h e = let same : a ≡ n = cc in (ap known_byte h.0 ∙ e, rw (sym same) h.1)
same_byte Unspecified y n h e = absurd cc

-- a byte that is a number, of a known word
known_same : (x y : Word) (n : ℕ) → WordLessSpecified x y → known x ≡ Some n → known y ≡ Some n
unfolding known
known_same x y n h e = go x.b0 x.b1 x.b2 x.b3 h.b0 h.b1 h.b2 h.b3 e
  where
    go : (a b c d : Byte) → ByteLessSpecified a y.b0 → ByteLessSpecified b y.b1 → ByteLessSpecified c y.b2 → ByteLessSpecified d y.b3 → known_bytes a b c d ≡ Some n → known_bytes y.b0 y.b1 y.b2 y.b3 ≡ Some n
    go (Known a) (Known b) (Known c) (Known d) p q r s e = rw (p.0, q.0, r.0, s.0) e
    go Unspecified b c d p q r s e = absurd cc
    go (Known a) Unspecified c d p q r s e = absurd cc
    go (Known a) (Known b) Unspecified d p q r s e = absurd cc
    go (Known a) (Known b) (Known c) Unspecified p q r s e = absurd cc

known_small : (x y : Word) (n : ℕ) → WordLessSpecified x y → known x ≡ Some n → n < 4294967296
unfolding known
known_small x y n h e = go x.b0 x.b1 x.b2 x.b3 h.b0 h.b1 h.b2 h.b3 e
  where
    go : (a b c d : Byte) → ByteLessSpecified a y.b0 → ByteLessSpecified b y.b1 → ByteLessSpecified c y.b2 → ByteLessSpecified d y.b3 → known_bytes a b c d ≡ Some n → n < 4294967296
    go (Known a) (Known b) (Known c) (Known d) p q r s e = let is : a + 256 * b + 65536 * c + 16777216 * d ≡ n = cc in omega (arith, is, p.1, q.1, r.1, s.1)
    go Unspecified b c d p q r s e = absurd cc
    go (Known a) Unspecified c d p q r s e = absurd cc
    go (Known a) (Known b) Unspecified d p q r s e = absurd cc
    go (Known a) (Known b) (Known c) Unspecified p q r s e = absurd cc

-- ---- the three sizes
no_size : (n : ℕ) → 4 < n → IsSize n → ⊥
no_size n more h = grind (arith, nat_tests)

pub of_sizes : (P : ℕ → Type 0) (size : ℕ) → IsSize size → P 1 → P 2 → P 4 → P size
of_sizes P zero h one two four = absurd cc
of_sizes P (suc zero) h one two four = one
of_sizes P (suc (suc zero)) h one two four = two
of_sizes P (suc (suc (suc zero))) h one two four = absurd cc
of_sizes P (suc (suc (suc (suc zero)))) h one two four = four
of_sizes P (suc (suc (suc (suc (suc n))))) h one two four = absurd (no_size (suc (suc (suc (suc (suc n))))) (omega arith) h)

small_one : (x : Byte) (n : ℕ) → IsByte x → known_bytes x (Known 0) (Known 0) (Known 0) ≡ Some n → n < 256
small_one (Known a) n h e = let is : a + 0 + 0 + 0 ≡ n = cc in omega (arith, is, h)
small_one Unspecified n h e = absurd cc

small_two : (x y : Byte) (n : ℕ) → IsByte x → IsByte y → known_bytes x y (Known 0) (Known 0) ≡ Some n → n < 65536
small_two (Known a) (Known b) n h k e = let is : a + 256 * b + 0 + 0 ≡ n = cc in omega (arith, is, h, k)
small_two (Known a) Unspecified n h k e = absurd cc
small_two Unspecified y n h k e = absurd cc

number_small : (size n : ℕ) (x y : Word) → IsSize size → WordLessSpecified x y → number size x ≡ Some n → n < full size
unfolding number known cut
number_small size n x y s h = of_sizes (λ (size : ℕ). number size x ≡ Some n → n < full size) size s
    (small_one x.b0 n (byte_of_bytes x.b0 y.b0 h.b0))
    (small_two x.b0 x.b1 n (byte_of_bytes x.b0 y.b0 h.b0) (byte_of_bytes x.b1 y.b1 h.b1))
    (known_small x y n h)

pub same_number : (size n : ℕ) (x y : Word) → IsSize size → WordLessSpecified x y → number size x ≡ Some n → (number size y ≡ Some n) × (n < full size)
unfolding number
same_number size n x y s h e = (known_same (cut size x) (cut size y) n (lowest size x y h) e, number_small size n x y s h e)

-- ---- the laws
word_itself : (x : Word) → IsWord x → WordLessSpecified x x
word_itself x h = record { b0 = byte_itself x.b0 h.b0; b1 = byte_itself x.b1 h.b1; b2 = byte_itself x.b2 h.b2; b3 = byte_itself x.b3 h.b3 }

word_of_bytes : (x y : Word) → WordLessSpecified x y → IsWord x
word_of_bytes x y h = record { b0 = byte_of_bytes x.b0 y.b0 h.b0; b1 = byte_of_bytes x.b1 y.b1 h.b1; b2 = byte_of_bytes x.b2 y.b2 h.b2; b3 = byte_of_bytes x.b3 y.b3 h.b3 }

word_then : (x y z : Word) → WordLessSpecified x y → WordLessSpecified y z → WordLessSpecified x z
word_then x y z h k = record {
  b0 = byte_then x.b0 y.b0 z.b0 h.b0 k.b0;
  b1 = byte_then x.b1 y.b1 z.b1 h.b1 k.b1;
  b2 = byte_then x.b2 y.b2 z.b2 h.b2 k.b2;
  b3 = byte_then x.b3 y.b3 z.b3 h.b3 k.b3;
}

pub less_specified : LessSpecifiedLaws
less_specified = record { itself = word_itself; of_bytes = word_of_bytes; then = word_then; lowest = lowest; nothing = nothing; same_number = same_number; same_word = known_same; same_byte = same_byte }
