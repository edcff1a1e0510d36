-- Bitwise operations are monotone in what is specified.
use Rattle.std.proofs.Common.{◌≡◌, ℕ, ◌<◌, ◌==◌, Bool, true, false, cond, Option, Some, None, refl, ap, arith}
use Rattle.std.proofs.lemmas.Bool.Decides.{nat_tests}
use Rattle.std.specs.Int.Bits.{bit_and, bit_or, bit_xor, and_zero_r}
use Rattle.std.proofs.lemmas.Nat.{and_le_l, or_lt, xor_lt}
use Rattle.x86_values.specs.declared.byte.Byte.{Byte}
use Rattle.x86_values.specs.declared.byte.Byte.TheVariants.{Known, Unspecified}
use Rattle.x86_values.specs.declared.word.Word.{Word}
use Rattle.x86_values.specs.declared.logic.Bit.{Bit}
use Rattle.x86_values.specs.declared.logic.Bit.TheVariants.{And, Or, Xor}
use Rattle.x86_values.specs.Words.{IsByte}
use Rattle.x86_values.specs.Sizes.{IsSize, number}
use Rattle.x86_values.specs.Logic.{and_byte, or_byte, xor_byte, byte_by, word_by, logic_flags, bitwise}
use Rattle.x86_values.specs.LogicLaws.{LogicLaws}
use Rattle.x86_values.specs.LessSpecified.{ByteLessSpecified, WordLessSpecified, FlagsLessSpecified, AnsweredLessSpecified}
use Rattle.x86_values.proofs.LessSpecified.{byte_itself, lowest, same_number}
use Rattle.x86_values.proofs.ResultsLess.{no_flags_less, flags_itself}

and_small : (a b : ℕ) → a < 256 → bit_and a b < 256
and_small a b h = omega (arith, and_le_l a b)

or_small : (a b : ℕ) → a < 256 → b < 256 → bit_or a b < 256
or_small a b h k = or_lt 8 a b h k

xor_small : (a b : ℕ) → a < 256 → b < 256 → bit_xor a b < 256
xor_small a b h k = xor_lt 8 a b h k

-- ---- AND, where 0 decides
decided : (p : Bool) (z : Byte) → (p ≡ true → z ≡ Known 0) → ByteLessSpecified (cond p (Known 0) Unspecified) z
decided true z h = (h refl, omega arith)
decided false z h = tt

is_zero : (m : ℕ) → (m == 0) ≡ true → m ≡ 0
is_zero m e = grind (arith, nat_tests)

zero_and : (y : Byte) → and_byte (Known 0) y ≡ Known 0
zero_and (Known n) = refl
zero_and Unspecified = refl

and_zero : (x : Byte) → and_byte x (Known 0) ≡ Known 0
and_zero (Known m) = ap (λ n. Known n) (and_zero_r m)
and_zero Unspecified = refl

and_less : (a b x y : Byte) → ByteLessSpecified a x → ByteLessSpecified b y → ByteLessSpecified (and_byte a b) (and_byte x y)
and_less (Known m) (Known n) x y h k = rw (h.0, k.0) (refl, and_small m n h.1)
and_less (Known m) Unspecified x y h k = rw (h.0) (decided (m == 0) (and_byte (Known m) y) (λ e. rw (is_zero m e) (zero_and y)))
and_less Unspecified (Known n) x y h k = rw (k.0) (decided (n == 0) (and_byte x (Known n)) (λ e. rw (is_zero n e) (and_zero x)))
and_less Unspecified Unspecified x y h k = tt

-- ---- OR, where 255 decides
or_fits : (p q : Bool) (m n : ℕ) → m < 256 → n < 256 → IsByte (cond p (Known 255) (cond q (Known 255) (Known (bit_or m n))))
or_fits true q m n h k = omega arith
or_fits false true m n h k = omega arith
or_fits false false m n h k = or_small m n h k

first_decides : (p : Bool) (x : Byte) → ByteLessSpecified (cond p (Known 255) Unspecified) (cond p (Known 255) x)
first_decides true x = (refl, omega arith)
first_decides false x = tt

second_decides : (p q : Bool) (x : Byte) → ByteLessSpecified (cond q (Known 255) Unspecified) (cond p (Known 255) (cond q (Known 255) x))
second_decides true true x = (refl, omega arith)
second_decides false true x = (refl, omega arith)
second_decides p false x = tt

full_or : (m : ℕ) (y : Byte) → ByteLessSpecified (cond (m == 255) (Known 255) Unspecified) (or_byte (Known m) y)
full_or m (Known n) = first_decides (m == 255) (cond (n == 255) (Known 255) (Known (bit_or m n)))
full_or m Unspecified = first_decides (m == 255) Unspecified

or_full : (n : ℕ) (x : Byte) → ByteLessSpecified (cond (n == 255) (Known 255) Unspecified) (or_byte x (Known n))
or_full n (Known m) = second_decides (m == 255) (n == 255) (Known (bit_or m n))
or_full n Unspecified = first_decides (n == 255) Unspecified

or_less : (a b x y : Byte) → ByteLessSpecified a x → ByteLessSpecified b y → ByteLessSpecified (or_byte a b) (or_byte x y)
or_less (Known m) (Known n) x y h k = rw (h.0, k.0) (byte_itself (or_byte (Known m) (Known n)) (or_fits (m == 255) (n == 255) m n h.1 k.1))
or_less (Known m) Unspecified x y h k = rw (h.0) (full_or m y)
or_less Unspecified (Known n) x y h k = rw (k.0) (or_full n x)
or_less Unspecified Unspecified x y h k = tt

xor_less : (a b x y : Byte) → ByteLessSpecified a x → ByteLessSpecified b y → ByteLessSpecified (xor_byte a b) (xor_byte x y)
xor_less (Known m) (Known n) x y h k = rw (h.0, k.0) (refl, xor_small m n h.1 k.1)
xor_less (Known m) Unspecified x y h k = tt
xor_less Unspecified b x y h k = tt

-- ---- words
byte_less : (kind : Bit) (a b x y : Byte) → ByteLessSpecified a x → ByteLessSpecified b y → ByteLessSpecified (byte_by kind a b) (byte_by kind x y)
byte_less And = and_less
byte_less Or = or_less
byte_less Xor = xor_less

word_less : (kind : Bit) (x y u v : Word) → WordLessSpecified x u → WordLessSpecified y v → WordLessSpecified (word_by kind x y) (word_by kind u v)
word_less kind x y u v h k = record {
  b0 = byte_less kind x.b0 y.b0 u.b0 v.b0 h.b0 k.b0;
  b1 = byte_less kind x.b1 y.b1 u.b1 v.b1 h.b1 k.b1;
  b2 = byte_less kind x.b2 y.b2 u.b2 v.b2 h.b2 k.b2;
  b3 = byte_less kind x.b3 y.b3 u.b3 v.b3 h.b3 k.b3;
}

flags_less : (size : ℕ) (x y : Word) → IsSize size → WordLessSpecified x y → FlagsLessSpecified (logic_flags size (number size x)) (logic_flags size (number size y))
flags_less size x y s h = go (number size x) refl
  where
    go : (a : Option ℕ) → number size x ≡ a → FlagsLessSpecified (logic_flags size a) (logic_flags size (number size y))
    go (Some n) e = rw ((same_number size n x y s h e).0) (flags_itself size n (Some false) (Some false))
    go None e = no_flags_less (logic_flags size (number size y))

bitwise_less : (kind : Bit) (size : ℕ) (x y u v : Word) → IsSize size → WordLessSpecified x u → WordLessSpecified y v → AnsweredLessSpecified (bitwise kind size x y) (bitwise kind size u v)
unfolding bitwise
bitwise_less kind size x y u v s h k = record {
  value = lowest size (word_by kind x y) (word_by kind u v) (word_less kind x y u v h k);
  flags = flags_less size (word_by kind x y) (word_by kind u v) s (word_less kind x y u v h k);
}

pub logic_laws : LogicLaws
logic_laws = record { bitwise_less = bitwise_less }
