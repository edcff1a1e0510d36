-- Extensions are monotone in what is specified.
use Rattle.std.proofs.Common.{ℕ, ◌<◌, ◌==◌, Bool, true, false, cond, leb, refl, arith}
use Rattle.x86_values.specs.declared.byte.Byte.{Byte}
use Rattle.x86_values.specs.declared.byte.Byte.TheVariants.{Known, Unspecified}
use Rattle.x86_values.specs.declared.word.Word.{Word}
use Rattle.x86_values.specs.Extensions.{sign_byte, top_byte, sign_extended, sign_word, bytes_swapped}
use Rattle.x86_values.specs.ExtensionLaws.{ExtensionLaws}
use Rattle.x86_values.specs.LessSpecified.{ByteLessSpecified, WordLessSpecified}
use Rattle.x86_values.proofs.LessSpecified.{lowest}

either : (p : Bool) (a b x y : Byte) → ByteLessSpecified a x → ByteLessSpecified b y → ByteLessSpecified (cond p a b) (cond p x y)
either true a b x y h k = h
either false a b x y h k = k

ones_or_zeros : (p : Bool) → cond p 255 0 < 256
ones_or_zeros true = omega arith
ones_or_zeros false = omega arith

sign_byte_less : (a x : Byte) → ByteLessSpecified a x → ByteLessSpecified (sign_byte a) (sign_byte x)
sign_byte_less (Known a) x h = rw (h.0) (refl, ones_or_zeros (leb 128 a))
sign_byte_less Unspecified x h = tt

fill_less : (size : ℕ) (x u : Word) → WordLessSpecified x u → ByteLessSpecified (sign_byte (top_byte size x)) (sign_byte (top_byte size u))
fill_less size x u h =
    let upper : ByteLessSpecified (cond (size == 2) x.b1 x.b3) (cond (size == 2) u.b1 u.b3) = either (size == 2) x.b1 x.b3 u.b1 u.b3 h.b1 h.b3 in
    sign_byte_less (top_byte size x) (top_byte size u) (either (size == 1) x.b0 (cond (size == 2) x.b1 x.b3) u.b0 (cond (size == 2) u.b1 u.b3) h.b0 upper)

filled_less : (size : ℕ) (x u : Word) (a b : Byte) → WordLessSpecified x u → ByteLessSpecified a b → WordLessSpecified (record { b0 = x.b0; b1 = cond (leb 2 size) x.b1 a; b2 = cond (leb 3 size) x.b2 a; b3 = cond (leb 4 size) x.b3 a }) (record { b0 = u.b0; b1 = cond (leb 2 size) u.b1 b; b2 = cond (leb 3 size) u.b2 b; b3 = cond (leb 4 size) u.b3 b })
filled_less size x u a b h k = record {
  b0 = h.b0;
  b1 = either (leb 2 size) x.b1 a u.b1 b h.b1 k;
  b2 = either (leb 3 size) x.b2 a u.b2 b h.b2 k;
  b3 = either (leb 4 size) x.b3 a u.b3 b h.b3 k;
}

sign_extended_less : (size : ℕ) (x u : Word) → WordLessSpecified x u → WordLessSpecified (sign_extended size x) (sign_extended size u)
unfolding sign_extended
sign_extended_less size x u h = filled_less size x u (sign_byte (top_byte size x)) (sign_byte (top_byte size u)) h (fill_less size x u h)

copies : Byte → Word
copies a = record { b0 = a; b1 = a; b2 = a; b3 = a }

sign_word_less : (size : ℕ) (x u : Word) → WordLessSpecified x u → WordLessSpecified (sign_word size x) (sign_word size u)
unfolding sign_word copies
sign_word_less size x u h =
    let fill : ByteLessSpecified (sign_byte (top_byte size x)) (sign_byte (top_byte size u)) = fill_less size x u h in
    lowest size (copies (sign_byte (top_byte size x))) (copies (sign_byte (top_byte size u))) (record { b0 = fill; b1 = fill; b2 = fill; b3 = fill })

bytes_swapped_less : (x u : Word) → WordLessSpecified x u → WordLessSpecified (bytes_swapped x) (bytes_swapped u)
bytes_swapped_less x u h = record { b0 = h.b3; b1 = h.b2; b2 = h.b1; b3 = h.b0 }

pub extension_laws : ExtensionLaws
extension_laws = record { sign_extended_less = sign_extended_less; sign_word_less = sign_word_less; bytes_swapped_less = bytes_swapped_less }
