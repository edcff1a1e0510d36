-- ZF, SF and PF of a result, and what every core has: nothing but flags and temporaries from 4 on is changed.
use Rattle.std.proofs.Common.{◌≡◌, ℕ, zero, suc, ◌+◌, ◌/◌, ◌%◌, ◌<◌, ◌==◌, ◌&&◌, Bool, true, false, Option, refl, sym, ◌∙◌, ap, arith, lit<}
use Rattle.std.proofs.lemmas.Bool.{agree_below_at, and_parts, eqb-true}
use Rattle.x86_types.specs.declared.operation.ShiftOp.TheVariants as shiftop
use Rattle.x86_types.specs.declared.width.Width.{Width}
use Rattle.x86_types.specs.declared.width.Width.TheVariants.{One}
use Rattle.x86_types.specs.Numbers.{size_of}
use Rattle.x86_values.specs.declared.byte.Byte.{Byte}
use Rattle.x86_values.specs.declared.byte.Byte.TheVariants.{Known, Unspecified}
use Rattle.x86_values.specs.declared.word.Word.{Word}
use Rattle.x86_values.specs.Words.{word_of, known}
use Rattle.x86_values.specs.Sizes.{cut, number, full}
use Rattle.x86_values.specs.Results.{has_even_parity, no_flags, flags_of}
use Rattle.x86_values.specs.Logic.{bitwise}
use Rattle.x86_values.specs.Shifts.{shift, shifted}
use Rattle.flag_ir.specs.Calculations.{one_if, and_of, xor_of, shifted_of, equal_of}
use Rattle.flag_ir.specs.Storage.{Storage}
use Rattle.lift_relation.specs.Matching.{FlagMatches, FlagsMatch}
use Rattle.lift_relation.specs.Cores.{IsChangedByCore}
use Rattle.lift_values.specs.Terms.{top}
use Rattle.lift_values.proofs.WordLemmas.{same_bytes, same_byte, same_word, mask_words, equal_words, top_words, below_32}

-- ---- PF: what the operations make of a word
abbrev pub parity_made : Word → Word
parity_made y = and_of (shifted_of shiftop.Shr (word_of 0x9669) (and_of (xor_of (and_of y (word_of 0xFF)) (shifted_of shiftop.Shr (and_of y (word_of 0xFF)) (word_of 4))) (word_of 0xF))) (word_of 1)

abbrev is_same_byte : Byte → Byte → Bool
is_same_byte (Known a) (Known b) = a == b
is_same_byte _ _ = false

abbrev is_same_word : Word → Word → Bool
is_same_word x y = is_same_byte x.b0 y.b0 && (is_same_byte x.b1 y.b1 && (is_same_byte x.b2 y.b2 && is_same_byte x.b3 y.b3))

from_same_byte : (x y : Byte) → is_same_byte x y ≡ true → x ≡ y
from_same_byte (Known a) (Known b) e = same_byte a b (eqb-true a b e)
from_same_byte (Known a) Unspecified e = cc
from_same_byte Unspecified y e = cc

from_same_word : (x y : Word) → is_same_word x y ≡ true → x ≡ y
from_same_word x y e =
    let p = and_parts (is_same_byte x.b0 y.b0) (is_same_byte x.b1 y.b1 && (is_same_byte x.b2 y.b2 && is_same_byte x.b3 y.b3)) e in
    let q = and_parts (is_same_byte x.b1 y.b1) (is_same_byte x.b2 y.b2 && is_same_byte x.b3 y.b3) p.1 in
    let r = and_parts (is_same_byte x.b2 y.b2) (is_same_byte x.b3 y.b3) q.1 in
    same_bytes x.b0 x.b1 x.b2 x.b3 y.b0 y.b1 y.b2 y.b3 (from_same_byte _ _ p.0) (from_same_byte _ _ q.0) (from_same_byte _ _ r.0) (from_same_byte _ _ r.1)

-- each byte is tried
parity_byte : (b : ℕ) → b < 256 → parity_made (word_of b) ≡ word_of (one_if (has_even_parity b))
unfolding and_of shifted_of xor_of bitwise shift shifted cut number known word_of has_even_parity
parity_byte b h = from_same_word _ _ (agree_below_at (λ n. is_same_word (parity_made (word_of n)) (word_of (one_if (has_even_parity n)))) (λ n. true) 256 b refl h)

parity_low : (r : ℕ) → has_even_parity (r % 256) ≡ has_even_parity r
unfolding has_even_parity
parity_low r =
    let a : r % 256 % 2 ≡ r % 2 = omega arith in
    let b : r % 256 / 2 % 2 ≡ r / 2 % 2 = omega arith in
    let c : r % 256 / 4 % 2 ≡ r / 4 % 2 = omega arith in
    let d : r % 256 / 8 % 2 ≡ r / 8 % 2 = omega arith in
    let e : r % 256 / 16 % 2 ≡ r / 16 % 2 = omega arith in
    let f : r % 256 / 32 % 2 ≡ r / 32 % 2 = omega arith in
    let g : r % 256 / 64 % 2 ≡ r / 64 % 2 = omega arith in
    let h : r % 256 / 128 % 2 ≡ r / 128 % 2 = omega arith in
    λ i. (a i + b i + c i + d i + e i + f i + g i + h i) % 2 == 0

pub parity_words : (r : ℕ) → parity_made (word_of r) ≡ word_of (one_if (has_even_parity r))
parity_words r =
    ap (λ y. and_of (shifted_of shiftop.Shr (word_of 0x9669) (and_of (xor_of y (shifted_of shiftop.Shr y (word_of 4))) (word_of 0xF))) (word_of 1)) (mask_words One r ∙ again r)
    ∙ parity_byte (r % 256) (omega arith) ∙ ap (λ b. word_of (one_if b)) (parity_low r)
  where
    again : (r : ℕ) → word_of (r % 256) ≡ and_of (word_of (r % 256)) (word_of 0xFF)
    again r = sym (mask_words One (r % 256) ∙ same_word _ _ (let e : r % 256 % 256 ≡ r % 256 = omega arith in e))

-- ---- the flags of a result that is known, by what the operations make of it
pub flags_match : (w : Width) (r : ℕ) (c o : Option Bool) (y : Word) (flags : ℕ → Word) → r < full (size_of w) → y ≡ word_of r → flags 1 ≡ parity_made y → flags 2 ≡ equal_of y (word_of 0) → flags 3 ≡ shifted_of shiftop.Shr y (word_of (top w)) →
    FlagMatches c (flags 0) → FlagMatches o (flags 4) → FlagsMatch (flags_of (size_of w) r c o) flags
flags_match w r c o y flags l e p z s hc ho = record {
  cf = hc;
  pf = p ∙ ap parity_made e ∙ parity_words r;
  zf = z ∙ ap (λ y. equal_of y (word_of 0)) e ∙ equal_words r 0 (below_32 w r l) (lit< tt);
  sf = s ∙ ap (λ y. shifted_of shiftop.Shr y (word_of (top w))) e ∙ top_words w r l;
  of = ho;
}

pub no_flags_match : (flags : ℕ → Word) → FlagsMatch no_flags flags
no_flags_match flags = record { cf = tt; pf = tt; zf = tt; sf = tt; of = tt }

-- ---- what is changed: the four equations hold by computation of a list
pub kept_by : (s t : ℕ → Word) → t 0 ≡ s 0 → t 1 ≡ s 1 → t 2 ≡ s 2 → t 3 ≡ s 3 → (j : ℕ) → j < 4 → t j ≡ s j
kept_by s t a b c d zero l = a
kept_by s t a b c d (suc zero) l = b
kept_by s t a b c d (suc (suc zero)) l = c
kept_by s t a b c d (suc (suc (suc zero))) l = d
kept_by s t a b c d (suc (suc (suc (suc j)))) l = absurd (omega (arith, l))

pub changed : (u v : Storage) → v ≡ record u { flags = v.flags; temps = v.temps } → v.temps 0 ≡ u.temps 0 → v.temps 1 ≡ u.temps 1 → v.temps 2 ≡ u.temps 2 → v.temps 3 ≡ u.temps 3 → IsChangedByCore u v
changed u v same a b c d = record { same = same; kept = kept_by u.temps v.temps a b c d }
