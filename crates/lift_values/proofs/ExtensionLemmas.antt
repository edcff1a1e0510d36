-- The cores of moves, MOVSX, CBW and CWDE, CWD and CDQ, and BSWAP.
use Rattle.std.proofs.Common.{◌≡◌, ℕ, ◌*◌, ◌/◌, ◌%◌, ◌<◌, ◌==◌, Bool, true, false, cond, leb, refl, sym, ◌∙◌, ap, subst, arith, lit<, bit_or}
use Rattle.std.proofs.lemmas.Bool.{eqb-true}
use Rattle.std.proofs.lemmas.Nat.{and_mask}
use Rattle.std.specs.Int.Bits.{or_zero_l, or_zero_r}
use Rattle.x86_types.specs.declared.operation.ShiftOp.TheVariants as shiftop
use Rattle.x86_types.specs.declared.width.Width.{Width}
use Rattle.x86_types.specs.declared.width.Width.TheVariants.{One, Two, Four}
use Rattle.x86_types.specs.Numbers.{size_of}
use Rattle.x86_values.specs.declared.byte.Byte.{Byte}
use Rattle.x86_values.specs.declared.byte.Byte.TheVariants.{Known, Unspecified}
use Rattle.x86_values.specs.declared.word.Word.{Word}
use Rattle.x86_values.specs.declared.logic.Bit.TheVariants as bit
use Rattle.x86_values.specs.WrittenOut.{bytes}
use Rattle.x86_values.specs.Words.{word_of}
use Rattle.x86_values.specs.Sizes.{cut}
use Rattle.x86_values.specs.Logic.{bitwise, and_byte, or_byte}
use Rattle.x86_values.specs.LogicLaws.{LogicLaws}
use Rattle.x86_values.specs.Extensions.{sign_byte, top_byte, sign_extended, sign_word}
use Rattle.x86_values.specs.LessSpecified.{ByteLessSpecified, WordLessSpecified}
use Rattle.x86_meaning.specs.Outcomes.{move_computed, extend_computed, spread_computed}
use Rattle.flag_ir.specs.Calculations.{one_if, difference_of, and_of, or_of, shifted_of}
use Rattle.flag_ir.specs.Operations.{perform, performs}
use Rattle.lift_relation.specs.Cores.{CutMatches, ComputesOne}
use Rattle.lift_values.specs.Terms.{mask, top, top_mask}
use Rattle.lift_values.specs.Extensions.{above, move_core, extend_core, spread_core}
use Rattle.lift_values.proofs.WordLemmas.{same_bytes, same_byte, same_word, word_to, word_below, cut_again, mask_matches, byte_off, shr_words, difference_words, highest}
use Rattle.lift_values.proofs.FlagLemmas.{changed}

pub move_computes : (w : Width) → ComputesOne (size_of w) (size_of w) (λ f x. move_computed f x) move_core
unfolding perform performs
move_computes w = record { computes = λ turn a f u x g. record { change = changed u _ refl refl refl refl refl; values = (x, tt); flags = g } }

-- ---- OR with no bit, and AND with all or none
pub or_none : (b : Byte) → or_byte b (Known 0) ≡ b
or_none Unspecified = refl
or_none (Known k) = cases (k == 255) refl
  where
    cases : (t : Bool) → (k == 255) ≡ t → cond t (Known 255) (Known (bit_or k 0)) ≡ Known k
    cases true e = same_byte _ _ (sym (eqb-true k 255 e))
    cases false e = same_byte _ _ (or_zero_r k)

pub or_left : (b : Byte) → or_byte (Known 0) b ≡ b
or_left Unspecified = refl
or_left (Known k) = cases (k == 255) refl
  where
    cases : (t : Bool) → (k == 255) ≡ t → cond t (Known 255) (Known (bit_or 0 k)) ≡ Known k
    cases true e = same_byte _ _ (sym (eqb-true k 255 e))
    cases false e = same_byte _ _ (or_zero_l k)

or_off : (b s : Byte) → or_byte b (and_byte s (Known 0)) ≡ b
or_off b s = ap (or_byte b) (byte_off s) ∙ or_none b

sign_on : (t : Byte) → and_byte (sign_byte t) (Known 255) ≡ sign_byte t
sign_on Unspecified = refl
sign_on (Known a) = cases (leb 128 a)
  where
    cases : (b : Bool) → and_byte (Known (cond b 255 0)) (Known 255) ≡ Known (cond b 255 0)
    cases true = refl
    cases false = refl

or_on : (t : Byte) → or_byte (Known 0) (and_byte (sign_byte t) (Known 255)) ≡ sign_byte t
or_on t = or_left (and_byte (sign_byte t) (Known 255)) ∙ sign_on t

-- ---- a byte that is known
pub record IsKnownByte (k : ℕ) (y : Byte) : Type 0 where
  pub is : y ≡ Known k
  pub fits : k < 256

pub known_on : (b y : Byte) (k : ℕ) → ByteLessSpecified b y → b ≡ Known k → IsKnownByte k y
known_on (Known a) y k h e = let q = known_number a k e in record { is = h.0 ∙ e; fits = subst (λ n. n < 256) q h.1 }
  where
    known_number : (a k : ℕ) → Known a ≡ Known k → a ≡ k
    known_number a k e = cc
known_on Unspecified y k h e = cc

-- ---- the highest byte alone
weight : Width → ℕ
weight One = 1
weight Two = 256
weight Four = 16777216

pub byte_stays : (k : ℕ) (y : Byte) → IsKnownByte k y → and_byte y (Known 255) ≡ Known k
byte_stays k y h = ap (λ y. and_byte y (Known 255)) h.is ∙ same_byte _ _ (and_mask k 8 ∙ (let l : k < 256 = h.fits in let e : k % 256 ≡ k = omega (arith, l) in e))

top_alone : (w : Width) (k : ℕ) (a x : Word) → CutMatches (size_of w) a x → top_byte (size_of w) a ≡ Known k → (and_of x (word_of (top_mask w)) ≡ word_of (k * weight w)) × (k < 256)
unfolding and_of bitwise cut word_of weight
top_alone One k a x h e =
    let q = known_on a.b0 x.b0 k h.b0 e in
    let l : k < 256 = q.fits in
    (same_bytes _ _ _ _ _ _ _ _ (byte_stays k x.b0 q ∙ same_byte _ _ (omega (arith, l))) (byte_off x.b1 ∙ same_byte _ _ (omega (arith, l))) (byte_off x.b2 ∙ same_byte _ _ (omega (arith, l))) (byte_off x.b3 ∙ same_byte _ _ (omega (arith, l))), l)
top_alone Two k a x h e =
    let q = known_on a.b1 x.b1 k h.b1 e in
    let l : k < 256 = q.fits in
    (same_bytes _ _ _ _ _ _ _ _ (byte_off x.b0 ∙ same_byte _ _ (omega (arith, l))) (byte_stays k x.b1 q ∙ same_byte _ _ (omega (arith, l))) (byte_off x.b2 ∙ same_byte _ _ (omega (arith, l))) (byte_off x.b3 ∙ same_byte _ _ (omega (arith, l))), l)
top_alone Four k a x h e =
    let q = known_on a.b3 x.b3 k h.b3 e in
    let l : k < 256 = q.fits in
    (same_bytes _ _ _ _ _ _ _ _ (byte_off x.b0 ∙ same_byte _ _ (omega (arith, l))) (byte_off x.b1 ∙ same_byte _ _ (omega (arith, l))) (byte_off x.b2 ∙ same_byte _ _ (omega (arith, l))) (byte_stays k x.b3 q ∙ same_byte _ _ (omega (arith, l))), l)

top_bit : (w : Width) (k : ℕ) → k < 256 → shifted_of shiftop.Shr (word_of (k * weight w)) (word_of (top w)) ≡ word_of (k / 128)
unfolding weight
top_bit One k l = shr_words (k * 1) 7 (omega (arith, l)) (lit< tt) ∙ same_word _ _ (let e : k * 1 / 128 ≡ k / 128 = omega arith in e)
top_bit Two k l = shr_words (k * 256) 15 (omega (arith, l)) (lit< tt) ∙ same_word _ _ (let e : k * 256 / 32768 ≡ k / 128 = omega arith in e)
top_bit Four k l = shr_words (k * 16777216) 31 (omega (arith, l)) (lit< tt) ∙ same_word _ _ (let e : k * 16777216 / 2147483648 ≡ k / 128 = omega arith in e)

-- ---- copies of the sign in all four bytes
abbrev filled : Byte → Word
filled s = bytes s s s s

abbrev sign_difference : Width → Word → Word
sign_difference w x = difference_of (word_of 0) (shifted_of shiftop.Shr (and_of x (word_of (top_mask w))) (word_of (top w)))

pub negative_bit : (b : Bool) → difference_of (word_of 0) (word_of (one_if b)) ≡ word_of (cond b 4294967295 0)
negative_bit true = difference_words 0 1 (lit< tt)
negative_bit false = difference_words 0 0 (lit< tt) ∙ word_to 4294967296 0 refl

filled_by : (b : Bool) → WordLessSpecified (filled (Known (cond b 255 0))) (word_of (cond b 4294967295 0))
unfolding word_of
filled_by true = record { b0 = (refl, lit< tt); b1 = (refl, lit< tt); b2 = (refl, lit< tt); b3 = (refl, lit< tt) }
filled_by false = record { b0 = (refl, lit< tt); b1 = (refl, lit< tt); b2 = (refl, lit< tt); b3 = (refl, lit< tt) }

filled_matches : (w : Width) (a x : Word) → CutMatches (size_of w) a x → WordLessSpecified (filled (sign_byte (top_byte (size_of w) a))) (sign_difference w x)
filled_matches w a x h = cases (top_byte (size_of w) a) refl
  where
    cases : (t : Byte) → top_byte (size_of w) a ≡ t → WordLessSpecified (filled (sign_byte t)) (sign_difference w x)
    cases Unspecified e = record { b0 = tt; b1 = tt; b2 = tt; b3 = tt }
    cases (Known k) e =
        let q = top_alone w k a x h e in
        let d : sign_difference w x ≡ word_of (cond (leb 128 k) 4294967295 0) =
        ap (difference_of (word_of 0)) (ap (λ y. shifted_of shiftop.Shr y (word_of (top w))) q.0 ∙ top_bit w k q.1 ∙ same_word _ _ (highest One k q.1)) ∙ negative_bit (leb 128 k) in
        subst (WordLessSpecified (filled (Known (cond (leb 128 k) 255 0)))) (sym d) (filled_by (leb 128 k))

-- ---- the bytes of a width, and copies of the sign above it
abbrev joined_left : Width → Width → Word → Word
joined_left wide w a = (bitwise bit.Or 4 (cut (size_of w) a) (bitwise bit.And 4 (filled (sign_byte (top_byte (size_of w) a))) (word_of (above wide w))).value).value

abbrev joined : Width → Width → Word → Word
joined wide w x = or_of x (and_of (sign_difference w x) (word_of (above wide w)))

joined_matches : LogicLaws → (wide w : Width) (a x : Word) → CutMatches (size_of w) a x → WordLessSpecified (joined_left wide w a) (joined wide w x)
unfolding and_of or_of
joined_matches laws wide w a x h =
    let s = sign_byte (top_byte (size_of w) a) in
    let ones = word_of (above wide w) in
    let f = (laws.bitwise_less bit.And 4 (filled s) ones (sign_difference w x) ones refl (filled_matches w a x h) (word_below (above wide w))).value in
    (laws.bitwise_less bit.Or 4 (cut (size_of w) a) (bitwise bit.And 4 (filled s) ones).value x (bitwise bit.And 4 (sign_difference w x) ones).value refl h f).value

-- where nothing stands above
same_width : (w : Width) (a : Word) → joined_left w w a ≡ cut (size_of w) a
unfolding bitwise cut word_of
same_width One a = let s = sign_byte a.b0 in same_bytes _ _ _ _ _ _ _ _ (or_off a.b0 s) (or_off (Known 0) s) (or_off (Known 0) s) (or_off (Known 0) s)
same_width Two a = let s = sign_byte a.b1 in same_bytes _ _ _ _ _ _ _ _ (or_off a.b0 s) (or_off a.b1 s) (or_off (Known 0) s) (or_off (Known 0) s)
same_width Four a = let s = sign_byte a.b3 in same_bytes _ _ _ _ _ _ _ _ (or_off a.b0 s) (or_off a.b1 s) (or_off a.b2 s) (or_off a.b3 s)

two_of_one : (a : Word) → joined_left Two One a ≡ cut 2 (sign_extended 1 a)
unfolding bitwise cut word_of sign_extended
two_of_one a = let s = sign_byte a.b0 in same_bytes _ _ _ _ _ _ _ _ (or_off a.b0 s) (or_on a.b0) (or_off (Known 0) s) (or_off (Known 0) s)

four_of_one : (a : Word) → joined_left Four One a ≡ cut 4 (sign_extended 1 a)
unfolding bitwise cut word_of sign_extended
four_of_one a = let s = sign_byte a.b0 in same_bytes _ _ _ _ _ _ _ _ (or_off a.b0 s) (or_on a.b0) (or_on a.b0) (or_on a.b0)

four_of_two : (a : Word) → joined_left Four Two a ≡ cut 4 (sign_extended 2 a)
unfolding bitwise cut word_of sign_extended
four_of_two a = let s = sign_byte a.b1 in same_bytes _ _ _ _ _ _ _ _ (or_off a.b0 s) (or_off a.b1 s) (or_on a.b1) (or_on a.b1)

same_extended : (w : Width) (a : Word) → cut (size_of w) a ≡ cut (size_of w) (sign_extended (size_of w) a)
unfolding cut sign_extended
same_extended One a = refl
same_extended Two a = refl
same_extended Four a = refl

-- a result that isn't cut any more
wide_matches : LogicLaws → (wide w : Width) (a x : Word) → CutMatches (size_of w) a x → joined_left wide w a ≡ cut (size_of wide) (sign_extended (size_of w) a) → CutMatches (size_of wide) (cut (size_of wide) (sign_extended (size_of w) a)) (joined wide w x)
wide_matches laws wide w a x h e = subst (λ z. WordLessSpecified z (joined wide w x)) (e ∙ sym (cut_again wide (sign_extended (size_of w) a))) (joined_matches laws wide w a x h)

-- and one that is cut
narrow_matches : LogicLaws → (wide w : Width) (a x : Word) → CutMatches (size_of w) a x → cut (size_of wide) (joined_left wide w a) ≡ cut (size_of wide) (sign_extended (size_of w) a) →
    CutMatches (size_of wide) (cut (size_of wide) (sign_extended (size_of w) a)) (and_of (joined wide w x) (word_of (mask wide)))
narrow_matches laws wide w a x h e = subst (λ z. WordLessSpecified z (and_of (joined wide w x) (word_of (mask wide)))) (e ∙ sym (cut_again wide (sign_extended (size_of w) a))) (mask_matches wide (joined_left wide w a) (joined wide w x) (joined_matches laws wide w a x h))

narrower : (wide w : Width) (a : Word) → cut (size_of wide) (cut (size_of w) a) ≡ cut (size_of wide) (sign_extended (size_of w) a) → joined_left wide w a ≡ joined_left w w a → cut (size_of wide) (joined_left wide w a) ≡ cut (size_of wide) (sign_extended (size_of w) a)
narrower wide w a e g = ap (cut (size_of wide)) (g ∙ same_width w a) ∙ e

one_of_two : (a : Word) → cut 1 (cut 2 a) ≡ cut 1 (sign_extended 2 a)
unfolding cut sign_extended
one_of_two a = refl

one_of_four : (a : Word) → cut 1 (cut 4 a) ≡ cut 1 (sign_extended 4 a)
unfolding cut sign_extended
one_of_four a = refl

two_of_four : (a : Word) → cut 2 (cut 4 a) ≡ cut 2 (sign_extended 4 a)
unfolding cut sign_extended
two_of_four a = refl

pub extend_computes : LogicLaws → (wide w : Width) → ComputesOne (size_of w) (size_of wide) (λ f x. extend_computed (size_of wide) (size_of w) f x) (extend_core wide w)
unfolding perform performs
extend_computes laws One One = record { computes = λ turn a f u x g. record { change = changed u _ refl refl refl refl refl; values = (wide_matches laws One One a (u.temps 1) x (same_width One a ∙ same_extended One a), tt); flags = g } }
extend_computes laws Two Two = record { computes = λ turn a f u x g. record { change = changed u _ refl refl refl refl refl; values = (wide_matches laws Two Two a (u.temps 1) x (same_width Two a ∙ same_extended Two a), tt); flags = g } }
extend_computes laws Four Four = record { computes = λ turn a f u x g. record { change = changed u _ refl refl refl refl refl; values = (wide_matches laws Four Four a (u.temps 1) x (same_width Four a ∙ same_extended Four a), tt); flags = g } }
extend_computes laws Two One = record { computes = λ turn a f u x g. record { change = changed u _ refl refl refl refl refl; values = (wide_matches laws Two One a (u.temps 1) x (two_of_one a), tt); flags = g } }
extend_computes laws Four One = record { computes = λ turn a f u x g. record { change = changed u _ refl refl refl refl refl; values = (wide_matches laws Four One a (u.temps 1) x (four_of_one a), tt); flags = g } }
extend_computes laws Four Two = record { computes = λ turn a f u x g. record { change = changed u _ refl refl refl refl refl; values = (wide_matches laws Four Two a (u.temps 1) x (four_of_two a), tt); flags = g } }
extend_computes laws One Two = record { computes = λ turn a f u x g. record { change = changed u _ refl refl refl refl refl; values = (narrow_matches laws One Two a (u.temps 1) x (narrower One Two a (one_of_two a) refl), tt); flags = g } }
extend_computes laws One Four = record { computes = λ turn a f u x g. record { change = changed u _ refl refl refl refl refl; values = (narrow_matches laws One Four a (u.temps 1) x (narrower One Four a (one_of_four a) refl), tt); flags = g } }
extend_computes laws Two Four = record { computes = λ turn a f u x g. record { change = changed u _ refl refl refl refl refl; values = (narrow_matches laws Two Four a (u.temps 1) x (narrower Two Four a (two_of_four a) refl), tt); flags = g } }

-- ---- the sign alone
spread_matches : (w : Width) (a x : Word) → CutMatches (size_of w) a x → CutMatches (size_of w) (sign_word (size_of w) a) (and_of (sign_difference w x) (word_of (mask w)))
unfolding sign_word
spread_matches w a x h =
    let s = filled (sign_byte (top_byte (size_of w) a)) in
    subst (λ z. WordLessSpecified z (and_of (sign_difference w x) (word_of (mask w)))) (sym (cut_again w s)) (mask_matches w s (sign_difference w x) (filled_matches w a x h))

pub spread_computes : (w : Width) → ComputesOne (size_of w) (size_of w) (λ f x. spread_computed (size_of w) f x) (spread_core w)
unfolding perform performs
spread_computes w = record { computes = λ turn a f u x g. record { change = changed u _ refl refl refl refl refl; values = (spread_matches w a (u.temps 1) x, tt); flags = g } }
