-- The core of BSWAP: each byte is taken alone, moved and joined to the others.
use Rattle.std.proofs.Common.{◌≡◌, ℕ, ◌*◌, ◌/◌, ◌%◌, ◌<◌, refl, ◌∙◌, ap, subst, arith, lit<}
use Rattle.x86_types.specs.declared.operation.ShiftOp.TheVariants as shiftop
use Rattle.x86_values.specs.declared.byte.Byte.{Byte}
use Rattle.x86_values.specs.declared.byte.Byte.TheVariants.{Known, Unspecified}
use Rattle.x86_values.specs.declared.word.Word.{Word}
use Rattle.x86_values.specs.declared.logic.Bit.TheVariants as bit
use Rattle.x86_values.specs.WrittenOut.{bytes}
use Rattle.x86_values.specs.Words.{word_of}
use Rattle.x86_values.specs.Sizes.{cut}
use Rattle.x86_values.specs.Logic.{bitwise, or_byte}
use Rattle.x86_values.specs.LogicLaws.{LogicLaws}
use Rattle.x86_values.specs.Extensions.{bytes_swapped}
use Rattle.x86_values.specs.LessSpecified.{ByteLessSpecified, WordLessSpecified}
use Rattle.x86_meaning.specs.Outcomes.{swap_computed}
use Rattle.flag_ir.specs.Calculations.{and_of, or_of, shifted_of}
use Rattle.flag_ir.specs.Operations.{perform, performs}
use Rattle.lift_relation.specs.Cores.{CutMatches, ComputesOne}
use Rattle.lift_values.specs.Extensions.{swap_core}
use Rattle.lift_values.proofs.WordLemmas.{same_bytes, same_byte, word_below, byte_off, byte_on, shr_words, shl_words}
use Rattle.lift_values.proofs.FlagLemmas.{changed}
use Rattle.lift_values.proofs.ExtensionLemmas.{IsKnownByte, byte_stays, or_none, or_left}

-- ---- a byte that is known, alone
first_alone : (k : ℕ) (x : Word) → IsKnownByte k x.b0 → and_of x (word_of 0xFF) ≡ word_of k
unfolding and_of bitwise cut word_of
first_alone k x h = let l : k < 256 = h.fits in same_bytes _ _ _ _ _ _ _ _ (byte_stays k x.b0 h ∙ same_byte _ _ (omega (arith, l))) (byte_off x.b1 ∙ same_byte _ _ (omega (arith, l))) (byte_off x.b2 ∙ same_byte _ _ (omega (arith, l))) (byte_off x.b3 ∙ same_byte _ _ (omega (arith, l)))

second_alone : (k : ℕ) (x : Word) → IsKnownByte k x.b1 → and_of x (word_of 0xFF00) ≡ word_of (k * 256)
unfolding and_of bitwise cut word_of
second_alone k x h = let l : k < 256 = h.fits in same_bytes _ _ _ _ _ _ _ _ (byte_off x.b0 ∙ same_byte _ _ (omega (arith, l))) (byte_stays k x.b1 h ∙ same_byte _ _ (omega (arith, l))) (byte_off x.b2 ∙ same_byte _ _ (omega (arith, l))) (byte_off x.b3 ∙ same_byte _ _ (omega (arith, l)))

third_alone : (k : ℕ) (x : Word) → IsKnownByte k x.b2 → and_of x (word_of 0xFF0000) ≡ word_of (k * 65536)
unfolding and_of bitwise cut word_of
third_alone k x h = let l : k < 256 = h.fits in same_bytes _ _ _ _ _ _ _ _ (byte_off x.b0 ∙ same_byte _ _ (omega (arith, l))) (byte_off x.b1 ∙ same_byte _ _ (omega (arith, l))) (byte_stays k x.b2 h ∙ same_byte _ _ (omega (arith, l))) (byte_off x.b3 ∙ same_byte _ _ (omega (arith, l)))

fourth_alone : (k : ℕ) (x : Word) → IsKnownByte k x.b3 → and_of x (word_of 0xFF000000) ≡ word_of (k * 16777216)
unfolding and_of bitwise cut word_of
fourth_alone k x h = let l : k < 256 = h.fits in same_bytes _ _ _ _ _ _ _ _ (byte_off x.b0 ∙ same_byte _ _ (omega (arith, l))) (byte_off x.b1 ∙ same_byte _ _ (omega (arith, l))) (byte_off x.b2 ∙ same_byte _ _ (omega (arith, l))) (byte_stays k x.b3 h ∙ same_byte _ _ (omega (arith, l)))

-- ---- what a mask leaves of a word, of which one byte matches
zero_byte : (y : Byte) → y ≡ Known 0 → ByteLessSpecified (Known 0) y
zero_byte y e = (e, lit< tt)

first_masked : (b : Byte) (y : Word) → ByteLessSpecified b y.b0 → WordLessSpecified (bytes b (Known 0) (Known 0) (Known 0)) (and_of y (word_of 0xFF))
unfolding and_of bitwise cut word_of
first_masked b y h = record { b0 = byte_on b y.b0 h; b1 = zero_byte _ (byte_off y.b1); b2 = zero_byte _ (byte_off y.b2); b3 = zero_byte _ (byte_off y.b3) }

second_masked : (b : Byte) (y : Word) → ByteLessSpecified b y.b1 → WordLessSpecified (bytes (Known 0) b (Known 0) (Known 0)) (and_of y (word_of 0xFF00))
unfolding and_of bitwise cut word_of
second_masked b y h = record { b0 = zero_byte _ (byte_off y.b0); b1 = byte_on b y.b1 h; b2 = zero_byte _ (byte_off y.b2); b3 = zero_byte _ (byte_off y.b3) }

third_masked : (b : Byte) (y : Word) → ByteLessSpecified b y.b2 → WordLessSpecified (bytes (Known 0) (Known 0) b (Known 0)) (and_of y (word_of 0xFF0000))
unfolding and_of bitwise cut word_of
third_masked b y h = record { b0 = zero_byte _ (byte_off y.b0); b1 = zero_byte _ (byte_off y.b1); b2 = byte_on b y.b2 h; b3 = zero_byte _ (byte_off y.b3) }

fourth_masked : (b : Byte) (y : Word) → ByteLessSpecified b y.b3 → WordLessSpecified (bytes (Known 0) (Known 0) (Known 0) b) (and_of y (word_of 0xFF000000))
unfolding and_of bitwise cut word_of
fourth_masked b y h = record { b0 = zero_byte _ (byte_off y.b0); b1 = zero_byte _ (byte_off y.b1); b2 = zero_byte _ (byte_off y.b2); b3 = byte_on b y.b3 h }

-- ---- each byte, moved
first_moved : (b : Byte) (x : Word) → ByteLessSpecified b x.b0 → ByteLessSpecified b (shifted_of shiftop.Shl (and_of x (word_of 0xFF)) (word_of 24)).b3
unfolding word_of
first_moved Unspecified x h = tt
first_moved (Known k) x h =
    let l : k < 256 = h.1 in
    let e = ap (λ y. shifted_of shiftop.Shl y (word_of 24)) (first_alone k x (record { is = h.0; fits = l })) ∙ shl_words k 24 (omega (arith, l)) (lit< tt) in
    (ap (λ y. y.b3) e ∙ same_byte _ _ (let q : k * 16777216 / 16777216 % 256 ≡ k = omega (arith, l) in q), l)

second_moved : (b : Byte) (x : Word) → ByteLessSpecified b x.b1 → ByteLessSpecified b (shifted_of shiftop.Shl (and_of x (word_of 0xFF00)) (word_of 8)).b2
unfolding word_of
second_moved Unspecified x h = tt
second_moved (Known k) x h =
    let l : k < 256 = h.1 in
    let e = ap (λ y. shifted_of shiftop.Shl y (word_of 8)) (second_alone k x (record { is = h.0; fits = l })) ∙ shl_words (k * 256) 8 (omega (arith, l)) (lit< tt) in
    (ap (λ y. y.b2) e ∙ same_byte _ _ (let q : k * 256 * 256 / 65536 % 256 ≡ k = omega (arith, l) in q), l)

third_moved : (b : Byte) (x : Word) → ByteLessSpecified b x.b2 → ByteLessSpecified b (shifted_of shiftop.Shr (and_of x (word_of 0xFF0000)) (word_of 8)).b1
unfolding word_of
third_moved Unspecified x h = tt
third_moved (Known k) x h =
    let l : k < 256 = h.1 in
    let e = ap (λ y. shifted_of shiftop.Shr y (word_of 8)) (third_alone k x (record { is = h.0; fits = l })) ∙ shr_words (k * 65536) 8 (omega (arith, l)) (lit< tt) in
    (ap (λ y. y.b1) e ∙ same_byte _ _ (let q : k * 65536 / 256 / 256 % 256 ≡ k = omega (arith, l) in q), l)

fourth_moved : (b : Byte) (x : Word) → ByteLessSpecified b x.b3 → ByteLessSpecified b (shifted_of shiftop.Shr (and_of x (word_of 0xFF000000)) (word_of 24)).b0
unfolding word_of
fourth_moved Unspecified x h = tt
fourth_moved (Known k) x h =
    let l : k < 256 = h.1 in
    let e = ap (λ y. shifted_of shiftop.Shr y (word_of 24)) (fourth_alone k x (record { is = h.0; fits = l })) ∙ shr_words (k * 16777216) 24 (omega (arith, l)) (lit< tt) in
    (ap (λ y. y.b0) e ∙ same_byte _ _ (let q : k * 16777216 / 16777216 % 256 ≡ k = omega (arith, l) in q), l)

-- ---- all joined
join_matches : LogicLaws → (a b x y : Word) → WordLessSpecified a x → WordLessSpecified b y → WordLessSpecified (bitwise bit.Or 4 a b).value (or_of x y)
unfolding or_of
join_matches laws a b x y h k = (laws.bitwise_less bit.Or 4 a b x y refl h k).value

abbrev join : Word → Word → Word
join a b = (bitwise bit.Or 4 a b).value

abbrev all_joined : Word → Word
all_joined a = join (join (join (join (word_of 0) (bytes (Known 0) (Known 0) (Known 0) a.b0)) (bytes (Known 0) (Known 0) a.b1 (Known 0))) (bytes (Known 0) a.b2 (Known 0) (Known 0))) (bytes a.b3 (Known 0) (Known 0) (Known 0))

is_swapped : (a : Word) → all_joined a ≡ cut 4 (bytes_swapped a)
unfolding bitwise cut word_of
is_swapped a = same_bytes _ _ _ _ _ _ _ _ (or_left a.b3) (or_none (or_byte (Known 0) a.b2) ∙ or_left a.b2) (or_none _ ∙ or_none (or_byte (Known 0) a.b1) ∙ or_left a.b1) (or_none _ ∙ or_none _ ∙ or_none (or_byte (Known 0) a.b0) ∙ or_left a.b0)

abbrev swapped : Word → Word
swapped x =
    or_of (or_of (or_of (or_of (word_of 0) (and_of (shifted_of shiftop.Shl (and_of x (word_of 0xFF)) (word_of 24)) (word_of 0xFF000000)))
    (and_of (shifted_of shiftop.Shl (and_of x (word_of 0xFF00)) (word_of 8)) (word_of 0xFF0000)))
    (and_of (shifted_of shiftop.Shr (and_of x (word_of 0xFF0000)) (word_of 8)) (word_of 0xFF00)))
    (and_of (shifted_of shiftop.Shr (and_of x (word_of 0xFF000000)) (word_of 24)) (word_of 0xFF))

swap_matches : LogicLaws → (a x : Word) → CutMatches 4 a x → CutMatches 4 (bytes_swapped a) (swapped x)
unfolding cut
swap_matches laws a x h =
    let p = join_matches laws _ _ _ _ (word_below 0) (fourth_masked a.b0 _ (first_moved a.b0 x h.b0)) in
    let q = join_matches laws _ _ _ _ p (third_masked a.b1 _ (second_moved a.b1 x h.b1)) in
    let r = join_matches laws _ _ _ _ q (second_masked a.b2 _ (third_moved a.b2 x h.b2)) in
    subst (λ z. WordLessSpecified z (swapped x)) (is_swapped a) (join_matches laws _ _ _ _ r (first_masked a.b3 _ (fourth_moved a.b3 x h.b3)))

pub swap_computes : LogicLaws → ComputesOne 4 4 (λ f x. swap_computed f x) swap_core
unfolding perform performs
swap_computes laws = record { computes = λ turn a f u x g. record { change = changed u _ refl refl refl refl refl; values = (swap_matches laws a (u.temps 1) x, tt); flags = g } }
