-- Parts of words that are read and written.
use Rattle.std.proofs.Common.{◌≡◌, ℕ, ◌+◌, ◌*◌, ◌/◌, ◌%◌, ◌<◌, ◌==◌, Bool, true, false, cond, refl, sym, ◌∙◌, ap, subst, arith, bit_or}
use Rattle.std.proofs.lemmas.Bool.{eqb-true}
use Rattle.std.proofs.lemmas.Nat.{or_comm}
use Rattle.x86_values.specs.declared.byte.Byte.{Byte}
use Rattle.x86_values.specs.declared.byte.Byte.TheVariants.{Known, Unspecified}
use Rattle.x86_values.specs.declared.word.Word.{Word}
use Rattle.x86_values.specs.Words.{word_of}
use Rattle.x86_values.specs.Sizes.{cut}
use Rattle.x86_values.specs.LessSpecified.{ByteLessSpecified, WordLessSpecified}
use Rattle.x86_values.specs.Logic.{and_byte, or_byte, bitwise}
use Rattle.x86_types.specs.declared.operation.ShiftOp.TheVariants as shiftop
use Rattle.flag_ir.specs.Calculations.{and_of, or_of, shifted_of}
use Rattle.lift_relation.specs.Cores.{CutMatches}
use Rattle.lift_core.proofs.Words.{four, same_four, same_known, byte_off, byte_on, zero_off, right_eight, left_eight}

-- ---- the second byte, read
second_word : (a : ℕ) (y : Word) → ByteLessSpecified (Known a) y.b1 → and_of y (word_of 0xFF00) ≡ word_of (a * 256)
unfolding and_of bitwise cut word_of
second_word a y h =
    let l : a < 256 = h.1 in
    let z : 0 ≡ a * 256 % 256 = omega arith in
    let o : a ≡ a * 256 / 256 % 256 = omega arith in
    let p : 0 ≡ a * 256 / 65536 % 256 = omega arith in
    let q : 0 ≡ a * 256 / 16777216 % 256 = omega arith in
    same_four _ _ _ _ _ _ _ _ (byte_off y.b0 ∙ same_known _ _ z) ((byte_on (Known a) y.b1 h).0 ∙ same_known _ _ o) (byte_off y.b2 ∙ same_known _ _ p) (byte_off y.b3 ∙ same_known _ _ q)

zeros_above : (y : Word) → WordLessSpecified (four Unspecified (Known 0) (Known 0) (Known 0)) (and_of y (word_of 0xFF))
unfolding and_of bitwise cut word_of
zeros_above y = record { b0 = tt; b1 = zero_off y.b1; b2 = zero_off y.b2; b3 = zero_off y.b3 }

known_second : (a : ℕ) → a < 256 → WordLessSpecified (four (Known a) (Known 0) (Known 0) (Known 0)) (and_of (word_of a) (word_of 0xFF))
unfolding and_of bitwise cut word_of
known_second a h =
    let e : a % 256 ≡ a = omega arith in
    record { b0 = byte_on (Known a) (Known (a % 256)) (same_known _ _ e, h); b1 = zero_off (word_of a).b1; b2 = zero_off (word_of a).b2; b3 = zero_off (word_of a).b3 }

pub second_read : (b : Byte) (y : Word) → ByteLessSpecified b y.b1 → WordLessSpecified (four b (Known 0) (Known 0) (Known 0)) (and_of (shifted_of shiftop.Shr (and_of y (word_of 0xFF00)) (word_of 8)) (word_of 0xFF))
second_read Unspecified y h = zeros_above _
second_read (Known a) y h =
    let l : a < 256 = h.1 in
    let e : (a * 256 + 0) / 256 % 4294967296 ≡ a = omega arith in
    let chain : shifted_of shiftop.Shr (and_of y (word_of 0xFF00)) (word_of 8) ≡ word_of a =
    ap (λ w. shifted_of shiftop.Shr w (word_of 8)) (second_word a y h) ∙ right_eight (a * 256) (omega (arith, l)) ∙ ap (λ x. word_of x) e in
    subst (λ w. WordLessSpecified (four (Known a) (Known 0) (Known 0) (Known 0)) (and_of w (word_of 0xFF))) (sym chain) (known_second a l)

-- ---- byte by byte, one of two is 0
full_or_not : (a b : ℕ) → b ≡ a → cond (a == 255) (Known 255) (Known b) ≡ Known a
full_or_not a b e = cases (a == 255) refl
  where
    cases : (t : Bool) → (a == 255) ≡ t → cond t (Known 255) (Known b) ≡ Known a
    cases true q = ap (λ n. Known n) (sym (eqb-true a 255 q))
    cases false q = ap (λ n. Known n) e

or_zero : (y : Byte) → or_byte (Known 0) y ≡ y
or_zero (Known a) = full_or_not a a refl
or_zero Unspecified = refl

zero_or : (y : Byte) → or_byte y (Known 0) ≡ y
zero_or (Known a) = full_or_not a (bit_or a 0) (or_comm a 0)
zero_or Unspecified = refl

-- the new byte where the old one is masked out, and the old one where the new is 0
new_byte : (b x y : Byte) → ByteLessSpecified b y → ByteLessSpecified b (or_byte (and_byte x (Known 0)) y)
new_byte b x y h = subst (ByteLessSpecified b) (sym (ap (λ z. or_byte z y) (byte_off x) ∙ or_zero y)) h

old_byte : (b x y : Byte) → ByteLessSpecified b x → y ≡ Known 0 → ByteLessSpecified b (or_byte (and_byte x (Known 255)) y)
old_byte b x y h e = subst (ByteLessSpecified b) (sym (ap (or_byte (and_byte x (Known 255))) e ∙ zero_or _)) (byte_on b x h)

pub merge_two : (v old x y : Word) → WordLessSpecified old x → CutMatches 2 v y → WordLessSpecified (four v.b0 v.b1 old.b2 old.b3) (or_of (and_of x (word_of 0xFFFF0000)) y)
unfolding or_of and_of bitwise cut word_of
merge_two v old x y h k = record { b0 = new_byte v.b0 x.b0 y.b0 k.b0; b1 = new_byte v.b1 x.b1 y.b1 k.b1; b2 = old_byte old.b2 x.b2 y.b2 h.b2 k.b2.0; b3 = old_byte old.b3 x.b3 y.b3 h.b3 k.b3.0 }

pub merge_low : (v old x y : Word) → WordLessSpecified old x → CutMatches 1 v y → WordLessSpecified (four v.b0 old.b1 old.b2 old.b3) (or_of (and_of x (word_of 0xFFFFFF00)) y)
unfolding or_of and_of bitwise cut word_of
merge_low v old x y h k = record { b0 = new_byte v.b0 x.b0 y.b0 k.b0; b1 = old_byte old.b1 x.b1 y.b1 h.b1 k.b1.0; b2 = old_byte old.b2 x.b2 y.b2 h.b2 k.b2.0; b3 = old_byte old.b3 x.b3 y.b3 h.b3 k.b3.0 }

-- the lowest byte, moved up
small_word : (a : ℕ) (y : Word) → a < 256 → CutMatches 1 (four (Known a) (Known 0) (Known 0) (Known 0)) y → y ≡ word_of a
unfolding cut word_of
small_word a y l h =
    let p : a ≡ a % 256 = omega arith in
    let q : 0 ≡ a / 256 % 256 = omega arith in
    let r : 0 ≡ a / 65536 % 256 = omega arith in
    let s : 0 ≡ a / 16777216 % 256 = omega arith in
    same_four _ _ _ _ _ _ _ _ (h.b0.0 ∙ same_known _ _ p) (h.b1.0 ∙ same_known _ _ q) (h.b2.0 ∙ same_known _ _ r) (h.b3.0 ∙ same_known _ _ s)

shifted_byte : (a : ℕ) → a < 256 → WordLessSpecified (four (Known 0) (Known a) (Known 0) (Known 0)) (and_of (word_of (a * 256)) (word_of 0xFF00))
unfolding and_of bitwise cut word_of
shifted_byte a l =
    let o : a * 256 / 256 % 256 ≡ a = omega arith in
    record { b0 = zero_off (word_of (a * 256)).b0; b1 = byte_on (Known a) (word_of (a * 256)).b1 (same_known _ _ o, l); b2 = zero_off (word_of (a * 256)).b2; b3 = zero_off (word_of (a * 256)).b3 }

nothing_second : (y : Word) → WordLessSpecified (four (Known 0) Unspecified (Known 0) (Known 0)) (and_of y (word_of 0xFF00))
unfolding and_of bitwise cut word_of
nothing_second y = record { b0 = zero_off _; b1 = tt; b2 = zero_off _; b3 = zero_off _ }

pub moved_up : (b : Byte) (y : Word) → CutMatches 1 (four b (Known 0) (Known 0) (Known 0)) y → WordLessSpecified (four (Known 0) b (Known 0) (Known 0)) (and_of (shifted_of shiftop.Shl y (word_of 8)) (word_of 0xFF00))
unfolding cut
moved_up Unspecified y h = nothing_second _
moved_up (Known a) y h =
    let l : a < 256 = h.b0.1 in
    let e : y ≡ word_of a = small_word a y l h in
    let m : a * 256 % 4294967296 ≡ a * 256 = omega arith in
    let g : shifted_of shiftop.Shl y (word_of 8) ≡ word_of (a * 256) = ap (λ z. shifted_of shiftop.Shl z (word_of 8)) e ∙ left_eight a (omega (arith, l)) ∙ ap (λ n. word_of n) m in
    subst (λ z. WordLessSpecified (four (Known 0) (Known a) (Known 0) (Known 0)) (and_of z (word_of 0xFF00))) (sym g) (shifted_byte a l)

lowest_alone : (v y : Word) → CutMatches 1 v y → CutMatches 1 (four v.b0 (Known 0) (Known 0) (Known 0)) y
unfolding cut
lowest_alone v y k = record { b0 = k.b0; b1 = k.b1; b2 = k.b2; b3 = k.b3 }

pub merge_high : (v old x y : Word) → WordLessSpecified old x → CutMatches 1 v y → WordLessSpecified (four old.b0 v.b0 old.b2 old.b3) (or_of (and_of x (word_of 0xFFFF00FF)) (and_of (shifted_of shiftop.Shl y (word_of 8)) (word_of 0xFF00)))
unfolding or_of and_of bitwise cut word_of
merge_high v old x y h k =
    let m = moved_up v.b0 y (lowest_alone v y k) in
    record { b0 = old_byte old.b0 x.b0 _ h.b0 m.b0.0; b1 = new_byte v.b0 x.b1 _ m.b1; b2 = old_byte old.b2 x.b2 _ h.b2 m.b2.0; b3 = old_byte old.b3 x.b3 _ h.b3 m.b3.0 }

-- all four bytes
pub whole : (v y : Word) → CutMatches 4 v y → WordLessSpecified v y
unfolding cut
whole v y k = record { b0 = k.b0; b1 = k.b1; b2 = k.b2; b3 = k.b3 }

pub whole_cut : (v y : Word) → WordLessSpecified v y → CutMatches 4 v y
unfolding cut
whole_cut v y k = record { b0 = k.b0; b1 = k.b1; b2 = k.b2; b3 = k.b3 }
