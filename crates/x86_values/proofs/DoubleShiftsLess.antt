-- Double shifts are monotone in what is specified.
use Rattle.std.proofs.Common.{◌≡◌, ℕ, ◌%◌, ◌==◌, Bool, Option, Some, None, refl}
use Rattle.x86_values.specs.declared.byte.Byte.{Byte}
use Rattle.x86_values.specs.declared.byte.Byte.TheVariants.{Known, Unspecified}
use Rattle.x86_values.specs.declared.word.Word.{Word}
use Rattle.x86_values.specs.declared.word.Flags.{Flags}
use Rattle.x86_values.specs.declared.answered.Answered.{Answered}
use Rattle.x86_values.specs.Sizes.{cut, number}
use Rattle.x86_values.specs.Results.{no_result}
use Rattle.x86_values.specs.DoubleShifts.{double_shifted, double_shifted_if, double_shift_by, double_shift}
use Rattle.x86_values.specs.LessSpecified.{ByteLessSpecified, WordLessSpecified, FlagsLessSpecified, AnsweredLessSpecified}
use Rattle.x86_values.specs.DoubleShiftLaws.{DoubleShiftLaws}
use Rattle.x86_values.proofs.LessSpecified.{same_number}
use Rattle.x86_values.proofs.ResultsLess.{no_flags_less, result_itself}
use Rattle.x86_values.proofs.ShiftsLess.{in_both}

no_four_bytes : (b : Answered) → AnsweredLessSpecified (no_result 4) b
unfolding cut
no_four_bytes b = record { value = record { b0 = tt; b1 = tt; b2 = tt; b3 = tt }; flags = no_flags_less b.flags }

double_shifted_less : (right : Bool) (a filler c : ℕ) → AnsweredLessSpecified (double_shifted right a filler c) (double_shifted right a filler c)
unfolding double_shifted
double_shifted_less right a filler c = result_itself 4 _ _ _

double_shifted_if_less : (right : Bool) (c : ℕ) (o p q r : Option ℕ) → ((a : ℕ) → o ≡ Some a → q ≡ Some a) → ((a : ℕ) → p ≡ Some a → r ≡ Some a) → AnsweredLessSpecified (double_shifted_if right o p c) (double_shifted_if right q r c)
double_shifted_if_less right c None p q r same also = no_four_bytes _
double_shifted_if_less right c (Some a) None q r same also = no_four_bytes _
double_shifted_if_less right c (Some a) (Some b) q r same also = rw (same a refl, also b refl) (double_shifted_less right a b c)

double_known_count : (right : Bool) (n : ℕ) (x y u v : Word) (f g : Flags) → WordLessSpecified x u → WordLessSpecified y v → FlagsLessSpecified f g → AnsweredLessSpecified (double_shift_by right x y (Some n) f) (double_shift_by right u v (Some n) g)
double_known_count right n x y u v f g h k l =
    in_both ((n % 32) == 0) _ _ _ _
    (record { value = h; flags = l })
    (double_shifted_if_less right (n % 32) (number 4 x) (number 4 y) (number 4 u) (number 4 v) (λ a e. (same_number 4 a x u refl h e).0) (λ a e. (same_number 4 a y v refl k e).0))

double_shift_less : (right : Bool) (x y u v : Word) (m n : Byte) (f g : Flags) → WordLessSpecified x u → WordLessSpecified y v → ByteLessSpecified m n → FlagsLessSpecified f g → AnsweredLessSpecified (double_shift right x y m f) (double_shift right u v n g)
unfolding double_shift
double_shift_less right x y u v Unspecified n f g h k l i = no_four_bytes _
double_shift_less right x y u v (Known m) n f g h k l i = rw l.0 (double_known_count right m x y u v f g h k i)

pub double_shift_laws : DoubleShiftLaws
double_shift_laws = record { double_shift_less = double_shift_less }
