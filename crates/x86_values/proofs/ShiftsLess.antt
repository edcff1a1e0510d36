-- Shifts and rotates are monotone in what is specified.
use Rattle.std.proofs.Common.{◌≡◌, ℕ, ◌%◌, ◌==◌, Bool, true, false, cond, Option, Some, None, refl}
use Rattle.std.proofs.lemmas.Nat.{mod_below}
use Rattle.x86_types.specs.declared.operation.ShiftOp.{ShiftOp}
use Rattle.x86_types.specs.declared.operation.ShiftOp.TheVariants.{Rol, Ror, Shl, Shr, Sar}
use Rattle.x86_values.specs.declared.byte.Byte.{Byte}
use Rattle.x86_values.specs.declared.byte.Byte.TheVariants.{Known, Unspecified}
use Rattle.x86_values.specs.declared.word.Word.{Word}
use Rattle.x86_values.specs.declared.word.Flags.{Flags}
use Rattle.x86_values.specs.declared.answered.Answered.{Answered}
use Rattle.x86_values.specs.Words.{word_of, known_byte}
use Rattle.x86_values.specs.Sizes.{IsSize, cut, no_word, number, full}
use Rattle.x86_values.specs.Results.{no_flags}
use Rattle.x86_values.specs.Shifts.{shifted, not_shifted, shifted_if, shift_by, shift}
use Rattle.x86_values.specs.LessSpecified.{ByteLessSpecified, FlagLessSpecified, WordLessSpecified, FlagsLessSpecified, AnsweredLessSpecified}
use Rattle.x86_values.specs.ShiftLaws.{ShiftLaws}
use Rattle.x86_values.proofs.LessSpecified.{lowest, same_number, less_specified}
use Rattle.x86_values.proofs.ResultsLess.{flag_itself, no_flags_less, number_itself, result_itself, nothing_known}
use Rattle.x86_values.proofs.ShiftsWithin.{right_shifted_within, left_rotated_within, right_rotated_within, left_then_right, right_then_left}
use Rattle.x86_values.proofs.SizeLemmas.{full_bounds}

-- flags of which CF and OF are set anew
two_set : (f g : Flags) (c d o p : Option Bool) → FlagsLessSpecified f g → FlagLessSpecified c d → FlagLessSpecified o p → FlagsLessSpecified (record f { cf = c; of = o }) (record g { cf = d; of = p })
two_set f g c d o p h k l = record { cf = k; pf = h.pf; zf = h.zf; sf = h.sf; of = l }

-- ---- values
in_range : (size n : ℕ) → IsSize size → WordLessSpecified (cut size no_word) (word_of (n % full size))
in_range size n s = nothing_known size (n % full size) s (mod_below n (full size) (full_bounds size s).1)

-- ---- answers
either : (b : Bool) (p q r : Answered) → AnsweredLessSpecified p q → AnsweredLessSpecified p r → AnsweredLessSpecified p (cond b q r)
either true p q r h k = h
either false p q r h k = k

pub in_both : (b : Bool) (p q r s : Answered) → AnsweredLessSpecified p r → AnsweredLessSpecified q s → AnsweredLessSpecified (cond b p q) (cond b r s)
in_both true p q r s h k = h
in_both false p q r s h k = k

-- ---- shifts: where nothing is known on the left
nothing_kept : (kind : ShiftOp) (size : ℕ) (u : Word) (f g : Flags) → FlagsLessSpecified f g → AnsweredLessSpecified (not_shifted kind size f) (record { value = cut size u; flags = g })
nothing_kept Rol size u f g h = record { value = less_specified.nothing size u; flags = two_set f g None g.cf None g.of h tt tt }
nothing_kept Ror size u f g h = record { value = less_specified.nothing size u; flags = two_set f g None g.cf None g.of h tt tt }
nothing_kept Shl size u f g h = record { value = less_specified.nothing size u; flags = no_flags_less g }
nothing_kept Shr size u f g h = record { value = less_specified.nothing size u; flags = no_flags_less g }
nothing_kept Sar size u f g h = record { value = less_specified.nothing size u; flags = no_flags_less g }

nothing_shifted : (kind : ShiftOp) (size a c : ℕ) (f g : Flags) → IsSize size → FlagsLessSpecified f g → AnsweredLessSpecified (not_shifted kind size f) (shifted kind size a c g)
unfolding shifted
nothing_shifted Rol size a c f g s h = record { value = in_range size _ s; flags = two_set f g None _ None _ h tt tt }
nothing_shifted Ror size a c f g s h = record { value = in_range size _ s; flags = two_set f g None _ None _ h tt tt }
nothing_shifted Shl size a c f g s h = record { value = in_range size _ s; flags = no_flags_less _ }
nothing_shifted Shr size a c f g s h = record { value = in_range size _ s; flags = no_flags_less _ }
nothing_shifted Sar size a c f g s h = record { value = in_range size _ s; flags = no_flags_less _ }

nothing_itself : (kind : ShiftOp) (size : ℕ) (f g : Flags) → FlagsLessSpecified f g → AnsweredLessSpecified (not_shifted kind size f) (not_shifted kind size g)
nothing_itself Rol size f g h = record { value = less_specified.nothing size no_word; flags = two_set f g None None None None h tt tt }
nothing_itself Ror size f g h = record { value = less_specified.nothing size no_word; flags = two_set f g None None None None h tt tt }
nothing_itself Shl size f g h = record { value = less_specified.nothing size no_word; flags = no_flags_less no_flags }
nothing_itself Shr size f g h = record { value = less_specified.nothing size no_word; flags = no_flags_less no_flags }
nothing_itself Sar size f g h = record { value = less_specified.nothing size no_word; flags = no_flags_less no_flags }

unknown_operand : (kind : ShiftOp) (size c : ℕ) (o : Option ℕ) (f g : Flags) → IsSize size → FlagsLessSpecified f g → AnsweredLessSpecified (not_shifted kind size f) (shifted_if kind size o c g)
unknown_operand kind size c None f g s h = nothing_itself kind size f g h
unknown_operand kind size c (Some a) f g s h = nothing_shifted kind size a c f g s h

unknown_count : (kind : ShiftOp) (size : ℕ) (u : Word) (o : Option ℕ) (f g : Flags) → IsSize size → FlagsLessSpecified f g → AnsweredLessSpecified (not_shifted kind size f) (shift_by kind size u o g)
unknown_count kind size u None f g s h = nothing_itself kind size f g h
unknown_count kind size u (Some n) f g s h = either ((n % 32) == 0) _ _ _ (nothing_kept kind size u f g h) (unknown_operand kind size (n % 32) (number size u) f g s h)

-- ---- and where a number is
shifted_less : (kind : ShiftOp) (size a c : ℕ) (f g : Flags) → FlagsLessSpecified f g → AnsweredLessSpecified (shifted kind size a c f) (shifted kind size a c g)
unfolding shifted
shifted_less Rol size a c f g h = record { value = number_itself _; flags = two_set f g _ _ _ _ h (flag_itself _) (flag_itself _) }
shifted_less Ror size a c f g h = record { value = number_itself _; flags = two_set f g _ _ _ _ h (flag_itself _) (flag_itself _) }
shifted_less Shl size a c f g h = result_itself size _ _ _
shifted_less Shr size a c f g h = result_itself size _ _ _
shifted_less Sar size a c f g h = result_itself size _ _ _

shifted_if_less : (kind : ShiftOp) (size c : ℕ) (o p : Option ℕ) (f g : Flags) → IsSize size → ((a : ℕ) → o ≡ Some a → p ≡ Some a) → FlagsLessSpecified f g → AnsweredLessSpecified (shifted_if kind size o c f) (shifted_if kind size p c g)
shifted_if_less kind size c None p f g s same h = unknown_operand kind size c p f g s h
shifted_if_less kind size c (Some a) p f g s same h = rw (same a refl) (shifted_less kind size a c f g h)

known_count : (kind : ShiftOp) (size n : ℕ) (x u : Word) (f g : Flags) → IsSize size → WordLessSpecified x u → FlagsLessSpecified f g → AnsweredLessSpecified (shift_by kind size x (Some n) f) (shift_by kind size u (Some n) g)
known_count kind size n x u f g s h k =
    in_both ((n % 32) == 0) _ _ _ _
    (record { value = lowest size x u h; flags = k })
    (shifted_if_less kind size (n % 32) (number size x) (number size u) f g s (λ a e. (same_number size a x u s h e).0) k)

shift_less : (kind : ShiftOp) (size : ℕ) (x u : Word) (m n : Byte) (f g : Flags) → IsSize size → WordLessSpecified x u → ByteLessSpecified m n → FlagsLessSpecified f g → AnsweredLessSpecified (shift kind size x m f) (shift kind size u n g)
unfolding shift
shift_less kind size x u Unspecified n f g s h k l = unknown_count kind size u (known_byte n) f g s l
shift_less kind size x u (Known m) n f g s h k l = rw k.0 (known_count kind size m x u f g s h l)

pub shift_laws : ShiftLaws
shift_laws = record {
  shift_less = shift_less;
  right_shifted_within = right_shifted_within;
  left_rotated_within = left_rotated_within;
  right_rotated_within = right_rotated_within;
  left_then_right = left_then_right;
  right_then_left = right_then_left;
}
