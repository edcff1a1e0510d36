-- The cores of sums and differences: ADD, ADC, SUB, SBB, CMP, INC, DEC, NEG (Intel SDM volume 2, each instruction). How they are computed is
-- own.
use Rattle.std.specs.Prelude.{List, [], ◌∷◌, ◌++◌}
use Rattle.x86_types.specs.declared.width.Width.{Width}
use Rattle.flag_ir.specs.declared.variable.Term.{Term}
use Rattle.flag_ir.specs.declared.operation.Calc.{Calc}
use Rattle.flag_ir.specs.declared.operation.Calc.TheVariants as calc
use Rattle.flag_ir.specs.declared.operation.Op.{Op}
use Rattle.lift_values.specs.Terms.{temp, flag, word, to_temp, to_flag, pick_flag, mask, top}
use Rattle.lift_values.specs.Flags.{result_flags}

-- ---- the result, to temporary 4: without a carry, and with CF
abbrev pub total : Calc → Width → Term → Term → List Op
total c w x y = to_temp 4 c x y ∷ to_temp 4 calc.And (temp 4) (word (mask w)) ∷ []

abbrev pub total_with_carry : Calc → Width → Term → Term → List Op
total_with_carry c w x y = to_temp 4 c x y ∷ to_temp 4 c (temp 4) (flag 0) ∷ to_temp 4 calc.And (temp 4) (word (mask w)) ∷ []

-- ---- CF: x is below y; where CF was set, y isn't below x
abbrev pub below : Term → Term → List Op
below x y = to_flag 0 calc.Ltu x y ∷ []

abbrev pub below_with_carry : Term → Term → List Op
below_with_carry x y =
    to_temp 6 calc.Ltu x y ∷ to_temp 7 calc.Ltu y x ∷ to_temp 7 calc.Xor (temp 7) (word 1) ∷ pick_flag 0 (flag 0) (temp 7) (temp 6) ∷ []

-- ---- OF, by the highest bits of the operands and SF: the signs of both operands of a sum differ from it; in a difference the first one's
-- does, and differs from the second one's
abbrev pub sum_overflow : Width → Term → Term → List Op
sum_overflow w x y =
    to_temp 6 calc.Shr x (word (top w)) ∷ to_temp 7 calc.Shr y (word (top w)) ∷
    to_temp 6 calc.Xor (temp 6) (flag 3) ∷ to_temp 7 calc.Xor (temp 7) (flag 3) ∷ to_flag 4 calc.And (temp 6) (temp 7) ∷ []

abbrev pub difference_overflow : Width → Term → Term → List Op
difference_overflow w x y =
    to_temp 6 calc.Shr x (word (top w)) ∷ to_temp 7 calc.Shr y (word (top w)) ∷
    to_temp 7 calc.Xor (temp 6) (temp 7) ∷ to_temp 6 calc.Xor (temp 6) (flag 3) ∷ to_flag 4 calc.And (temp 6) (temp 7) ∷ []

-- the flags of both but CF
abbrev pub sum_flags : Width → Term → Term → List Op
sum_flags w x y = result_flags w ++ sum_overflow w x y

abbrev pub difference_flags : Width → Term → Term → List Op
difference_flags w x y = result_flags w ++ difference_overflow w x y

-- ---- the cores, of the operands in temporaries 1 and 2
abbrev pub add_core : Width → List Op
add_core w = total calc.Add w (temp 1) (temp 2) ++ below (temp 4) (temp 1) ++ sum_flags w (temp 1) (temp 2)

abbrev pub adc_core : Width → List Op
adc_core w = total_with_carry calc.Add w (temp 1) (temp 2) ++ below_with_carry (temp 4) (temp 1) ++ sum_flags w (temp 1) (temp 2)

abbrev pub sub_core : Width → List Op
sub_core w = total calc.Sub w (temp 1) (temp 2) ++ below (temp 1) (temp 2) ++ difference_flags w (temp 1) (temp 2)

abbrev pub sbb_core : Width → List Op
sbb_core w = total_with_carry calc.Sub w (temp 1) (temp 2) ++ below_with_carry (temp 1) (temp 2) ++ difference_flags w (temp 1) (temp 2)

abbrev pub inc_core : Width → List Op
inc_core w = total calc.Add w (temp 1) (word 1) ++ sum_flags w (temp 1) (word 1)

abbrev pub dec_core : Width → List Op
dec_core w = total calc.Sub w (temp 1) (word 1) ++ difference_flags w (temp 1) (word 1)

abbrev pub neg_core : Width → List Op
neg_core w = total calc.Sub w (word 0) (temp 1) ++ below (word 0) (temp 1) ++ difference_flags w (word 0) (temp 1)
