-- The lists of double shifts (Intel SDM volume 2, "SHLD", "SHRD"): the operand in temporary 1, the filler in temporary 2, the count in
-- temporary 3. The lists are own.
use Rattle.std.specs.Prelude.{Bool, true, false, List, [], ◌∷◌, ◌++◌}
use Rattle.x86_types.specs.declared.width.Width.TheVariants.{Four}
use Rattle.flag_ir.specs.declared.operation.Calc.TheVariants as calc
use Rattle.flag_ir.specs.declared.operation.Op.{Op}
use Rattle.lift_values.specs.Terms.{temp, word, to_temp}
use Rattle.lift_values.specs.ShiftPieces.{count_op, right_out_ops, left_out_ops, joined_ops, all_set_ops}

-- CF is the last bit that leaves the operand; what leaves the filler enters
abbrev pub shld_ops : List Op
shld_ops =
    to_temp 9 calc.Sub (word 32) (temp 6)
    ∷ (joined_ops Four (temp 1) (temp 6) (temp 2) (temp 9) ++ left_out_ops Four)

abbrev pub shrd_ops : List Op
shrd_ops =
    to_temp 8 calc.Sub (word 32) (temp 6)
    ∷ (joined_ops Four (temp 2) (temp 8) (temp 1) (temp 6) ++ right_out_ops calc.Shr (temp 1))

abbrev pub double_ops : Bool → List Op
double_ops false = shld_ops
double_ops true = shrd_ops

-- OF is set where the sign changes
abbrev pub sign_changed_ops : List Op
sign_changed_ops = to_temp 9 calc.Shr (temp 1) (word 31) ∷ to_temp 10 calc.Shr (temp 7) (word 31) ∷ to_temp 9 calc.Xor (temp 9) (temp 10) ∷ []

unfoldable pub double_shift_core : Bool → List Op
double_shift_core right = count_op (temp 3) ∷ (double_ops right ++ (sign_changed_ops ++ all_set_ops Four))
