-- The pieces of lists that shift. The operand stands in temporary 1. Temporary 6 holds the count modulo 32; 7 the result for it, 8 its CF
-- and 9 its OF, each 0 or 1; 10, 11 and 12 its ZF, SF and PF. A count that is 0 modulo 32 keeps the operand and the flags, so what is
-- computed is taken, each by itself, only where temporary 6 isn't 0; and the result is cut to its width last. All of this is own.
use Rattle.std.specs.Prelude.{List, [], ◌∷◌, ◌++◌}
use Rattle.x86_types.specs.declared.width.Width.{Width}
use Rattle.flag_ir.specs.declared.variable.Term.{Term}
use Rattle.flag_ir.specs.declared.operation.Calc.{Calc}
use Rattle.flag_ir.specs.declared.operation.Calc.TheVariants as calc
use Rattle.flag_ir.specs.declared.operation.Op.{Op}
use Rattle.lift_values.specs.Terms.{temp, flag, word, to_temp, pick_temp, pick_flag, mask, width_bits, top}

-- the count modulo 32, of what a term holds
abbrev pub count_op : Term → Op
count_op count = to_temp 6 calc.And count (word 31)

-- CF of a shift of a term to the right: the bit that leaves last, which a shift by one less makes the lowest
abbrev pub right_out_ops : Calc → Term → List Op
right_out_ops c from = to_temp 8 calc.Sub (temp 6) (word 1) ∷ to_temp 8 c from (temp 8) ∷ to_temp 8 calc.And (temp 8) (word 1) ∷ []

-- CF of a shift of temporary 1 to the left: the bit that leaves last, at the place of the width's bits less the count
abbrev pub left_out_ops : Width → List Op
left_out_ops w = to_temp 8 calc.Sub (word (width_bits w)) (temp 6) ∷ to_temp 8 calc.Shr (temp 1) (temp 8) ∷ to_temp 8 calc.And (temp 8) (word 1) ∷ []

-- the OR of one term shifted to the left and another shifted to the right, cut to the width
abbrev pub joined_ops : Width → Term → Term → Term → Term → List Op
joined_ops w high left low right =
    to_temp 7 calc.Shl high left
    ∷ to_temp 9 calc.Shr low right
    ∷ to_temp 7 calc.Or (temp 7) (temp 9)
    ∷ to_temp 7 calc.And (temp 7) (word (mask w))
    ∷ []

-- ZF, SF and PF of temporary 7, into temporaries, since the flags may stay. The bit of 0x9669 at each number below 16 is 1 where that number
-- has an even number of ones
abbrev pub result_flags_ops : Width → List Op
result_flags_ops w =
    to_temp 10 calc.Eq (temp 7) (word 0)
    ∷ to_temp 11 calc.Shr (temp 7) (word (top w))
    ∷ to_temp 12 calc.And (temp 7) (word 0xFF)
    ∷ to_temp 13 calc.Shr (temp 12) (word 4)
    ∷ to_temp 12 calc.Xor (temp 12) (temp 13)
    ∷ to_temp 12 calc.And (temp 12) (word 0xF)
    ∷ to_temp 12 calc.Shr (word 0x9669) (temp 12)
    ∷ to_temp 12 calc.And (temp 12) (word 1)
    ∷ []

-- what was computed where the count isn't 0, else what there was
abbrev pub taken_ops : Width → List Op
taken_ops w =
    pick_flag 0 (temp 6) (temp 8) (flag 0)
    ∷ pick_flag 4 (temp 6) (temp 9) (flag 4)
    ∷ pick_temp 4 (temp 6) (temp 7) (temp 1)
    ∷ to_temp 4 calc.And (temp 4) (word (mask w))
    ∷ []

abbrev pub taken_flags_ops : List Op
taken_flags_ops = pick_flag 2 (temp 6) (temp 10) (flag 2) ∷ pick_flag 3 (temp 6) (temp 11) (flag 3) ∷ pick_flag 1 (temp 6) (temp 12) (flag 1) ∷ []

-- behind what computes the result, CF and OF: that all flags are set, or CF and OF alone
abbrev pub all_set_ops : Width → List Op
all_set_ops w = result_flags_ops w ++ (taken_flags_ops ++ taken_ops w)
