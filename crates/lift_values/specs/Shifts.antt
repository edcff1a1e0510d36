-- The lists that shift and rotate (Intel SDM volume 2, "SAL/SAR/SHL/SHR", "RCL/RCR/ROL/ROR"): the operand in temporary 1, the count in
-- temporary 2. The lists are own.
use Rattle.std.specs.Prelude.{ℕ, List, [], ◌∷◌, ◌++◌}
use Rattle.x86_types.specs.declared.width.Width.{Width}
use Rattle.x86_types.specs.declared.width.Width.TheVariants.{One, Two, Four}
use Rattle.x86_types.specs.declared.operation.ShiftOp.{ShiftOp}
use Rattle.x86_types.specs.declared.operation.ShiftOp.TheVariants.{Rol, Ror, Shl, Shr, Sar}
use Rattle.flag_ir.specs.declared.operation.Calc.TheVariants as calc
use Rattle.flag_ir.specs.declared.operation.Op.{Op}
use Rattle.lift_values.specs.Terms.{temp, word, to_temp, set_temp, mask, width_bits, top}
use Rattle.lift_values.specs.ShiftPieces.{count_op, right_out_ops, left_out_ops, joined_ops, taken_ops, all_set_ops}

-- the place of the bit below the highest
abbrev pub second : Width → ℕ
second One = 6
second Two = 14
second Four = 30

-- SHL: OF is set where the sign isn't CF
abbrev pub shl_ops : Width → List Op
shl_ops w =
    to_temp 7 calc.Shl (temp 1) (temp 6)
    ∷ to_temp 7 calc.And (temp 7) (word (mask w))
    ∷ (left_out_ops w ++ (to_temp 9 calc.Shr (temp 7) (word (top w)) ∷ to_temp 9 calc.Xor (temp 9) (temp 8) ∷ []))

-- SHR: OF is the operand's sign
abbrev pub shr_ops : Width → List Op
shr_ops w = right_out_ops calc.Shr (temp 1) ++ (to_temp 7 calc.Shr (temp 1) (temp 6) ∷ to_temp 9 calc.Shr (temp 1) (word (top w)) ∷ [])

-- SAR: of the operand with its sign above it; OF is cleared
abbrev pub extended_ops : Width → List Op
extended_ops One = to_temp 7 calc.Shl (temp 1) (word 24) ∷ to_temp 7 calc.Sar (temp 7) (word 24) ∷ []
extended_ops Two = to_temp 7 calc.Shl (temp 1) (word 16) ∷ to_temp 7 calc.Sar (temp 7) (word 16) ∷ []
extended_ops Four = set_temp 7 (temp 1) ∷ []

abbrev pub sar_ops : Width → List Op
sar_ops w =
    extended_ops w
    ++ (right_out_ops calc.Sar (temp 7)
    ++ (to_temp 7 calc.Sar (temp 7) (temp 6) ∷ to_temp 7 calc.And (temp 7) (word (mask w)) ∷ set_temp 9 (word 0) ∷ []))

-- rotates are by the count modulo the bits. CF of ROL is the lowest bit of the result, and OF is set where the highest isn't
abbrev pub rol_ops : Width → List Op
rol_ops w =
    to_temp 8 calc.And (temp 6) (word (top w))
    ∷ to_temp 9 calc.Sub (word (width_bits w)) (temp 8)
    ∷ (joined_ops w (temp 1) (temp 8) (temp 1) (temp 9)
    ++ (to_temp 8 calc.And (temp 7) (word 1) ∷ to_temp 9 calc.Shr (temp 7) (word (top w)) ∷ to_temp 9 calc.Xor (temp 9) (temp 8) ∷ []))

-- CF of ROR is the highest bit of the result, and OF is set where the bit below it isn't the same
abbrev pub ror_ops : Width → List Op
ror_ops w =
    to_temp 9 calc.And (temp 6) (word (top w))
    ∷ to_temp 8 calc.Sub (word (width_bits w)) (temp 9)
    ∷ (joined_ops w (temp 1) (temp 8) (temp 1) (temp 9)
    ++ (to_temp 8 calc.Shr (temp 7) (word (top w))
    ∷ to_temp 9 calc.Shr (temp 7) (word (second w))
    ∷ to_temp 9 calc.And (temp 9) (word 1)
    ∷ to_temp 9 calc.Xor (temp 8) (temp 9)
    ∷ []))

-- rotates keep ZF, SF and PF
unfoldable pub shift_core : ShiftOp → Width → List Op
shift_core Rol w = count_op (temp 2) ∷ (rol_ops w ++ taken_ops w)
shift_core Ror w = count_op (temp 2) ∷ (ror_ops w ++ taken_ops w)
shift_core Shl w = count_op (temp 2) ∷ (shl_ops w ++ all_set_ops w)
shift_core Shr w = count_op (temp 2) ∷ (shr_ops w ++ all_set_ops w)
shift_core Sar w = count_op (temp 2) ∷ (sar_ops w ++ all_set_ops w)
