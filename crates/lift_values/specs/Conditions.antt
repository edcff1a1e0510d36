-- The conditions (Intel SDM volume 1, appendix B, table B-1), to temporary 4 as 1 or 0, and the cores of SETcc and CMOV (volume 2). How they
-- are computed is own.
use Rattle.std.specs.Prelude.{ℕ, List, [], ◌∷◌, ◌++◌}
use Rattle.x86_types.specs.declared.width.Width.{Width}
use Rattle.x86_types.specs.declared.operation.Cond.{Cond}
use Rattle.x86_types.specs.declared.operation.Cond.TheVariants as condition
use Rattle.flag_ir.specs.declared.operation.Calc.TheVariants as calc
use Rattle.flag_ir.specs.declared.operation.Op.{Op}
use Rattle.lift_values.specs.Terms.{temp, flag, word, to_temp, set_temp, pick_temp, mask}

-- a flag, and its contrary
abbrev pub is_set : ℕ → List Op
is_set n = set_temp 4 (flag n) ∷ []

abbrev pub is_clear : ℕ → List Op
is_clear n = to_temp 4 calc.Xor (flag n) (word 1) ∷ []

abbrev pub contrary : List Op
contrary = to_temp 4 calc.Xor (temp 4) (word 1) ∷ []

-- CF or ZF; SF differs from OF; ZF, or SF differs from OF
abbrev pub below_or_equal : List Op
below_or_equal = to_temp 4 calc.Or (flag 0) (flag 2) ∷ []

abbrev pub less : List Op
less = to_temp 4 calc.Xor (flag 3) (flag 4) ∷ []

abbrev pub less_or_equal : List Op
less_or_equal = to_temp 4 calc.Xor (flag 3) (flag 4) ∷ to_temp 4 calc.Or (flag 2) (temp 4) ∷ []

abbrev pub condition_ops : Cond → List Op
condition_ops condition.O = is_set 4
condition_ops condition.No = is_clear 4
condition_ops condition.B = is_set 0
condition_ops condition.Ae = is_clear 0
condition_ops condition.E = is_set 2
condition_ops condition.Ne = is_clear 2
condition_ops condition.Be = below_or_equal
condition_ops condition.A = below_or_equal ++ contrary
condition_ops condition.S = is_set 3
condition_ops condition.Ns = is_clear 3
condition_ops condition.P = is_set 1
condition_ops condition.Np = is_clear 1
condition_ops condition.L = less
condition_ops condition.Ge = less ++ contrary
condition_ops condition.Le = less_or_equal
condition_ops condition.G = less_or_equal ++ contrary

-- ---- what a condition that is unspecified leaves is cut too
-- SETcc has no operand
abbrev pub set_core : Cond → List Op
set_core c = condition_ops c ++ (to_temp 4 calc.And (temp 4) (word 0xFF) ∷ [])

-- the target's value in temporary 1, the other one in temporary 2
abbrev pub cmov_core : Cond → Width → List Op
cmov_core c w = condition_ops c ++ (pick_temp 4 (temp 4) (temp 2) (temp 1) ∷ to_temp 4 calc.And (temp 4) (word (mask w)) ∷ [])
