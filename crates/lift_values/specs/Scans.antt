-- The cores of BSF and BSR (Intel SDM volume 2, "BSF", "BSR"): the bit is found by halves. How they are computed is own.
use Rattle.std.specs.Prelude.{ℕ, Bool, true, false, List, [], ◌∷◌, ◌++◌}
use Rattle.x86_types.specs.declared.width.Width.{Width}
use Rattle.flag_ir.specs.declared.operation.Calc.TheVariants as calc
use Rattle.flag_ir.specs.declared.operation.Op.{Op}
use Rattle.lift_values.specs.Terms.{temp, word, to_temp, to_flag, set_temp, mask}

-- whether the bit is above some lowest bits, whose ones are given, to temporary 7
abbrev pub is_beyond : Bool → ℕ → List Op
is_beyond true ones = to_temp 7 calc.Ltu (word ones) (temp 6) ∷ []
is_beyond false ones = to_temp 7 calc.And (temp 6) (word ones) ∷ to_temp 7 calc.Eq (temp 7) (word 0) ∷ []

-- if so, 2 ^ log bits are shifted out of temporary 6, and counted in temporary 4
abbrev pub half_searched : Bool → ℕ → ℕ → List Op
half_searched reverse ones log =
    is_beyond reverse ones ++ (to_temp 7 calc.Shl (temp 7) (word log) ∷ to_temp 6 calc.Shr (temp 6) (temp 7) ∷ to_temp 4 calc.Add (temp 4) (temp 7) ∷ [])

abbrev pub all_searched : Bool → List Op
all_searched reverse = half_searched reverse 0xFFFF 4 ++ half_searched reverse 0xFF 3 ++ half_searched reverse 0xF 2 ++ half_searched reverse 3 1 ++ half_searched reverse 1 0

-- BSR where reverse, else BSF
abbrev pub scan_core : Bool → Width → List Op
scan_core reverse w =
    (set_temp 6 (temp 1) ∷ set_temp 4 (word 0) ∷ []) ++ all_searched reverse ++ (to_temp 4 calc.And (temp 4) (word (mask w)) ∷ to_flag 2 calc.Eq (temp 1) (word 0) ∷ [])
