-- Lists of operations in the parts in which they are written.
use Rattle.std.proofs.Common.{◌≡◌, ℕ, Bool, true, false, [], ◌∷◌, ◌++◌, refl}
use Rattle.x86_types.specs.declared.width.Width.{Width}
use Rattle.flag_ir.specs.declared.operation.Calc.TheVariants as calc
use Rattle.lift_values.specs.Terms.{temp, word, to_temp, to_flag, set_temp, mask}
use Rattle.lift_values.specs.Sums.{total_with_carry, below_with_carry, sum_flags, difference_flags, adc_core, sbb_core}
use Rattle.lift_values.specs.Products.{widened, narrow_product, signed_narrow_product}
use Rattle.lift_values.specs.Extensions.{sign_fill, above, cut_core, extend_core, byte_joined, swap_core}
use Rattle.lift_values.specs.Scans.{half_searched, all_searched, scan_core}

pub adc_parts : (w : Width) → (total_with_carry calc.Add w (temp 1) (temp 2) ++ below_with_carry (temp 4) (temp 1)) ++ sum_flags w (temp 1) (temp 2) ≡ adc_core w
adc_parts w = refl

pub sbb_parts : (w : Width) → (total_with_carry calc.Sub w (temp 1) (temp 2) ++ below_with_carry (temp 1) (temp 2)) ++ difference_flags w (temp 1) (temp 2) ≡ sbb_core w
sbb_parts w = refl

pub signed_parts : (w : Width) (n : ℕ) → (widened 6 1 n ++ widened 7 2 n) ++ narrow_product w (temp 6) (temp 7) ≡ signed_narrow_product w n
signed_parts w n = refl

pub extend_parts : (wide w : Width) → (sign_fill w (above wide w) ++ (to_temp 4 calc.Or (temp 1) (temp 6) ∷ [])) ++ cut_core wide w ≡ extend_core wide w
extend_parts wide w = refl

pub swap_parts : ((((set_temp 4 (word 0) ∷ []) ++ byte_joined calc.Shl 24 0xFF 0xFF000000) ++ byte_joined calc.Shl 8 0xFF00 0xFF0000) ++ byte_joined calc.Shr 8 0xFF0000 0xFF00) ++ byte_joined calc.Shr 24 0xFF000000 0xFF ≡ swap_core
swap_parts = refl

pub search_parts : (reverse : Bool) → (((half_searched reverse 0xFFFF 4 ++ half_searched reverse 0xFF 3) ++ half_searched reverse 0xF 2) ++ half_searched reverse 3 1) ++ half_searched reverse 1 0 ≡ all_searched reverse
search_parts true = refl
search_parts false = refl

pub scan_parts : (reverse : Bool) (w : Width) → ((set_temp 6 (temp 1) ∷ set_temp 4 (word 0) ∷ []) ++ all_searched reverse) ++ (to_temp 4 calc.And (temp 4) (word (mask w)) ∷ to_flag 2 calc.Eq (temp 1) (word 0) ∷ []) ≡ scan_core reverse w
scan_parts true w = refl
scan_parts false w = refl
