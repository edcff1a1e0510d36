-- Worked calculations, by computation.
use Rattle.std.proofs.Common.{refl}
use Rattle.x86_values.specs.Words.{word_of, known}
use Rattle.x86_values.specs.Sizes.{cut, number}
use Rattle.x86_values.specs.Results.{has_even_parity}
use Rattle.x86_values.specs.Sums.{sum, difference, add, sub}
use Rattle.x86_values.specs.Logic.{bitwise}
use Rattle.x86_values.specs.Shifts.{shifted, shift}
use Rattle.x86_values.specs.Products.{multiply}
use Rattle.flag_ir.specs.Calculations.{sum_of, difference_of, and_of, or_of, xor_of, product_of, upper_product_of, shifted_of, equal_of, below_of, less_of}
use Rattle.flag_ir.specs.CalculationRows.{SumRows, BitRows, ProductRows, ShiftRows, ComparisonRows}

pub sum_rows : SumRows
unfolding word_of known cut number has_even_parity sum difference add sub sum_of difference_of
sum_rows = record { add = refl; add_wraps = refl; add_unknown = refl; add_unknown_right = refl; sub = refl; sub_wraps = refl; sub_unknown = refl }

pub bit_rows : BitRows
unfolding word_of known cut number has_even_parity bitwise and_of or_of xor_of
bit_rows = record { and = refl; or = refl; xor = refl; and_unknown = refl; and_one_unknown = refl; or_unknown = refl; or_one_unknown = refl; xor_unknown = refl }

pub product_rows : ProductRows
unfolding word_of known cut number multiply product_of upper_product_of
product_rows = record { mul = refl; mulhu = refl; mulhu_greatest = refl; mulhs_one_negative = refl; mulhs_other_negative = refl; mulhs_both_negative = refl; mulhs_least = refl; mul_unknown = refl; mulhu_unknown = refl; mulhs_unknown = refl }

pub shift_rows : ShiftRows
unfolding word_of known cut number has_even_parity shifted shift shifted_of
shift_rows = record { shl = refl; shl_out = refl; shl_none = refl; shl_again = refl; shr = refl; shr_again = refl; sar = refl; sar_positive = refl; sar_again = refl; low_byte = refl; low_byte_known = refl; count_unknown = refl; unknown = refl; unknown_kept = refl }

pub comparison_rows : ComparisonRows
unfolding word_of known equal_of below_of less_of
comparison_rows = record { equal = refl; unequal = refl; equal_unknown = refl; below = refl; below_itself = refl; above = refl; below_unknown = refl; least = refl; greatest = refl; both_negative = refl; less_than_none = refl; not_less = refl; less_itself = refl; less_unknown = refl }
