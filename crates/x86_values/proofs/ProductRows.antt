-- Products that are worked by hand, by computation.
use Rattle.std.proofs.Common.{refl}
use Rattle.x86_values.specs.Products.{multiply}
use Rattle.x86_values.specs.Sizes.{number, cut}
use Rattle.x86_values.specs.Words.{known, word_of}
use Rattle.x86_values.specs.ProductRows.{WorkedMul, WorkedByteImul, WorkedImul, UnspecifiedProducts}

pub worked_mul : WorkedMul
unfolding multiply number known cut word_of
worked_mul = record { byte_fits = refl; byte_greatest = refl; byte_exceeds = refl; byte_exceeds_by_two = refl; byte_both_halves = refl; byte_high_bits = refl; byte_by_one = refl; byte_by_zero = refl; two_bytes_fits = refl; two_bytes_exceeds = refl; two_bytes_plain = refl; two_bytes_greatest = refl; word_fits = refl; word_exceeds = refl; word_exceeds_by_two = refl; word_greatest = refl }

pub worked_byte_imul : WorkedByteImul
unfolding multiply number known cut word_of
worked_byte_imul = record { plain = refl; greatest = refl; above_greatest = refl; least = refl; least_by_one = refl; below_least = refl; both_negative = refl; left_negative = refl; right_negative = refl; zero_by_negative = refl; least_squared = refl; least_negated = refl; least_by_greatest = refl; greatest_squared = refl }

pub worked_imul : WorkedImul
unfolding multiply number known cut word_of
worked_imul = record { two_bytes_above_greatest = refl; two_bytes_least = refl; two_bytes_exceeds = refl; two_bytes_left_negative = refl; two_bytes_right_negative = refl; two_bytes_least_squared = refl; word_above_greatest = refl; word_least = refl; word_both_negative = refl; word_left_negative = refl; word_least_squared = refl; word_least_by_greatest = refl; word_greatest_squared = refl }

pub unspecified_products : UnspecifiedProducts
unfolding multiply number known cut word_of
unspecified_products = record { left_byte = refl; right_byte = refl; second_byte = refl; highest_byte = refl; above_one = refl; above_two = refl }
