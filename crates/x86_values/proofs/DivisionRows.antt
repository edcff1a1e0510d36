-- Divisions that are worked by hand, by computation.
use Rattle.std.proofs.Common.{refl}
use Rattle.x86_values.specs.Divisions.{divide}
use Rattle.x86_values.specs.Sizes.{number, cut}
use Rattle.x86_values.specs.Words.{known, word_of}
use Rattle.x86_values.specs.DivisionRows.{WorkedByteDiv, WorkedDiv, WorkedByteIdiv, WorkedByteLimits, WorkedIdiv, UnspecifiedDivisions}

pub worked_byte_div : WorkedByteDiv
unfolding divide number known cut word_of
worked_byte_div = record { plain = refl; smaller = refl; by_upper_half = refl; greatest = refl; above_greatest = refl; greatest_divisor = refl; above_greatest_divisor = refl; zero = refl; zero_by_zero = refl }

pub worked_div : WorkedDiv
unfolding divide number known cut word_of
worked_div = record { two_bytes_plain = refl; two_bytes_greatest = refl; two_bytes_above_greatest = refl; two_bytes_zero = refl; word_plain = refl; word_greatest = refl; word_above_greatest = refl; word_greatest_divisor = refl; word_above_greatest_divisor = refl }

pub worked_byte_idiv : WorkedByteIdiv
unfolding divide number known cut word_of
worked_byte_idiv = record { plain = refl; negative_dividend = refl; negative_divisor = refl; both_negative = refl; below_one = refl; zero_dividend = refl; least_divisor = refl; zero_divisor = refl }

pub worked_byte_limits : WorkedByteLimits
unfolding divide number known cut word_of
worked_byte_limits = record { greatest = refl; greatest_with_rest = refl; greatest_by_negatives = refl; above_greatest = refl; above_greatest_by_two = refl; above_greatest_by_negatives = refl; above_greatest_by_least = refl; least = refl; least_by_negative = refl; least_with_rest = refl; least_by_least = refl; below_least = refl; below_least_by_negative = refl; below_least_with_rest = refl; least_dividend = refl }

pub worked_idiv : WorkedIdiv
unfolding divide number known cut word_of
worked_idiv = record { two_bytes_negative = refl; two_bytes_least = refl; two_bytes_negative_divisor = refl; two_bytes_above_greatest = refl; two_bytes_least_negated = refl; two_bytes_least_dividend = refl; word_negative = refl; word_greatest = refl; word_least = refl; word_least_by_greatest = refl; word_least_by_negative = refl; word_above_greatest = refl; word_least_negated = refl; word_least_dividend = refl }

pub unspecified_divisions : UnspecifiedDivisions
unfolding divide number known cut word_of
unspecified_divisions = record { upper_half = refl; lower_half = refl; divisor = refl; highest_byte = refl; by_zero = refl; above_one = refl; zero_above = refl }
