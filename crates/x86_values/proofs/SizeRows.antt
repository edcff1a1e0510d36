-- Sizes, and flags by a result that are worked by hand, by computation.
use Rattle.std.proofs.Common.{refl}
use Rattle.x86_values.specs.Sizes.{cut, number}
use Rattle.x86_values.specs.Words.{word_of, known}
use Rattle.x86_values.specs.Results.{has_even_parity}
use Rattle.x86_values.specs.SizeRows.{WorkedSizes, WorkedCuts, WorkedNumbers, WorkedParities}

pub worked_sizes : WorkedSizes
unfolding cut word_of number known has_even_parity
worked_sizes = record { one = refl; two = refl; four = refl; not_zero = λ h. absurd cc; not_three = λ h. absurd cc; not_five = λ h. absurd cc; not_eight = λ h. absurd cc; bits = refl; full = refl; half = refl; byte_sign = refl; two_byte_sign = refl; word_sign = refl }

pub worked_cuts : WorkedCuts
unfolding cut word_of number known has_even_parity
worked_cuts = record { known = refl; lowest_unspecified = refl; second_unspecified = refl; all_unspecified = refl }

pub worked_numbers : WorkedNumbers
unfolding cut word_of number known has_even_parity
worked_numbers = record { known = refl; one_byte = refl; two_bytes = refl; third_unspecified = refl; lowest_unspecified = refl }

pub worked_parities : WorkedParities
unfolding cut word_of number known has_even_parity
worked_parities = record { one_bit = refl; more_bits = refl; above = refl; differ_from_true = refl; differ_from_false = refl }
