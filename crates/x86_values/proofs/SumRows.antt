-- Sums and differences that are worked by hand, by computation.
use Rattle.std.proofs.Common.{refl}
use Rattle.x86_values.specs.Sums.{add, sub, sum, difference}
use Rattle.x86_values.specs.Sizes.{number, cut}
use Rattle.x86_values.specs.Words.{known, word_of}
use Rattle.x86_values.specs.Results.{has_even_parity}
use Rattle.x86_values.specs.SumRows.{WorkedByteSums, WorkedSums, WorkedByteDifferences, WorkedDifferences, UnspecifiedSums, UnspecifiedDifferences}

pub worked_byte_sums : WorkedByteSums
unfolding add sub sum difference number known cut word_of has_even_parity
worked_byte_sums = record { plain = refl; with_carry = refl; greatest = refl; overflows = refl; overflows_by_carry = refl; carries = refl; carries_by_carry = refl; greatest_uncarried = refl; least = refl; least_by_carry = refl; overflows_below = refl; twice_least = refl; twice_greatest = refl }

pub worked_sums : WorkedSums
unfolding add sub sum difference number known cut word_of has_even_parity
worked_sums = record { two_bytes_plain = refl; two_bytes_overflows = refl; two_bytes_carries = refl; two_bytes_uncarried = refl; two_bytes_below = refl; word_plain = refl; word_overflows = refl; word_carries = refl; word_uncarried = refl; word_twice_least = refl; word_twice_greatest = refl }

pub worked_byte_differences : WorkedByteDifferences
unfolding add sub sum difference number known cut word_of has_even_parity
worked_byte_differences = record { plain = refl; with_borrow = refl; turned = refl; equal = refl; borrows_by_borrow = refl; least = refl; overflows_by_borrow = refl; overflows_below = refl; greatest = refl; overflows_above = refl; least_negated = refl; whole_range = refl; furthest = refl }

pub worked_differences : WorkedDifferences
unfolding add sub sum difference number known cut word_of has_even_parity
worked_differences = record { two_bytes_plain = refl; two_bytes_turned = refl; two_bytes_negated = refl; two_bytes_overflows = refl; word_plain = refl; word_negated = refl; word_overflows = refl; word_overflows_above = refl; word_whole_range = refl }

pub unspecified_sums : UnspecifiedSums
unfolding add sub sum difference number known cut word_of has_even_parity
unspecified_sums = record { left_byte = refl; right_byte = refl; carry = refl; second_byte = refl; highest_byte = refl; above_one = refl; above_two = refl }

pub unspecified_differences : UnspecifiedDifferences
unfolding add sub sum difference number known cut word_of has_even_parity
unspecified_differences = record { left_byte = refl; right_byte = refl; borrow = refl; from_itself = refl; above_one = refl; above_two = refl }
