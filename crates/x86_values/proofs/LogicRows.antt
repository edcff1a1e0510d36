-- Bitwise operations that are worked by hand, by computation.
use Rattle.std.proofs.Common.{refl}
use Rattle.x86_values.specs.Logic.{bitwise}
use Rattle.x86_values.specs.Sizes.{number, cut}
use Rattle.x86_values.specs.Words.{known, word_of}
use Rattle.x86_values.specs.Results.{has_even_parity}
use Rattle.x86_values.specs.LogicRows.{WorkedBytes, WorkedBitwise, UnspecifiedBitwise}

pub worked_bytes : WorkedBytes
unfolding bitwise number known cut word_of has_even_parity
worked_bytes = record { known = refl; all_ones = refl; no_ones = refl; and_on_the_right = refl; and_on_the_left = refl; or_on_the_right = refl; or_on_the_left = refl; xor_on_the_right = refl; xor_on_the_left = refl }

pub worked_bitwise : WorkedBitwise
unfolding bitwise number known cut word_of has_even_parity
worked_bitwise = record { and_one = refl; and_two = refl; and_four = refl; or_one = refl; or_two = refl; or_four = refl; xor_one = refl; xor_two = refl; xor_four = refl; and_sign = refl; and_disjoint = refl; or_ones = refl; xor_itself = refl; xor_ones = refl }

pub unspecified_bitwise : UnspecifiedBitwise
unfolding bitwise number known cut word_of has_even_parity
unspecified_bitwise = record { and_keeps = refl; and_clears = refl; and_mask = refl; and_highest = refl; or_sets = refl; or_keeps = refl; xor_keeps = refl; xor_itself = refl; above_one = refl; above_two = refl }
