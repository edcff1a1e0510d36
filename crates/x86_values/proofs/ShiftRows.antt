-- The worked rows of shifts, by computation.
use Rattle.std.proofs.Common.{refl}
use Rattle.x86_values.specs.Words.{word_of, known}
use Rattle.x86_values.specs.Sizes.{cut, number}
use Rattle.x86_values.specs.Results.{has_even_parity}
use Rattle.x86_values.specs.Shifts.{shifted, shift}
use Rattle.x86_values.specs.DoubleShifts.{double_shifted, double_shift}
use Rattle.x86_values.specs.ShiftRows.{WorkedShifts}
use Rattle.x86_values.specs.UnspecifiedShiftRows.{WorkedUnspecifiedShifts}
use Rattle.x86_values.specs.DoubleShiftRows.{WorkedDoubleShifts}

pub worked_shifts : WorkedShifts
unfolding shift shifted number known cut word_of has_even_parity
worked_shifts = record { shl = refl; shr = refl; sar = refl; rol = refl; ror = refl }

pub worked_unspecified_shifts : WorkedUnspecifiedShifts
unfolding shift shifted number known cut word_of has_even_parity
worked_unspecified_shifts = record { byte_of_one = refl; byte_of_two = refl; byte_of_four = refl; by_width = refl; byte_above = refl; beyond_a_byte = refl; by_none = refl; by_all = refl; by_none_of_four = refl; count_of_one = refl; count_of_two = refl; count_of_four = refl }

pub worked_double_shifts : WorkedDoubleShifts
unfolding double_shift double_shifted number known cut word_of has_even_parity
worked_double_shifts = record { shld = refl; shrd = refl; operand = refl; filler = refl; count = refl; by_none = refl }
