-- Bit scans that are worked by hand, by computation.
use Rattle.std.proofs.Common.{refl}
use Rattle.x86_values.specs.Scans.{scan, lowest_bit, highest_bit}
use Rattle.x86_values.specs.Sizes.{number, cut}
use Rattle.x86_values.specs.Words.{known, word_of}
use Rattle.x86_values.specs.ScanRows.{WorkedBsf, WorkedBsr, UnspecifiedScans}

pub worked_bsf : WorkedBsf
unfolding scan lowest_bit highest_bit number known cut word_of
worked_bsf = record { byte_lowest = refl; byte_middle = refl; byte_highest = refl; byte_all = refl; byte_none = refl; byte_none_above = refl; two_bytes_second = refl; two_bytes_highest = refl; two_bytes_none = refl; word_lowest = refl; word_middle = refl; word_high = refl; word_highest = refl; word_none = refl }

pub worked_bsr : WorkedBsr
unfolding scan lowest_bit highest_bit number known cut word_of
worked_bsr = record { byte_lowest = refl; byte_middle = refl; byte_highest = refl; byte_all = refl; byte_none = refl; two_bytes_second = refl; two_bytes_highest = refl; two_bytes_above = refl; two_bytes_none = refl; word_lowest = refl; word_middle = refl; word_high = refl; word_highest = refl; word_none = refl }

pub unspecified_scans : UnspecifiedScans
unfolding scan lowest_bit highest_bit number known cut word_of
unspecified_scans = record { one_byte = refl; second_byte = refl; lowest_byte = refl; above_one = refl; above_two = refl }
