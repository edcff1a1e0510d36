-- Conditions that are worked by hand, by computation.
use Rattle.std.proofs.Common.{refl}
use Rattle.x86_values.specs.ConditionRows.{OfOneFlag, OfOneUnspecified, OfTwoFlags, OfTwoUnspecified, OfThreeFlags}

pub of_one_flag : OfOneFlag
of_one_flag = record { overflow = refl; no_overflow = refl; below = refl; above_or_equal = refl; equal = refl; not_equal = refl; sign = refl; no_sign = refl; parity_even = refl; parity_odd = refl }

pub of_one_unspecified : OfOneUnspecified
of_one_unspecified = record { overflow = refl; no_overflow = refl; below = refl; above_or_equal = refl; equal = refl; not_equal = refl; sign = refl; no_sign = refl; parity_even = refl; parity_odd = refl }

pub of_two_flags : OfTwoFlags
of_two_flags = record { below_or_equal = refl; above = refl; less = refl; greater_or_equal = refl }

pub of_two_unspecified : OfTwoUnspecified
of_two_unspecified = record { below_or_equal_cf = refl; below_or_equal_zf = refl; above_cf = refl; above_zf = refl; less_sf = refl; less_of = refl; greater_or_equal_sf = refl; greater_or_equal_of = refl }

pub of_three_flags : OfThreeFlags
of_three_flags = record { less_or_equal = refl; greater = refl; less_or_equal_zf = refl; less_or_equal_sf = refl; less_or_equal_of = refl; less_or_equal_decided = refl; greater_zf = refl; greater_sf = refl; greater_of = refl; greater_decided = refl }
