-- Numbers and bytes that are written out, by computation.
use Rattle.std.proofs.Common.{refl}
use Rattle.byte_lists.specs.Rows.{NumbersAsBytes, BytesAsNumbers}

pub numbers_as_bytes : NumbersAsBytes
numbers_as_bytes = record { half = refl; word = refl; three = refl; small = refl; greatest_half = refl; greatest_word = refl; long_half = refl; long_word = refl; long = refl; none = refl; zeros = refl }

pub bytes_as_numbers : BytesAsNumbers
bytes_as_numbers =
    record { half = refl; word = refl; front = refl; short = refl; none = refl; first_half = refl; first_word = refl; last_half = refl; last_word = refl; cut_half = refl; cut_word = refl; one_byte_of_a_word = refl; half_past_the_end = refl; word_past_the_end = refl }
