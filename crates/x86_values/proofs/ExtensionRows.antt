-- Extensions that are worked by hand, by computation.
use Rattle.std.proofs.Common.{refl}
use Rattle.x86_values.specs.Extensions.{sign_extended, sign_word}
use Rattle.x86_values.specs.Sizes.{cut}
use Rattle.x86_values.specs.Words.{word_of}
use Rattle.x86_values.specs.ExtensionRows.{WorkedExtensions, UnspecifiedExtensions, WorkedSigns, WorkedSwaps}

pub worked_extensions : WorkedExtensions
unfolding sign_extended sign_word cut word_of
worked_extensions = record { one = refl; two = refl; four = refl }

pub unspecified_extensions : UnspecifiedExtensions
unfolding sign_extended sign_word cut word_of
unspecified_extensions = record { sign_of_one = refl; sign_of_two = refl; below_the_sign = refl; above_one = refl; above_two = refl; four = refl }

pub worked_signs : WorkedSigns
unfolding sign_extended sign_word cut word_of
worked_signs = record { one = refl; two = refl; four = refl; unspecified_one = refl; unspecified_two = refl; unspecified_four = refl; below_the_sign_of_two = refl; below_the_sign_of_four = refl }

pub worked_swaps : WorkedSwaps
unfolding sign_extended sign_word cut word_of
worked_swaps = record { known = refl; lowest_unspecified = refl; second_unspecified = refl }
