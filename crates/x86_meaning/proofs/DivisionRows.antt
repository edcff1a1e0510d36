-- Worked steps of DIV and IDIV, by computation.
use Rattle.std.proofs.Common.{refl}
use Rattle.x86_values.specs.Words.{word_of, known}
use Rattle.x86_values.specs.Sizes.{cut, number}
use Rattle.x86_values.specs.Divisions.{divide}
use Rattle.memory.specs.Memory.{put, put_all, allows_all, bytes_at, forget_below}
use Rattle.x86_meaning.specs.Registers.{with_register}
use Rattle.x86_meaning.specs.Transfers.{transfer}
use Rattle.x86_meaning.specs.Computing.{compute}
use Rattle.x86_meaning.specs.Effect.{accesses, effect}
use Rattle.x86_meaning.specs.Step.{settled, finish, step}
use Rattle.x86_meaning.specs.DivisionRows.{DivRows, IdivRows}

pub div_rows : DivRows
unfolding word_of known cut number divide put put_all allows_all bytes_at forget_below with_register transfer compute accesses effect settled finish step
div_rows = record { one_byte = refl; byte_greatest = refl; byte_too_great = refl; by_lower = refl; by_upper = refl; two_bytes = refl; two_bytes_too_great = refl; four_bytes = refl; greatest = refl; too_great = refl; by_zero = refl; byte_by_zero = refl; by_memory = refl; by_last_byte = refl; load_faults_in_part = refl; load_faults = refl; nowhere = refl; upper_unspecified = refl; lower_unspecified = refl; divisor_unspecified = refl; unspecified_by_zero = refl; above_unspecified = refl }

pub idiv_rows : IdivRows
unfolding word_of known cut number divide put put_all allows_all bytes_at forget_below with_register transfer compute accesses effect settled finish step
idiv_rows = record { both_positive = refl; dividend_negative = refl; divisor_negative = refl; both_negative = refl; byte_greatest = refl; byte_too_great = refl; byte_least = refl; byte_too_small = refl; by_upper_byte = refl; two_bytes = refl; two_bytes_least = refl; two_bytes_too_great = refl; too_great = refl; least = refl; just_too_great = refl; by_upper = refl; by_zero = refl; by_memory = refl; by_unspecified_memory = refl; load_faults = refl; nowhere = refl; upper_unspecified = refl }
