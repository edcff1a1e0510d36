-- Worked steps of SHL, SHR and SAR, by computation.
use Rattle.std.proofs.Common.{refl}
use Rattle.x86_values.specs.Words.{word_of, known}
use Rattle.x86_values.specs.Sizes.{cut, number}
use Rattle.x86_values.specs.Results.{has_even_parity}
use Rattle.x86_values.specs.Shifts.{shifted, shift}
use Rattle.memory.specs.Memory.{put, put_all, allows_all, bytes_at, forget_below}
use Rattle.x86_meaning.specs.Registers.{with_register}
use Rattle.x86_meaning.specs.Transfers.{transfer}
use Rattle.x86_meaning.specs.Computing.{compute}
use Rattle.x86_meaning.specs.Effect.{accesses, effect}
use Rattle.x86_meaning.specs.Step.{settled, finish, step}
use Rattle.x86_meaning.specs.ShiftRows.{ShlRows, ShrRows, SarRows}

pub shl_rows : ShlRows
unfolding word_of known cut number has_even_parity shifted shift put put_all allows_all bytes_at forget_below with_register transfer compute accesses effect settled finish step
shl_rows = record { by_one = refl; by_one_keeps_sign = refl; by_one_to_sign = refl; to_zero = refl; by_register = refl; by_thirty_one = refl; below_width = refl; by_width = refl; above_width = refl; by_zero = refl; by_thirty_two = refl; unspecified = refl; above_unspecified = refl; count_unspecified = refl; in_memory = refl; on_stack = refl; store_faults = refl; store_faults_by_zero = refl; load_faults = refl; nowhere = refl }

pub shr_rows : ShrRows
unfolding word_of known cut number has_even_parity shifted shift put put_all allows_all bytes_at forget_below with_register transfer compute accesses effect settled finish step
shr_rows = record { by_one = refl; by_one_positive = refl; to_zero = refl; by_register = refl; by_thirty_one = refl; below_width = refl; by_width = refl; above_width = refl; by_zero = refl; unspecified = refl; above_unspecified = refl; count_unspecified = refl; in_memory = refl; last_byte = refl; store_faults = refl; load_faults = refl; nowhere = refl }

pub sar_rows : SarRows
unfolding word_of known cut number has_even_parity shifted shift put put_all allows_all bytes_at forget_below with_register transfer compute accesses effect settled finish step
sar_rows = record { by_one = refl; by_one_positive = refl; by_register = refl; by_thirty_one = refl; below_width = refl; by_width = refl; above_width_negative = refl; above_width = refl; by_zero = refl; unspecified = refl; above_unspecified = refl; count_unspecified = refl; in_memory = refl; store_faults = refl; load_faults = refl; nowhere = refl }
