-- Worked steps of ROL and ROR, by computation.
use Rattle.std.proofs.Common.{refl}
use Rattle.x86_values.specs.Words.{word_of, known}
use Rattle.x86_values.specs.Sizes.{cut, number}
use Rattle.x86_values.specs.Shifts.{shifted, shift}
use Rattle.memory.specs.Memory.{put, put_all, allows_all, bytes_at, forget_below}
use Rattle.x86_meaning.specs.Registers.{with_register}
use Rattle.x86_meaning.specs.Transfers.{transfer}
use Rattle.x86_meaning.specs.Computing.{compute}
use Rattle.x86_meaning.specs.Effect.{accesses, effect}
use Rattle.x86_meaning.specs.Step.{settled, finish, step}
use Rattle.x86_meaning.specs.RotateRows.{RolRows, RorRows}

pub rol_rows : RolRows
unfolding word_of known cut number shifted shift put put_all allows_all bytes_at forget_below with_register transfer compute accesses effect settled finish step
rol_rows = record { by_one = refl; by_one_to_sign = refl; by_one_keeps_sign = refl; by_register = refl; of_the_count = refl; by_zero = refl; by_thirty_two = refl; by_width = refl; above_width = refl; below_width = refl; by_thirty_one = refl; unspecified = refl; above_unspecified = refl; count_unspecified = refl; in_memory = refl; store_faults = refl; load_faults = refl; nowhere = refl }

pub ror_rows : RorRows
unfolding word_of known cut number shifted shift put put_all allows_all bytes_at forget_below with_register transfer compute accesses effect settled finish step
ror_rows = record { by_one = refl; by_one_keeps_sign = refl; by_one_from_sign = refl; of_second_byte = refl; by_register = refl; by_zero = refl; by_width = refl; above_width = refl; below_width = refl; unspecified = refl; above_unspecified = refl; count_unspecified = refl; in_memory = refl; store_faults = refl; load_faults = refl; nowhere = refl }
