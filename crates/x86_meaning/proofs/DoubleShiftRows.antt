-- Worked steps of SHLD and SHRD, by computation.
use Rattle.std.proofs.Common.{refl}
use Rattle.x86_values.specs.Words.{word_of, known}
use Rattle.x86_values.specs.Sizes.{cut, number}
use Rattle.x86_values.specs.Results.{has_even_parity}
use Rattle.x86_values.specs.DoubleShifts.{double_shifted, double_shift}
use Rattle.memory.specs.Memory.{put, put_all, allows_all, bytes_at, forget_below}
use Rattle.x86_meaning.specs.Registers.{with_register}
use Rattle.x86_meaning.specs.Transfers.{transfer}
use Rattle.x86_meaning.specs.Computing.{compute}
use Rattle.x86_meaning.specs.Effect.{accesses, effect}
use Rattle.x86_meaning.specs.Step.{settled, finish, step}
use Rattle.x86_meaning.specs.DoubleShiftRows.{ShldRows, ShrdRows}

pub shld_rows : ShldRows
unfolding word_of known cut number has_even_parity double_shifted double_shift put put_all allows_all bytes_at forget_below with_register transfer compute accesses effect settled finish step
shld_rows = record { by_four = refl; by_one_to_sign = refl; by_one_to_zero = refl; by_one_keeps_sign = refl; by_thirty_one = refl; by_register = refl; filler_counts = refl; by_itself = refl; by_zero = refl; by_thirty_two = refl; operand_unspecified = refl; filler_unspecified = refl; count_unspecified = refl; in_memory = refl; store_faults = refl; load_faults = refl; nowhere = refl }

pub shrd_rows : ShrdRows
unfolding word_of known cut number has_even_parity double_shifted double_shift put put_all allows_all bytes_at forget_below with_register transfer compute accesses effect settled finish step
shrd_rows = record { by_four = refl; by_one_to_sign = refl; by_one_from_sign = refl; by_one_keeps_sign = refl; by_one_to_zero = refl; by_thirty_one = refl; by_register = refl; by_zero = refl; operand_unspecified = refl; filler_unspecified = refl; count_unspecified = refl; in_memory = refl; memory_unspecified = refl; store_faults = refl; load_faults = refl; nowhere = refl }
