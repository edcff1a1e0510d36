-- Worked steps of BSF and BSR, by computation.
use Rattle.std.proofs.Common.{refl}
use Rattle.x86_values.specs.Words.{word_of, known}
use Rattle.x86_values.specs.Sizes.{cut, number}
use Rattle.x86_values.specs.Scans.{lowest_bit, highest_bit, scan}
use Rattle.memory.specs.Memory.{put, put_all, allows_all, bytes_at, forget_below}
use Rattle.x86_meaning.specs.Registers.{with_register}
use Rattle.x86_meaning.specs.Transfers.{transfer}
use Rattle.x86_meaning.specs.Computing.{compute}
use Rattle.x86_meaning.specs.Effect.{accesses, effect}
use Rattle.x86_meaning.specs.Step.{settled, finish, step}
use Rattle.x86_meaning.specs.ScanRows.{BsfRows, BsrRows}

pub bsf_rows : BsfRows
unfolding word_of known cut number lowest_bit highest_bit scan put put_all allows_all bytes_at forget_below with_register transfer compute accesses effect settled finish step
bsf_rows = record { between = refl; lowest = refl; highest = refl; none = refl; two_bytes = refl; two_bytes_none = refl; of_target = refl; of_memory = refl; of_last_bytes = refl; unspecified = refl; above_unspecified = refl; load_faults = refl; nowhere = refl }

pub bsr_rows : BsrRows
unfolding word_of known cut number lowest_bit highest_bit scan put put_all allows_all bytes_at forget_below with_register transfer compute accesses effect settled finish step
bsr_rows = record { between = refl; lowest = refl; highest = refl; none = refl; two_bytes = refl; two_bytes_none = refl; of_stack = refl; of_last_bytes = refl; unspecified = refl; two_bytes_unspecified = refl; load_faults = refl; nowhere = refl }
