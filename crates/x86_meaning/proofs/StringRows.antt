-- Worked steps of MOVS and STOS, by computation.
use Rattle.std.proofs.Common.{refl}
use Rattle.x86_values.specs.Words.{word_of, known}
use Rattle.x86_values.specs.Sizes.{cut, number}
use Rattle.x86_values.specs.Results.{has_even_parity}
use Rattle.x86_values.specs.Sums.{sum, difference, add, sub}
use Rattle.memory.specs.Memory.{put, put_all, allows_all, bytes_at, forget_below}
use Rattle.x86_meaning.specs.Registers.{with_register}
use Rattle.x86_meaning.specs.Transfers.{transfer}
use Rattle.x86_meaning.specs.Computing.{compute}
use Rattle.x86_meaning.specs.Effect.{accesses, effect}
use Rattle.x86_meaning.specs.Step.{settled, finish, step}
use Rattle.x86_meaning.specs.StringRows.{MovsRows, StosRows}

pub movs_rows : MovsRows
unfolding word_of known cut number has_even_parity sum difference add sub put put_all allows_all bytes_at forget_below with_register transfer compute accesses effect settled finish step
movs_rows = record { four = refl; two = refl; one = refl; overlaps = refl; unknown_byte = refl; below_esp = refl; plain_zero = refl; plain_unknown = refl; repeated = refl; repeated_last = refl; repeated_often = refl; repeated_never = refl; unknown_count = refl; unknown_esi = refl; unknown_edi = refl; repeated_unknown_edi = refl; load_fault = refl; load_past = refl; store_fault = refl; store_past = refl; repeated_fault = refl; unknown_esp = refl }

pub stos_rows : StosRows
unfolding word_of known cut number has_even_parity sum difference add sub put put_all allows_all bytes_at forget_below with_register transfer compute accesses effect settled finish step
stos_rows = record { four = refl; two = refl; one = refl; unknown_byte = refl; unknown_above = refl; below_esp = refl; plain_zero = refl; plain_unknown = refl; repeated = refl; repeated_last = refl; repeated_often = refl; repeated_never = refl; unknown_count = refl; unknown_edi = refl; repeated_unknown_edi = refl; store_fault = refl; store_past = refl; repeated_fault = refl }
