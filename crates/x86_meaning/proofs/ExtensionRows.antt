-- Worked steps of BSWAP, MOVZX, MOVSX, CBW, CWDE, CWD and CDQ, by computation.
use Rattle.std.proofs.Common.{refl}
use Rattle.x86_values.specs.Words.{word_of, known}
use Rattle.x86_values.specs.Sizes.{cut, number}
use Rattle.x86_values.specs.Extensions.{sign_extended, sign_word}
use Rattle.memory.specs.Memory.{put, put_all, allows_all, bytes_at, forget_below}
use Rattle.x86_meaning.specs.Registers.{with_register}
use Rattle.x86_meaning.specs.Transfers.{transfer}
use Rattle.x86_meaning.specs.Computing.{compute}
use Rattle.x86_meaning.specs.Effect.{accesses, effect}
use Rattle.x86_meaning.specs.Step.{settled, finish, step}
use Rattle.x86_meaning.specs.ExtensionRows.{BswapRows, MovzxRows, MovsxRows, ExtendRows, SpreadRows}

pub bswap_rows : BswapRows
unfolding word_of known cut number sign_extended sign_word put put_all allows_all bytes_at forget_below with_register transfer compute accesses effect settled finish step
bswap_rows = record { plain = refl; of_last_register = refl; keeps_flags = refl; lowest_unspecified = refl; upper_unspecified = refl; of_esp = refl }

pub movzx_rows : MovzxRows
unfolding word_of known cut number sign_extended sign_word put put_all allows_all bytes_at forget_below with_register transfer compute accesses effect settled finish step
movzx_rows = record { byte_to_four = refl; byte_to_two = refl; two_to_four = refl; of_second_byte = refl; to_ebp = refl; to_own_address = refl; two_from_memory = refl; last_byte = refl; load_faults_in_part = refl; unspecified = refl; two_unspecified = refl; above_unspecified = refl; load_faults = refl; nowhere = refl }

pub movsx_rows : MovsxRows
unfolding word_of known cut number sign_extended sign_word put put_all allows_all bytes_at forget_below with_register transfer compute accesses effect settled finish step
movsx_rows = record { byte_negative = refl; byte_positive = refl; byte_to_two_negative = refl; byte_to_two_positive = refl; two_negative = refl; two_positive = refl; of_second_byte = refl; from_last_byte = refl; unspecified = refl; to_two_unspecified = refl; second_unspecified = refl; lowest_unspecified = refl; load_faults = refl; nowhere = refl }

pub extend_rows : ExtendRows
unfolding word_of known cut number sign_extended sign_word put put_all allows_all bytes_at forget_below with_register transfer compute accesses effect settled finish step
extend_rows = record { byte_negative = refl; byte_positive = refl; two_negative = refl; two_positive = refl; byte_unspecified = refl; second_unspecified = refl; lowest_unspecified = refl }

pub spread_rows : SpreadRows
unfolding word_of known cut number sign_extended sign_word put put_all allows_all bytes_at forget_below with_register transfer compute accesses effect settled finish step
spread_rows = record { two_negative = refl; two_positive = refl; four_negative = refl; four_positive = refl; second_unspecified = refl; highest_unspecified = refl; two_lowest_unspecified = refl; four_lowest_unspecified = refl }
