-- Worked steps of CMOVcc and SETcc, by computation.
use Rattle.std.proofs.Common.{refl}
use Rattle.x86_values.specs.Words.{word_of, known}
use Rattle.x86_values.specs.Sizes.{cut, number}
use Rattle.x86_values.specs.Results.{has_even_parity}
use Rattle.x86_values.specs.Sums.{sum, difference, add, sub}
use Rattle.memory.specs.Memory.{put, put_all, allows_all, bytes_at, forget_below}
use Rattle.x86_meaning.specs.Registers.{with_register}
use Rattle.x86_meaning.specs.Transfers.{transfer}
use Rattle.x86_meaning.specs.Computing.{compute}
use Rattle.x86_meaning.specs.Effect.{accesses, effect}
use Rattle.x86_meaning.specs.Step.{settled, finish, step}
use Rattle.x86_meaning.specs.ChoiceRows.{CmovRows, SetccRows}

pub cmov_rows : CmovRows
unfolding word_of known cut number has_even_parity sum difference add sub put put_all allows_all bytes_at forget_below with_register transfer compute accesses effect settled finish step
cmov_rows = record { moves = refl; stays = refl; other_condition = refl; two_bytes = refl; two_bytes_stay = refl; load = refl; load_two = refl; load_dropped = refl; load_fault = refl; load_fault_dropped = refl; load_fault_unknown = refl; load_past = refl; unknown_base = refl; unknown_flag = refl; unknown_flag_of_two = refl; other_flags_unknown = refl; unknown_source = refl; unknown_source_dropped = refl; unknown_target = refl; unknown_target_replaced = refl; to_esp = refl; to_esp_unknown = refl }

pub setcc_rows : SetccRows
unfolding word_of known cut number has_even_parity sum difference add sub put put_all allows_all bytes_at forget_below with_register transfer compute accesses effect settled finish step
setcc_rows = record { low_set = refl; low_cleared = refl; high_set = refl; high_cleared = refl; memory = refl; unknown_flag = refl; unknown_flag_to_memory = refl; other_flags_unknown = refl; to_unknown = refl; below_esp = refl; store_fault = refl; store_nothing = refl; store_unknown = refl; unknown_base = refl }
