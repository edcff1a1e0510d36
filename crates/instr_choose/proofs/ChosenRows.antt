-- Worked rows of the chosen lists, by computation.
use Rattle.std.proofs.Common.{refl}
use Rattle.x86_values.specs.Words.{word_of, known, all_known}
use Rattle.x86_values.specs.Sizes.{cut, number}
use Rattle.x86_values.specs.Results.{has_even_parity}
use Rattle.x86_values.specs.Sums.{sum, difference, add, sub}
use Rattle.x86_values.specs.Logic.{bitwise}
use Rattle.x86_values.specs.Products.{multiply}
use Rattle.x86_values.specs.Shifts.{shifted, shift}
use Rattle.x86_values.specs.Divisions.{divide}
use Rattle.traces.specs.Trace.{run}
use Rattle.memory.specs.SystemCall.{read_call, write_call, system_call}
use Rattle.memory.specs.Memory.{put, put_all, allows_all, bytes_at}
use Rattle.x86_meaning.specs.Registers.{with_register}
use Rattle.x86_meaning.specs.Computing.{compute}
use Rattle.x86_meaning.specs.Transfers.{transfer}
use Rattle.x86_meaning.specs.Effect.{accesses, effect}
use Rattle.named_code.specs.Running.{act, code_next}
use Rattle.named_code.specs.RowParts.{state_after}
use Rattle.instr_choose.specs.Lists.{byte_dividend, byte_results, choose_op, choose_ops}
use Rattle.instr_choose.specs.Blocks.{choose_exit}
use Rattle.instr_choose.specs.ChosenRows.{ChosenSumRows, ChosenProductRows, ChosenShiftRows, ChosenComparisonRows, ChosenDivisionRows, ChosenPickRows, ChosenMemoryRows, ChosenCallRows, ChosenExitRows}

pub sum_rows : ChosenSumRows
unfolding compute word_of known all_known cut number has_even_parity sum difference add sub bitwise multiply shifted shift divide put put_all allows_all bytes_at with_register transfer accesses effect act code_next state_after run system_call read_call write_call byte_dividend byte_results choose_op choose_ops choose_exit
sum_rows = record { add = refl; add_to_left = refl; sub = refl; sub_to_right = refl; sub_words = refl; and = refl; or = refl; xor = refl }

pub product_rows : ChosenProductRows
unfolding compute word_of known all_known cut number has_even_parity sum difference add sub bitwise multiply shifted shift divide put put_all allows_all bytes_at with_register transfer accesses effect act code_next state_after run system_call read_call write_call byte_dividend byte_results choose_op choose_ops choose_exit
product_rows = record { mul = refl; mul_to_right = refl; mulhu = refl; mulhu_greatest = refl; mulhs = refl; mulhs_least = refl }

pub shift_rows : ChosenShiftRows
unfolding compute word_of known all_known cut number has_even_parity sum difference add sub bitwise multiply shifted shift divide put put_all allows_all bytes_at with_register transfer accesses effect act code_next state_after run system_call read_call write_call byte_dividend byte_results choose_op choose_ops choose_exit
shift_rows = record { shl = refl; shl_again = refl; shl_to_count = refl; shr = refl; sar = refl }

pub comparison_rows : ChosenComparisonRows
unfolding compute word_of known all_known cut number has_even_parity sum difference add sub bitwise multiply shifted shift divide put put_all allows_all bytes_at with_register transfer accesses effect act code_next state_after run system_call read_call write_call byte_dividend byte_results choose_op choose_ops choose_exit
comparison_rows = record { equal = refl; unequal = refl; below = refl; not_below = refl; less = refl; not_less = refl }

pub division_rows : ChosenDivisionRows
unfolding compute word_of known all_known cut number has_even_parity sum difference add sub bitwise multiply shifted shift divide put put_all allows_all bytes_at with_register transfer accesses effect act code_next state_after run system_call read_call write_call byte_dividend byte_results choose_op choose_ops choose_exit
division_rows = record { word = refl; word_signed = refl; word_by_zero = refl; half = refl; half_signed = refl; half_too_great = refl; byte = refl; byte_signed = refl; byte_too_great = refl }

pub pick_rows : ChosenPickRows
unfolding compute word_of known all_known cut number has_even_parity sum difference add sub bitwise multiply shifted shift divide put put_all allows_all bytes_at with_register transfer accesses effect act code_next state_after run system_call read_call write_call byte_dividend byte_results choose_op choose_ops choose_exit
pick_rows = record { yes = refl; no = refl; to_test = refl; to_yes = refl; to_no = refl; set = refl }

pub memory_rows : ChosenMemoryRows
unfolding compute word_of known all_known cut number has_even_parity sum difference add sub bitwise multiply shifted shift divide put put_all allows_all bytes_at with_register transfer accesses effect act code_next state_after run system_call read_call write_call byte_dividend byte_results choose_op choose_ops choose_exit
memory_rows = record { word = refl; half = refl; byte = refl; load = refl; load_half = refl; load_byte = refl; fault = refl }

pub call_rows : ChosenCallRows
unfolding compute word_of known all_known cut number has_even_parity sum difference add sub bitwise multiply shifted shift divide put put_all allows_all bytes_at with_register transfer accesses effect act code_next state_after run system_call read_call write_call byte_dividend byte_results choose_op choose_ops choose_exit
call_rows = record { result = refl; kept = refl; shown = refl; exits = refl }

pub exit_rows : ChosenExitRows
unfolding compute word_of known all_known cut number has_even_parity sum difference add sub bitwise multiply shifted shift divide put put_all allows_all bytes_at with_register transfer accesses effect act code_next state_after run system_call read_call write_call byte_dividend byte_results choose_op choose_ops choose_exit
exit_rows = record { go = refl; yes = refl; no = refl; jump = refl; fault = refl; stop = refl; stop_in_its_block = refl }
