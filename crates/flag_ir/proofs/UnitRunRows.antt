-- Worked runs of units, by computation.
use Rattle.std.proofs.Common.{refl}
use Rattle.x86_values.specs.Words.{word_of, known, all_known}
use Rattle.x86_values.specs.Sizes.{cut, number}
use Rattle.x86_values.specs.Results.{has_even_parity}
use Rattle.x86_values.specs.Sums.{sum, difference, add, sub}
use Rattle.traces.specs.Trace.{run}
use Rattle.memory.specs.Memory.{put, put_all, allows_all, bytes_at, with_stack}
use Rattle.memory.specs.SystemCall.{read_call, write_call, system_call}
use Rattle.flag_ir.specs.Calculations.{sum_of, difference_of}
use Rattle.flag_ir.specs.Frames.{all_covered, bytes_in, copied_back, forget_chain}
use Rattle.flag_ir.specs.Operations.{with_bytes, perform}
use Rattle.flag_ir.specs.Entering.{index_of_number, index_at, procedure_at, jump, leave}
use Rattle.flag_ir.specs.UnitRun.{next, first_storage, first_state, unit_run}
use Rattle.flag_ir.specs.UnitRunRows.{WholeRows, BeginningRows, ProcedureRows}

pub whole_rows : WholeRows
unfolding word_of known all_known cut number has_even_parity difference sub run put put_all allows_all bytes_at with_stack read_call write_call system_call difference_of perform index_of_number index_at procedure_at jump leave next first_storage first_state unit_run
whole_rows = record { none = refl; first = refl; leaves = refl; second_turn = refl; third_turn = refl; written = refl; before_the_end = refl; ended = refl; stays_ended = refl; from_second = refl; no_block = refl; no_block_later = refl; zero = refl }

pub beginning_rows : BeginningRows
unfolding word_of known run with_stack perform index_of_number index_at procedure_at jump leave next first_storage first_state unit_run
beginning_rows = record { registers = refl; flags = refl; temporaries = refl; kept_in_a_block = refl; not_kept = refl; flag_kept = refl; stops = refl; not_yet = refl; past_the_last = refl }

pub procedure_rows : ProcedureRows
unfolding word_of known cut number has_even_parity sum difference add sub run put with_stack read_call write_call system_call sum_of difference_of all_covered bytes_in copied_back forget_chain with_bytes perform index_of_number index_at procedure_at jump leave next first_storage first_state unit_run
procedure_rows = record { entered = refl; returned = refl; ended = refl; called = refl; back = refl; argument_back = refl }
