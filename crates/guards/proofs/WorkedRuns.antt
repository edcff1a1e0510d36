-- Worked units, by computation.
use Rattle.std.proofs.Common.{refl}
use Rattle.x86_values.specs.Words.{word_of, known, all_known}
use Rattle.x86_values.specs.Sizes.{cut, number}
use Rattle.x86_values.specs.Results.{has_even_parity}
use Rattle.x86_values.specs.Sums.{difference, sub}
use Rattle.traces.specs.Trace.{run}
use Rattle.memory.specs.Memory.{put, put_all, allows_all, bytes_at, with_stack}
use Rattle.memory.specs.SystemCall.{read_call, write_call, system_call}
use Rattle.flag_ir.specs.Calculations.{difference_of, below_of}
use Rattle.flag_ir.specs.Operations.{perform}
use Rattle.flag_ir.specs.Entering.{index_of_number, index_at, procedure_at, jump, leave}
use Rattle.flag_ir.specs.UnitRun.{next, first_storage, first_state, unit_run}
use Rattle.private_memory.specs.PrivateArea.{is_private, with_private}
use Rattle.guards.specs.Guarding.{literal}
use Rattle.guards.specs.WorkedUnits.{LoadRows, WriteRows, StopRows}

pub load_rows : LoadRows
unfolding word_of known all_known cut number has_even_parity difference sub run put put_all allows_all bytes_at with_stack read_call write_call system_call difference_of below_of perform index_of_number index_at procedure_at jump leave next first_storage first_state unit_run is_private with_private literal
load_rows = record { first_inside = refl; before_the_load = refl; cell = refl; last_inside = refl; stack = refl }

pub write_rows : WriteRows
unfolding word_of known all_known cut number has_even_parity difference sub run put put_all allows_all bytes_at with_stack read_call write_call system_call difference_of below_of perform index_of_number index_at procedure_at jump leave next first_storage first_state unit_run is_private with_private literal
write_rows = record { refused = refl }

pub stop_rows : StopRows
unfolding word_of known all_known cut number has_even_parity difference sub run put put_all allows_all bytes_at with_stack read_call write_call system_call difference_of below_of perform index_of_number index_at procedure_at jump leave next first_storage first_state unit_run is_private with_private literal
stop_rows = record { at_the_turn = refl; alone = refl }
