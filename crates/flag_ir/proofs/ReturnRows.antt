-- Worked returns, by computation.
use Rattle.std.proofs.Common.{refl}
use Rattle.x86_values.specs.Words.{word_of, known}
use Rattle.x86_values.specs.Sizes.{cut, number}
use Rattle.x86_values.specs.Results.{has_even_parity}
use Rattle.x86_values.specs.Sums.{sum, add}
use Rattle.memory.specs.Memory.{put, bytes_at}
use Rattle.flag_ir.specs.Calculations.{sum_of}
use Rattle.flag_ir.specs.Frames.{bytes_in, copied_back, forget_chain}
use Rattle.flag_ir.specs.Entering.{index_of_number, index_at, procedure_at, jump, leave}
use Rattle.flag_ir.specs.ReturnRows.{CheckRows, BackRows, ClosingRows}

pub check_rows : CheckRows
unfolding word_of known cut number has_even_parity sum add put sum_of bytes_in copied_back forget_chain index_of_number index_at procedure_at jump leave
check_rows = record { guarded = refl; guarded_word = refl; guarded_ebp = refl; shared = refl; shared_word = refl; shared_ebp = refl; kept_word_unknown = refl; kept_ebp_unknown = refl; word_unknown = refl; ebp_unknown = refl; differs_beside_unknown = refl; sealed = refl; no_frame = refl; nowhere = refl }

pub back_rows : BackRows
unfolding word_of known cut number has_even_parity sum add put sum_of bytes_in copied_back forget_chain index_of_number index_at procedure_at jump leave
back_rows = record { to_block = refl; to_no_block = refl; to_zero = refl; to_unknown = refl; while_open = refl; to_procedure = refl }

pub closing_rows : ClosingRows
unfolding word_of known cut number has_even_parity sum add put bytes_at sum_of bytes_in copied_back forget_chain index_of_number index_at procedure_at jump leave
closing_rows = record { registers = refl; esp_wraps = refl; esp_unknown = refl; to_caller = refl; beside_it = refl; not_to_memory = refl; to_memory = refl; half_to_caller = refl; half_to_memory = refl; shared_word = refl; shared_argument = refl; shared_rest = refl; chain_word = refl; chain_ends = refl; not_shared_caller = refl; guarded = refl; sealed = refl }
