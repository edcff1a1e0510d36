-- Worked exits to blocks, jumps and openings of frames, by computation.
use Rattle.std.proofs.Common.{refl}
use Rattle.x86_values.specs.Words.{word_of, known}
use Rattle.x86_values.specs.Sizes.{cut}
use Rattle.memory.specs.Memory.{bytes_at}
use Rattle.flag_ir.specs.Entering.{index_of_number, index_at, procedure_at, jump, leave}
use Rattle.flag_ir.specs.EnteringRows.{BlockRows, JumpRows, OpeningRows, DepthRows}

pub block_rows : BlockRows
unfolding word_of known bytes_at index_of_number leave
block_rows = record { go = refl; go_first = refl; go_nowhere = refl; go_in_procedure = refl; go_nowhere_in_procedure = refl; branch_yes = refl; branch_no = refl; branch_unknown = refl; branch_nowhere = refl; fault = refl; stop = refl; lowered_stop = refl; lowered_stop_unknown = refl; lowered_stop_unmapped = refl }

pub jump_rows : JumpRows
unfolding word_of known cut index_at procedure_at jump leave
jump_rows = record { block = refl; by_register = refl; nowhere = refl; zero = refl; unknown = refl; while_open = refl; to_its_own = refl; to_a_procedure = refl; procedure = refl; no_esp = refl }

pub opening_rows : OpeningRows
unfolding word_of known cut index_at procedure_at jump leave
opening_rows = record { by_jump = refl; by_call = refl; by_call_from_both = refl; goes_on = refl; call_below = refl; call_above = refl; call_without_esp = refl; call_outside = refl; call_of_none = refl; call_of_zero = refl }

pub depth_rows : DepthRows
unfolding word_of known cut index_at procedure_at jump leave
depth_rows = record { deepest = refl; too_deep = refl; highest = refl; too_high = refl; all_taken = refl; too_much_taken = refl; taken_by_several = refl; too_much_by_several = refl; arguments_count = refl }
