-- Worked rows of code over places, by computation.
use Rattle.std.proofs.Common.{refl}
use Rattle.x86_values.specs.Words.{word_of, known, all_known}
use Rattle.x86_values.specs.Sizes.{cut, number}
use Rattle.x86_values.specs.Results.{has_even_parity}
use Rattle.x86_values.specs.Sums.{sum, difference, add, sub}
use Rattle.x86_values.specs.Logic.{bitwise}
use Rattle.traces.specs.Trace.{run}
use Rattle.memory.specs.SystemCall.{read_call, write_call, system_call}
use Rattle.memory.specs.Memory.{put, put_all, allows_all, bytes_at}
use Rattle.x86_meaning.specs.Registers.{with_register}
use Rattle.x86_meaning.specs.Computing.{compute}
use Rattle.x86_meaning.specs.Transfers.{transfer}
use Rattle.x86_meaning.specs.Effect.{accesses, effect}
use Rattle.named_code.specs.Running.{act, code_next}
use Rattle.named_code.specs.RowParts.{state_after}
use Rattle.named_code.specs.CodeRows.{FieldRows, ItselfRows, CodeJumpRows, MarkRows, EndRows, PlacedRows}

pub field_rows : FieldRows
unfolding compute word_of known all_known cut number has_even_parity sum difference add sub put put_all allows_all bytes_at with_register transfer accesses effect act code_next state_after bitwise run system_call read_call write_call
field_rows = record { names = refl; others = refl; fixed = refl; lowest = refl; second = refl; none = refl; address = refl }

pub itself_rows : ItselfRows
unfolding compute word_of known all_known cut number has_even_parity sum difference add sub put put_all allows_all bytes_at with_register transfer accesses effect act code_next state_after bitwise run system_call read_call write_call
itself_rows = record { one_name = refl; two_names = refl; known_names = refl }

pub jump_rows : CodeJumpRows
unfolding compute word_of known all_known cut number has_even_parity sum difference add sub put put_all allows_all bytes_at with_register transfer accesses effect act code_next state_after bitwise run system_call read_call write_call
jump_rows = record { number = refl; by_number_alone = refl; not_taken = refl; taken = refl; old = refl; keeps_esp = refl; keeps_names = refl; loses_registers = refl; loses_flags = refl; no_number = refl; no_old = refl; zero = refl; end_of_block = refl; empty_block = refl; within = refl }

pub mark_rows : MarkRows
unfolding compute word_of known all_known cut number has_even_parity sum difference add sub put put_all allows_all bytes_at with_register transfer accesses effect act code_next state_after bitwise run system_call read_call write_call
mark_rows = record { marked = refl; unmarked = refl }

pub end_rows : EndRows
unfolding compute word_of known all_known cut number has_even_parity sum difference add sub put put_all allows_all bytes_at with_register transfer accesses effect act code_next state_after bitwise run system_call read_call write_call
end_rows = record { fault = refl; mapped = refl; not_writable = refl; unknown = refl; exit = refl; goes_on = refl; result = refl; shown = refl; once = refl; again = refl; last = refl; behind = refl }

pub placed_rows : PlacedRows
unfolding compute word_of known all_known cut number has_even_parity sum difference add sub put put_all allows_all bytes_at with_register transfer accesses effect act code_next state_after bitwise run system_call read_call write_call
placed_rows = record { keep = refl; fetch = refl; homeless = refl; own = refl }
