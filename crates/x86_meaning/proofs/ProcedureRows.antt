-- Worked steps of CALL and RET, by computation.
use Rattle.std.proofs.Common.{refl}
use Rattle.x86_values.specs.Words.{word_of, known}
use Rattle.x86_values.specs.Sizes.{cut, number}
use Rattle.x86_values.specs.Results.{has_even_parity}
use Rattle.x86_values.specs.Sums.{sum, difference, add, sub}
use Rattle.memory.specs.Memory.{put, put_all, allows_all, bytes_at, forget_below}
use Rattle.x86_meaning.specs.Registers.{with_register}
use Rattle.x86_meaning.specs.Transfers.{transfer}
use Rattle.x86_meaning.specs.Computing.{compute}
use Rattle.x86_meaning.specs.Effect.{accesses, effect}
use Rattle.x86_meaning.specs.Step.{settled, finish, step}
use Rattle.x86_meaning.specs.ProcedureRows.{CallByRows, CallToRows, RetRows}

pub call_by_rows : CallByRows
unfolding word_of known cut number has_even_parity sum difference add sub put put_all allows_all bytes_at forget_below with_register transfer compute accesses effect settled finish step
call_by_rows = record { forth = refl; back = refl; to_next = refl; wraps = refl; beside_stack = refl; store_fault = refl; part_of_stack = refl; unknown_esp = refl }

pub call_to_rows : CallToRows
unfolding word_of known cut number has_even_parity sum difference add sub put put_all allows_all bytes_at forget_below with_register transfer compute accesses effect settled finish step
call_to_rows = record { register = refl; esp = refl; memory = refl; by_esp = refl; table = refl; overwritten = refl; load_fault = refl; unknown_byte = refl; unknown_register = refl; store_fault = refl; unknown_esp = refl; unknown_base = refl }

pub ret_rows : RetRows
unfolding word_of known cut number has_even_parity sum difference add sub put put_all allows_all bytes_at forget_below with_register transfer compute accesses effect settled finish step
ret_rows = record { plain = refl; drops = refl; drops_most = refl; constant = refl; last_of_stack = refl; load_fault = refl; end_of_stack = refl; unknown_target = refl; unknown_esp = refl }
