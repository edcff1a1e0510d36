-- Worked steps of PUSH, POP and LEAVE, by computation.
use Rattle.std.proofs.Common.{refl}
use Rattle.x86_values.specs.Words.{word_of, known}
use Rattle.x86_values.specs.Sizes.{cut, number}
use Rattle.x86_values.specs.Results.{has_even_parity}
use Rattle.x86_values.specs.Sums.{sum, difference, add, sub}
use Rattle.memory.specs.Memory.{put, put_all, allows_all, bytes_at, forget_below}
use Rattle.x86_meaning.specs.Registers.{with_register}
use Rattle.x86_meaning.specs.Transfers.{transfer}
use Rattle.x86_meaning.specs.Computing.{compute}
use Rattle.x86_meaning.specs.Effect.{accesses, effect}
use Rattle.x86_meaning.specs.Step.{settled, finish, step}
use Rattle.x86_meaning.specs.StackRows.{PushRows, PopRows, LeaveRows}

pub push_rows : PushRows
unfolding word_of known cut number has_even_parity sum difference add sub put put_all allows_all bytes_at forget_below with_register transfer compute accesses effect settled finish step
push_rows = record { register = refl; esp = refl; constant = refl; memory = refl; by_esp = refl; unknown_byte = refl; unknown_register = refl; beside_stack = refl; load_fault = refl; store_fault = refl; end_of_stack = refl; part_of_stack = refl; last_of_stack = refl; unknown_esp = refl; unknown_base = refl }

pub pop_rows : PopRows
unfolding word_of known cut number has_even_parity sum difference add sub put put_all allows_all bytes_at forget_below with_register transfer compute accesses effect settled finish step
pop_rows = record { register = refl; esp = refl; memory = refl; by_esp = refl; by_another = refl; unknown_bytes = refl; unknown_to_memory = refl; unknown_to_esp = refl; constant = refl; load_fault = refl; end_of_stack = refl; last_of_stack = refl; store_fault = refl; store_nothing = refl; unknown_esp = refl; unknown_base = refl }

pub leave_rows : LeaveRows
unfolding word_of known cut number has_even_parity sum difference add sub put put_all allows_all bytes_at forget_below with_register transfer compute accesses effect settled finish step
leave_rows = record { stack = refl; other_esp = refl; unknown_esp = refl; unknown_bytes = refl; constant = refl; load_fault = refl; load_past = refl; unknown_ebp = refl }
