-- Worked steps of JMP, CLD and NOP, by computation.
use Rattle.std.proofs.Common.{refl}
use Rattle.x86_values.specs.Words.{word_of, known}
use Rattle.x86_values.specs.Sizes.{cut, number}
use Rattle.x86_values.specs.Results.{has_even_parity}
use Rattle.x86_values.specs.Sums.{sum, difference, add, sub}
use Rattle.memory.specs.Memory.{put, put_all, allows_all, bytes_at, forget_below}
use Rattle.x86_meaning.specs.Registers.{with_register}
use Rattle.x86_meaning.specs.Transfers.{transfer}
use Rattle.x86_meaning.specs.Computing.{compute}
use Rattle.x86_meaning.specs.Effect.{accesses, effect}
use Rattle.x86_meaning.specs.Step.{settled, finish, step}
use Rattle.x86_meaning.specs.JumpRows.{JmpRows, JmpToRows, CldRows, NopRows}

pub jmp_rows : JmpRows
unfolding word_of known cut number has_even_parity sum difference add sub put put_all allows_all bytes_at forget_below with_register transfer compute accesses effect settled finish step
jmp_rows = record { forth = refl; back = refl; to_next = refl; last = refl; wraps = refl; unknown_registers = refl; below_esp = refl; unknown_esp = refl }

pub jmp_to_rows : JmpToRows
unfolding word_of known cut number has_even_parity sum difference add sub put put_all allows_all bytes_at forget_below with_register transfer compute accesses effect settled finish step
jmp_to_rows = record { register = refl; last = refl; memory = refl; by_esp = refl; table = refl; unknown_register = refl; unknown_byte = refl; load_fault = refl; load_past = refl; unknown_base = refl; unknown_esp = refl }

pub cld_rows : CldRows
unfolding word_of known cut number has_even_parity sum difference add sub put put_all allows_all bytes_at forget_below with_register transfer compute accesses effect settled finish step
cld_rows = record { flags_set = refl; flags_cleared = refl; flags_unknown = refl; unknown_registers = refl; below_esp = refl; unknown_esp = refl }

pub nop_rows : NopRows
unfolding word_of known cut number has_even_parity sum difference add sub put put_all allows_all bytes_at forget_below with_register transfer compute accesses effect settled finish step
nop_rows = record { flags_set = refl; flags_cleared = refl; flags_unknown = refl; unknown_registers = refl; below_esp = refl; unknown_esp = refl }
