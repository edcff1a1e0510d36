-- Worked steps of MOV, LEA and XCHG, by computation.
use Rattle.std.proofs.Common.{refl}
use Rattle.x86_values.specs.Words.{word_of, known}
use Rattle.x86_values.specs.Sizes.{cut, number}
use Rattle.x86_values.specs.Results.{has_even_parity}
use Rattle.x86_values.specs.Sums.{sum, difference, add, sub}
use Rattle.memory.specs.Memory.{put, put_all, allows_all, bytes_at, forget_below}
use Rattle.x86_meaning.specs.Registers.{with_register}
use Rattle.x86_meaning.specs.Transfers.{transfer}
use Rattle.x86_meaning.specs.Computing.{compute}
use Rattle.x86_meaning.specs.Effect.{accesses, effect}
use Rattle.x86_meaning.specs.Step.{settled, finish, step}
use Rattle.x86_meaning.specs.CopyRows.{MovRegisterRows, MovMemoryRows, MovAddressRows, LeaRows, XchgRows}

pub mov_register_rows : MovRegisterRows
unfolding word_of known cut number has_even_parity sum difference add sub put put_all allows_all bytes_at forget_below with_register transfer compute accesses effect settled finish step
mov_register_rows = record { whole = refl; two_bytes = refl; low_of_high = refl; high_of_low = refl; high_of_high = refl; low_of_low = refl; constant = refl; constant_of_two_bytes = refl; constant_of_one_byte = refl; flags_stay = refl; unknown_byte = refl; known_byte = refl; to_esp = refl; to_esp_unknown = refl }

pub mov_memory_rows : MovMemoryRows
unfolding word_of known cut number has_even_parity sum difference add sub put put_all allows_all bytes_at forget_below with_register transfer compute accesses effect settled finish step
mov_memory_rows = record { load = refl; load_two = refl; load_one = refl; load_past = refl; load_nothing = refl; load_constant = refl; load_unknown = refl; load_from_esp = refl; store = refl; store_two = refl; store_one = refl; store_unknown = refl; store_constant = refl; store_past = refl; store_nothing = refl; store_below_esp = refl }

pub mov_address_rows : MovAddressRows
unfolding word_of known cut number has_even_parity sum difference add sub put put_all allows_all bytes_at forget_below with_register transfer compute accesses effect settled finish step
mov_address_rows = record { sum = refl; wraps = refl; whole_base = refl; own_base = refl; unknown_base = refl; unknown_index = refl; unused = refl }

pub lea_rows : LeaRows
unfolding word_of known cut number has_even_parity sum difference add sub put put_all allows_all bytes_at forget_below with_register transfer compute accesses effect settled finish step
lea_rows = record { sum = refl; wraps = refl; two_bytes = refl; no_access = refl; own_base = refl; unknown_base = refl; unknown_index = refl; to_unknown = refl; to_esp = refl; to_esp_unknown = refl }

pub xchg_rows : XchgRows
unfolding word_of known cut number has_even_parity sum difference add sub put put_all allows_all bytes_at forget_below with_register transfer compute accesses effect settled finish step
xchg_rows = record { whole = refl; two_bytes = refl; one_register = refl; itself = refl; memory = refl; memory_two = refl; unknown_byte = refl; own_base = refl; with_esp = refl; unknown_esp = refl; load_fault = refl; store_fault = refl; unknown_base = refl }
