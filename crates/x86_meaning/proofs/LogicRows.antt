-- Worked steps of AND to NEG, by computation.
use Rattle.std.proofs.Common.{refl}
use Rattle.x86_values.specs.Words.{word_of, known}
use Rattle.x86_values.specs.Sizes.{cut, number}
use Rattle.x86_values.specs.Results.{has_even_parity}
use Rattle.x86_values.specs.Sums.{sum, difference, add, sub}
use Rattle.x86_values.specs.Logic.{bitwise}
use Rattle.memory.specs.Memory.{put, put_all, allows_all, bytes_at, forget_below}
use Rattle.x86_meaning.specs.Registers.{with_register}
use Rattle.x86_meaning.specs.Transfers.{transfer}
use Rattle.x86_meaning.specs.Computing.{compute}
use Rattle.x86_meaning.specs.Effect.{accesses, effect}
use Rattle.x86_meaning.specs.Step.{settled, finish, step}
use Rattle.x86_meaning.specs.LogicRows.{LogicRows, TestRows, IncRows, NotRows}

pub logic_rows : LogicRows
unfolding word_of known cut number has_even_parity sum difference add sub bitwise put put_all allows_all bytes_at forget_below with_register transfer compute accesses effect settled finish step
logic_rows = record { and = refl; and_sign = refl; and_zero = refl; and_unspecified = refl; and_itself = refl; or = refl; or_ones = refl; or_unspecified = refl; xor = refl; xor_itself = refl; xor_unspecified = refl; byte = refl; half = refl }

pub test_rows : TestRows
unfolding word_of known cut number has_even_parity sum difference add sub bitwise put put_all allows_all bytes_at forget_below with_register transfer compute accesses effect settled finish step
test_rows = record { zero = refl; sign = refl; byte = refl; half = refl; itself = refl; constant_page = refl; not_mapped = refl }

pub inc_rows : IncRows
unfolding word_of known cut number has_even_parity sum difference add sub bitwise put put_all allows_all bytes_at forget_below with_register transfer compute accesses effect settled finish step
inc_rows = record { inc_wraps = refl; inc_overflows = refl; inc_byte = refl; inc_half = refl; inc_unspecified = refl; inc_no_carry = refl; inc_memory = refl; inc_not_writable = refl; dec_wraps = refl; dec_overflows = refl; dec_zero = refl; dec_byte = refl; dec_half = refl; dec_unspecified = refl; dec_memory = refl }

pub not_rows : NotRows
unfolding word_of known cut number has_even_parity sum difference add sub bitwise put put_all allows_all bytes_at forget_below with_register transfer compute accesses effect settled finish step
not_rows = record { not_plain = refl; not_flags = refl; not_byte = refl; not_half = refl; not_unspecified = refl; not_memory = refl; not_not_writable = refl; neg_zero = refl; neg_one = refl; neg_least = refl; neg_byte = refl; neg_half = refl; neg_unspecified = refl; neg_memory = refl }
