-- Worked steps of ADD to CMP, by computation.
use Rattle.std.proofs.Common.{refl}
use Rattle.x86_values.specs.Words.{word_of, known}
use Rattle.x86_values.specs.Sizes.{cut, number}
use Rattle.x86_values.specs.Results.{has_even_parity}
use Rattle.x86_values.specs.Sums.{sum, difference, add, sub}
use Rattle.x86_values.specs.Logic.{bitwise}
use Rattle.memory.specs.Memory.{put, put_all, allows_all, bytes_at, forget_below}
use Rattle.x86_meaning.specs.Registers.{with_register}
use Rattle.x86_meaning.specs.Transfers.{transfer}
use Rattle.x86_meaning.specs.Computing.{compute}
use Rattle.x86_meaning.specs.Effect.{accesses, effect}
use Rattle.x86_meaning.specs.Step.{settled, finish, step}
use Rattle.x86_meaning.specs.AluRows.{AddRows, CarryRows, SubRows, CmpRows}

pub add_rows : AddRows
unfolding word_of known cut number has_even_parity sum difference add sub bitwise put put_all allows_all bytes_at forget_below with_register transfer compute accesses effect settled finish step
add_rows = record { plain = refl; wraps = refl; overflows = refl; negative = refl; low_byte = refl; high_byte = refl; half = refl; to_memory = refl; from_constant = refl; unspecified = refl; above_the_width = refl; memory_unspecified = refl; not_mapped = refl; not_writable = refl; unspecified_address = refl }

pub carry_rows : CarryRows
unfolding word_of known cut number has_even_parity sum difference add sub bitwise put put_all allows_all bytes_at forget_below with_register transfer compute accesses effect settled finish step
carry_rows = record { adc_set = refl; adc_cleared = refl; adc_wraps = refl; adc_twice = refl; adc_overflows = refl; adc_unspecified = refl; sbb_set = refl; sbb_cleared = refl; sbb_borrows = refl; sbb_all = refl; sbb_overflows = refl; sbb_itself = refl; sbb_unspecified = refl }

pub sub_rows : SubRows
unfolding word_of known cut number has_even_parity sum difference add sub bitwise put put_all allows_all bytes_at forget_below with_register transfer compute accesses effect settled finish step
sub_rows = record { plain = refl; borrows = refl; overflows = refl; overflows_upwards = refl; equal = refl; itself = refl; bytes_of_one = refl; bytes_unspecified = refl; memory_with_itself = refl }

pub cmp_rows : CmpRows
unfolding word_of known cut number has_even_parity sum difference add sub bitwise put put_all allows_all bytes_at forget_below with_register transfer compute accesses effect settled finish step
cmp_rows = record { less = refl; equal = refl; overflows = refl; constant_page = refl; itself = refl; unspecified = refl }
