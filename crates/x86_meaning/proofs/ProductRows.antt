-- Worked steps of MUL and IMUL, by computation.
use Rattle.std.proofs.Common.{refl}
use Rattle.x86_values.specs.Words.{word_of, known}
use Rattle.x86_values.specs.Sizes.{cut, number}
use Rattle.x86_values.specs.Products.{multiply}
use Rattle.memory.specs.Memory.{put, put_all, allows_all, bytes_at, forget_below}
use Rattle.x86_meaning.specs.Registers.{with_register}
use Rattle.x86_meaning.specs.Transfers.{transfer}
use Rattle.x86_meaning.specs.Computing.{compute}
use Rattle.x86_meaning.specs.Effect.{accesses, effect}
use Rattle.x86_meaning.specs.Step.{settled, finish, step}
use Rattle.x86_meaning.specs.ProductRows.{MulRows, ImulWideRows, ImulRows, ImulByRows}

pub mul_rows : MulRows
unfolding word_of known cut number multiply put put_all allows_all bytes_at forget_below with_register transfer compute accesses effect settled finish step
mul_rows = record { byte_exceeds = refl; byte_fits = refl; two_bytes = refl; greatest = refl; by_upper = refl; by_itself = refl; from_wrapped = refl; from_last_byte = refl; load_faults_in_part = refl; from_constant = refl; from_unspecified = refl; above_unspecified = refl; lowest_unspecified = refl; highest_unspecified = refl; load_faults = refl; nowhere = refl }

pub imul_wide_rows : ImulWideRows
unfolding word_of known cut number multiply put put_all allows_all bytes_at forget_below with_register transfer compute accesses effect settled finish step
imul_wide_rows = record { byte_negative = refl; byte_exceeds = refl; both_negative = refl; two_bytes = refl; least = refl; by_upper = refl; positive_exceeds = refl; negative_exceeds = refl; from_memory = refl; from_unspecified = refl; load_faults = refl; nowhere = refl }

pub imul_rows : ImulRows
unfolding word_of known cut number multiply put put_all allows_all bytes_at forget_below with_register transfer compute accesses effect settled finish step
imul_rows = record { plain = refl; exceeds_by_sign = refl; least = refl; cut_off = refl; two_bytes_exceed = refl; two_bytes_fit = refl; by_itself = refl; from_stack = refl; from_last_bytes = refl; load_faults_in_part = refl; target_unspecified = refl; above_unspecified = refl; nowhere = refl }

pub imul_by_rows : ImulByRows
unfolding word_of known cut number multiply put put_all allows_all bytes_at forget_below with_register transfer compute accesses effect settled finish step
imul_by_rows = record { plain = refl; negative_constant = refl; exceeds_by_sign = refl; two_bytes = refl; from_memory = refl; from_last_bytes = refl; by_itself = refl; source_unspecified = refl; load_faults = refl; nowhere = refl }
