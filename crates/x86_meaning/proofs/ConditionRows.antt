-- Worked steps of Jcc, by computation.
use Rattle.std.proofs.Common.{refl}
use Rattle.x86_values.specs.Words.{word_of, known}
use Rattle.x86_values.specs.Sizes.{cut, number}
use Rattle.x86_values.specs.Results.{has_even_parity}
use Rattle.x86_values.specs.Sums.{sum, difference, add, sub}
use Rattle.memory.specs.Memory.{put, put_all, allows_all, bytes_at, forget_below}
use Rattle.x86_meaning.specs.Registers.{with_register}
use Rattle.x86_meaning.specs.Transfers.{transfer}
use Rattle.x86_meaning.specs.Computing.{compute}
use Rattle.x86_meaning.specs.Effect.{accesses, effect}
use Rattle.x86_meaning.specs.Step.{settled, finish, step}
use Rattle.x86_meaning.specs.ConditionRows.{JccTableRows, JccRows}

pub jcc_table_rows : JccTableRows
unfolding word_of known cut number has_even_parity sum difference add sub put put_all allows_all bytes_at forget_below with_register transfer compute accesses effect settled finish step
jcc_table_rows = record { o = (refl, refl); no = (refl, refl); b = (refl, refl); ae = (refl, refl); e = (refl, refl); ne = (refl, refl); be = (refl, (refl, (refl, refl))); a = (refl, (refl, (refl, refl))); s = (refl, refl); ns = (refl, refl); p = (refl, refl); np = (refl, refl); l = (refl, (refl, (refl, refl))); ge = (refl, (refl, (refl, refl))); le = (refl, (refl, (refl, (refl, (refl, (refl, refl)))))); g = (refl, (refl, (refl, (refl, (refl, (refl, refl)))))) }

pub jcc_rows : JccRows
unfolding word_of known cut number has_even_parity sum difference add sub put put_all allows_all bytes_at forget_below with_register transfer compute accesses effect settled finish step
jcc_rows = record { back = refl; wraps = refl; stays = refl; unknown_registers = refl; others_unknown = refl; two_known = refl; cf_unknown = refl; zf_unknown = refl; be_by_cf = refl; be_by_zf = refl; le_by_sf = refl; g_by_zf = refl; ge_by_of = refl; pf_unknown = refl; below_esp = refl; unknown_esp = refl }
