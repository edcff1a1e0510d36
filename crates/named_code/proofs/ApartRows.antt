-- Worked rows of code whose accesses keep apart, by computation.
use Rattle.std.proofs.Common.{refl}
use Rattle.x86_values.specs.Words.{word_of, known, all_known}
use Rattle.x86_values.specs.Sizes.{cut, number}
use Rattle.memory.specs.SystemCall.{read_call, write_call, system_call}
use Rattle.memory.specs.Memory.{put, put_all, allows_all, bytes_at}
use Rattle.x86_meaning.specs.Registers.{with_register}
use Rattle.x86_meaning.specs.Computing.{compute}
use Rattle.x86_meaning.specs.Transfers.{transfer}
use Rattle.x86_meaning.specs.Effect.{accesses, effect}
use Rattle.private_memory.specs.PrivateArea.{each_address, is_apart_access}
use Rattle.named_code.specs.Running.{act, code_next}
use Rattle.named_code.specs.TestedRun.{all_pass, tested_next}
use Rattle.named_code.specs.ApartRows.{ApartRows}

pub apart_rows : ApartRows
unfolding compute word_of known all_known cut number put put_all allows_all bytes_at with_register transfer accesses effect act code_next system_call read_call write_call each_address is_apart_access all_pass tested_next
apart_rows = record { turn = refl; ended = refl; by_old = refl; no_turn = refl; refused = refl; not_mapped = refl; below_code = refl; into_code = refl; last_of_code = refl; cells = refl; last_cell = refl; behind_cells = refl; before_images = refl; images = refl; write = refl; read = refl; elsewhere = refl; empty = refl; no_descriptor = refl; nothing = refl }
