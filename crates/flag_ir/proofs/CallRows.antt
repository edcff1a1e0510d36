-- Worked system calls, by computation.
use Rattle.std.proofs.Common.{refl}
use Rattle.x86_values.specs.Words.{word_of, known, all_known}
use Rattle.memory.specs.Memory.{put, put_all, allows_all, bytes_at}
use Rattle.memory.specs.SystemCall.{read_call, write_call, system_call}
use Rattle.flag_ir.specs.Frames.{shared_chain, all_covered, put_shared, put_near_all, seen_memory}
use Rattle.flag_ir.specs.Operations.{perform, performs, shown_by_all}
use Rattle.flag_ir.specs.CallRows.{SystemRows, NearSystemRows}

pub system_rows : SystemRows
unfolding word_of known all_known put put_all allows_all bytes_at read_call write_call system_call perform performs shown_by_all
system_rows = record { write = refl; write_shows = refl; write_less = refl; write_less_shows = refl; write_fails = refl; write_registers = refl; write_unknown = refl; write_unmapped = refl; no_descriptor = refl; no_descriptor_shows = refl; read = refl; read_stores = refl; read_leaves = refl; exit = refl; exit_low_byte = refl; exit_unknown = refl; exit_shows = refl; other = refl; number_unknown = refl; twice = refl }

pub near_system_rows : NearSystemRows
unfolding word_of known all_known put put_all allows_all bytes_at read_call write_call system_call shared_chain all_covered put_shared put_near_all seen_memory perform performs shown_by_all
near_system_rows = record { in_frame = refl; in_frame_shows = refl; half_outside = refl; in_chain = refl; read_in_chain = refl; read_in_outer = refl; in_sealed = refl; in_memory = refl; read_in_memory = refl; no_buffer = refl; no_descriptor = refl; read_from_write = refl; second_descriptor = refl; exit = refl; no_frame = refl }
