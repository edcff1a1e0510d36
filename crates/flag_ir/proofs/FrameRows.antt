-- Worked accesses to frames, by computation.
use Rattle.std.proofs.Common.{refl}
use Rattle.x86_values.specs.Words.{word_of, known}
use Rattle.memory.specs.Memory.{put, put_all, allows_all, bytes_at}
use Rattle.flag_ir.specs.Frames.{shared_chain, all_covered, bytes_in, put_shared, put_near_all}
use Rattle.flag_ir.specs.Operations.{with_bytes, perform}
use Rattle.flag_ir.specs.FrameRows.{NearLoadRows, NearStoreRows, FixedPlaceRows}

pub near_load_rows : NearLoadRows
unfolding word_of known allows_all bytes_at shared_chain all_covered bytes_in perform
near_load_rows = record { first = refl; byte = refl; half = refl; half_outside = refl; below = refl; sealed = refl; chain = refl; chain_end = refl; no_chain = refl; chain_broken = refl; last_judged = refl; behind = refl; lowest_judged = refl; lower = refl; of_data = refl; unmapped = refl; no_frame = refl; unknown = refl }

pub near_store_rows : NearStoreRows
unfolding word_of known put put_all allows_all bytes_at shared_chain all_covered put_shared put_near_all perform
near_store_rows = record { in_frame = refl; no_memory = refl; chain_inner = refl; chain_outer = refl; half_outside = refl; sealed = refl; of_data = refl; data_beside = refl; read_only = refl; no_frame = refl; unknown = refl }

pub place_rows : FixedPlaceRows
unfolding word_of known all_covered bytes_in with_bytes perform
place_rows = record { get_first = refl; get_below = refl; get_last_byte = refl; get_argument = refl; get_half = refl; get_half_outside = refl; get_behind = refl; get_no_frame = refl; put_first = refl; put_byte = refl; put_inner_alone = refl; put_word = refl; put_half_outside = refl; put_below = refl; put_no_frame = refl; under = refl; over = refl }
