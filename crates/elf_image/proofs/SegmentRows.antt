-- Lists of program headers that are written out, by computation.
use Rattle.std.proofs.Common.{refl}
use Rattle.elf_image.specs.SegmentRows.{CodeSpans, ImageSizes, RoomRanges, SizesAndOffsets, FlagSets, PagesShared, Entries, SegmentPairs, WholePages, ZeroTails}

pub code_spans : CodeSpans
code_spans =
    record { source = refl; source_byte_more = refl; source_page_more = refl; any = refl; any_byte_more = refl; any_page_more = refl; two = refl; two_page_more = refl; lower_last = refl; lower_last_page_more = refl; data_apart = refl }

pub image_sizes : ImageSizes
image_sizes =
    record { source = refl; source_byte_more = refl; source_page_more = refl; any = refl; any_byte_more = refl; any_page_more = refl }

pub room_ranges : RoomRanges
room_ranges =
    record { lowest = refl; lowest_any = refl; lower = refl; lower_any = refl; zero_address = refl; source_end = refl; source_past = refl; any_end = refl; any_past = refl; any_alone = refl; past_all = refl }

pub sizes_and_offsets : SizesAndOffsets
sizes_and_offsets =
    record { whole_file = refl; past_the_file = refl; offset_past_the_file = refl; past_all = refl; memory_as_file = refl; memory_less = refl; no_memory = refl; aligned = refl; misaligned = refl; by_one = refl }

pub flag_sets : FlagSets
flag_sets =
    record { sets = refl; higher = refl; higher_alone = refl }

pub pages_shared : PagesShared
pages_shared =
    record { next_page = refl; page_before = refl; reaches_up = refl; reaches_in = refl; same_page = refl; around = refl; far_in_the_list = refl; later_ones = refl }

pub entries : Entries
entries =
    record { entries = refl; second_code = refl; no_code = refl; no_segments = refl }

pub segment_pairs : SegmentPairs
segment_pairs =
    record { file_size = refl; size_align = refl; align_permission = refl; permission_range = refl; range_page = refl; page_entry = refl; entry_span = refl; span_size = refl; size_alone = refl; none = refl; first_of_two = refl; first_of_none = refl }

pub whole_pages : WholePages
whole_pages =
    record { one_byte = refl; two_pages = refl; no_file_page = refl; higher_flags = refl }

pub zero_tails : ZeroTails
zero_tails =
    record { kept_without_write = refl; kept_in_code = refl; zeros_with_write = refl; kept_where_sizes_agree = refl; inset = refl; inset_without_write = refl; none_within_a_page = refl; none_within_a_page_kept = refl; two_file_pages = refl }
