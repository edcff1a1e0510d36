-- Rows that are worked by hand, by computation.
use Rattle.std.proofs.Common.{refl}
use Rattle.image.specs.Addresses.{segment_at}
use Rattle.plan_types.specs.Straight.{straight_run}
use Rattle.plan_types.specs.Tables.{table_words, table_in}
use Rattle.plan_types.specs.StraightRows.{StraightRuns}
use Rattle.plan_types.specs.TableRows.{ConstantWords, TableJumps, Comparisons, Bounds, HowMany, TablesOfRuns, pages, zeros_of_code}
use Rattle.plan_types.specs.LeadingRows.{Leaders, Procedures, Successors, code_then_data}

pub straight_runs : StraightRuns
unfolding straight_run
straight_runs = record { jmp = refl; jmp_to_register = refl; jmp_to_memory = refl; ret = refl; ret_with_drop = refl; call = refl; call_to = refl; jcc = refl; int80 = refl; mov = refl; none_behind = refl; none_there = refl; from_second = refl; at_most_none = refl; at_most_two = refl }

pub constant_words : ConstantWords
unfolding segment_at pages
constant_words = record { in_code = refl; in_data = refl; written = refl; last = refl; fourth_written = refl; third_written = refl; second_written = refl; unmapped = refl; first_unmapped = refl; last_mapped = refl; fourth_unmapped = refl }

pub table_jumps : TableJumps
table_jumps = record { is = refl; scale_one = refl; scale_two = refl; scale_eight = refl; with_base = refl; base_alone = refl; no_index = refl; register = refl; call = refl; direct = refl }

pub comparisons : Comparisons
comparisons = record { is = refl; greatest = refl; other_register = refl; two_bytes = refl; one_byte = refl; difference = refl; with_register = refl; with_memory = refl; of_memory = refl; test = refl; above = refl; no_jump = refl }

pub bounds : Bounds
bounds = record { none = refl; is = refl; no_ja = refl; ja_before = refl; other_condition = refl; between = refl; nearest = refl; nearest_of_two_ja = refl; nearer_without_ja = refl; other_register = refl; ja_alone = refl }

pub how_many : HowMany
unfolding segment_at table_words pages zeros_of_code
how_many = record { bound_zero = refl; bound_three = refl; no_bound = refl; no_bound_none = refl; to_written = refl; from_written = refl; to_unmapped = refl; up_to_1023 = refl; up_to_1024 = refl; past_1024 = refl; greatest_bound = refl; no_bound_1024 = refl }

pub tables_of_runs : TablesOfRuns
unfolding segment_at table_words table_in pages
tables_of_runs = record { alone = refl; bounded = refl; past_the_end_of_code = refl; other_register = refl; in_order = refl; eighth = refl; ninth = refl; empty = refl; no_jump = refl; jump_within = refl }

pub leaders : Leaders
leaders = record { jmp = refl; jmp_back = refl; jmp_to_zero = refl; jmp_to_the_last = refl; jcc = refl; call = refl; call_to_register = refl; call_to_memory = refl; jmp_to = refl; ret = refl; int80 = refl; mov = refl }

pub procedures : Procedures
unfolding segment_at code_then_data
procedures = record { call = refl; call_far = refl; call_back = refl; call_to = refl; jmp = refl; jcc = refl; mov = refl; mov_to_memory = refl; mov_data = refl; mov_unmapped = refl; mov_two = refl; mov_one = refl; mov_register = refl; mov_from_memory = refl; push = refl; push_data = refl; push_register = refl; push_memory = refl; lea = refl; lea_two = refl; lea_data = refl; lea_base = refl; lea_index = refl; lea_both = refl; add = refl; cmp = refl; ret = refl }

pub successors : Successors
successors = record { jmp = refl; jcc = refl; by_first_table = refl; by_second_table = refl; by_no_table = refl; by_register = refl; ret = refl; ret_with_drop = refl; call = refl; call_to = refl; int80 = refl; nop = refl }
