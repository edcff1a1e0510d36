-- Worked operations that need no frame, by computation.
use Rattle.std.proofs.Common.{refl}
use Rattle.x86_values.specs.Words.{word_of, known}
use Rattle.x86_values.specs.Sizes.{cut, number}
use Rattle.x86_values.specs.Results.{has_even_parity}
use Rattle.x86_values.specs.Sums.{difference, sub}
use Rattle.x86_values.specs.Divisions.{divide}
use Rattle.memory.specs.Memory.{put, put_all, allows_all, bytes_at}
use Rattle.flag_ir.specs.Calculations.{difference_of}
use Rattle.flag_ir.specs.Operations.{perform, performs}
use Rattle.flag_ir.specs.OperationRows.{VariableRows, ChoiceRows, DivisionRows, LoadAndStoreRows}

pub variable_rows : VariableRows
unfolding word_of known cut number perform performs
variable_rows = record { register = refl; word = refl; unknown = refl; flag = refl; temp = refl; from_temp = refl; from_flag = refl; local_byte = refl; local_half = refl; local_word = refl; other_local = refl; local_past_the_last = refl; no_frame = refl }

pub choice_rows : ChoiceRows
unfolding word_of known cut number has_even_parity difference sub difference_of perform performs
choice_rows = record { calc = refl; forget = refl; forgets_one = refl; forget_flag = refl; pick_yes = refl; pick_no = refl; pick_unknown = refl; pick_beside_unknown = refl; pick_beside_unknown_no = refl; pick_takes_unknown = refl; need = refl; need_first_byte = refl; need_last_byte = refl }

pub division_rows : DivisionRows
unfolding word_of known cut number divide perform
division_rows = record { byte = refl; byte_greatest = refl; byte_too_great = refl; byte_signed = refl; half = refl; half_too_great = refl; half_signed = refl; whole = refl; whole_too_great = refl; whole_signed = refl; least_quotient = refl; signed_too_great = refl; by_none = refl; by_none_in_the_size = refl; unknown = refl; unknown_above_the_size = refl; unknown_divisor = refl; into_one = refl }

pub memory_rows : LoadAndStoreRows
unfolding word_of known cut number put put_all allows_all bytes_at perform performs
memory_rows = record { load_byte = refl; load_half = refl; load_word = refl; load_unknown_byte = refl; load_over_the_edge = refl; load_read_only = refl; load_unmapped = refl; load_last_unmapped = refl; load_unknown_address = refl; store_byte = refl; store_half = refl; store_word = refl; store_unknown = refl; store_over_the_edge = refl; store_read_only = refl; store_last_unmapped = refl; store_unknown_address = refl; in_order = refl; first_end = refl }
