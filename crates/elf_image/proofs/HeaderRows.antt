-- Files of a header and a few program headers, by computation.
use Rattle.std.proofs.Common.{refl}
use Rattle.elf_image.specs.Fields.{headers_from}
use Rattle.elf_image.specs.Refusals.{refusal_of}
use Rattle.elf_image.specs.HeaderRows.{FieldPlaces, HeaderTypes, HeaderCauses, HeaderPairs, one_segment, passed_over, with_empty, with_empty_past_file}

pub field_places : FieldPlaces
field_places =
    record { type_is = refl; machine_is = refl; entry_is = refl; phoff_is = refl; phentsize_is = refl; phnum_is = refl; program_header = refl; magic = refl; no_magic = refl }

pub header_types : HeaderTypes
header_types =
    record { segments = refl; memory_alone = refl; file_alone = refl; empty = refl; dynamic = refl; empty_dynamic = refl }

pub header_causes : HeaderCauses
unfolding refusal_of headers_from one_segment passed_over with_empty
header_causes =
    record { none = refl; others_are_passed_over = refl; one_is_left = refl; magic = refl; class = refl; order = refl; version = refl; shared_object = refl; relocatable = refl; high_byte_of_the_type = refl; machine = refl; header_size = refl; table_ends = refl; table_past_the_file = refl; table_past_all = refl; header_alone = refl; cut_header = refl; interpreter = refl; dynamic = refl; note = refl }

pub header_pairs : HeaderPairs
unfolding refusal_of headers_from one_segment with_empty with_empty_past_file
header_pairs =
    record { short_magic = refl; magic_class = refl; class_order = refl; order_version = refl; version_kind = refl; kind_machine = refl; machine_size = refl; size_table = refl; table_dynamic = refl; dynamic_file = refl }
