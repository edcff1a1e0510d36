-- The causes of a refusal in their order, and their printed names, by computation.
use Rattle.std.proofs.Common.{refl}
use Rattle.elf_image.specs.RefusalRows.{OrderOfCauses, PrintedNames}

pub order_of_causes : OrderOfCauses
order_of_causes file room = refl

pub printed_names : PrintedNames
printed_names =
    record { short = refl; magic = refl; class = refl; order = refl; version = refl; kind = refl; machine = refl; header_size = refl; header_table = refl; dynamic = refl; segment_file = refl; segment_size = refl; segment_align = refl; permission = refl; range = refl; shared_page = refl; entry = refl; code_span = refl; image_size = refl; not_yet = refl }
