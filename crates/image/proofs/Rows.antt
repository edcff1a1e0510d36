-- What stands at addresses of images that are written out, by computation.
use Rattle.std.proofs.Common.{refl}
use Rattle.image.specs.Addresses.{segment_at, code_bytes}
use Rattle.image.specs.Rows.{Permissions, AtAddresses, CodeBytes, FirstSegment, code_and_data, code_twice}

pub permissions : Permissions
permissions = record { run = refl; write = refl; read = refl; higher = refl }

pub at_addresses : AtAddresses
unfolding segment_at code_and_data
at_addresses = record { bytes = refl; run = refl; write = refl; code = refl }

pub code_bytes_are : CodeBytes
unfolding segment_at code_bytes code_and_data code_twice
code_bytes_are = record { none = refl; one = refl; before = refl; two_pages = refl; at_the_end = refl; data_page = refl; two_segments = refl }

pub first_segment : FirstSegment
unfolding segment_at code_twice
first_segment = record { byte = refl; write = refl }
