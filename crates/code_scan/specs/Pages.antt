-- An index from the pages of 4,096 bytes to segments.
use Rattle.std.specs.Prelude.{◌≡◌, ℕ, ◌/◌, List, length, find, slice_get, slice_index_or}
use Rattle.image.specs.declared.image.Segment.{Segment}
use Rattle.image.specs.Addresses.{holds}

-- At each page stands the index of the segment that has its addresses, and where none has them, or behind the last page, the number of
-- segments.
abbrev pub IsPageIndex : List Segment → List ℕ → Type 0
IsPageIndex segments pages = (a : ℕ) → find (holds a) segments ≡ slice_get segments (slice_index_or pages (a / 4096) (length segments))
