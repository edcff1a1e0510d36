-- What the wide room wants of an image, in terms of its segments and its entry.
use Rattle.std.specs.Prelude.{◌≡◌, ℕ, ◌+◌, ◌-◌, ◌%◌, ◌<◌, ◌≤◌, ◌&&◌, Bool, true, false, ltb, List, [], ◌∷◌, length, map, filter}
use Rattle.std.specs.List.{AllByRecursion, list_any, sum_by}
use Rattle.image.specs.declared.image.Segment.{Segment}
use Rattle.image.specs.declared.image.Image.{Image}
use Rattle.image.specs.declared.room.Room.TheVariants.{Any}
use Rattle.image.specs.Addresses.{has, holds}
use Rattle.image.specs.Rooms.{room_end, room_span, room_size, greatest, least}

-- the image of these segments with this entry
abbrev pub image_with : List Segment → ℕ → Image
image_with segments entry = record { segments = segments; entry = entry }

-- the address after the last of a segment
abbrev pub segment_end : Segment → ℕ
segment_end s = s.start + s.size

-- A segment has its place: it is one page or more of the wide room, above the lowest page; its bytes are those of its first pages, of
-- all or none of them too; it can be read, and it can't be both written and run.
pub record HasItsPlace (s : Segment) : Type 0 where
  pub start_in_pages : s.start % 4096 ≡ 0
  pub size_in_pages : s.size % 4096 ≡ 0
  pub bytes_in_pages : length s.bytes % 4096 ≡ 0
  pub sized : 0 < s.size
  pub within : length s.bytes ≤ s.size
  pub from : 4096 ≤ s.start
  pub to : segment_end s ≤ room_end Any
  pub perm : s.perm.0 < 8
  pub readable : has s.perm.0 4 ≡ true
  pub not_both : (has s.perm.0 2 && has s.perm.0 1) ≡ false

-- two segments have an address in common
abbrev pub meets : Segment → Segment → Bool
meets s t = ltb s.start (segment_end t) && ltb t.start (segment_end s)

-- no two segments of the list have an address in common
abbrev pub NoneMeet : List Segment → Type 0
NoneMeet [] = Unit {0}
NoneMeet (s ∷ ss) = AllByRecursion (λ t. meets s t ≡ false) ss × NoneMeet ss

-- a segment can be run
abbrev pub is_code : Segment → Bool
is_code s = has s.perm.0 1

-- a segment can be run and has this address
abbrev pub is_code_at : ℕ → Segment → Bool
is_code_at a s = is_code s && holds a s

-- the bytes from the first address that can be run to the end of the last segment that can be run
abbrev pub span_of_code : List Segment → ℕ
span_of_code ss = greatest (map segment_end (filter is_code ss)) - least (map (λ s. s.start) (filter is_code ss))

-- What the wide room wants: each segment has its place and no two meet, the entry lies in one that can be run, and the span of the
-- code and the size of all segments are at most those of the room.
pub record FitsWideRoom (segments : List Segment) (entry : ℕ) : Type 0 where
  pub each : AllByRecursion HasItsPlace segments
  pub apart : NoneMeet segments
  pub entered : list_any (is_code_at entry) segments ≡ true
  pub span : span_of_code segments ≤ room_span Any
  pub total : sum_by (λ s. s.size) segments ≤ room_size Any
