-- How memory is filled.
use Rattle.std.specs.Prelude.{ℕ, Bool, cond, List, map, Some}
use Rattle.x86_values.specs.declared.byte.Byte.{Byte}
use Rattle.x86_values.specs.declared.byte.Byte.TheVariants.{Known}
use Rattle.image.specs.declared.image.Segment.{Segment}
use Rattle.image.specs.Addresses.{holds}
use Rattle.memory.specs.Memory.{Memory, put_all, place_in}
use Rattle.mem_pages.specs.Regions.{with_region}

-- a region beside other memory, and bytes that fill a part of it
abbrev pub filled_region : ℕ → ℕ → Bool → Byte → ℕ → List ℕ → Memory → Memory
filled_region start end can_write unset at bytes m = put_all at (map Known bytes) (with_region start end can_write unset m)

-- a segment beside other memory
abbrev pub with_segment : Segment → Memory → Memory
with_segment s m a = cond (holds a s) (Some (place_in a s)) (m a)
