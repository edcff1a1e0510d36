-- What stands at each address of an image: the byte, and what may be done with it (gABI, "Segment Permissions").
use Rattle.std.specs.Prelude.{ℕ, zero, suc, ◌+◌, ◌-◌, ◌/◌, ◌%◌, ◌==◌, ◌&&◌, Bool, false, cond, leb, ltb, List, [], ◌∷◌, find, Option, Some, None, slice_index}
use Rattle.std.specs.Option.{option_map, option_map_or}
use Rattle.image.specs.declared.image.Segment.{Segment}
use Rattle.image.specs.declared.image.Image.{Image}

-- whether a set of permissions has this one: PF_X 1, PF_W 2, PF_R 4
abbrev pub has : ℕ → ℕ → Bool
has flags bit = (flags / bit % 2) == 1

-- an address lies in a segment
abbrev pub holds : ℕ → Segment → Bool
holds a s = leb s.start a && ltb a (s.start + s.size)

-- the first segment of the list that has the address
unfoldable pub segment_at : Image → ℕ → Option Segment
segment_at image a = find (holds a) image.segments

-- the byte of a segment at one of its addresses; after the bytes of the file pages come zeros
abbrev pub segment_byte : ℕ → Segment → ℕ
segment_byte a s = slice_index s.bytes (a - s.start)

-- the byte at an address, where it is mapped
abbrev pub byte_at : Image → ℕ → Option ℕ
byte_at image a = option_map (segment_byte a) (segment_at image a)

-- whether the byte at an address can be written; none can where nothing is mapped
abbrev pub can_write : Image → ℕ → Bool
can_write image a = option_map_or (λ s. has s.perm.0 2) (segment_at image a) false

-- whether the byte at an address can be run; none can where nothing is mapped
abbrev pub can_run : Image → ℕ → Bool
can_run image a = option_map_or (λ s. has s.perm.0 1) (segment_at image a) false

-- the byte of a segment, where it can be run
abbrev pub code_byte_in : ℕ → Option Segment → Option ℕ
code_byte_in a None = None
code_byte_in a (Some s) = cond (has s.perm.0 1) (Some (segment_byte a s)) None

-- the byte at an address, where it can be run
abbrev pub code_byte_at : Image → ℕ → Option ℕ
code_byte_at image a = code_byte_in a (segment_at image a)

-- a byte and the bytes behind it; none where there is no byte
abbrev pub then_code : Option ℕ → List ℕ → List ℕ
then_code None bytes = []
then_code (Some b) bytes = b ∷ bytes

-- the bytes that can be run from an address on, at most n of them
unfoldable pub code_bytes : Image → ℕ → ℕ → List ℕ
code_bytes image a zero = []
code_bytes image a (suc n) = then_code (code_byte_at image a) (code_bytes image (a + 1) n)
