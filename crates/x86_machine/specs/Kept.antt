-- Instructions that are kept once they were decoded.
use Rattle.std.specs.Prelude.{◌≡◌, ℕ, ◌<◌, List, [], cond, length, Option, Some, None, slice_get}
use Rattle.std.specs.List.{All}
use Rattle.image.specs.declared.image.Segment.{Segment}
use Rattle.image.specs.Addresses.{has}
use Rattle.image.specs.Wanted.{image_with}
use Rattle.x86_code.specs.Code.{Code, code_of}
use Rattle.x86_machine.specs.declared.kept.KeptInstr.{KeptInstr}

-- a segment without the bytes that can't be run
abbrev pub code_segment : Segment → Segment
code_segment s = record s { bytes = cond (has s.perm.0 1) s.bytes [] }

-- what a contract sees of kept instructions: the segments that they are decoded from, and those that were decoded so far
pub record KeptContents : Type 0 where
  pub segments : List Segment
  pub kept : List KeptInstr

-- the instructions of segments
unfoldable pub code_by : List Segment → Code
code_by segments = code_of (image_with segments 0)

-- each kept one is that which stands at its address
abbrev pub AreRight : List Segment → List KeptInstr → Type 0
AreRight segments kept = All (λ (k : KeptInstr). code_by segments k.at ≡ Some (k.instr, k.len)) kept

-- the kept one of an index is that which stands at an address
pub record IsKeptAt (at index : ℕ) (c : KeptContents) : Type 0 where
  pub within : index < length c.kept
  pub stands : (k : KeptInstr) → slice_get c.kept index ≡ Some k → code_by c.segments at ≡ Some (k.instr, k.len)

-- what stands at an address: nothing, or the kept one of an index
abbrev pub IsFetched : ℕ → Option ℕ → KeptContents → Type 0
IsFetched at None c = code_by c.segments at ≡ None
IsFetched at (Some index) c = IsKeptAt at index c
