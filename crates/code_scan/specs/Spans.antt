-- Between which addresses all bytes that can be run lie.
use Rattle.std.specs.Prelude.{◌≡◌, ℕ, ◌<◌, ◌≤◌, ◌&&◌, Bool, true, leb, ltb}
use Rattle.image.specs.declared.image.Segment.{Segment}
use Rattle.image.specs.declared.image.Image.{Image}
use Rattle.image.specs.Addresses.{has, can_run}
use Rattle.image.specs.Wanted.{segment_end}
use Rattle.code_scan.specs.declared.span.CodeSpan.{CodeSpan}

-- an address is between the two
abbrev pub is_between : ℕ → CodeSpan → Bool
is_between a span = leb span.start a && ltb a span.end

-- a segment lies between them, if it can be run
abbrev pub IsSpanned : CodeSpan → Segment → Type 0
IsSpanned span s = has s.perm.0 1 ≡ true → (span.start ≤ s.start) × (segment_end s ≤ span.end)

-- each byte that can be run does, and address 0 doesn't
pub record IsCodeSpan (image : Image) (span : CodeSpan) : Type 0 where
  pub above : 0 < span.start
  pub spans : (a : ℕ) → can_run image a ≡ true → is_between a span ≡ true
