use Rattle.std.proofs.Common.{◌≡◌, ℕ, ◌≤◌, ◌/◌, find, drop, length, slice_get, slice_index_or}
use Rattle.image.specs.Addresses.{holds}
use Rattle.code_scan.proofs.pages.add_segments.Given as goal

abbrev pub invariant-loop-left : goal.invariant-loop-left
invariant-loop-left l = record {
  within : l.left ≤ length l.segments;
  size : length l.pages ≡ length l.fn.pages;
  listed : (a : ℕ) → find (holds a) (drop l.left l.segments) ≡ slice_get l.segments (slice_index_or l.pages (a / 4096) (length l.segments));
}

abbrev pub decreases-loop-left : goal.decreases-loop-left
decreases-loop-left l = l.left
