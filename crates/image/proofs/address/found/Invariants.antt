use Rattle.std.proofs.Common.{◌≡◌, drop}
use Rattle.std.specs.List.{find}
use Rattle.image.specs.Addresses.{holds}
use Rattle.image.proofs.address.found.Given as goal

abbrev pub invariant-loop-segment : goal.invariant-loop-segment
invariant-loop-segment l = find (holds l.at) (drop l.segment-index l.segments) ≡ find (holds l.at) l.segments
