use Rattle.std.proofs.Common.{◌≡◌, drop}
use Rattle.code_layout.proofs.CodeSegments.{greatest_with}
use Rattle.code_layout.proofs.span.greatest_end.Given as goal

abbrev pub invariant-loop-segment : goal.invariant-loop-segment
invariant-loop-segment l = greatest_with l.end (drop l.segment-index l.segments) ≡ greatest_with 0 l.segments
