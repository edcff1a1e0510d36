use Rattle.std.proofs.Common.{◌≡◌, None, drop}
use Rattle.code_layout.proofs.CodeSegments.{least_with}
use Rattle.code_layout.proofs.span.least_start.Given as goal

abbrev pub invariant-loop-segment : goal.invariant-loop-segment
invariant-loop-segment l = least_with l.least (drop l.segment-index l.segments) ≡ least_with None l.segments
