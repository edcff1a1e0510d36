use Rattle.std.proofs.Common.{◌<◌, take}
use Rattle.std.specs.List.{All}
use Rattle.code_scan.specs.Spans.{IsSpanned}
use Rattle.code_scan.proofs.span.span_of.Given as goal

abbrev pub invariant-loop-segment : goal.invariant-loop-segment
invariant-loop-segment l = record {
  above : 0 < l.span.start;
  each : All (IsSpanned l.span) (take l.segment-index l.segments);
}
