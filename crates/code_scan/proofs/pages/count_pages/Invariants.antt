use Rattle.std.proofs.Common.{◌≤◌, ◌/◌, take}
use Rattle.std.specs.List.{All}
use Rattle.image.specs.Wanted.{segment_end}
use Rattle.code_scan.proofs.pages.count_pages.Given as goal

abbrev pub invariant-loop-segment : goal.invariant-loop-segment
invariant-loop-segment l = record {
  each : All (λ s. segment_end s / 4096 ≤ l.count) (take l.segment-index l.segments);
  few : l.count ≤ 0x100000;
}
