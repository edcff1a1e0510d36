use Rattle.std.proofs.Common.{◌+◌, ◌-◌, ◌≤◌, length}
use Rattle.encode_sweep.specs.Sums.{AreSums}
use Rattle.encode_sweep.proofs.sweep.sum_up.Given as goal

abbrev pub invariant-loop-seen : goal.invariant-loop-seen
invariant-loop-seen l = record {
  within : l.seen.spelled + l.seen.skipped ≤ length l.bytes;
  sums : AreSums l.seen;
}

abbrev pub decreases-loop-seen : goal.decreases-loop-seen
decreases-loop-seen l = length l.bytes - (l.seen.spelled + l.seen.skipped)
