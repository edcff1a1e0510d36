use Rattle.std.proofs.Common.{◌≤◌, ◌-◌, length}
use Rattle.linear_sweep.specs.Sweep.{counted_bytes}
use Rattle.linear_sweep.proofs.Steps.{IsSoFar}
use Rattle.linear_sweep.proofs.linear.sweep.Given as goal

abbrev pub invariant-loop-seen : goal.invariant-loop-seen
invariant-loop-seen l = (counted_bytes l.seen ≤ length l.bytes) × (l.seen.instructions ≤ l.seen.spelled) × IsSoFar l.bytes l.seen

abbrev pub decreases-loop-seen : goal.decreases-loop-seen
decreases-loop-seen l = length l.bytes - counted_bytes l.seen
