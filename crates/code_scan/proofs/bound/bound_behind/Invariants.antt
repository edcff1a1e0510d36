use Rattle.std.proofs.Common.{◌≡◌, ◌≤◌, false, length, reverse, take}
use Rattle.plan_types.specs.Tables as spec
use Rattle.code_scan.proofs.bound.bound_behind.Given as goal

abbrev pub invariant-loop-left : goal.invariant-loop-left
invariant-loop-left l = record {
  within : l.left ≤ length l.before;
  bound : spec.bound_behind l.reg false (reverse l.before) ≡ spec.bound_behind l.reg l.above (reverse (take l.left l.before));
}

abbrev pub decreases-loop-left : goal.decreases-loop-left
decreases-loop-left l = l.left
