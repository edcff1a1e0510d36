use Rattle.std.proofs.Common.{◌-◌, map}
use Rattle.plan_types.proofs.Searching.{IsBetween}
use Rattle.plan_types.proofs.search.index_of.Given as goal

abbrev pub invariant-loop-low : goal.invariant-loop-low
invariant-loop-low g l = IsBetween (map g.T.Keyed.key l.items) l.at l.low l.high

abbrev pub decreases-loop-low : goal.decreases-loop-low
decreases-loop-low g l = l.high - l.low
