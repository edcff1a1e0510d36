use Rattle.std.proofs.Common.{◌-◌}
use Rattle.rewrite_core.proofs.Followings.{IsMeeting}
use Rattle.rewrite_core.proofs.placing.placing_of.Given as goal

abbrev pub invariant-loop-index : goal.invariant-loop-index
invariant-loop-index l = IsMeeting l.page l.placing l.index

abbrev pub decreases-loop-index : goal.decreases-loop-index
decreases-loop-index l = 8194 - l.index
