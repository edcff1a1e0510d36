use Rattle.std.proofs.Common.{◌-◌}
use Rattle.rewrite_core.proofs.Followings.{IsFollowing}
use Rattle.rewrite_core.proofs.placing.Placing.follow.Given as goal

abbrev pub invariant-run : goal.invariant-run
invariant-run l = IsFollowing l.page l.initial.self l.self l.from l.at

abbrev pub decreases-run : goal.decreases-run
decreases-run l = 4097 - l.at
