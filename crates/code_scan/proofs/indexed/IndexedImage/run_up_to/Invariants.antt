use Rattle.std.proofs.Common.{◌≡◌, ◌++◌}
use Rattle.x86_code.specs.Code.{code_of}
use Rattle.plan_types.specs.Straight.{straight_run}
use Rattle.code_scan.proofs.indexed.IndexedImage.run_up_to.Given as goal

abbrev pub invariant-loop-left : goal.invariant-loop-left
invariant-loop-left l = straight_run (code_of l.self) l.most l.leader ≡ l.run.items ++ straight_run (code_of l.self) l.left l.at

abbrev pub decreases-loop-left : goal.decreases-loop-left
decreases-loop-left l = l.left
