use Rattle.std.proofs.Common.{◌≡◌, ◌+◌, ◌-◌, ◌≤◌, None, length}
use Rattle.code_discovery.specs.Kept.{IsSoundSoFar}
use Rattle.code_discovery.specs.Settled.{IsSettling, KeepsFound, looked_at}
use Rattle.code_discovery.proofs.kept.Kept.settle_all.Given as goal

abbrev pub invariant-loop-work : goal.invariant-loop-work
invariant-loop-work l = record {
  sound : IsSoundSoFar l.scan l.self;
  settling : IsSettling l.scan l.self None;
  grows : KeepsFound l.initial.self l.self;
  stored : l.self.stored ≡ l.initial.self.stored;
  code : length l.self.code ≤ 32768;
  leaders : length l.self.leaders ≤ 32768;
}

-- no more can be looked at than there may be
abbrev pub decreases-loop-work : goal.decreases-loop-work
decreases-loop-work l = (65536 + length l.self.todo) - looked_at l.self
