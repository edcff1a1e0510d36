use Rattle.std.proofs.Common.{ℕ, ◌<◌, get_or, Contains}
use Rattle.plan_types.specs.FoundCode.{Stands}
use Rattle.code_discovery.specs.Settled.{IsMore}
use Rattle.code_discovery.proofs.kept.Kept.add_leaders.Given as goal

abbrev pub invariant-loop-at : goal.invariant-loop-at
invariant-loop-at l = record {
  more : IsMore l.scan l.initial.self l.self;
  kept : (i : ℕ) → i < l.at-index → Stands l.scan (get_or l.addresses i 0) → Contains l.self.leaders (get_or l.addresses i 0);
}
