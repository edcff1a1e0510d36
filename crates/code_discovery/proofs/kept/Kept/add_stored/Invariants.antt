use Rattle.std.proofs.Common.{◌≡◌, take, Contains}
use Rattle.image.specs.declared.image.Segment.{Segment}
use Rattle.code_discovery.specs.Settled.{IsMore}
use Rattle.code_discovery.specs.Words.{AreStoredKept}
use Rattle.code_discovery.proofs.kept.Kept.add_stored.Given as goal

abbrev pub invariant-loop-segment : goal.invariant-loop-segment
invariant-loop-segment l = record {
  more : IsMore l.scan l.initial.self l.self;
  tables : l.self.tables ≡ l.initial.self.tables;
  kept : (s : Segment) → Contains (take l.segment-index l.segment-items) s → AreStoredKept l.scan l.self s;
}
