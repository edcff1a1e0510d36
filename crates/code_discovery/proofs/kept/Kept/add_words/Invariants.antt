use Rattle.std.proofs.Common.{◌≡◌, ℕ, ◌+◌, ◌*◌, ◌<◌}
use Rattle.code_discovery.specs.Settled.{IsMore}
use Rattle.code_discovery.specs.Words.{IsPageKept}
use Rattle.code_discovery.proofs.kept.Kept.add_words.Given as goal

abbrev pub invariant-loop-page : goal.invariant-loop-page
invariant-loop-page l = record {
  more : IsMore l.scan l.initial.self l.self;
  tables : l.self.tables ≡ l.initial.self.tables;
  kept : (p : ℕ) → p < l.page → IsPageKept l.scan l.self (l.segment.start + 4096 * p);
}
