use Rattle.std.proofs.Common.{◌≡◌, ℕ, ◌+◌, ◌*◌, ◌<◌}
use Rattle.code_discovery.specs.Settled.{IsMore}
use Rattle.code_discovery.specs.Words.{IsStoredKept}
use Rattle.code_discovery.proofs.kept.Kept.add_page_words.Given as goal

abbrev pub invariant-loop-index : goal.invariant-loop-index
invariant-loop-index l = record {
  more : IsMore l.scan l.initial.self l.self;
  tables : l.self.tables ≡ l.initial.self.tables;
  kept : (i : ℕ) → i < l.index → IsStoredKept l.scan l.self (l.page + 4 * i);
}
