use Rattle.std.proofs.Common.{◌≡◌, ◌+◌, ◌*◌, ◌≤◌, ◌++◌}
use Rattle.plan_types.specs.Tables.{targets_by, table_words}
use Rattle.code_scan.specs.Bounds.{is_target}
use Rattle.code_scan.proofs.indexed.IndexedImage.words.Given as goal

abbrev pub invariant-loop-left : goal.invariant-loop-left
invariant-loop-left l = record {
  near : l.at + 4 * l.left ≤ l.start + 4096;
  words : targets_by l.self l.start l.bound ≡ l.words.items ++ table_words l.self (is_target l.self l.bound) l.left l.at;
}

abbrev pub decreases-loop-left : goal.decreases-loop-left
decreases-loop-left l = l.left
