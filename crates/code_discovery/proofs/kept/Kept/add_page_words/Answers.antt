use Rattle.std.proofs.Common.{◌+◌, ◌*◌, ◌≤◌, List, below_more, sym, ◌∙◌, subst}
use Rattle.plan_types.specs.declared.table.Table.{Table}
use Rattle.code_discovery.specs.Extents.{TellsOf}
use Rattle.code_discovery.specs.Whole.{TellsApart}
use Rattle.code_discovery.specs.Words.{IsStoredKept}
use Rattle.code_discovery.proofs.Growth.{more_then}
use Rattle.code_discovery.proofs.StoredWords.{stored_still, page_kept}
use Rattle.code_discovery.proofs.kept.Kept.add_page_words.Goals as goal

pub add_near_word-requires-clause-sound : goal.add_near_word-requires-clause-sound
add_near_word-requires-clause-sound c = c.loop-index.invariant.more.sound

pub add_near_word-requires-clause-stored : goal.add_near_word-requires-clause-stored
add_near_word-requires-clause-stored c = c.loop-index.invariant.more.stored ∙ c.requires.stored

pub add_near_word-requires-clause-apart : goal.add_near_word-requires-clause-apart
add_near_word-requires-clause-apart c = subst (λ (ts : List Table). TellsApart c.args.scan.now ts) (sym c.loop-index.invariant.tables) c.requires.apart

pub add_near_word-requires-clause-extents : goal.add_near_word-requires-clause-extents
add_near_word-requires-clause-extents c = subst (λ (ts : List Table). TellsOf ts c.args.extents.now) (sym c.loop-index.invariant.tables) c.requires.extents

pub loop-index-preserved : goal.loop-index-preserved
loop-index-preserved c = record {
  more = more_then c.args.scan.now c.args.self.now c.loop-index.self c.add_near_word.new.self c.loop-index.invariant.more c.in_ok-add_near_word.ensures.more;
  tables = c.in_ok-add_near_word.ensures.tables ∙ c.loop-index.invariant.tables;
  kept = below_more (λ i. IsStoredKept c.args.scan.now c.add_near_word.new.self (c.args.page + 4 * i)) c.loop-index.index
      (λ i low. stored_still c.args.scan.now c.loop-index.self c.add_near_word.new.self c.in_ok-add_near_word.ensures.more.grows c.in_ok-add_near_word.ensures.tables _ (c.loop-index.invariant.kept i low))
      c.in_ok-add_near_word.ensures.kept;
}

pub returns-clause-kept : goal.returns-clause-kept
returns-clause-kept c = page_kept c.args.scan.now c.loop-index.self c.args.span c.args.page c.bytes_from-bytes.result.now c.loop-index.index c.requires.span c.bytes_from-bytes.ensures.sized (subst (λ n. n ≤ c.loop-index.index) c.min-index-end.ensures c.loop-index-test.false) c.bytes_from-bytes.ensures.words c.loop-index.invariant.kept
