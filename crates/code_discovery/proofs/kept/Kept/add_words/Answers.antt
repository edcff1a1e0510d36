use Rattle.std.proofs.Common.{◌+◌, ◌*◌, ◌/◌, ◌≤◌, List, below_more, sym, ◌∙◌, subst}
use Rattle.image.specs.declared.image.Segment.{Segment}
use Rattle.plan_types.specs.declared.table.Table.{Table}
use Rattle.code_discovery.specs.Extents.{TellsOf}
use Rattle.code_discovery.specs.Whole.{TellsApart}
use Rattle.code_discovery.specs.Words.{IsPageKept}
use Rattle.code_discovery.proofs.Growth.{more_then}
use Rattle.code_discovery.proofs.StoredWords.{stored_still, pages_kept}
use Rattle.code_discovery.proofs.kept.Kept.add_words.Goals as goal

pub add_page-requires-clause-sound : goal.add_page-requires-clause-sound
add_page-requires-clause-sound c = c.loop-page.invariant.more.sound

pub add_page-requires-clause-stored : goal.add_page-requires-clause-stored
add_page-requires-clause-stored c = c.loop-page.invariant.more.stored ∙ c.requires.stored

pub add_page-requires-clause-apart : goal.add_page-requires-clause-apart
add_page-requires-clause-apart c = subst (λ (ts : List Table). TellsApart c.args.scan.now ts) (sym c.loop-page.invariant.tables) c.requires.apart

pub add_page-requires-clause-extents : goal.add_page-requires-clause-extents
add_page-requires-clause-extents c = subst (λ (ts : List Table). TellsOf ts c.args.extents.now) (sym c.loop-page.invariant.tables) c.requires.extents

pub loop-page-preserved : goal.loop-page-preserved
loop-page-preserved c = record {
  more = more_then c.args.scan.now c.args.self.now c.loop-page.self c.add_page.new.self c.loop-page.invariant.more c.in_ok-add_page.ensures.more;
  tables = c.in_ok-add_page.ensures.tables ∙ c.loop-page.invariant.tables;
  kept = below_more (λ p. IsPageKept c.args.scan.now c.add_page.new.self (c.args.segment.now.start + 4096 * p)) c.loop-page.page
      (λ p low index few. stored_still c.args.scan.now c.loop-page.self c.add_page.new.self c.in_ok-add_page.ensures.more.grows c.in_ok-add_page.ensures.tables _ (c.loop-page.invariant.kept p low index few))
      (subst (λ (s : Segment). IsPageKept c.args.scan.now c.add_page.new.self (s.start + 4096 * c.loop-page.page)) c.segment.view_is c.in_ok-add_page.ensures.kept);
}

pub returns-clause-kept : goal.returns-clause-kept
returns-clause-kept c = pages_kept c.args.scan.now c.loop-page.self c.args.segment.now c.loop-page.page c.has_its_place.ensures.size_in_pages (subst (λ (s : Segment). s.size / 4096 ≤ c.loop-page.page) c.segment.view_is c.loop-page-test.false) c.loop-page.invariant.kept
