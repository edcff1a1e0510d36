use Rattle.std.proofs.Common.{◌≡◌, ◌+◌, ◌++◌, ◌∷◌, [], List, None, take, get_or, Contains, refl, sym, ap, ◌∙◌, subst, inl, inr}
use Rattle.std.proofs.lemmas.List.{take_more, take_all}
use Rattle.std.proofs.lemmas.List.Elements.{Contains-push_cases}
use Rattle.image.specs.declared.image.Image.{Image}
use Rattle.image.specs.declared.image.Segment.{Segment}
use Rattle.image.specs.Wanted.{FitsWideRoom}
use Rattle.plan_types.specs.declared.table.Table.{Table}
use Rattle.code_discovery.specs.Kept.{FoundSoFar, IsSoundSoFar}
use Rattle.code_discovery.specs.Settled.{IsSettling}
use Rattle.code_discovery.specs.Extents.{TellsOf}
use Rattle.code_discovery.specs.Whole.{TellsApart}
use Rattle.code_discovery.specs.Words.{AreStoredKept}
use Rattle.code_discovery.proofs.Members.{none_in}
use Rattle.code_discovery.proofs.Growth.{more_itself, more_then}
use Rattle.code_discovery.proofs.Whole.{tells_apart, stored_sound, stored_settling}
use Rattle.code_discovery.proofs.StoredWords.{stored_still, all_stored}
use Rattle.code_discovery.proofs.kept.Kept.add_stored.Goals as goal

pub loop-segment-init : goal.loop-segment-init
loop-segment-init c = record {
  more = more_itself c.args.scan.now c.give_stored.new.self (subst (λ (k : FoundSoFar). IsSoundSoFar c.args.scan.now k) (sym c.give_stored.ensures) (stored_sound c.args.scan.now c.args.self.now c.requires.sound));
  tables = refl;
  kept = λ s there. absurd (none_in s there);
}

pub add_words-requires-clause-apart : goal.add_words-requires-clause-apart
add_words-requires-clause-apart c =
    subst (λ (ts : List Table). TellsApart c.args.scan.now ts) (sym (c.loop-segment.invariant.tables ∙ ap (λ (k : FoundSoFar). k.tables) c.give_stored.ensures))
    (tells_apart c.args.scan.now c.args.self.now c.run_laws.ensures c.requires.sound c.requires.closed c.requires.entry)

pub add_words-requires-clause-extents : goal.add_words-requires-clause-extents
add_words-requires-clause-extents c = subst (λ (ts : List Table). TellsOf ts c.in_ok-extents.extents) (sym (c.loop-segment.invariant.tables ∙ ap (λ (k : FoundSoFar). k.tables) c.give_stored.ensures)) c.in_ok-extents.ensures

pub loop-segment-preserved : goal.loop-segment-preserved
loop-segment-preserved c = record {
  more = more_then c.args.scan.now c.give_stored.new.self c.loop-segment.self c.add_words.new.self c.loop-segment.invariant.more c.in_ok-add_words.ensures.more;
  tables = c.in_ok-add_words.ensures.tables ∙ c.loop-segment.invariant.tables;
  kept = λ s there.
      let items : List Segment = c.as_slice-segment-items.result.now in
      let split : take (c.loop-segment.segment-index + 1) items ≡ take c.loop-segment.segment-index items ++ get_or items c.loop-segment.segment-index c.segment-item.result ∷ [] =
      take_more items c.loop-segment.segment-index c.segment-item.result c.loop-segment-test.true in
      elim (Contains-push_cases (take c.loop-segment.segment-index items) (get_or items c.loop-segment.segment-index c.segment-item.result) s (subst (λ (ss : List Segment). Contains ss s) split there)) [
        | inl old ↦ λ index low. stored_still c.args.scan.now c.loop-segment.self c.add_words.new.self c.in_ok-add_words.ensures.more.grows c.in_ok-add_words.ensures.tables _ (c.loop-segment.invariant.kept s old index low)
        | inr same ↦ subst (λ (t : Segment). AreStoredKept c.args.scan.now c.add_words.new.self t) (c.segment-item.is ∙ same) c.in_ok-add_words.ensures.kept
      ];
}

pub returns-clause-settling : goal.returns-clause-settling
returns-clause-settling c =
    c.loop-segment.invariant.more.settling None
    (subst (λ (k : FoundSoFar). IsSettling c.args.scan.now k None) (sym c.give_stored.ensures) (stored_settling c.args.scan.now c.args.self.now c.requires.closed))

pub returns-clause-kept : goal.returns-clause-kept
returns-clause-kept c =
    let items : List Segment = c.as_slice-segment-items.result.now in
    let is : items ≡ c.args.scan.now.segments = c.as_slice-segment-items.ensures ∙ (ap (λ (i : Image). i.segments) c.image.view_is ∙ ap (λ (i : Image). i.segments) c.image-image.ensures) in
    let whole : take c.loop-segment.segment-index items ≡ items = take_all c.loop-segment.segment-index items c.loop-segment-test.false in
    all_stored c.args.scan.now (subst (λ (i : Image). FitsWideRoom i.segments i.entry) c.image-image.ensures c.fits_wide_room.ensures) c.args.self.now c.loop-segment.self c.requires.sound c.requires.stored
    (c.loop-segment.invariant.tables ∙ ap (λ (k : FoundSoFar). k.tables) c.give_stored.ensures)
    (λ s there. c.loop-segment.invariant.kept s (subst (λ (ss : List Segment). Contains ss s) (sym (whole ∙ is)) there))
