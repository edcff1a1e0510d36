use Rattle.std.proofs.Common.{◌+◌, ◌∙◌, ap, Some, arith}
use Rattle.plan_types.specs.FoundCode.{word_at}
use Rattle.code_scan.proofs.Reading.{word_of_segment}
use Rattle.code_scan.proofs.indexed.IndexedImage.word_at.Goals as goal

pub returns : goal.returns
returns c = record {
  word =
      ap Some c.segment_word.ensures
      ∙ word_of_segment c.args.self.now c.from-at.result c.in_ok-segment.segment.now c.in_ok-segment.ensures.there
      (c.in_ok-segment.ensures.page (c.from-at.result + 1) (omega arith))
      (c.in_ok-segment.ensures.page (c.from-at.result + 2) (omega arith))
      (c.in_ok-segment.ensures.page (c.from-at.result + 3) (omega arith))
      ∙ ap (word_at c.args.self.now) c.from-at.ensures;
}
