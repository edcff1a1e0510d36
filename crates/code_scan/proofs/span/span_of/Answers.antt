use Rattle.code_scan.proofs.Spans.{one_spanned}
use Rattle.code_scan.proofs.span.span_of.Goals as goal

pub loop-segment-preserved : goal.loop-segment-preserved
loop-segment-preserved c = record {
  above = c.with_segment-span.ensures.above;
  each = one_spanned c.loop-segment.span c.with_segment-span.result c.args.segments.now c.loop-segment.segment-index c.segment-item.result c.loop-segment-test.true c.segment-item.is c.with_segment-span.ensures.from c.with_segment-span.ensures.to c.with_segment-span.ensures.spanned c.loop-segment.invariant.each;
}
