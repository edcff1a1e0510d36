use Rattle.std.proofs.Common.{◌∙◌, ap, subst}
use Rattle.std.specs.List.{All}
use Rattle.image.specs.declared.image.Image.{Image}
use Rattle.code_scan.specs.Spans.{IsSpanned}
use Rattle.code_scan.proofs.Spans.{span_is}
use Rattle.code_scan.proofs.indexed.IndexedImage.code_span.Goals as goal

pub returns : goal.returns
returns c = record {
  span = span_is c.args.self.now c.span_of.result c.span_of.ensures.above (subst (All (IsSpanned c.span_of.result)) (c.as_slice.ensures ∙ (ap (λ (i : Image). i.segments) c.behind-self.view_is ∙ ap (λ (i : Image). i.segments) c.image.ensures)) c.span_of.ensures.each);
}
