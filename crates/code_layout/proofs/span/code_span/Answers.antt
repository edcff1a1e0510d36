use Rattle.std.proofs.Common.{◌-◌, ap, ◌∙◌}
use Rattle.image.specs.declared.image.Image.{Image}
use Rattle.image.specs.Wanted.{span_of_code}
use Rattle.code_layout.proofs.span.code_span.Goals as goal

pub returns-clause-count : goal.returns-clause-count
returns-clause-count c =
    let segments = c.as_slice-segments.ensures ∙ ap (λ (i : Image). i.segments) c.image.view_is in
    c.saturating_sub.ensures ∙ (λ k. c.greatest_end.ensures k - c.least_start-start.ensures k) ∙ ap span_of_code segments
