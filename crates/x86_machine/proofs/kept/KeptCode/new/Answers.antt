use Rattle.std.proofs.Common.{map, ap, ◌∙◌}
use Rattle.x86_machine.specs.Kept.{code_segment, code_by}
use Rattle.x86_machine.proofs.Segments.{code_same}
use Rattle.x86_machine.proofs.kept.KeptCode.new.Goals as goal

pub returns : goal.returns
returns c = ap code_by (c.in_ok-segments.ensures ∙ ap (map code_segment) (c.as_slice.ensures ∙ ap (λ x. x.segments) c.image.view_is)) ∙ code_same c.args.image.now
