use Rattle.std.proofs.Common.{◌∙◌, ap, cond, Bool, get_or}
use Rattle.x86_values.specs.declared.byte.Byte.TheVariants.{Unspecified}
use Rattle.unit_frames.proofs.Forgetting.{same_range}
use Rattle.unit_frames.proofs.frame.forget_bytes.Goals as goal

pub returns-clause-bytes : goal.returns-clause-bytes
returns-clause-bytes c = λ j. c.loop-k.invariant.bytes j ∙ ap (λ (t : Bool). cond t Unspecified (get_or c.args.bytes.now.items j Unspecified)) (same_range c.args.first c.loop-k.k c.args.last j c.loop-k-test.false c.loop-k.invariant.bound)
