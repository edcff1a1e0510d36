use Rattle.std.proofs.Common.{length, ap, ◌∙◌}
use Rattle.x86_encode.specs.Choice.{best_at}
use Rattle.x86_encode.proofs.encoder.put_best.Goals as goal

pub returns-clause-bytes : goal.returns-clause-bytes
unfolding best_at
returns-clause-bytes c = c.copy.ensures.front ∙ c.offer_forms.ensures

pub returns-clause-len : goal.returns-clause-len
unfolding best_at
returns-clause-len c = c.copy.ensures.len ∙ ap length c.offer_forms.ensures
