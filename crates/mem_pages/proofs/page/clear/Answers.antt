use Rattle.std.proofs.Common.{get_or, arith, ap, ◌∙◌}
use Rattle.x86_values.specs.declared.byte.Byte.TheVariants.{Unspecified}
use Rattle.mem_pages.proofs.page.clear.Goals as goal
use Rattle.mem_pages.proofs.Clearing.{all_cleared, lent_whole}

pub returns-clause-places : goal.returns-clause-places
returns-clause-places c i = ap (λ bs. get_or bs i Unspecified) (lent_whole c.args.bytes.now.len c.loop-at.places c.args.bytes.now.items c.loop-at.invariant.len (omega arith)) ∙ all_cleared c.args.start c.loop-at.at c.args.end c.args.bytes.now.items c.loop-at.places (omega arith) (omega arith) (omega arith) c.loop-at.invariant i
