use Rattle.std.proofs.Common.{sym, ◌∙◌, arith}
use Rattle.rewrite_core.specs.Placing.{place_at}
use Rattle.rewrite_core.proofs.PartCodes.{code-nil, taken_small, pushed_part}
use Rattle.rewrite_core.proofs.lay.code_of.Goals as goal

pub loop-part-init : goal.loop-part-init
loop-part-init c = c.new-code.ensures.items ∙ sym (code-nil _ _ 0)

pub push_part-requires-clause-small : goal.push_part-requires-clause-small
push_part-requires-clause-small c = omega (arith, taken_small c.args.page.now (place_at c.args.places.now) c.args.parts.now _ c.loop-part.part-index c.requires.fine c.loop-part.invariant)

pub loop-part-preserved : goal.loop-part-preserved
loop-part-preserved c = pushed_part c.args.page.now (place_at c.args.places.now) c.args.parts.now _ _ c.loop-part.part-index _ c.requires.fine c.loop-part-test.true c.loop-part.invariant c.in_ok-push_part.ensures
