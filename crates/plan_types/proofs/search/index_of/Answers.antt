use Rattle.std.proofs.Common.{arith, sym, ◌∙◌}
use Rattle.std.proofs.lemmas.List.{length-map}
use Rattle.plan_types.proofs.Searching.{goes_up, goes_down, finds, finds_none}
use Rattle.plan_types.proofs.search.index_of.Goals as goal

pub returns-then-here-at : goal.returns-then-here-at
returns-then-here-at g c = finds g.T.Keyed.key c.args.items.now c.args.at c.requires _ c.index-items-middle.result (omega (arith, c.loop-low.invariant.within, length-map c.args.items.now g.T.Keyed.key)) c.index-items-middle.is (sym c.key-here.ensures ∙ c.if-here-at.true)

pub loop-low-preserved-then-here-at-2 : goal.loop-low-preserved-then-here-at-2
loop-low-preserved-then-here-at-2 g c = goes_up g.T.Keyed.key c.args.items.now c.args.at c.requires c.loop-low.low c.loop-low.high _ c.index-items-middle.result c.loop-low.invariant (omega arith) c.index-items-middle.is (omega (arith, c.key-here.ensures))

pub loop-low-preserved : goal.loop-low-preserved
loop-low-preserved g c = goes_down g.T.Keyed.key c.args.items.now c.args.at c.requires c.loop-low.low c.loop-low.high _ c.index-items-middle.result c.loop-low.invariant (omega arith) (omega arith) c.index-items-middle.is (omega (arith, c.key-here.ensures))

pub returns : goal.returns
returns g c = finds_none g.T.Keyed.key c.args.items.now c.args.at c.loop-low.low c.loop-low.high c.loop-low.invariant (omega arith)
