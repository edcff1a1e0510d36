use Rattle.code_discovery.proofs.Extents.{raised_more, highest_more}
use Rattle.code_discovery.proofs.table_extents.raise.Goals as goal

pub loop-extent-preserved : goal.loop-extent-preserved
loop-extent-preserved c = record {
  extents = raised_more c.args.ordered.now c.loop-extent.extent-index _ c.loop-extent.end c.max-end.result c.loop-extent.extents.items c.push.new.self.items c.loop-extent-test.true c.loop-extent.invariant.extents c.loop-extent.invariant.end c.max-end.ensures c.in_ok-push.ensures.items;
  end = highest_more c.args.ordered.now c.loop-extent.extent-index _ c.loop-extent.end c.max-end.result c.loop-extent-test.true c.loop-extent.invariant.end c.max-end.ensures;
}
