use Rattle.std.proofs.Common.{arith, refl}
use Rattle.mem_pages.proofs.pages.Pages.put_each.Goals as goal
use Rattle.mem_pages.proofs.Runs.{none_put, more_put}

pub loop-k-init : goal.loop-k-init
loop-k-init c = none_put c.args.at c.args.bytes.now c.args.self.now

pub loop-k-preserved : goal.loop-k-preserved
loop-k-preserved c = more_put c.args.at c.loop-k.k c.args.bytes.now _ _ _ c.args.self.now c.loop-k.self c.put.new.self (omega arith) refl refl c.put.ensures.memory c.put.ensures.keeps c.loop-k.invariant
