use Rattle.std.proofs.Common.{arith, sym, ◌∙◌, refl}
use Rattle.mem_pages.specs.Contents.{memory_in}
use Rattle.mem_pages.proofs.pages.Pages.copy_known.Goals as goal
use Rattle.mem_pages.proofs.Runs.{none_copied, more_copied, not_all_known, byte_there}

pub loop-k-init : goal.loop-k-init
loop-k-init c = none_copied (memory_in c.args.self.now) c.args.at c.args.to.now

pub returns-in-None-clause-unspecified : goal.returns-in-None-clause-unspecified
returns-in-None-clause-unspecified c e = not_all_known (memory_in c.args.self.now) c.args.at _ c.loop-k.k (omega arith) (sym (c.in-None.ensures ∙ byte_there (memory_in c.args.self.now) c.args.at c.loop-k.k c.byte.result _ refl c.byte.ensures))

pub loop-k-preserved : goal.loop-k-preserved
loop-k-preserved c = more_copied (memory_in c.args.self.now) c.args.at c.loop-k.k c.loop-k.to c.in-Some.byte (omega arith) (c.in-Some.ensures ∙ byte_there (memory_in c.args.self.now) c.args.at c.loop-k.k c.byte.result _ refl c.byte.ensures) c.loop-k.invariant
