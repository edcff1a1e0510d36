use Rattle.std.proofs.Common.{ap, ◌∙◌}
use Rattle.sw_host.specs.Memory.{told_by, with_failing, fails_at}
use Rattle.sw_host.proofs.MemoryLemmas.{fails_at-push}
use Rattle.sw_host.proofs.memory.MemoryHost.fail_call.Goals as goal

pub returns-clause-ok : goal.returns-clause-ok
unfolding told_by with_failing
returns-clause-ok c =
    ap (λ f. record (told_by c.args.self.now) { failing = f }) (ap fails_at c.in_ok-push.ensures.items ∙ fails_at-push c.args.self.now.failing.items c.args.number)
