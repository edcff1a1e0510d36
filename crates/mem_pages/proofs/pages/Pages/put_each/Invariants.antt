use Rattle.mem_pages.proofs.Runs.{IsPutTo}
use Rattle.mem_pages.proofs.pages.Pages.put_each.Given as goal

abbrev pub invariant-loop-k : goal.invariant-loop-k
invariant-loop-k l = IsPutTo l.at l.k l.bytes l.fn.self l.self
