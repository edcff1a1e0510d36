use Rattle.mem_pages.proofs.page.clear.Given as goal
use Rattle.mem_pages.proofs.Clearing.{IsCleared}

abbrev pub invariant-loop-at : goal.invariant-loop-at
invariant-loop-at l = IsCleared l.start l.at l.fn.bytes.items l.places
