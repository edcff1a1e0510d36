use Rattle.std.proofs.Common.{◌-◌}
use Rattle.mem_pages.proofs.Runs.{IsKeptTo}
use Rattle.mem_pages.proofs.pages.Pages.keep_range.Given as goal

abbrev pub invariant-parts : goal.invariant-parts
invariant-parts l = IsKeptTo l.at l.done l.count l.next l.fn.self l.self

abbrev pub decreases-parts : goal.decreases-parts
decreases-parts l = l.count - l.done
