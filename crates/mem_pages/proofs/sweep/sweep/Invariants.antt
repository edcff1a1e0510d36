use Rattle.mem_pages.specs.Exposed.{size_below}
use Rattle.mem_pages.proofs.Swept.{IsSwept}
use Rattle.mem_pages.proofs.sweep.sweep.Given as goal

abbrev pub invariant-pages : goal.invariant-pages
invariant-pages l = IsSwept l.end l.fn.directory l.exposed l.directory

abbrev pub decreases-pages : goal.decreases-pages
decreases-pages l = size_below l.end l.exposed
