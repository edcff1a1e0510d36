use Rattle.std.proofs.Common.{◌-◌, ◌+◌, length}
use Rattle.mem_pages.specs.Directory.{IsGrown}
use Rattle.mem_pages.proofs.directory.Table.grow.Given as goal

abbrev pub invariant-pages : goal.invariant-pages
invariant-pages l = IsGrown l.fn.self.pages.items l.self.pages.items

abbrev pub decreases-pages : goal.decreases-pages
decreases-pages l = l.index + 1 - length l.self.pages.items
