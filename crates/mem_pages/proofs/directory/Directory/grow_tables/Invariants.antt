use Rattle.std.proofs.Common.{ℕ, ◌≡◌, ◌-◌, ◌+◌, length}
use Rattle.mem_pages.specs.Directory.{pages_of}
use Rattle.mem_pages.proofs.directory.Directory.grow_tables.Given as goal

abbrev pub invariant-tables : goal.invariant-tables
invariant-tables l = (i : ℕ) → pages_of l.self.tables.items i ≡ pages_of l.fn.self.tables.items i

abbrev pub decreases-tables : goal.decreases-tables
decreases-tables l = l.index + 1 - length l.self.tables.items
