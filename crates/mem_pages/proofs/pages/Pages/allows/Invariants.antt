use Rattle.std.proofs.Common.{◌≡◌}
use Rattle.memory.specs.Memory.{allows_all}
use Rattle.mem_pages.specs.Page.{kind_of_access}
use Rattle.mem_pages.specs.Contents.{memory_in}
use Rattle.mem_pages.proofs.pages.Pages.allows.Given as goal

abbrev pub invariant-parts : goal.invariant-parts
invariant-parts l = allows_all (kind_of_access l.store) (memory_in l.self) l.at l.count ≡ allows_all (kind_of_access l.store) (memory_in l.self) l.next l.left

abbrev pub decreases-parts : goal.decreases-parts
decreases-parts l = l.left
