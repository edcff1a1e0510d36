use Rattle.std.proofs.Common.{◌≡◌, take, Some}
use Rattle.x86_values.specs.Words.{all_known}
use Rattle.memory.specs.Memory.{bytes_at}
use Rattle.mem_pages.specs.Contents.{memory_in}
use Rattle.mem_pages.proofs.pages.Pages.copy_known.Given as goal

abbrev pub invariant-loop-k : goal.invariant-loop-k
invariant-loop-k l = all_known (bytes_at (memory_in l.self) l.at l.k) ≡ Some (take l.k l.to)
