use Rattle.std.proofs.Common.{map}
use Rattle.x86_values.specs.declared.byte.Byte.TheVariants.{Known}
use Rattle.mem_pages.proofs.Runs.{IsPutTo}
use Rattle.mem_pages.proofs.pages.Pages.put_known.Given as goal

abbrev pub invariant-loop-k : goal.invariant-loop-k
invariant-loop-k l = IsPutTo l.at l.k (map Known l.bytes) l.fn.self l.self
