use Rattle.std.proofs.Common.{◌-◌}
use Rattle.mem_pages.proofs.directory.Directory.map.Given as goal
use Rattle.mem_pages.proofs.Parts.{IsMapped}

abbrev pub invariant-parts : goal.invariant-parts
invariant-parts l = IsMapped l.start l.at l.end l.can_write l.unset l.fn.self l.self

abbrev pub decreases-parts : goal.decreases-parts
decreases-parts l = l.end - l.at
