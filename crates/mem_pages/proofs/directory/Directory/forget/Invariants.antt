use Rattle.std.proofs.Common.{◌-◌}
use Rattle.mem_pages.proofs.directory.Directory.forget.Given as goal
use Rattle.mem_pages.proofs.Parts.{IsForgotten}

abbrev pub invariant-parts : goal.invariant-parts
invariant-parts l = IsForgotten l.start l.at l.end l.fn.self l.self

abbrev pub decreases-parts : goal.decreases-parts
decreases-parts l = l.end - l.at
