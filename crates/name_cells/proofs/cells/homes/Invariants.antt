use Rattle.std.proofs.Common.{◌≡◌}
use Rattle.name_cells.specs.Cells.{homes_of}
use Rattle.name_cells.proofs.cells.homes.Given as goal

abbrev pub invariant-loop-name : goal.invariant-loop-name
invariant-loop-name l = l.homes.items ≡ homes_of l.name
