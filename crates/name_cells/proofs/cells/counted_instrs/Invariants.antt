use Rattle.std.proofs.Common.{◌≡◌, ◌≤◌, fold, take}
use Rattle.name_cells.specs.Cells.{counted_instr}
use Rattle.name_cells.proofs.cells.counted_instrs.Given as goal

abbrev pub invariant-loop-instr : goal.invariant-loop-instr
invariant-loop-instr l = (l.total ≡ fold counted_instr l.count (take l.instr-index l.instrs)) × (l.total ≤ 1540095)
