use Rattle.std.proofs.Common.{◌≡◌, flat_map, take}
use Rattle.name_cells.specs.Placing.{place_instr}
use Rattle.name_cells.proofs.placing.place_instrs.Given as goal

abbrev pub invariant-loop-instr : goal.invariant-loop-instr
invariant-loop-instr l = l.items.items ≡ flat_map (place_instr l.spare) (take l.instr-index l.instrs)
