use Rattle.std.proofs.Common.{take}
use Rattle.unit_machine.specs.Indexing.{IsIndexOf}
use Rattle.unit_machine.proofs.index.index_blocks.Given as goal

abbrev pub invariant-loop-place : goal.invariant-loop-place
invariant-loop-place l = record { indexed : IsIndexOf (take l.place l.fn.blocks) l.index }
