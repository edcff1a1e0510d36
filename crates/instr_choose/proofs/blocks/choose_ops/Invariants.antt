use Rattle.std.proofs.Common.{◌≡◌, All, take}
use Rattle.instr_choose.specs.Lists.{choose_ops}
use Rattle.instr_choose.specs.Words.{OpFits}
use Rattle.instr_choose.proofs.blocks.choose_ops.Given as goal

abbrev pub invariant-loop-op : goal.invariant-loop-op
invariant-loop-op l = record { list : l.code.items ≡ choose_ops (take l.op-index l.ops); words : All OpFits (take l.op-index l.ops) }
