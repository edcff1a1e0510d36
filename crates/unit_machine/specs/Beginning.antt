-- How a block begins. All of this is own.
use Rattle.std.specs.Prelude.{◌≡◌, ◌==◌, cond}
use Rattle.outside.specs.Environment.{Environment}
use Rattle.memory.specs.Memory.{Memory}
use Rattle.flag_ir.specs.declared.block.Block.{Block}
use Rattle.flag_ir.specs.UnitRun.{fresh}
use Rattle.unit_machine.specs.declared.step.Position.{Position}
use Rattle.unit_machine.specs.Standing.{storage_of}

-- before its first operation a block with an address begins its turn, and the temporaries are unspecified
pub record BeginsBlock (b : Block) (s t : Position) : Type 0 where
  pub block : t.block ≡ s.block
  pub op : t.op ≡ s.op
  pub turn : t.turn ≡ cond (s.op == 0) (cond (b.at == 0) s.turn b.at) s.turn
  pub values : (m : Memory) (left : Environment) → storage_of t.values m left ≡ cond (s.op == 0) (fresh (storage_of s.values m left)) (storage_of s.values m left)
