-- States of a lowered unit beside positions of its code. All of this is own.
use Rattle.std.specs.Prelude.{◌≡◌, ℕ, List, Some, None}
use Rattle.traces.specs.Trace.{Stopped}
use Rattle.memory.specs.Memory.{Memory, kind_of}
use Rattle.flag_ir.specs.declared.block.Block.{Block}
use Rattle.flag_ir.specs.Storage.{Storage}
use Rattle.flag_ir.specs.Entering.{CodeUnit, index_of_number, index_at}
use Rattle.flag_ir.specs.UnitRun.{Point, Before, Over}
use Rattle.named_code.specs.Running.{CodeState, CodePoint, AtNumber, AtOld}
use Rattle.instr_choose.specs.Relation.{IsBelow}

-- the code is at a jump to the block before which the unit stands, or at its first jump where that finds no block
abbrev pub LeadsTo : List Block → CodePoint → Point → Type 0
LeadsTo blocks (AtNumber n) (Before k) = index_of_number n blocks ≡ Some k
LeadsTo blocks (AtOld a) (Before k) = index_at a blocks ≡ Some k
LeadsTo blocks (AtOld a) (Over e) = (index_at a blocks ≡ None) × (e ≡ Stopped a)
LeadsTo blocks _ _ = ⊥

-- nothing is mapped at address 0, so that a load from there ends the run
abbrev pub HasNoZero : Memory → Type 0
HasNoZero m = kind_of (m 0) ≡ None

pub record ChosenPair (u : CodeUnit) : Type 0 where
  pub turn : ℕ
  pub point : Point
  pub target : CodePoint
  pub storage : Storage
  pub state : CodeState
  pub leads : LeadsTo u.whole target point
  pub below : IsBelow storage state
  pub no_zero : HasNoZero storage.memory
