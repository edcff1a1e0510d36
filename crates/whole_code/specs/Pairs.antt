-- States of the machine beside storages of a unit.
use Rattle.std.specs.Prelude.{◌≡◌, ℕ, Some}
use Rattle.x86_values.specs.Words.{known}
use Rattle.x86_meaning.specs.Step.{State}
use Rattle.flag_ir.specs.Storage.{Storage}
use Rattle.lift_relation.specs.Matching.{StateMatches}

-- a storage that matches a state in which esp is known; `turn` is the old address at which the unit's turn began
pub record Pair : Type 0 where
  pub state : State
  pub storage : Storage
  pub turn : ℕ
  pub matches : StateMatches state storage
  pub esp : ℕ
  pub is_esp : known (state.cpu.regs 4) ≡ Some esp
