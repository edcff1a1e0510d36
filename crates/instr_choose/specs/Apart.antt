-- The code reaches nothing that its unit doesn't reach. All of this is own.
use Rattle.std.specs.Prelude.{◌≡◌, ◌⊎◌, ℕ, List, ◌++◌, All, Some}
use Rattle.outside.specs.Environment.{Environment, IsEnvironment}
use Rattle.traces.specs.Trace.{Label, Unspecified, Behaviour, IsPrefix}
use Rattle.traces.specs.Steps.{Reaches}
use Rattle.memory.specs.Memory.{Memory, HasBytes, with_stack}
use Rattle.x86_meaning.specs.Run.{IsStart}
use Rattle.private_memory.specs.PrivateArea.{IsUsual, IsApartAccess}
use Rattle.flag_ir.specs.Entering.{CodeUnit}
use Rattle.flag_ir.specs.UnitRun.{UnitState, next, first_state, unit_run}
use Rattle.flag_ir.specs.MoveAccesses.{move_accesses}
use Rattle.named_code.specs.declared.named.VBlock.{VBlock}
use Rattle.named_code.specs.Items.{named_blocks}
use Rattle.named_code.specs.Running.{CodePosition, code_next}
use Rattle.named_code.specs.CodeRun.{first_position}
use Rattle.named_code.specs.TestedRun.{position_accesses, turn_at}
use Rattle.instr_choose.specs.Marks.{marks_of}

-- ---- each access of each state that the unit's runs come to is apart from what the program mustn't reach
abbrev pub UnitIsApart : CodeUnit → Type 0
UnitIsApart u =
    (m : Memory) (entry esp0 : ℕ) (stack : List ℕ) (left : Environment) → HasBytes m → IsUsual esp0 m → IsStart esp0 stack → IsEnvironment left →
    (n : ℕ) (ls : List Label) (t : UnitState) → Reaches (next u) (first_state u m entry esp0 stack left) n ls t → All (IsApartAccess t.storage.memory) (move_accesses u t)

-- a run has used an unspecified value before more than these labels were shown
pub record HasUsedUnspecified (U : Behaviour) (ls : List Label) : Type 0 where
  pub steps : ℕ
  pub ended : (U steps).end ≡ Some Unspecified
  pub first : IsPrefix (U steps).trace ls

-- so is each access of each position that the code's runs come to, up to the use of an unspecified value by the unit
abbrev pub CodeIsApart : CodeUnit → List VBlock → Type 0
CodeIsApart u code =
    (m : Memory) (entry esp0 : ℕ) (stack : List ℕ) (left : Environment) → HasBytes m → IsUsual esp0 m → IsStart esp0 stack → IsEnvironment left →
    (n : ℕ) (ls : List Label) (p : CodePosition) → Reaches (code_next (marks_of u) (named_blocks code)) (first_position (with_stack esp0 stack m) entry esp0 left) n ls p →
    All (IsApartAccess p.state.memory) (position_accesses (named_blocks code) p) ⊎ HasUsedUnspecified (unit_run u m entry esp0 stack left) (ls ++ turn_at (marks_of u) (named_blocks code) p.point)

abbrev pub StaysApart : CodeUnit → List VBlock → Type 0
StaysApart u code = UnitIsApart u → CodeIsApart u code
