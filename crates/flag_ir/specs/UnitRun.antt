-- The run of a unit, an operation or an exit at a time. Each block whose `at` isn't 0 begins a turn there. All of this is own.
use Rattle.std.specs.Prelude.{ℕ, ◌==◌, cond, List, [], ◌∷◌, slice_get, Option, Some, None, Result, Ok, Err}
use Rattle.x86_values.specs.Sizes.{no_word}
use Rattle.outside.specs.Environment.{Environment}
use Rattle.traces.specs.Trace.{Label, End, Outside, Move, Stand, Go, Halt, Behaviour, run}
use Rattle.traces.specs.Machines.{marked}
use Rattle.memory.specs.Memory.{Memory, with_stack}
use Rattle.x86_meaning.specs.Run.{first_registers}
use Rattle.flag_ir.specs.declared.operation.Op.{Op}
use Rattle.flag_ir.specs.declared.block.Block.{Block}
use Rattle.flag_ir.specs.declared.block.Exit.{Exit}
use Rattle.flag_ir.specs.Storage.{Storage}
use Rattle.flag_ir.specs.Operations.{perform, shown_by}
use Rattle.flag_ir.specs.Entering.{CodeUnit, Onward, blocks_of, jump, leave}

-- before the block with an index in the part that runs; within a block, before these operations and this exit; or at an end that the first
-- jump came to
pub data Point : Type 0 where
  Before : (index : ℕ) → Point
  Within : (ops : List Op) → (exit : Exit) → Point
  Over : (end : End) → Point

-- `turn` is the old address of the block that began the turn
pub record UnitState : Type 0 where
  pub storage : Storage
  pub turn : ℕ
  pub point : Point

abbrev pub state_at : ℕ → Point → Storage → UnitState
state_at turn point u = record { storage = u; turn = turn; point = point }

-- ---- one move
abbrev pub performed : ℕ → List Label → Result Storage End → List Op → Exit → Move UnitState
performed turn labels (Ok u) ops exit = Go labels (state_at turn (Within ops exit) u)
performed turn labels (Err e) ops exit = Halt [] e

abbrev pub left_for : ℕ → Onward → Move UnitState
left_for turn (Ok p) = Go [] (state_at turn (Before p.0) p.1)
left_for turn (Err e) = Halt [] e

abbrev pub within : CodeUnit → ℕ → List Op → Exit → Storage → Move UnitState
within unit turn [] exit u = left_for turn (leave unit turn exit u)
within unit turn (o ∷ ops) exit u = performed turn (shown_by o u) (perform turn o u) ops exit

-- the temporaries of a block are unspecified at its beginning
abbrev pub fresh : Storage → Storage
fresh u = record u { temps = λ k. no_word }

-- a block with address 0 belongs to the turn that enters it
abbrev pub begun : CodeUnit → ℕ → Option Block → Storage → Move UnitState
begun unit turn None u = Stand [] Outside
begun unit turn (Some b) u = cond (b.at == 0) (within unit turn b.ops b.exit (fresh u)) (marked b.at (within unit b.at b.ops b.exit (fresh u)))

abbrev pub move_at : CodeUnit → Point → ℕ → Storage → Move UnitState
move_at unit (Before k) turn u = begun unit turn (slice_get (blocks_of unit u.frames) k) u
move_at unit (Within ops exit) turn u = within unit turn ops exit u
move_at unit (Over e) turn u = Stand [] e

unfoldable pub next : CodeUnit → UnitState → Move UnitState
next unit s = move_at unit s.point s.turn s.storage

-- ---- the run
-- the storage at the start: esp is given and the other registers are 0, the flags are unspecified, and the stack stands beside other memory
unfoldable pub first_storage : Memory → ℕ → List ℕ → Environment → Storage
first_storage m esp0 stack left =
    record { regs = first_registers esp0; flags = λ k. no_word; temps = λ k. no_word; memory = with_stack esp0 stack m; left = left; frames = []; esp0 = esp0 }

-- a jump to an old address, which is no operation, comes to a state
abbrev pub entered : Storage → Onward → UnitState
entered u (Ok p) = state_at 0 (Before p.0) p.1
entered u (Err e) = state_at 0 (Over e) u

unfoldable pub first_state : CodeUnit → Memory → ℕ → ℕ → List ℕ → Environment → UnitState
first_state unit m entry esp0 stack left = let u = first_storage m esp0 stack left in entered u (jump unit entry u)

-- what is seen of it within n operations and exits, from a jump to `entry` on
unfoldable pub unit_run : CodeUnit → Memory → ℕ → ℕ → List ℕ → Environment → Behaviour
unit_run unit m entry esp0 stack left = run (next unit) (first_state unit m entry esp0 stack left)
