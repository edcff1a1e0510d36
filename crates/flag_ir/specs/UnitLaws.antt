-- The laws of units.
use Rattle.std.specs.Prelude.{◌≡◌, ◌≢◌, ℕ, List, [], ◌++◌, length, slice_get, Some, None, Ok, Err}
use Rattle.outside.specs.Environment.{Environment}
use Rattle.traces.specs.Trace.{GuardKind, End, Outside, Guard, Grows, Stand}
use Rattle.traces.specs.Machines.{marked}
use Rattle.traces.specs.Steps.{Reaches, EndsFrom, clock_of}
use Rattle.traces.specs.Weight.{PacedBy, OneEvent}
use Rattle.memory.specs.Memory.{Memory}
use Rattle.flag_ir.specs.declared.operation.Op.{Op}
use Rattle.flag_ir.specs.declared.block.Block.{Block}
use Rattle.flag_ir.specs.declared.block.Exit.{Exit}
use Rattle.flag_ir.specs.Storage.{Storage}
use Rattle.flag_ir.specs.Operations.{and_then, perform, performs, shown_with, shown_by_all}
use Rattle.flag_ir.specs.Entering.{CodeUnit, blocks_of, leave}
use Rattle.flag_ir.specs.UnitRun.{Before, Within, Over, UnitState, state_at, fresh, within, next, first_state, unit_run}
use Rattle.flag_ir.specs.Shape.{Part}
use Rattle.flag_ir.specs.Costs.{Costing, step_cost, BoundsTurns}
use Rattle.flag_ir.specs.LessSpecified.{StorageLessSpecified, ResultLessSpecified, OnwardLessSpecified, UnitStateLessSpecified, MoveLessSpecified}

-- ---- lists of operations
pub record ListLaws : Type 0 where
  -- a list is its parts, one behind the other
  pub performs_append : (turn : ℕ) (xs ys : List Op) (u : Storage) → performs turn (xs ++ ys) u ≡ and_then (performs turn xs u) (performs turn ys)
  pub shown_append : (turn : ℕ) (xs ys : List Op) (u : Storage) → shown_by_all turn (xs ++ ys) u ≡ shown_by_all turn xs u ++ shown_with (performs turn xs u) [] (shown_by_all turn ys)
  -- the machine goes through it, an operation a step, or comes to the end to which it comes
  pub goes_through : (unit : CodeUnit) (turn : ℕ) (ops more : List Op) (e : Exit) (u v : Storage) → performs turn ops u ≡ Ok v → Reaches (next unit) (state_at turn (Within (ops ++ more) e) u) (length ops) (shown_by_all turn ops u) (state_at turn (Within more e) v)
  pub ends_within : (unit : CodeUnit) (turn : ℕ) (ops more : List Op) (e : Exit) (u : Storage) (end : End) → performs turn ops u ≡ Err end → EndsFrom (next unit) (state_at turn (Within (ops ++ more) e) u) (length ops) (shown_by_all turn ops u) end

-- ---- moves
pub record UnitMoveLaws : Type 0 where
  -- a block with an address begins its turn with its first operation or its exit; another goes on with the turn
  pub begins : (unit : CodeUnit) (turn k : ℕ) (b : Block) (u : Storage) → slice_get (blocks_of unit u.frames) k ≡ Some b → b.at ≢ 0 → next unit (state_at turn (Before k) u) ≡ marked b.at (within unit b.at b.ops b.exit (fresh u))
  pub goes_on : (unit : CodeUnit) (turn k : ℕ) (b : Block) (u : Storage) → slice_get (blocks_of unit u.frames) k ≡ Some b → b.at ≡ 0 → next unit (state_at turn (Before k) u) ≡ within unit turn b.ops b.exit (fresh u)
  pub no_block : (unit : CodeUnit) (turn k : ℕ) (u : Storage) → slice_get (blocks_of unit u.frames) k ≡ None → next unit (state_at turn (Before k) u) ≡ Stand [] Outside
  pub by_within : (unit : CodeUnit) (turn : ℕ) (ops : List Op) (e : Exit) (u : Storage) → next unit (state_at turn (Within ops e) u) ≡ within unit turn ops e u
  pub over : (unit : CodeUnit) (turn : ℕ) (e : End) (u : Storage) → next unit (state_at turn (Over e) u) ≡ Stand [] e

-- ---- runs
pub record UnitRunLaws : Type 0 where
  -- more operations show the same and more, and an end stays
  pub grow : (unit : CodeUnit) (m : Memory) (entry esp0 : ℕ) (stack : List ℕ) (left : Environment) → Grows (unit_run unit m entry esp0 stack left)
  -- only a cut run has a guard event
  pub no_guard : (unit : CodeUnit) (m : Memory) (entry esp0 : ℕ) (stack : List ℕ) (left : Environment) (n : ℕ) (k : GuardKind) (a : ℕ) → (unit_run unit m entry esp0 stack left n).end ≢ Some (Guard k a)
  -- an operation makes at most one event
  pub one_event : (unit : CodeUnit) (m : Memory) (entry esp0 : ℕ) (stack : List ℕ) (left : Environment) → OneEvent (unit_run unit m entry esp0 stack left)
  -- turns cost what is computed over the blocks
  pub paced : (c : Costing) (w : ℕ) (rest : Part → ℕ → ℕ) (unit : CodeUnit) (m : Memory) (entry esp0 : ℕ) (stack : List ℕ) (left : Environment) → BoundsTurns c w rest unit → PacedBy (clock_of (next unit) (step_cost c unit) (first_state unit m entry esp0 stack left)) w 0 (unit_run unit m entry esp0 stack left)

-- ---- what is unspecified
pub record UnitMonotoneLaws : Type 0 where
  pub perform_less : (turn : ℕ) (o : Op) (u v : Storage) → StorageLessSpecified u v → ResultLessSpecified (perform turn o u) (perform turn o v)
  pub leave_less : (unit : CodeUnit) (turn : ℕ) (e : Exit) (u v : Storage) → StorageLessSpecified u v → OnwardLessSpecified (leave unit turn e u) (leave unit turn e v)
  pub next_less : (unit : CodeUnit) (s t : UnitState) → UnitStateLessSpecified s t → MoveLessSpecified (next unit s) (next unit t)

pub record UnitLaws : Type 0 where
  pub lists : ListLaws
  pub moves : UnitMoveLaws
  pub runs : UnitRunLaws
  pub monotone : UnitMonotoneLaws
