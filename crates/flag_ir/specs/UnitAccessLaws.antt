-- Operations, exits and moves over two memories that differ only where they make no access come to the same on both.
use Rattle.std.specs.Prelude.{◌≡◌, ℕ, List, Ok}
use Rattle.x86_meaning.specs.AccessLaws.{AllApart}
use Rattle.flag_ir.specs.declared.operation.Op.{Op}
use Rattle.flag_ir.specs.declared.block.Exit.{Exit}
use Rattle.flag_ir.specs.Storage.{Storage}
use Rattle.flag_ir.specs.Operations.{perform, performs, shown_by, shown_by_all}
use Rattle.flag_ir.specs.Accesses.{op_accesses, list_accesses, StoragesAlike, ResultsAlike}
use Rattle.flag_ir.specs.Entering.{CodeUnit, leave}
use Rattle.flag_ir.specs.UnitRun.{UnitState, next}
use Rattle.flag_ir.specs.MoveAccesses.{exit_loads, move_accesses, OnwardAlike, StatesAlike, UnitMovesAlike}

pub record UnitAccessLaws : Type 0 where
  pub perform_outside : (turn : ℕ) (o : Op) (at count : ℕ) (u v : Storage) → StoragesAlike at count u v → AllApart (op_accesses o u) at count → ResultsAlike at count (perform turn o u) (perform turn o v)
  -- what it shows is the same where it doesn't come to an end
  pub shown_outside : (turn : ℕ) (o : Op) (at count : ℕ) (u v w : Storage) → StoragesAlike at count u v → AllApart (op_accesses o u) at count → perform turn o u ≡ Ok w → shown_by o u ≡ shown_by o v
  -- so does a list of them
  pub performs_outside : (turn : ℕ) (ops : List Op) (at count : ℕ) (u v : Storage) → StoragesAlike at count u v → AllApart (list_accesses turn ops u) at count → ResultsAlike at count (performs turn ops u) (performs turn ops v)
  pub shown_all_outside : (turn : ℕ) (ops : List Op) (at count : ℕ) (u v : Storage) → StoragesAlike at count u v → AllApart (list_accesses turn ops u) at count → shown_by_all turn ops u ≡ shown_by_all turn ops v
  -- so does an exit where it loads nothing of the range, and a move
  pub leave_outside : (unit : CodeUnit) (turn : ℕ) (e : Exit) (at count : ℕ) (u v : Storage) → StoragesAlike at count u v → AllApart (exit_loads unit e u) at count → OnwardAlike at count (leave unit turn e u) (leave unit turn e v)
  pub next_outside : (unit : CodeUnit) (at count : ℕ) (s t : UnitState) → StatesAlike at count s t → AllApart (move_accesses unit s) at count → UnitMovesAlike at count (next unit s) (next unit t)
