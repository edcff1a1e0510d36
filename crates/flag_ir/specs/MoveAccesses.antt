-- What exits load of memory and moves access of it. All of this is own.
use Rattle.std.specs.Prelude.{◌≡◌, ℕ, ◌+◌, ◌*◌, Bool, true, false, List, [], ◌∷◌, ◌++◌, slice_get, Option, Some, None, Ok, Err}
use Rattle.x86_values.specs.declared.word.Word.{Word}
use Rattle.x86_values.specs.Words.{known}
use Rattle.traces.specs.Trace.{Move, Stand, Go, Halt}
use Rattle.memory.specs.Memory.{Load}
use Rattle.x86_meaning.specs.Operands.{Access}
use Rattle.flag_ir.specs.declared.operation.Op.{Op}
use Rattle.flag_ir.specs.declared.block.Block.{Block}
use Rattle.flag_ir.specs.declared.block.Exit.{Exit}
use Rattle.flag_ir.specs.declared.block.Exit.TheVariants as exit
use Rattle.flag_ir.specs.declared.procedure.FrameKind.{FrameKind}
use Rattle.flag_ir.specs.declared.procedure.FrameKind.TheVariants.{Sealed, Guarded, Shared}
use Rattle.flag_ir.specs.declared.procedure.Proc.{Proc}
use Rattle.flag_ir.specs.Storage.{Frame, Storage, term_in}
use Rattle.flag_ir.specs.Entering.{CodeUnit, Onward, blocks_of, procedure_at, closed}
use Rattle.flag_ir.specs.UnitRun.{Point, Before, Within, Over, UnitState, fresh}
use Rattle.flag_ir.specs.Accesses.{accessed, op_accesses, StoragesAlike}

-- ---- exits
-- a frame is opened: its return word and argument words
abbrev pub opening_loads : Option Proc → Storage → List Access
opening_loads None u = []
opening_loads (Some p) u = accessed Load (4 + 4 * p.args) (known (u.regs 4))

-- so does a jump to the entry of a procedure
abbrev pub jump_loads : CodeUnit → Option ℕ → Storage → List Access
jump_loads unit None u = []
jump_loads unit (Some a) u = opening_loads (procedure_at a unit.procs) u

-- a return compares its word, and may go on by a jump from the storage behind it
abbrev pub compared_loads : FrameKind → ℕ → List Access
compared_loads Sealed height = []
compared_loads Guarded height = record { kind = Load; at = height; size = 4 } ∷ []
compared_loads Shared height = record { kind = Load; at = height; size = 4 } ∷ []

-- behind a call it goes on at a block
abbrev pub back_loads : CodeUnit → Option ℕ → Word → Storage → List Access
back_loads unit (Some n) w u = []
back_loads unit None w u = jump_loads unit (known w) u

abbrev pub return_loads : CodeUnit → List Frame → Storage → List Access
return_loads unit [] u = []
return_loads unit (f ∷ more) u = compared_loads f.proc.kind f.height ++ back_loads unit f.back f.word (closed f more u)

-- a lowered unit's stop loads the word that it names
abbrev pub stop_loads : Bool → List Access
stop_loads false = []
stop_loads true = record { kind = Load; at = 0x75000004; size = 4 } ∷ []

-- what an exit loads
abbrev pub exit_loads : CodeUnit → Exit → Storage → List Access
exit_loads unit (exit.Go n) u = []
exit_loads unit (exit.Branch test m n) u = []
exit_loads unit (exit.Jump to) u = jump_loads unit (known (term_in to u)) u
exit_loads unit (exit.CallProc entry back) u = opening_loads (procedure_at entry unit.procs) u
exit_loads unit exit.Return u = return_loads unit u.frames u
exit_loads unit exit.Fault u = []
exit_loads unit exit.Stop u = stop_loads unit.lowered

-- ---- moves
-- of the first operation, or of the exit
abbrev pub within_accesses : CodeUnit → List Op → Exit → Storage → List Access
within_accesses unit [] e u = exit_loads unit e u
within_accesses unit (o ∷ ops) e u = op_accesses o u

-- at the beginning of a block
abbrev pub begun_accesses : CodeUnit → Option Block → Storage → List Access
begun_accesses unit None u = []
begun_accesses unit (Some b) u = within_accesses unit b.ops b.exit (fresh u)

abbrev pub point_accesses : CodeUnit → Point → Storage → List Access
point_accesses unit (Before k) u = begun_accesses unit (slice_get (blocks_of unit u.frames) k) u
point_accesses unit (Within ops e) u = within_accesses unit ops e u
point_accesses unit (Over e) u = []

-- what the move of a state accesses
abbrev pub move_accesses : CodeUnit → UnitState → List Access
move_accesses unit s = point_accesses unit s.point s.storage

-- ---- the same but for the bytes of memory in a range
-- where a run goes on, or its end
abbrev pub OnwardAlike : ℕ → ℕ → Onward → Onward → Type 0
OnwardAlike at count (Ok p) (Ok q) = (p.0 ≡ q.0) × StoragesAlike at count p.1 q.1
OnwardAlike at count (Ok p) (Err e) = ⊥
OnwardAlike at count (Err e) r = r ≡ Err e

-- so are two states
pub record StatesAlike (at count : ℕ) (s t : UnitState) : Type 0 where
  pub storage : StoragesAlike at count s.storage t.storage
  pub turn : s.turn ≡ t.turn
  pub point : s.point ≡ t.point

-- and two moves
abbrev pub UnitMovesAlike : ℕ → ℕ → Move UnitState → Move UnitState → Type 0
UnitMovesAlike at count (Go ls s) (Go ks t) = (ls ≡ ks) × StatesAlike at count s t
UnitMovesAlike at count (Go ls s) (Stand ks e) = ⊥
UnitMovesAlike at count (Go ls s) (Halt ks e) = ⊥
UnitMovesAlike at count (Stand ls e) m = m ≡ Stand ls e
UnitMovesAlike at count (Halt ls e) m = m ≡ Halt ls e
