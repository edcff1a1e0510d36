-- What holds of each state that the run of a unit comes to. All of this is own.
use Rattle.std.specs.Prelude.{◌≡◌, ℕ, Bool, true, false, List, [], ◌∷◌, map, Contains, Option, Some, None}
use Rattle.traces.specs.Trace.{End, Guard}
use Rattle.traces.specs.Moves.{HoldingState}
use Rattle.flag_ir.specs.declared.block.Block.{Block}
use Rattle.flag_ir.specs.declared.block.Exit.{Exit}
use Rattle.flag_ir.specs.declared.block.Exit.TheVariants as exit
use Rattle.flag_ir.specs.declared.procedure.Proc.{Proc}
use Rattle.flag_ir.specs.Storage.{Frame}
use Rattle.flag_ir.specs.Entering.{CodeUnit}
use Rattle.flag_ir.specs.UnitRun.{Point, Before, Within, Over, UnitState}
use Rattle.flag_ir.specs.Shape.{Part, IsBlock}

-- how a frame was opened: its procedure, and the block behind the call
pub record Opening : Type 0 where
  pub proc : Proc
  pub back : Option ℕ

abbrev pub opening : Frame → Opening
opening f = record { proc = f.proc; back = f.back }

abbrev pub openings : List Frame → List Opening
openings frames = map opening frames

-- the part that runs
abbrev pub part_of : List Opening → Part
part_of [] = None
part_of (o ∷ more) = Some o.proc

-- a block of a part has this exit
pub record HasExit (unit : CodeUnit) (part : Part) (e : Exit) : Type 0 where
  pub index : ℕ
  pub block : Block
  pub there : IsBlock unit part index block
  pub is : block.exit ≡ e

-- a frame that a call opened comes back behind a call of its procedure, in the caller's part
abbrev pub IsBack : CodeUnit → Part → Proc → Option ℕ → Type 0
IsBack unit part p None = Unit {0}
IsBack unit part p (Some n) = HasExit unit part (exit.CallProc p.entry n)

-- and the procedures of the open frames are the unit's
abbrev pub AreOpenings : CodeUnit → List Opening → Type 0
AreOpenings unit [] = Unit {0}
AreOpenings unit (o ∷ more) = Contains unit.procs o.proc × IsBack unit (part_of more) o.proc o.back × AreOpenings unit more

abbrev pub is_guard : End → Bool
is_guard (Guard k a) = true
is_guard _ = false

-- the exit to come is one of the part; and no end is a guard event
abbrev pub IsPoint : CodeUnit → Part → Point → Type 0
IsPoint unit part (Before k) = Unit {0}
IsPoint unit part (Within ops e) = HasExit unit part e
IsPoint unit part (Over e) = is_guard e ≡ false

pub record IsReached (unit : CodeUnit) (s : UnitState) : Type 0 where
  pub frames : AreOpenings unit (openings s.storage.frames)
  pub point : IsPoint unit (part_of (openings s.storage.frames)) s.point

abbrev pub ReachedState : CodeUnit → Type 0
ReachedState unit = HoldingState (IsReached unit)
