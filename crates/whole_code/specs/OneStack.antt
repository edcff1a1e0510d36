-- What the unit of a whole program does: the run of the program, cut where it leaves the found code.
use Rattle.std.specs.Prelude.{◌≡◌, ℕ, ◌<◌, List, Contains, Some}
use Rattle.outside.specs.Environment.{Environment, IsEnvironment}
use Rattle.traces.specs.Turns.{RefinesCut}
use Rattle.image.specs.declared.image.Image.{Image}
use Rattle.image.specs.Wanted.{FitsWideRoom}
use Rattle.memory.specs.Memory.{Memory, HasBytes}
use Rattle.x86_code.specs.Code.{Code, code_of}
use Rattle.x86_meaning.specs.Run.{IsStart}
use Rattle.plan_types.specs.declared.place.Place.{Place}
use Rattle.plan_types.specs.Contents.{FoundContents}
use Rattle.plan_types.specs.FoundCode.{IsFoundCode}
use Rattle.flag_ir.specs.Entering.{CodeUnit}
use Rattle.flag_ir.specs.UnitRun.{unit_run}
use Rattle.flag_ir.specs.Shape.{IsWellShaped}
use Rattle.lift_core.specs.declared.way.Way.{Way}
use Rattle.lift_core.specs.declared.way.Way.TheVariants as way
use Rattle.lift_core.specs.Lifting.{Lifts}
use Rattle.lift_core.specs.Whole.{Lifting, IsWholeBy}
use Rattle.cut_run.specs.CutRun.{cut_run_over}

-- the addresses of a way are below 2^32
abbrev pub HasAddresses : Way → Type 0
HasAddresses (way.On a) = a < 4294967296
HasAddresses (way.Either test a b) = (a < 4294967296) × (b < 4294967296)
HasAddresses (way.Repeat count again a b) = (a < 4294967296) × (b < 4294967296)
HasAddresses (way.To target) = Unit {0}
HasAddresses (way.Back target) = Unit {0}

-- each found instruction stands at its place, and its list and way do what it does
pub record IsLifted (lifting : Lifting) (code : Code) (found : FoundContents) : Type 0 where
  pub addresses : (p : Place) → Contains found.code p → HasAddresses (lifting.way p)
  pub stands : (p : Place) → Contains found.code p → code p.at ≡ Some (p.instr, p.len)
  pub lifts : (p : Place) → Contains found.code p → Lifts p.instr p.at p.len (lifting.list p) (lifting.way p)

-- over every memory, from every entry and start, over every environment, the unit does by turns what the cut run does by steps
pub record IsOneStack (code : Code) (found : FoundContents) (unit : CodeUnit) : Type 0 where
  pub refines : (m : Memory) (entry esp0 : ℕ) (stack : List ℕ) (left : Environment) → HasBytes m → IsStart esp0 stack → IsEnvironment left → RefinesCut 0 (cut_run_over code found m entry esp0 stack left) (unit_run unit m entry esp0 stack left)

abbrev pub WholeIsOneStack : Type 0
WholeIsOneStack = (lifting : Lifting) (code : Code) (found : FoundContents) (unit : CodeUnit) → IsLifted lifting code found → IsWholeBy lifting unit found → IsWellShaped unit → IsOneStack code found unit

-- so it does beside the run of each image that fits the wide room and of which this is the found code
abbrev pub IsOneStackOf : FoundContents → CodeUnit → Type 0
IsOneStackOf found unit = (image : Image) → FitsWideRoom image.segments image.entry → IsFoundCode image found → IsOneStack (code_of image) found unit
