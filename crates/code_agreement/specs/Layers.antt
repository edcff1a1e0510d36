-- The layers of new code for a program, and that the new code does what the program does. All of this is own.
use Rattle.std.specs.Prelude.{ℕ, List}
use Rattle.outside.specs.Environment.{Environment, IsEnvironment}
use Rattle.traces.specs.Agree.{Agree}
use Rattle.image.specs.declared.image.Image.{Image}
use Rattle.memory.specs.Memory.{Memory, HasBytes}
use Rattle.x86_code.specs.Code.{Code, code_of}
use Rattle.x86_meaning.specs.Run.{IsStart, start_over, run_from}
use Rattle.plan_types.specs.Contents.{FoundContents}
use Rattle.flag_ir.specs.Entering.{CodeUnit}
use Rattle.cut_run.specs.CutRun.{cut_run_over}
use Rattle.whole_code.specs.OneStack.{IsOneStack}
use Rattle.private_memory.specs.PrivateArea.{IsOfProgram, with_private}
use Rattle.guards.specs.Lowering.{Lowers}
use Rattle.named_code.specs.declared.named.VBlock.{VBlock}
use Rattle.named_code.specs.declared.placed.Placed.{Placed}
use Rattle.named_code.specs.Items.{placed_blocks}
use Rattle.named_code.specs.Weight.{BoundsCode}
use Rattle.name_cells.specs.PlacesCode.{HasShortTurns, PlacesCode}
use Rattle.instr_choose.specs.Marks.{marks_of}
use Rattle.instr_choose.specs.Choosing.{Chooses}
use Rattle.laid_code.specs.Laid.{Places, IsLaid, AreLayable}
use Rattle.laid_code.specs.LaidRun.{HasAddressTable, laid_steps}
use Rattle.laid_code.specs.Beginning.{Begins, CanBegin}

-- ---- what becomes what, from the program to the memory with which the new code begins, without the stack
pub record Layers : Type 0 where
  pub image : Image
  -- the memory with which the program begins, without the stack, which needn't be that of the image
  pub old_memory : Memory
  pub found : FoundContents
  pub unit : CodeUnit
  pub lowered : CodeUnit
  pub code : List VBlock
  pub placed : Placed
  pub places : Places
  pub new : Code
  pub memory : Memory
  pub entry : ℕ
  pub cell : ℕ

-- each layer keeps what is promised of it, and a turn of the laid code takes at most 4,096 steps
pub record AreLayers (x : Layers) : Type 0 where
  pub program : IsOfProgram x.old_memory
  pub bytes : HasBytes x.old_memory
  pub one_stack : IsOneStack (code_of x.image) x.found x.unit
  pub lowers : Lowers x.unit x.lowered
  pub chooses : Chooses x.lowered x.code
  pub short : HasShortTurns (marks_of x.lowered) x.code
  pub places_code : PlacesCode x.code x.placed
  pub layable : AreLayable (placed_blocks x.placed)
  pub laid : IsLaid x.places x.new (placed_blocks x.placed)
  pub table : HasAddressTable x.places x.memory
  pub begins : Begins x.places x.new x.entry x.cell x.image.entry
  pub can_begin : (esp0 : ℕ) → CanBegin x.placed.homes x.cell esp0 (with_private esp0 x.old_memory) x.memory
  pub rest : ℕ → ℕ
  pub bounded : BoundsCode (marks_of x.lowered) laid_steps rest 4096 (placed_blocks x.placed)

-- ---- from every start, over every environment, the new code does what the program does over its data up to where it leaves its found code,
-- n steps of which take at most 4,096 n + 256, and it does nothing else
abbrev pub NewCodeAgrees : Layers → Type 0
NewCodeAgrees x =
    (esp0 : ℕ) (stack : List ℕ) (left : Environment) → IsStart esp0 stack → IsEnvironment left →
    Agree 4096 256 (cut_run_over (code_of x.image) x.found x.old_memory x.image.entry esp0 stack left) (run_from x.new (start_over x.memory x.entry esp0 stack left))

abbrev pub AgreementLaw : Type 0
AgreementLaw = (x : Layers) → AreLayers x → NewCodeAgrees x
