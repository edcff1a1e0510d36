-- What recompiling an image promises. All of this is own.
use Rattle.std.specs.Prelude.{◌≡◌, ℕ, ◌+◌, ◌%◌, ◌<◌, ◌≤◌, List, length, All, Result, Ok, Err}
use Rattle.outside.specs.Environment.{Environment, IsEnvironment}
use Rattle.traces.specs.Agree.{Agree}
use Rattle.image.specs.declared.image.Segment.{Segment}
use Rattle.image.specs.declared.image.Image.{Image}
use Rattle.image.specs.Wanted.{image_with, span_of_code}
use Rattle.elf_writer.specs.Wanted.{CanBeWritten}
use Rattle.memory.specs.Memory.{memory_of}
use Rattle.x86_code.specs.Code.{Code, code_of}
use Rattle.x86_meaning.specs.Run.{IsStart, start_over, run_from}
use Rattle.plan_types.specs.Contents.{FoundContents}
use Rattle.plan_types.specs.Body.{HasPlace}
use Rattle.plan_types.specs.FoundCode.{IsFoundCode}
use Rattle.code_discovery.specs.declared.discover_error.DiscoverError.{DiscoverError}
use Rattle.code_discovery.specs.Discovery.{IsTooMuch}
use Rattle.flag_ir.specs.Entering.{CodeUnit}
use Rattle.lift_core.specs.Whole.{IsWholeBy}
use Rattle.cut_run.specs.CutRun.{cut_run_over}
use Rattle.whole_code.specs.Building.{lifting_of_places}
use Rattle.whole_code.specs.OneStack.{IsOneStack}
use Rattle.whole_code.specs.Weight.{whole_weight}
use Rattle.guards.specs.Lowering.{Lowers}
use Rattle.named_code.specs.declared.named.VBlock.{VBlock}
use Rattle.named_code.specs.declared.placed.Placed.{Placed}
use Rattle.name_cells.specs.Placing.{cells_of}
use Rattle.name_cells.specs.PlacesCode.{PlacesCode}
use Rattle.instr_choose.specs.Choosing.{Chooses}
use Rattle.code_bounds.specs.Turns.{HasTurnBounds}
use Rattle.code_text.specs.KeptPlaces.{code_start, AreTableWords}
use Rattle.laid_image.specs.NewImage.{FitsSourceRoom, HasPagesOf}
use Rattle.laid_image.specs.ImageLaws.{HoldsBytes}
use Rattle.code_layout.specs.declared.layout.Layout.{Layout}
use Rattle.code_layout.specs.Layouts.{span_start, LaidParts, code_size, laid_segments, held_memory}

-- ---- from found code to placed code
pub record IsPlacedCodeOf (image : Image) (found : FoundContents) (placed : Placed) : Type 0 where
  pub unit : CodeUnit
  pub whole : IsWholeBy lifting_of_places unit found
  pub one_stack : IsOneStack (code_of image) found unit
  pub lowered : CodeUnit
  pub lowers : Lowers unit lowered
  pub code : List VBlock
  pub chooses : Chooses lowered code
  pub places : placed ≡ cells_of code
  pub places_code : PlacesCode code placed
  pub turns : HasTurnBounds lowered code placed whole_weight

-- ---- the new program beside the old one
-- over any bytes in the pages of the old segments, and whatever is held where the new code stands, the new program does from every start
-- and over every environment what the old one does up to where it leaves the found code, within 4,096 n + 256 steps for n
abbrev pub AgreesOver : Image → FoundContents → LaidParts → Layout → List Segment → List ℕ → Type 0
AgreesOver image found parts layout others held =
    (esp0 : ℕ) (stack : List ℕ) (left : Environment) → IsStart esp0 stack → IsEnvironment left →
    Agree 4096 256 (cut_run_over (code_of image) found (memory_of (image_with others image.entry)) image.entry esp0 stack left)
    (run_from (code_of (image_with layout.segments layout.entry)) (start_over (held_memory others held parts) layout.entry esp0 stack left))

-- ---- the address table: the word of an old address is a place in the new code where an instruction is found at that address, and else 0;
-- those of two found addresses differ
pub record HasFoundPlaces (image : Image) (found : FoundContents) (x : LaidParts) : Type 0 where
  pub span : x.places.span ≡ span_start image.segments
  pub count : x.places.count ≡ span_of_code image.segments
  pub words : AreTableWords x.places x.words
  pub found_there : (a : ℕ) → HasPlace found a → (code_start < x.places.by_address a) × (x.places.by_address a < code_start + length x.code)
  pub none_there : (a : ℕ) → (HasPlace found a → ⊥) → x.places.by_address a ≡ 0
  pub differ : (a b : ℕ) → HasPlace found a → HasPlace found b → x.places.by_address a ≡ x.places.by_address b → a ≡ b

pub record IsRecompiled (image : Image) (layout : Layout) : Type 0 where
  pub found : FoundContents
  pub is_found : IsFoundCode image found
  pub parts : LaidParts
  pub segments : layout.segments ≡ laid_segments image.segments parts
  pub entry : layout.entry ≡ code_start
  pub can_be_written : CanBeWritten layout.segments layout.entry
  pub table : HasFoundPlaces image found parts
  pub agrees : (others : List Segment) (held : List ℕ) → HasPagesOf image.segments others → HoldsBytes others → length held % 4096 ≡ 0 → length held ≤ code_size parts → All (λ b. b < 256) held →
      AgreesOver image found parts layout others held

abbrev pub Recompiles : Image → Result Layout DiscoverError → Type 0
Recompiles image (Ok layout) = IsRecompiled image layout
Recompiles image (Err e) = IsTooMuch image e
