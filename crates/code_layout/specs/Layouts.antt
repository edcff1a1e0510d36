-- The layout of placed code as the segments of a written file. All of this is own.
use Rattle.std.specs.Prelude.{◌≡◌, ℕ, ◌+◌, ◌*◌, ◌%◌, ◌<◌, ◌≤◌, List, length, map, filter, All}
use Rattle.image.specs.declared.image.Segment.{Segment}
use Rattle.image.specs.declared.image.Image.{Image}
use Rattle.image.specs.Rooms.{least}
use Rattle.image.specs.Wanted.{is_code, span_of_code, image_with}
use Rattle.elf_writer.specs.Wanted.{CanBeWritten}
use Rattle.memory.specs.Memory.{Memory, memory_of}
use Rattle.x86_code.specs.Code.{Code, code_of}
use Rattle.private_memory.specs.PrivateArea.{with_private}
use Rattle.named_code.specs.declared.placed.Placed.{Placed}
use Rattle.named_code.specs.Items.{CodeBlock, placed_blocks}
use Rattle.named_code.specs.PlacedForm.{IsPlacedInForm}
use Rattle.named_code.specs.Weight.{IsOnce}
use Rattle.laid_code.specs.Laid.{Places, IsLaid, AreLayable}
use Rattle.laid_code.specs.LaidRun.{HasAddressTable}
use Rattle.laid_code.specs.Beginning.{Begins, CanBegin}
use Rattle.code_text.specs.KeptPlaces.{code_start, AreTableWords}
use Rattle.code_text.specs.Placing.{AreInSpan, PlacesFrom, blocks_most}
use Rattle.code_text.specs.Texts.{code_text}
use Rattle.laid_image.specs.NewImage.{whole_pages, in_pages, new_segments, new_image, FitsSourceRoom, HasPagesOf}
use Rattle.laid_image.specs.ImageLaws.{HoldsBytes, AreCells, esp_cell}
use Rattle.code_layout.specs.declared.layout.Layout.{Layout}

-- ---- the first address of the old code; its span has a word of the address table for each address
abbrev pub start_of : Segment → ℕ
start_of s = s.start

abbrev pub span_start : List Segment → ℕ
span_start segments = least (map start_of (filter is_code segments))

-- ---- what can be laid
pub record CanBeLaid (placed : Placed) (image : Image) : Type 0 where
  pub source : FitsSourceRoom image.segments image.entry
  pub bytes : HoldsBytes image.segments
  pub form : IsPlacedInForm placed
  -- no string instruction repeats
  pub once : All (λ (b : CodeBlock). All IsOnce b.items) (placed_blocks placed)
  pub cells : AreCells placed.homes
  pub in_span : AreInSpan (span_start image.segments) (span_of_code image.segments) (placed_blocks placed)
  pub few : blocks_most (placed_blocks placed) ≤ 335000000

-- ---- what a layout is: the old segments as data, the code, and the table
pub record LaidParts : Type 0 where
  pub places : Places
  pub code : List ℕ
  pub words : List ℕ

abbrev pub code_size : LaidParts → ℕ
code_size x = whole_pages (length x.code)

abbrev pub laid_segments : List Segment → LaidParts → List Segment
laid_segments old x = new_segments old (code_size x) (in_pages x.code) x.words

-- with which memory the laid code can begin, over other bytes in the pages of the old segments, whatever is held where the code stands
abbrev pub held_memory : List Segment → List ℕ → LaidParts → Memory
held_memory others held x = memory_of (new_image others (code_size x) held x.words)

pub record BeginsOver (placed : Placed) (entry : ℕ) (x : LaidParts) (others : List Segment) (held : List ℕ) : Type 0 where
  pub table : HasAddressTable x.places (held_memory others held x)
  pub can_begin : (esp0 : ℕ) → CanBegin placed.homes (esp_cell placed.homes) esp0 (with_private esp0 (memory_of (image_with others entry))) (held_memory others held x)

pub record IsLaidOut (placed : Placed) (image : Image) (x : LaidParts) (code : Code) : Type 0 where
  pub layable : AreLayable (placed_blocks placed)
  pub laid : IsLaid x.places code (placed_blocks placed)
  pub begins : Begins x.places code code_start (esp_cell placed.homes) image.entry
  -- the code is the text of the blocks, which stand one behind the other
  pub text : x.code ≡ code_text x.places code_start (esp_cell placed.homes) image.entry (placed_blocks placed)
  pub places : PlacesFrom x.places code_start (esp_cell placed.homes) (placed_blocks placed)
  -- the span of the places is that of the old code, and the words of the table are their addresses
  pub span : x.places.span ≡ span_start image.segments
  pub count : x.places.count ≡ span_of_code image.segments
  pub words : AreTableWords x.places x.words
  pub over : (others : List Segment) (held : List ℕ) → HasPagesOf image.segments others → HoldsBytes others → length held % 4096 ≡ 0 → length held ≤ code_size x → All (λ b. b < 256) held → BeginsOver placed image.entry x others held

pub record IsLayoutOf (placed : Placed) (image : Image) (layout : Layout) : Type 0 where
  pub parts : LaidParts
  pub is : layout.segments ≡ laid_segments image.segments parts
  pub entry : layout.entry ≡ code_start
  pub can_be_written : CanBeWritten layout.segments layout.entry
  pub laid : IsLaidOut placed image parts (code_of (image_with layout.segments layout.entry))
